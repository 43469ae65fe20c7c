-- Operands and targets: the reader finds a number exactly where the text is the model's spelling of that number, so it finds what the
-- model's search finds. Assumes nothing.
use Prim.Native.Nat.{ℕ, ◌+◌, ◌-◌, ◌*◌, ◌/◌, ◌%◌, ◌≤◌, ◌<◌}
use mathlib.Core.Bool.{Bool, true, false, cond}
use mathlib.Core.Path.{◌≡◌, refl, sym, ap, ◌∙◌}
use mathlib.Core.List.{List, [], ◌∷◌, ◌++◌}
use mathlib.Core.Logic.{◌⊎◌, inl, inr, ⊎_elim}
use mathlib.Core.Option.{some}
use native.Mathlib.Omega.{arith}
use lib.ListN.{length, get_or, drop}
use lib.Dec.{eqb}
use borrow.Author.Tests.{ne_eqb, lt-ltb, le-ltb, eqb-true, eqb-false}
use Rattle.model.specs.Limits.{max_lines}
use Rattle.model.specs.Stored.{publics, operands, targets, operand_of, target_of}
use Rattle.model.specs.Text.{up_to, past, count_of, decimal, indirect, spell_operand, spell_target, operand_field, target_field}
use Rattle.model.proofs.TestLaws.{below}
use Rattle.model.proofs.DecimalLaws.{decimal_digits, decimal_some}
use Rattle.model.proofs.CutLaws.{digits_clean, up_to_clean, past_clean, rejoin, past_none}
use Rattle.model.proofs.SpellingLaws.{based, spelled_is}
use Rattle.model.proofs.RoundTrip.{no_text}
use Rattle.text.specs.Fields.{found, read_number, shift, joined, read_indirect, read_direct, read_kind}
use Rattle.std.specs.Prelude.{Option as Field, Some, None}
use Rattle.text.proofs.DigitLaws.{never, number_below, number_decimal, decimal_number}

-- a whole operand, and a target
unfoldable pub read_operand : List ℕ → Field ℕ
read_operand s = cond (eqb (length s) 0) (Some 0) (read_kind (get_or s 0 0) (drop 1 s))

unfoldable pub read_target : List ℕ → Field ℕ
read_target s = cond (eqb (length s) 0) (Some 0) (shift 1 (read_number (max_lines + 1) s))

-- a field that is not empty
pub filled : (c : ℕ) (x : List ℕ) → eqb (length (c ∷ x)) 0 ≡ false
filled c x = ne_eqb (length (c ∷ x)) 0 (λ e. omega arith)

-- ---- spelled, then read

based_read : (w b k : ℕ) → b < 32 → k < w → w ≤ 256 → read_indirect w (based b k) ≡ Some (w * b + k)
unfolding read_indirect joined
based_read w b k hb hk hw =
    let c = digits_clean 43 (decimal b) (omega arith) (decimal_digits b) in
    rw (up_to_clean 43 (decimal b) (decimal k) c, past_clean 43 (decimal b) (decimal k) c, number_decimal 32 b hb (omega arith), number_decimal w k hk (omega arith))

-- the seven ranges of operands
data Range (k : ℕ) : Type 0 where
  empty : k ≡ 0 → Range k
  literal : (n : ℕ) → n < 256 → k ≡ 1 + n → Range k
  register : (n : ℕ) → n < 32 → k ≡ 257 + n → Range k
  cell : (n : ℕ) → n < 512 → k ≡ 289 + n → Range k
  public : (b n : ℕ) → b < 32 → n < 128 → k ≡ 801 + (128 * b + n) → Range k
  sensitive : (b n : ℕ) → b < 32 → n < 128 → k ≡ 4897 + (128 * b + n) → Range k
  table : (b n : ℕ) → b < 32 → n < 256 → k ≡ 8993 + (256 * b + n) → Range k

-- what is spelled in each
spell : {k : ℕ} → Range k → List ℕ
spell (empty e) = []
spell (literal n h e) = 35 ∷ decimal n
spell (register n h e) = 114 ∷ decimal n
spell (cell n h e) = 64 ∷ decimal n
spell (public b n hb hn e) = 33 ∷ based b n
spell (sensitive b n hb hn e) = 37 ∷ based b n
spell (table b n hb hn e) = 94 ∷ based b n

spell_read : {k : ℕ} (r : Range k) → read_operand (spell r) ≡ Some k
unfolding spell read_operand read_kind read_direct shift
spell_read (empty e) = ap Some (sym e)
spell_read (literal n h e) = rw (filled 35 (decimal n), number_decimal 256 n h (omega arith), e)
spell_read (register n h e) = rw (filled 114 (decimal n), number_decimal 32 n h (omega arith), e)
spell_read (cell n h e) = rw (filled 64 (decimal n), number_decimal 512 n h (omega arith), e)
spell_read (public b n hb hn e) = rw (filled 33 (based b n), based_read 128 b n hb hn (omega arith), e)
spell_read (sensitive b n hb hn e) = rw (filled 37 (based b n), based_read 128 b n hb hn (omega arith), e)
spell_read (table b n hb hn e) = rw (filled 94 (based b n), based_read 256 b n hb hn (omega arith), e)

spell_model : {k : ℕ} (r : Range k) → spell_operand (operand_of k) ≡ spell r
unfolding spell spell_operand operand_of indirect
spell_model (empty e) = rw e
spell_model {k} (literal n h e) =
    let m : k - 1 ≡ n = omega arith in
    rw (le-ltb k 1 (omega arith), lt-ltb k 257 (omega arith), m)
spell_model {k} (register n h e) =
    let m : k - 257 ≡ n = omega arith in
    rw (le-ltb k 1 (omega arith), le-ltb k 257 (omega arith), lt-ltb k 289 (omega arith), m)
spell_model {k} (cell n h e) =
    let m : k - 289 ≡ n = omega arith in
    rw (le-ltb k 1 (omega arith), le-ltb k 257 (omega arith), le-ltb k 289 (omega arith), lt-ltb k 801 (omega arith), m)
spell_model {k} (public b n hb hn e) =
    let m : (k - 801) / 128 ≡ b = omega arith in
    let o : (k - 801) % 128 ≡ n = omega arith in
    rw (le-ltb k 1 (omega arith), le-ltb k 257 (omega arith), le-ltb k 289 (omega arith), le-ltb k 801 (omega arith), lt-ltb k 4897 (omega arith), m, o)
spell_model {k} (sensitive b n hb hn e) =
    let m : (k - 4897) / 128 ≡ b = omega arith in
    let o : (k - 4897) % 128 ≡ n = omega arith in
    rw (le-ltb k 1 (omega arith), le-ltb k 257 (omega arith), le-ltb k 289 (omega arith), le-ltb k 801 (omega arith), le-ltb k 4897 (omega arith), lt-ltb k 8993 (omega arith), m, o)
spell_model {k} (table b n hb hn e) =
    let m : (k - 8993) / 256 ≡ b = omega arith in
    let o : (k - 8993) % 256 ≡ n = omega arith in
    rw (le-ltb k 1 (omega arith), le-ltb k 257 (omega arith), le-ltb k 289 (omega arith), le-ltb k 801 (omega arith), le-ltb k 4897 (omega arith), le-ltb k 8993 (omega arith), m, o)

-- the spelling of each form of operand, by its number
module _ (k : ℕ) where
  pub literal_form : 1 ≤ k → k < 1 + 256 → spell_operand (operand_of k) ≡ 35 ∷ decimal (k - 1)
  unfolding spell
  literal_form l h = spell_model (literal (k - 1) (omega arith) (omega arith))

  pub register_form : 257 ≤ k → k < 257 + 32 → spell_operand (operand_of k) ≡ 114 ∷ decimal (k - 257)
  unfolding spell
  register_form l h = spell_model (register (k - 257) (omega arith) (omega arith))

  pub cell_form : 289 ≤ k → k < 289 + 512 → spell_operand (operand_of k) ≡ 64 ∷ decimal (k - 289)
  unfolding spell
  cell_form l h = spell_model (cell (k - 289) (omega arith) (omega arith))

module _ (b n : ℕ) (h : b < 32) where
  pub public_form : n < 128 → spell_operand (operand_of (801 + (128 * b + n))) ≡ 33 ∷ based b n
  unfolding spell
  public_form l = spell_model (public b n h l refl)

  pub sensitive_form : n < 128 → spell_operand (operand_of (4897 + (128 * b + n))) ≡ 37 ∷ based b n
  unfolding spell
  sensitive_form l = spell_model (sensitive b n h l refl)

  pub table_form : n < 256 → spell_operand (operand_of (8993 + (256 * b + n))) ≡ 94 ∷ based b n
  unfolding spell
  table_form l = spell_model (table b n h l refl)

range : (k : ℕ) → k < operands → Range k
range k h =
    below k 1 (λ a. empty (omega arith)) (λ a.
    below k 257 (λ b. literal (k - 1) (omega arith) (omega arith)) (λ b.
    below k 289 (λ c. register (k - 257) (omega arith) (omega arith)) (λ c.
    below k 801 (λ d. cell (k - 289) (omega arith) (omega arith)) (λ d.
    below k 4897 (λ e. public ((k - 801) / 128) ((k - 801) % 128) (omega arith) (omega arith) (omega arith)) (λ e.
    below k 8993 (λ f. sensitive ((k - 4897) / 128) ((k - 4897) % 128) (omega arith) (omega arith) (omega arith)) (λ f.
    table ((k - 8993) / 256) ((k - 8993) % 256) (omega arith) (omega arith) (omega arith)))))))

range_below : {k : ℕ} → Range k → k < operands
range_below (empty e) = omega arith
range_below (literal n h e) = omega arith
range_below (register n h e) = omega arith
range_below (cell n h e) = omega arith
range_below (public b n hb hn e) = omega arith
range_below (sensitive b n hb hn e) = omega arith
range_below (table b n hb hn e) = omega arith

-- ---- read, then spelled

-- what a field that was read has: its range, and its spelling
record Shown (s : List ℕ) (k : ℕ) : Type 0 where
  kind : Range k
  text : spell kind ≡ s

pub data Shifted (m : ℕ) (x : Field ℕ) (k : ℕ) : Type 0 where
  by_shift : (j : ℕ) → x ≡ Some j → k ≡ m + j → Shifted m x k

pub shift_back : (m : ℕ) (x : Field ℕ) (k : ℕ) → shift m x ≡ Some k → Shifted m x k
unfolding shift
shift_back m (Some j) k e = by_shift j refl cc
shift_back m None k e = absurd (never e)

data Joined (w : ℕ) (x y : Field ℕ) (k : ℕ) : Type 0 where
  by_join : (b o : ℕ) → x ≡ Some b → y ≡ Some o → k ≡ w * b + o → Joined w x y k

join_back : (w : ℕ) (x y : Field ℕ) (k : ℕ) → joined w x y ≡ Some k → Joined w x y k
unfolding joined
join_back w (Some b) (Some o) k e = by_join b o refl refl cc
join_back w (Some b) None k e = absurd (never e)
join_back w None y k e = absurd (never e)

-- an indirect operand after its sign
data Based (w : ℕ) (t : List ℕ) (j : ℕ) : Type 0 where
  by_base : (b o : ℕ) → b < 32 → o < w → based b o ≡ t → j ≡ w * b + o → Based w t j

pub cond_is : (t : Bool) (x : Field ℕ) (k : ℕ) → cond t x None ≡ Some k → (t ≡ true) × (x ≡ Some k)
cond_is true x k e = (refl, e)
cond_is false x k e = absurd (never e)

no_number : (w : ℕ) (t : List ℕ) (o : ℕ) → t ≡ [] → read_number w t ≡ Some o → ⊥
unfolding read_number
no_number w t o q e = never (rw q at e)

based-back : (w : ℕ) (t : List ℕ) (j : ℕ) → 0 < w → w ≤ 256 → Joined w (read_number 32 (up_to 43 t)) (read_number w (past 43 t)) j → Based w (114 ∷ t) j
based-back w t j hw hm (by_join b o p q e) =
    let some : 0 < count_of 43 t = below (count_of 43 t) 1 (λ z. absurd (no_number w (past 43 t) o (past_none 43 t (omega arith)) q)) (λ z. z) in
    let base : decimal b ≡ up_to 43 t = decimal_number 32 (up_to 43 t) b (omega arith) (omega arith) p in
    let offset : decimal o ≡ past 43 t = decimal_number w (past 43 t) o hw (omega arith) q in
    by_base b o (number_below 32 (up_to 43 t) b (omega arith) p) (number_below w (past 43 t) o hw q)
    (ap (λ (l : List ℕ). 114 ∷ (l ++ (43 ∷ decimal o))) base ∙ ap (λ (l : List ℕ). 114 ∷ (up_to 43 t ++ (43 ∷ l))) offset ∙ ap (λ (l : List ℕ). 114 ∷ l) (sym (rejoin 43 t some)))
    e

indirect-back : (w : ℕ) (t : List ℕ) (j : ℕ) → 0 < w → w ≤ 256 → read_indirect w t ≡ Some j → Based w t j
unfolding read_indirect
indirect-back w [] j hw hm e = absurd (never e)
indirect-back w (c ∷ t) j hw hm e =
    let z = cond_is (eqb c 114) (joined w (read_number 32 (up_to 43 t)) (read_number w (past 43 t))) j e in
    rw (eqb-true c 114 z.0) (based-back w t j hw hm (join_back w (read_number 32 (up_to 43 t)) (read_number w (past 43 t)) j z.1))

-- each first byte
module _ (t : List ℕ) (k : ℕ) where
  literal_back : Shifted 1 (read_number 256 t) k → Shown (35 ∷ t) k
  unfolding spell
  literal_back (by_shift j p e) =
      record { kind = literal j (number_below 256 t j (omega arith) p) e; text = ap (λ (l : List ℕ). 35 ∷ l) (decimal_number 256 t j (omega arith) (omega arith) p) }

  register_back : Shifted 257 (read_number 32 t) k → Shown (114 ∷ t) k
  unfolding spell
  register_back (by_shift j p e) =
      record { kind = register j (number_below 32 t j (omega arith) p) e; text = ap (λ (l : List ℕ). 114 ∷ l) (decimal_number 32 t j (omega arith) (omega arith) p) }

  cell_back : Shifted 289 (read_number 512 t) k → Shown (64 ∷ t) k
  unfolding spell
  cell_back (by_shift j p e) =
      record { kind = cell j (number_below 512 t j (omega arith) p) e; text = ap (λ (l : List ℕ). 64 ∷ l) (decimal_number 512 t j (omega arith) (omega arith) p) }

  public_at : (j : ℕ) → k ≡ 801 + j → Based 128 t j → Shown (33 ∷ t) k
  unfolding spell
  public_at j q (by_base b o hb ho p e) = record { kind = public b o hb ho (q ∙ ap (λ (n : ℕ). 801 + n) e); text = ap (λ (l : List ℕ). 33 ∷ l) p }

  sensitive_at : (j : ℕ) → k ≡ 4897 + j → Based 128 t j → Shown (37 ∷ t) k
  unfolding spell
  sensitive_at j q (by_base b o hb ho p e) = record { kind = sensitive b o hb ho (q ∙ ap (λ (n : ℕ). 4897 + n) e); text = ap (λ (l : List ℕ). 37 ∷ l) p }

  table_at : (j : ℕ) → k ≡ 8993 + j → Based 256 t j → Shown (94 ∷ t) k
  unfolding spell
  table_at j q (by_base b o hb ho p e) = record { kind = table b o hb ho (q ∙ ap (λ (n : ℕ). 8993 + n) e); text = ap (λ (l : List ℕ). 94 ∷ l) p }

  public_back : Shifted 801 (read_indirect 128 t) k → Shown (33 ∷ t) k
  public_back (by_shift j p e) = public_at j e (indirect-back 128 t j (omega arith) (omega arith) p)

  sensitive_back : Shifted 4897 (read_indirect 128 t) k → Shown (37 ∷ t) k
  sensitive_back (by_shift j p e) = sensitive_at j e (indirect-back 128 t j (omega arith) (omega arith) p)

  table_back : Shifted 8993 (read_indirect 256 t) k → Shown (94 ∷ t) k
  table_back (by_shift j p e) = table_at j e (indirect-back 256 t j (omega arith) (omega arith) p)

-- one of three tests, or what is left
module _ (P : Type 0) (k : ℕ) (u v w x : Field ℕ) where
  three : (a b c : Bool) → cond a u (cond b v (cond c w x)) ≡ Some k → (a ≡ true → u ≡ Some k → P) → (b ≡ true → v ≡ Some k → P) → (c ≡ true → w ≡ Some k → P) → (x ≡ Some k → P) → P
  three true b c q A B C D = A refl q
  three false true c q A B C D = B refl q
  three false false true q A B C D = C refl q
  three false false false q A B C D = D q

direct_back : (c : ℕ) (t : List ℕ) (k : ℕ) → read_direct c t ≡ Some k → Shown (c ∷ t) k
unfolding read_direct
direct_back c t k q =
    three (Shown (c ∷ t) k) k (shift 1 (read_number 256 t)) (shift 257 (read_number 32 t)) (shift 289 (read_number 512 t)) None (eqb c 35) (eqb c 114) (eqb c 64) q
    (λ a e. rw (eqb-true c 35 a) (literal_back t k (shift_back _ _ k e)))
    (λ a e. rw (eqb-true c 114 a) (register_back t k (shift_back _ _ k e)))
    (λ a e. rw (eqb-true c 64 a) (cell_back t k (shift_back _ _ k e)))
    (λ e. absurd (never e))

shifted_below : (m n : ℕ) (t : List ℕ) (k : ℕ) → 0 < n → Shifted m (read_number n t) k → k < m + n
shifted_below m n t k h (by_shift j p e) = omega (arith, number_below n t j h p, e)

pub direct_below : (c : ℕ) (t : List ℕ) (k : ℕ) → read_direct c t ≡ Some k → k < publics
unfolding read_direct
direct_below c t k q =
    three (k < publics) k (shift 1 (read_number 256 t)) (shift 257 (read_number 32 t)) (shift 289 (read_number 512 t)) None (eqb c 35) (eqb c 114) (eqb c 64) q
    (λ a e. omega (arith, shifted_below 1 256 t k (omega arith) (shift_back _ _ k e)))
    (λ a e. omega (arith, shifted_below 257 32 t k (omega arith) (shift_back _ _ k e)))
    (λ a e. omega (arith, shifted_below 289 512 t k (omega arith) (shift_back _ _ k e)))
    (λ e. absurd (never e))

pub direct_spelled : (c : ℕ) (t : List ℕ) (k : ℕ) → read_direct c t ≡ Some k → spell_operand (operand_of k) ≡ c ∷ t
direct_spelled c t k q = let o = direct_back c t k q in spell_model o.kind ∙ o.text

kind-back : (c : ℕ) (t : List ℕ) (k : ℕ) → read_kind c t ≡ Some k → Shown (c ∷ t) k
unfolding read_kind
kind-back c t k q =
    three (Shown (c ∷ t) k) k (shift 801 (read_indirect 128 t)) (shift 4897 (read_indirect 128 t)) (shift 8993 (read_indirect 256 t)) (read_direct c t) (eqb c 33) (eqb c 37) (eqb c 94) q
    (λ a e. rw (eqb-true c 33 a) (public_back t k (shift_back _ _ k e)))
    (λ a e. rw (eqb-true c 37 a) (sensitive_back t k (shift_back _ _ k e)))
    (λ a e. rw (eqb-true c 94 a) (table_back t k (shift_back _ _ k e)))
    (direct_back c t k)

operand_shown : (s : List ℕ) (k : ℕ) → read_operand s ≡ Some k → Shown s k
unfolding read_operand spell
operand_shown [] k e = record { kind = empty cc; text = refl }
operand_shown (c ∷ t) k e = kind-back c t k (rw (filled c t) at e)

-- ---- exactly the spelling

pub found_is : (x : Field ℕ) (k : ℕ) → found x ≡ some k → x ≡ Some k
found_is (Some j) k e = let q : j ≡ k = cc in ap Some q
found_is None k e = let z : ◌≡◌ {A = ℕ} 0 1 = cc in absurd (omega arith)

module _ (s : List ℕ) (k : ℕ) where
  pub operand_spelled : found (read_operand s) ≡ some k → (k < operands) × (spell_operand (operand_of k) ≡ s)
  operand_spelled e = let o = operand_shown s k (found_is (read_operand s) k e) in (range_below o.kind, spell_model o.kind ∙ o.text)

  pub spelled_operand : (k < operands) × (spell_operand (operand_of k) ≡ s) → found (read_operand s) ≡ some k
  spelled_operand h = ap found (ap read_operand (sym h.1 ∙ spell_model (range k h.0)) ∙ spell_read (range k h.0))

pub operand_reads : (s : List ℕ) → found (read_operand s) ≡ (operand_field s).number
operand_reads s = sym (spelled_is (λ n. spell_operand (operand_of n)) operands (λ x. found (read_operand x)) (λ x k. (operand_spelled x k, spelled_operand x k)) s)

-- ---- targets

target_spelling : (k : ℕ) → spell_target (target_of k) ≡ cond (eqb k 0) [] (decimal (k - 1))
unfolding spell_target target_of
target_spelling k = by (eqb k 0) refl
  where
    by : (t : Bool) → eqb k 0 ≡ t → spell_target (target_of k) ≡ cond (eqb k 0) [] (decimal (k - 1))
    by true e = rw e
    by false e = rw e

target_read : (k : ℕ) → k < targets → read_target (cond (eqb k 0) [] (decimal (k - 1))) ≡ Some k
unfolding read_target shift
target_read k h = by (eqb k 0) refl
  where
    by : (t : Bool) → eqb k 0 ≡ t → read_target (cond (eqb k 0) [] (decimal (k - 1))) ≡ Some k
    by true e = rw (e, eqb-true k 0 e)
    by false e =
        let f = eqb-false k 0 e in
        let q : 1 + (k - 1) ≡ k = omega arith in
        rw (e, ne_eqb (length (decimal (k - 1))) 0 (λ z. omega (arith, decimal_some (k - 1))), number_decimal (max_lines + 1) (k - 1) (omega arith) (omega arith), q)

target_cases : (t : Bool) (x : Field ℕ) (k : ℕ) → cond t (Some 0) x ≡ Some k → ((t ≡ true) × (k ≡ 0)) ⊎ ((t ≡ false) × (x ≡ Some k))
target_cases true x k e = inl (refl, cc)
target_cases false x k e = inr (refl, e)

target_at : (s : List ℕ) (k : ℕ) → Shifted 1 (read_number (max_lines + 1) s) k → (k < targets) × (cond (eqb k 0) [] (decimal (k - 1)) ≡ s)
target_at s k (by_shift j p e) =
    let m : k - 1 ≡ j = omega arith in (
      omega (arith, number_below (max_lines + 1) s j (omega arith) p),
      rw (ne_eqb k 0 (λ z. omega arith), m) (decimal_number (max_lines + 1) s j (omega arith) (omega arith) p),
    )

target_shown : (s : List ℕ) (k : ℕ) → read_target s ≡ Some k → (k < targets) × (cond (eqb k 0) [] (decimal (k - 1)) ≡ s)
unfolding read_target
target_shown s k e =
    ⊎_elim
    (λ z. (omega (arith, z.1), rw z.1 (no_text s (eqb-true (length s) 0 z.0))))
    (λ z. target_at s k (shift_back 1 (read_number (max_lines + 1) s) k z.1))
    (target_cases (eqb (length s) 0) (shift 1 (read_number (max_lines + 1) s)) k e)

module _ (s : List ℕ) (k : ℕ) where
  pub target_spelled : found (read_target s) ≡ some k → (k < targets) × (spell_target (target_of k) ≡ s)
  target_spelled e = let o = target_shown s k (found_is (read_target s) k e) in (o.0, target_spelling k ∙ o.1)

  pub spelled_target : (k < targets) × (spell_target (target_of k) ≡ s) → found (read_target s) ≡ some k
  spelled_target h = ap found (ap read_target (sym h.1 ∙ target_spelling k) ∙ target_read k h.0)

pub target_reads : (s : List ℕ) → found (read_target s) ≡ (target_field s).number
target_reads s = sym (spelled_is (λ n. spell_target (target_of n)) targets (λ x. found (read_target x)) (λ x k. (target_spelled x k, spelled_target x k)) s)
