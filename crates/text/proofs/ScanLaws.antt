-- Scans put together: a byte and what is scanned after it, and the fields of a line, which then is a correct line's spelling.
-- Assumes nothing.
use Prim.Native.Nat.{ℕ, ◌+◌, ◌-◌, ◌*◌, ◌≤◌, ◌<◌}
use mathlib.Core.Path.{◌≡◌, refl, sym, ap, ap₂, ◌∙◌}
use mathlib.Core.List.{List, [], ◌∷◌, ◌++◌, append_assoc}
use mathlib.Core.Option.{some}
use native.Mathlib.Omega.{arith}
use native.Mathlib.Nat.{mul-le-mul}
use native.Mathlib.Numerals.{add-one}
use lib.ListN.{length, get_or, take, drop, take-append-drop}
use lib.Seq.{drop-cons, drop-drop, drop-append-le, length-take-le}
use borrow.Author.Tests.{ne_eqb}
use Rattle.model.specs.declared.Line.{Line}
use Rattle.model.specs.Stored.{mark_of, opcode_of, operand_of, target_of, line_of, numbers}
use Rattle.model.specs.Text.{comma, newline, past, decimal, spell_mark, spell_opcode, spell_operand, spell_target, spell_line, mark_field, opcode_field, front_line}
use Rattle.model.proofs.DecimalLaws.{decimal_snoc, decimal_digit}
use Rattle.model.proofs.SpellingLaws.{based, mark_exactly, opcode_exactly}
use Rattle.model.proofs.StoredLaws.{numbers_back, numbers_correct}
use Rattle.model.proofs.ReadingLaws.{front_there, past_there}
use Rattle.text.specs.Scanning.{position_of, number_of, Stands, Scanned, NumberThere, Numbered, Based, EndThere, Ended, Rest, Completed, LineThere, Took}

-- a byte of the text, and what stands after it
byte_there : (s : List ℕ) (i : ℕ) (c : ℕ) → i < length s → get_or s i 0 ≡ c → drop i s ≡ c ∷ drop (i + 1) s
byte_there s i c h e = rw (add-one, drop-cons s i 0 h, e)

-- ---- numbers

digit_there : (s : List ℕ) (i : ℕ) → i < length s → 48 ≤ get_or s i 0 → drop i s ≡ (48 + (get_or s i 0 - 48)) ∷ drop (i + 1) s
digit_there s i h l = byte_there s i (48 + (get_or s i 0 - 48)) h (omega arith)

pub first_digit : (s : List ℕ) (i b : ℕ) → i < length s → b ≡ get_or s i 0 → 48 ≤ b → b ≤ 57 → decimal (b - 48) ++ drop (i + 1) s ≡ drop i s
first_digit s i b h e l m =
    ap (λ (x : List ℕ). x ++ drop (i + 1) s) (decimal_digit (b - 48) (omega arith)) ∙ ap (λ (x : ℕ). (48 + (x - 48)) ∷ drop (i + 1) s) e ∙ sym (digit_there s i h (omega arith))

pub next_digit : (text s : List ℕ) (k i : ℕ) → i < length s → 0 < k → 48 ≤ get_or s i 0 → get_or s i 0 ≤ 57 → 10 * k + (get_or s i 0 - 48) < 100000
    → decimal k ++ drop i s ≡ text → decimal (10 * k + (get_or s i 0 - 48)) ++ drop (i + 1) s ≡ text
next_digit text s k i h p l m u e =
    ap (λ (x : List ℕ). x ++ drop (i + 1) s) (decimal_snoc k (get_or s i 0 - 48) (omega arith) (omega arith) u)
    ∙ append_assoc (decimal k) ((48 + (get_or s i 0 - 48)) ∷ []) (drop (i + 1) s)
    ∙ ap (λ (x : List ℕ). decimal k ++ x) (sym (digit_there s i h l))
    ∙ e

pub number_there : (text : List ℕ) (n more : ℕ) (s : List ℕ) (k i r : ℕ) → k < n → decimal k ++ drop i s ≡ text → (position_of r ≡ i) × (number_of r ≡ more + k) → Numbered text n more s r
number_there text n more s k i r h e a p =
    let q : number_of r - more ≡ k = omega (arith, a.1) in
    record { least = omega (arith, a.1); below = omega (arith, a.1); digits = sym (ap₂ (λ (j l : ℕ). decimal j ++ drop l s) q a.0 ∙ e) }

pub zero_there : (n more : ℕ) (s : List ℕ) (at r : ℕ) → 0 < n → at < length s → get_or s at 0 ≡ 48 → (position_of r ≡ at + 1) × (number_of r ≡ more) → Numbered (drop at s) n more s r
zero_there n more s at r p h e a =
    let q : 0 ≡ get_or s at 0 - 48 = omega arith in
    number_there (drop at s) n more s 0 (at + 1) r p (ap (λ (j : ℕ). decimal j ++ drop (at + 1) s) q ∙ first_digit s at (get_or s at 0) h refl (omega arith) (omega arith)) (a.0, omega (arith, a.1))

-- ---- operands

-- the first byte of an operand, and what is scanned after it
module _ (s : List ℕ) (at c : ℕ) (h : at < length s) (e : get_or s at 0 ≡ c) where
  pub tagged : (n more : ℕ) → ((k : ℕ) → more ≤ k → k < more + n → spell_operand (operand_of k) ≡ c ∷ decimal (k - more)) → (r : ℕ)
      → Numbered (drop (at + 1) s) n more s r → Scanned (λ k. spell_operand (operand_of k)) s at r
  tagged n more form r x p =
      let y = x p in
      byte_there s at c h e ∙ ap (λ (l : List ℕ). c ∷ l) y.digits ∙ ap (λ (l : List ℕ). l ++ drop (position_of r) s) (sym (form (number_of r) y.least y.below))

  pub signed : (w more : ℕ) → ((b n : ℕ) → b < 32 → n < w → spell_operand (operand_of (more + (w * b + n))) ≡ c ∷ based b n) → (r : ℕ)
      → Based w more s (at + 1) r → Scanned (λ k. spell_operand (operand_of k)) s at r
  signed w more form r x p =
      let y = x p in
      let q : spell_operand (operand_of (number_of r)) ≡ c ∷ based y.base y.offset = ap (λ (j : ℕ). spell_operand (operand_of j)) y.number ∙ form y.base y.offset y.base_below y.offset_below in
      byte_there s at c h e ∙ ap (λ (l : List ℕ). c ∷ l) y.text ∙ ap (λ (l : List ℕ). l ++ drop (position_of r) s) (sym q)

  pub led : (spell : ℕ → List ℕ) (r : ℕ) → Scanned spell s (at + 1) r → Scanned (λ k. c ∷ spell k) s at r
  led spell r x p = byte_there s at c h e ∙ ap (λ (l : List ℕ). c ∷ l) (x p)

-- an empty operand
pub none_there : (s : List ℕ) (at r : ℕ) → (position_of r ≡ at) × (number_of r ≡ 0) → Scanned (λ k. spell_operand (operand_of k)) s at r
unfolding spell_operand operand_of
none_there s at r a p = sym (ap₂ (λ (k i : ℕ). spell_operand (operand_of k) ++ drop i s) a.1 a.0)

-- a base, found at b and ended at plus, then the sign and the offset
module _ (s : List ℕ) (at w more q b plus : ℕ) (x : Numbered (drop (at + 1) s) 32 0 s q) (p : 0 < q) (eb : b ≡ number_of q) (ep : plus ≡ position_of q) where
  there : NumberThere (drop (at + 1) s) 32 0 s b plus
  there = rw (eb, ep) (x p)

  pub base_product : w ≤ 256 → w * b ≤ 7936
  base_product h = let l : b ≤ 31 = omega (arith, there.below) in mul-le-mul {n₂ = 256} {m₂ = 31} h l

  pub based_there : at < length s → get_or s at 0 ≡ 114 → plus < length s → get_or s plus 0 ≡ 43 → (r : ℕ) → Numbered (drop (plus + 1) s) w (more + w * b) s r → Based w more s at r
  based_there h f i g r y o =
      let z : b - 0 ≡ b = omega arith in
      record {
        base = b;
        offset = number_of r - (more + w * b);
        base_below = omega (arith, there.below);
        offset_below = omega (arith, (y o).least, (y o).below);
        number = omega (arith, (y o).least);
        text =
            byte_there s at 114 h f
            ∙ ap (λ (l : List ℕ). 114 ∷ l) (there.digits ∙ ap (λ (j : ℕ). decimal j ++ drop plus s) z)
            ∙ ap (λ (l : List ℕ). 114 ∷ (decimal b ++ l)) (byte_there s plus 43 i g ∙ ap (λ (l : List ℕ). 43 ∷ l) (y o).digits)
            ∙ ap (λ (l : List ℕ). 114 ∷ l) (sym (append_assoc (decimal b) (43 ∷ decimal (number_of r - (more + w * b))) (drop (position_of r) s)));
      }

-- ---- the end of a line

target_form : (k : ℕ) → 1 ≤ k → spell_target (target_of k) ≡ decimal (k - 1)
unfolding spell_target target_of
target_form k h = rw (ne_eqb k 0 (λ e. omega arith))

module _ (s : List ℕ) (at : ℕ) (h : at < length s) (e : get_or s at 0 ≡ comma) where
  pub ended_none : (r : ℕ) → at + 1 < length s → get_or s (at + 1) 0 ≡ newline → (position_of r ≡ at + 1) × (number_of r ≡ 0) → Ended s at r
  unfolding spell_target target_of
  ended_none r i f a p =
      record {
        within = omega (arith, a.0);
        text =
            byte_there s at comma h e
            ∙ ap (λ (l : List ℕ). comma ∷ l) (byte_there s (at + 1) newline i f)
            ∙ sym (ap₂ (λ (k end : ℕ). comma ∷ (spell_target (target_of k) ++ (newline ∷ drop (end + 1) s))) a.1 a.0);
      }

  pub ended_there : (n r end : ℕ) → end ≡ position_of r → Numbered (drop (at + 1) s) n 1 s r → end < length s → get_or s end 0 ≡ newline → Ended s at r
  ended_there n r end q y i f p =
      let x = y p in
      record {
        within = omega arith;
        text =
            byte_there s at comma h e
            ∙ ap (λ (l : List ℕ). comma ∷ l) x.digits
            ∙ ap (λ (l : List ℕ). comma ∷ (decimal (number_of r - 1) ++ l)) (byte_there s (position_of r) newline (omega arith) (ap (λ (j : ℕ). get_or s j 0) (sym q) ∙ f))
            ∙ ap (λ (l : List ℕ). comma ∷ (l ++ (newline ∷ drop (position_of r + 1) s))) (sym (target_form (number_of r) x.least));
      }

-- ---- a line

-- what a scan found, and where it ended
pub stands : (spell : ℕ → List ℕ) (s : List ℕ) (at r i k : ℕ) → Scanned spell s at r → (r ≡ 0 → ⊥) → i ≡ position_of r → k ≡ number_of r → Stands s at (spell k) i
stands spell s at r i k x p ei ek = rw (ei, ek) (x (omega arith))

pub ends : (s : List ℕ) (at r end k : ℕ) → Ended s at r → (r ≡ 0 → ⊥) → end ≡ position_of r → k ≡ number_of r → EndThere s at k end
ends s at r end k x p ei ek = rw (ei, ek) (x (omega arith))

abbrev listed : ℕ → List ℕ
listed k = comma ∷ spell_operand (operand_of k)

pub all_stand : (s : List ℕ) (d a b t i j k end : ℕ) → Stands s 5 (listed d) i → Stands s i (listed a) j → Stands s j (listed b) k → EndThere s k t end
    → drop 5 s ≡ comma ∷ (spell_operand (operand_of d) ++ (comma ∷ (spell_operand (operand_of a)
    ++ (comma ∷ (spell_operand (operand_of b) ++ (comma ∷ (spell_target (target_of t) ++ (newline ∷ drop (end + 1) s))))))))
all_stand s d a b t i j k end x y z e =
    x ∙ ap (λ (l : List ℕ). listed d ++ l) (y ∙ ap (λ (l : List ℕ). listed a ++ l) (z ∙ ap (λ (l : List ℕ). listed b ++ l) e.text))

pub none_completed : (s : List ℕ) (m o : ℕ) (old : List ℕ) (at : ℕ) → Completed s m o old old at 0
none_completed s m o old at = ((λ e. refl), (λ p. absurd (omega arith)))

pub none_taken : (text old : List ℕ) (at : ℕ) → Took text old old at 0
none_taken text old at = ((λ e. refl), (λ p. absurd (omega arith)))

-- a line within the first bytes of a text
module _ (text : List ℕ) (reach : ℕ) (m o : ℕ) (old new : List ℕ) (at : ℕ)
    (long : 5 ≤ reach) (fits : reach ≤ length text)
    (em : (mark_field (take 1 (take reach text))).number ≡ some m)
    (ec : get_or (take reach text) 1 0 ≡ comma)
    (eo : (opcode_field (take 3 (drop 2 (take reach text)))).number ≡ some o) where
  abbrev s : List ℕ
  s = take reach text

  head : drop 2 s ≡ spell_opcode (opcode_of o) ++ drop 5 s
  head =
      sym (take-append-drop 3 (drop 2 s))
      ∙ ap (λ (y : List ℕ). y ++ drop 3 (drop 2 s)) (sym ((opcode_exactly (take 3 (drop 2 s)) o).0 eo).1)
      ∙ ap (λ (y : List ℕ). spell_opcode (opcode_of o) ++ y) (drop-drop 3 2 s)

  module _ (bytes : ℕ) (x : Rest s m o old new at bytes) where
    abbrev line : Line
    line = line_of m o x.destination x.first x.second x.target

    spelled : s ≡ spell_line line ++ drop bytes s
    unfolding spell_line
    spelled =
        sym (take-append-drop 1 s)
        ∙ ap (λ (y : List ℕ). y ++ drop 1 s) (sym ((mark_exactly (take 1 s) m).0 em).1)
        ∙ ap (λ (y : List ℕ). spell_mark (mark_of m) ++ y) (byte_there s 1 comma (omega (arith, length-take-le reach text fits)) ec ∙ ap (λ (y : List ℕ). comma ∷ y) (head ∙ ap (λ (y : List ℕ). spell_opcode (opcode_of o) ++ y) x.text))
        ∙ simp append_assoc

    tail : List ℕ
    tail = drop bytes s ++ drop reach text

    whole : text ≡ spell_line line ++ tail
    unfolding tail
    whole = sym (take-append-drop reach text) ∙ ap (λ (y : List ℕ). y ++ drop reach text) spelled ∙ append_assoc (spell_line line) (drop bytes s) (drop reach text)

    line_there : LineThere text old new at bytes
    unfolding tail
    line_there =
        record {
          line = m ∷ o ∷ x.destination ∷ x.first ∷ x.second ∷ x.target ∷ [];
          six = refl;
          read =
              ap front_line whole ∙ front_there line (numbers_correct m o x.destination x.first x.second x.target x.right) tail
              ∙ ap numbers (numbers_back m o x.destination x.first x.second x.target x.right);
          stored = x.stored;
          rest =
              ap (drop bytes) (sym (take-append-drop reach text)) ∙ drop-append-le bytes s (drop reach text) x.within
              ∙ sym (ap (past newline) whole ∙ past_there line tail);
        }

  pub taken : (r : ℕ) → Completed s m o old new at r → Took text old new at r
  taken r c = (c.0, λ p. line_there r (c.1 p))
