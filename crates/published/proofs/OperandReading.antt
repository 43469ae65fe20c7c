-- Operands: the reader finds a number exactly where the part, with its offset written, is the spelling of that number. Assumes nothing.
use Prim.Native.Nat.{ℕ, suc, ◌+◌, ◌-◌, ◌*◌, ◌≤◌, ◌<◌}
use mathlib.Core.Bool.{Bool, true, false, cond, ◌&&◌, false≢true}
use mathlib.Core.Path.{◌≡◌, refl, sym, ap, ap₂, ◌∙◌}
use mathlib.Core.List.{List, [], ◌∷◌, ◌++◌}
use mathlib.Core.Logic.{◌↔◌}
use mathlib.Core.Option.{some}
use native.Mathlib.Omega.{arith}
use lib.ListN.{length, get_or, length-append}
use lib.Dec.{T, ltb, eqb, leb→le, ltb→lt, lt→ltb}
use borrow.Author.Tests.{eq-eqb, ne_eqb, lt-ltb, le-ltb, eqb-true, eqb-false}
use Rattle.model.specs.declared.Operand.{Operand}
use Rattle.model.specs.declared.Operand.TheVariants.{Empty, Literal, Register, Cell, PublicCell, SensitiveCell, TableCell}
use Rattle.model.specs.Lines.{operand_right}
use Rattle.model.specs.Stored.{tables, publics, sensitives, operand_code, operand_of}
use Rattle.model.specs.Text.{comma, decimal, count_of, up_to, past, spelled_from}
use Rattle.model.proofs.TestLaws.{below, and_both, both_and, holds, is_true}
use Rattle.model.proofs.Forms.{operand_number}
use Rattle.model.proofs.StoredLaws.{operand_back, operand_there}
use Rattle.model.proofs.DecimalLaws.{decimal_digits}
use Rattle.model.proofs.CutLaws.{count-append, count_other, count_it, digits_clean, up_to_clean, past_clean, rejoin, up_to_all}
use Rattle.model.proofs.SpellingLaws.{spelled_is}
use Rattle.std.specs.Prelude.{Option as Field, Some, None}
use Rattle.std.specs.Prelude.{Some, None}
use Rattle.text.specs.Fields.{found, read_number, shift, read_direct}
use Rattle.text.proofs.DigitLaws.{never, number_below, number_decimal, decimal_number}
use Rattle.text.proofs.OperandLaws.{filled, cond_is, found_is, direct_below, direct_spelled}
use Rattle.published.specs.Published.{based, spell_published, with_offset, published_number}
use Rattle.published.specs.Reading.{pointed_at, pointed, read_based, read_part}
use Rattle.published.proofs.OperandSpelling.{Spelled, number_spelled, spelled_number, based_commas, kept_offset, spelled_alike}

-- a part without its offset is read by another rule
abbrev bare : List ℕ → Bool
bare s = eqb (get_or s 0 0) 33 && eqb (count_of comma s) 0

unfoldable read_exact : List ℕ → Field ℕ
read_exact s = cond (bare s) None (read_part s)

-- ---- spelled, then read

not_bare : (c : ℕ) (s : List ℕ) → eqb c 33 ≡ false → read_exact (c ∷ s) ≡ read_direct c s
unfolding read_exact read_part
not_bare c s h = rw (h, filled c s)

written : (s : List ℕ) → 0 < count_of comma (33 ∷ s) → read_exact (33 ∷ s) ≡ read_based s
unfolding read_exact read_part
written s h = rw (ne_eqb (count_of comma (33 ∷ s)) 0 (λ e. omega arith), filled 33 s)

-- a base before a comma, and an offset after it
based_cut : (x y : List ℕ) → count_of comma x ≡ 0 → read_based (114 ∷ (x ++ (comma ∷ y))) ≡ pointed (read_number 32 x) (read_number 256 y)
unfolding read_based
based_cut x y h =
    rw (up_to_clean comma x y h, past_clean comma x y h, ne_eqb (length x) (length (x ++ (comma ∷ y))) (λ e. omega (arith, length-append x (comma ∷ y))))

based_read : (r k : ℕ) → r < 32 → k < 256 → read_exact (based r k) ≡ pointed_at r k
unfolding based
based_read r k hr hk =
    written (114 ∷ (decimal r ++ (comma ∷ decimal k))) (based_commas r k)
    ∙ based_cut (decimal r) (decimal k) (digits_clean comma (decimal r) (omega arith) (decimal_digits r))
    ∙ ap₂ pointed (number_decimal 32 r hr (omega arith)) (number_decimal 256 k hk (omega arith))

none_read : read_exact [] ≡ Some 0
unfolding read_exact read_part
none_read = refl

spelled_read : (must : Bool) (op : Operand) → T (operand_right must op) → Spelled op → read_exact (spell_published op) ≡ Some (operand_code op)
unfolding operand_right spell_published read_direct shift
spelled_read must Empty h c = none_read
spelled_read must (Literal n) h c =
    let l : n ≤ 255 = leb→le n 255 (and_both must _ h).1 in
    not_bare 35 (decimal n) refl ∙ rw (number_decimal 256 n (omega arith) (omega arith))
spelled_read must (Register n) h c =
    let l : n < 32 = ltb→lt n 32 (and_both must _ h).1 in
    not_bare 114 (decimal n) refl ∙ rw (number_decimal 32 n l (omega arith))
spelled_read must (Cell n) h c =
    let l : n < 512 = ltb→lt n 512 (and_both must _ h).1 in
    not_bare 64 (decimal n) refl ∙ rw (number_decimal 512 n l (omega arith))
spelled_read must (PublicCell r k) h c =
    let w = and_both (must && ltb r 32) (ltb k 128) h in
    let l : r < 32 = ltb→lt r 32 (and_both must _ w.0).1 in
    let m : k < 128 = ltb→lt k 128 w.1 in
    let e : publics + (128 * r + k) ≡ publics + 128 * r + k = omega arith in
    based_read r k l (omega arith) ∙ rw (lt-ltb k 128 m, e)
spelled_read must (SensitiveCell r k) h c =
    let w = and_both (must && ltb r 32) (ltb k 128) h in
    let l : r < 32 = ltb→lt r 32 (and_both must _ w.0).1 in
    let m : k < 128 = ltb→lt k 128 w.1 in
    let e : sensitives + (128 * r + (128 + k - 128)) ≡ sensitives + 128 * r + k = omega arith in
    based_read r (128 + k) l (omega arith) ∙ rw (le-ltb (128 + k) 128 (omega arith), e)
spelled_read must (TableCell r k) h c = absurd c

-- ---- read, then spelled

-- the operand of a part that was read
record Shown (s : List ℕ) (k : ℕ) : Type 0 where
  op : Operand
  right : T (operand_right true op)
  counterpart : Spelled op
  number : k ≡ operand_code op
  text : spell_published op ≡ s

data Pointed (x y : Field ℕ) (k : ℕ) : Type 0 where
  by_point : (b o : ℕ) → x ≡ Some b → y ≡ Some o → pointed_at b o ≡ Some k → Pointed x y k

point_back : (x y : Field ℕ) (k : ℕ) → pointed x y ≡ Some k → Pointed x y k
point_back (Some b) (Some o) k e = by_point b o refl refl e
point_back (Some b) None k e = absurd (never e)
point_back None y k e = absurd (never e)

is_same : {j k : ℕ} → Some j ≡ Some k → j ≡ k
is_same e = cc

cell_of_lem : (b o k : ℕ) → b < 32 → o < 256 → pointed_at b o ≡ Some k → Shown (based b o) k
unfolding operand_right spell_published
cell_of_lem b o k hb ho e =
    below o 128
    (λ l. let q : publics + (128 * b + o) ≡ k = is_same (rw (lt-ltb o 128 l) at e) in
    record { op = PublicCell b o; right = both_and (ltb b 32) (ltb o 128) (lt→ltb b 32 hb) (lt→ltb o 128 l); counterpart = tt; number = omega arith; text = refl })
    (λ l. let q : sensitives + (128 * b + (o - 128)) ≡ k = is_same (rw (le-ltb o 128 l) at e) in
    let z : 128 + (o - 128) ≡ o = omega arith in
    record { op = SensitiveCell b (o - 128); right = both_and (ltb b 32) (ltb (o - 128) 128) (lt→ltb b 32 hb) (lt→ltb (o - 128) 128 (omega arith)); counterpart = tt; number = omega arith; text = ap (based b) z })

cond_not : (t : Bool) (x : Field ℕ) (k : ℕ) → cond t None x ≡ Some k → (t ≡ false) × (x ≡ Some k)
cond_not true x k e = absurd (never e)
cond_not false x k e = (refl, e)

split_back : (v : List ℕ) (k : ℕ) → 0 < count_of comma v → Pointed (read_number 32 (up_to comma v)) (read_number 256 (past comma v)) k → Shown (33 ∷ 114 ∷ v) k
unfolding based
split_back v k hc (by_point b o p q e) =
    let s = cell_of_lem b o k (number_below 32 (up_to comma v) b (omega arith) p) (number_below 256 (past comma v) o (omega arith) q) e in
    let base : decimal b ≡ up_to comma v = decimal_number 32 (up_to comma v) b (omega arith) (omega arith) p in
    let offset : decimal o ≡ past comma v = decimal_number 256 (past comma v) o (omega arith) (omega arith) q in
    let t : decimal b ++ (comma ∷ decimal o) ≡ v = ap₂ (λ (x y : List ℕ). x ++ (comma ∷ y)) base offset ∙ sym (rejoin comma v hc) in
    record { op = s.op; right = s.right; counterpart = s.counterpart; number = s.number; text = s.text ∙ ap (λ (x : List ℕ). 33 ∷ 114 ∷ x) t }

based-back : (u : List ℕ) (k : ℕ) → 0 < count_of comma (33 ∷ u) → read_based u ≡ Some k → Shown (33 ∷ u) k
unfolding read_based
based-back [] k h e = absurd (never e)
based-back (c ∷ v) k h e =
    let z = cond_is (eqb c 114) _ k e in
    let q : c ≡ 114 = eqb-true c 114 z.0 in
    let hc : 0 < count_of comma v = omega (arith, h, count_other comma 33 (c ∷ v) (λ e. omega arith), count_other comma c v (λ e. omega arith)) in
    let longer : length (up_to comma v) < length v = omega (arith, ap length (rejoin comma v hc), length-append (up_to comma v) (comma ∷ past comma v)) in
    rw q (split_back v k hc (point_back (read_number 32 (up_to comma v)) (read_number 256 (past comma v)) k (rw (ne_eqb (length (up_to comma v)) (length v) (λ e. omega arith)) at z.1)))

-- what a part that was read says
abbrev Said : List ℕ → ℕ → Type 0
Said s k = (k < tables) × (spell_published (operand_of k) ≡ s)

shown_said : (s : List ℕ) (k : ℕ) → Shown s k → Said s k
shown_said s k o = (
  omega (arith, o.number, spelled_number true o.op o.right o.counterpart),
  ap (λ (n : ℕ). spell_published (operand_of n)) o.number ∙ ap spell_published (operand_there true o.op o.right).same ∙ o.text,
)

direct_said : (c : ℕ) (t : List ℕ) (k : ℕ) → read_direct c t ≡ Some k → Said (c ∷ t) k
direct_said c t k e = let l = direct_below c t k e in (omega arith, sym (spelled_alike k l) ∙ direct_spelled c t k e)

form_back : (c : ℕ) (t : List ℕ) (k : ℕ) → bare (c ∷ t) ≡ false → cond (eqb c 33) (read_based t) (read_direct c t) ≡ Some k → Said (c ∷ t) k
form_back c t k h = by (eqb c 33) refl
  where
    by : (b : Bool) → eqb c 33 ≡ b → cond b (read_based t) (read_direct c t) ≡ Some k → Said (c ∷ t) k
    by true a e =
        let z : c ≡ 33 = eqb-true c 33 a in
        let g : eqb (count_of comma (33 ∷ t)) 0 ≡ false = rw z at h in
        let f = eqb-false (count_of comma (33 ∷ t)) 0 g in
        rw z (shown_said (33 ∷ t) k (based-back t k (omega arith) e))
    by false a e = direct_said c t k e

zero_spelled : spell_published (operand_of 0) ≡ []
unfolding spell_published operand_of
zero_spelled = refl

back : (s : List ℕ) (k : ℕ) → read_exact s ≡ Some k → Said s k
unfolding read_exact read_part
back [] k e = let z : k ≡ 0 = sym (is_same e) in (omega arith, ap (λ (n : ℕ). spell_published (operand_of n)) z ∙ zero_spelled)
back (c ∷ t) k e = let w = cond_not (bare (c ∷ t)) _ k e in form_back c t k w.0 (rw (filled c t) at w.1)

-- ---- exactly the spelling

exactly : (s : List ℕ) (k : ℕ) → (found (read_exact s) ≡ some k) ↔ Said s k
exactly s k = (
  λ e. back s k (found_is (read_exact s) k e),
  λ h. let l : k < tables = h.0 in
      ap found (ap read_exact (sym h.1) ∙ spelled_read (ltb 0 k) (operand_of k) (operand_back k (omega arith)) (number_spelled k l) ∙ ap Some (operand_number k)),
)

searched : (s : List ℕ) → spelled_from (λ n. spell_published (operand_of n)) 0 tables s ≡ found (read_exact s)
searched = spelled_is (λ n. spell_published (operand_of n)) tables (λ x. found (read_exact x)) exactly

-- THE SPELLING OF AN OPERAND IS READ AS ITS NUMBER
pub published_there : (must : Bool) (op : Operand) → T (operand_right must op) → Spelled op → published_number (spell_published op) ≡ some (operand_code op)
unfolding published_number
published_there must op h c = searched (with_offset (spell_published op)) ∙ ap (λ (s : List ℕ). found (read_exact s)) (kept_offset op) ∙ ap found (spelled_read must op h c)

-- the offset of a part is written where it is missing
zero_number : read_number 256 (48 ∷ []) ≡ Some 0
unfolding read_number
zero_number = refl

part_33 : (s : List ℕ) → read_part (33 ∷ s) ≡ read_based s
unfolding read_part
part_33 s = rw (filled 33 s)

some_count : (c : ℕ) (s : List ℕ) → count_of comma s ≤ count_of comma (c ∷ s)
unfolding count_of
some_count c s = by (eqb c comma)
  where
    by : (t : Bool) → count_of comma s ≤ cond t (suc (count_of comma s)) (count_of comma s)
    by true = omega arith
    by false = omega arith

bare-based : (s : List ℕ) → count_of comma s ≡ 0 → read_based (s ++ (comma ∷ 48 ∷ [])) ≡ read_based s
unfolding read_based
bare-based [] h = refl
bare-based (c ∷ s) h =
    let z : count_of comma s ≡ 0 = omega (arith, h, some_count c s) in
    rw (
      up_to_clean comma s (48 ∷ []) z,
      past_clean comma s (48 ∷ []) z,
      up_to_all comma s z,
      ne_eqb (length s) (length (s ++ (comma ∷ 48 ∷ []))) (λ e. omega (arith, length-append s (comma ∷ 48 ∷ []))),
      eq-eqb (length s) (length s) refl,
      zero_number,
    )

bare_33 : (s : List ℕ) → count_of comma (33 ∷ s) ≡ 0 → read_exact (33 ∷ (s ++ (comma ∷ 48 ∷ []))) ≡ read_part (33 ∷ s)
bare_33 s z =
    let y : count_of comma s ≡ 0 = sym (count_other comma 33 s (λ e. omega arith)) ∙ z in
    let hc : 0 < count_of comma (33 ∷ (s ++ (comma ∷ 48 ∷ []))) = omega (arith, count_other comma 33 (s ++ (comma ∷ 48 ∷ [])) (λ e. omega arith), count-append comma s (comma ∷ 48 ∷ []), count_it comma (48 ∷ [])) in
    written (s ++ (comma ∷ 48 ∷ [])) hc ∙ bare-based s y ∙ sym (part_33 s)

plain_exact : (s : List ℕ) → bare s ≡ false → read_exact s ≡ read_part s
unfolding read_exact
plain_exact s e = rw e

bare_read : (s : List ℕ) → bare s ≡ true → read_exact (s ++ (comma ∷ 48 ∷ [])) ≡ read_part s
bare_read [] e = absurd (false≢true e)
bare_read (c ∷ s) e =
    let w = and_both (eqb c 33) (eqb (count_of comma (c ∷ s)) 0) (holds e) in
    let q : c ≡ 33 = eqb-true c 33 (is_true (eqb c 33) w.0) in
    let z : count_of comma (c ∷ s) ≡ 0 = eqb-true _ 0 (is_true (eqb (count_of comma (c ∷ s)) 0) w.1) in
    rw q (bare_33 s (rw q at z))

-- THE READER FINDS THE NUMBER THAT THE DEFINITION FINDS
pub part-reads : (s : List ℕ) → found (read_part s) ≡ published_number s
unfolding published_number with_offset
part-reads s = sym (searched _ ∙ ap found (by (bare s) refl))
  where
    by : (t : Bool) → bare s ≡ t → read_exact (cond (bare s) (s ++ (comma ∷ 48 ∷ [])) s) ≡ read_part s
    by true e = rw e (bare_read s e)
    by false e = rw e (plain_exact s e)
