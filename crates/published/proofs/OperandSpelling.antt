-- Which operands have a published spelling, and what it is like. Assumes nothing.
use Prim.Native.Nat.{ℕ, ◌+◌, ◌-◌, ◌≤◌, ◌<◌}
use mathlib.Core.Bool.{Bool, true, false, cond, ◌&&◌, false≢true}
use mathlib.Core.Path.{◌≡◌, refl}
use mathlib.Core.List.{List, [], ◌∷◌, ◌++◌}
use native.Mathlib.Omega.{arith}
use lib.ListN.{length, get_or}
use lib.Dec.{T, ltb, eqb, leb→le, ltb→lt}
use borrow.Author.Tests.{ne_eqb, lt-ltb}
use Rattle.model.specs.declared.Operand.{Operand}
use Rattle.model.specs.declared.Operand.TheVariants.{Empty, Literal, Register, Cell, PublicCell, SensitiveCell, TableCell}
use Rattle.model.specs.Lines.{operand_right}
use Rattle.model.specs.Stored.{literals, registers, cells, publics, sensitives, tables, operand_code, operand_of}
use Rattle.model.specs.Text.{comma, decimal, count_of, spell_operand}
use Rattle.model.proofs.TestLaws.{and_both}
use Rattle.model.proofs.DecimalLaws.{Digits, decimal_digits}
use Rattle.model.proofs.CutLaws.{count-append, count_other, count_it}
use Rattle.published.specs.Published.{based, spell_published, with_offset}
use Rattle.published.proofs.PartLaws.{Plain, plain_append}

-- ---- the numbers of operands that have a counterpart

-- an operand that has a counterpart
abbrev pub Spelled : Operand → Type 0
Spelled Empty = Unit {0}
Spelled (Literal n) = Unit {0}
Spelled (Register n) = Unit {0}
Spelled (Cell n) = Unit {0}
Spelled (PublicCell r k) = Unit {0}
Spelled (SensitiveCell r k) = Unit {0}
Spelled (TableCell r k) = ⊥

spelled_of : (t1 t2 t3 t4 t5 t6 : Bool) (a b c d e f g h i : ℕ) → t6 ≡ true
    → Spelled (cond t1 Empty (cond t2 (Literal a) (cond t3 (Register b) (cond t4 (Cell c) (cond t5 (PublicCell d e) (cond t6 (SensitiveCell f g) (TableCell h i)))))))
spelled_of true t2 t3 t4 t5 t6 a b c d e f g h i q = tt
spelled_of false true t3 t4 t5 t6 a b c d e f g h i q = tt
spelled_of false false true t4 t5 t6 a b c d e f g h i q = tt
spelled_of false false false true t5 t6 a b c d e f g h i q = tt
spelled_of false false false false true t6 a b c d e f g h i q = tt
spelled_of false false false false false true a b c d e f g h i q = tt
spelled_of false false false false false false a b c d e f g h i q = absurd (false≢true q)

pub number_spelled : (n : ℕ) → n < tables → Spelled (operand_of n)
unfolding operand_of
number_spelled n h = spelled_of (ltb n literals) (ltb n registers) (ltb n cells) (ltb n publics) (ltb n sensitives) (ltb n tables) _ _ _ _ _ _ _ _ _ (lt-ltb n tables h)

pub spelled_number : (must : Bool) (op : Operand) → T (operand_right must op) → Spelled op → operand_code op < tables
unfolding operand_right
spelled_number must Empty h c = omega arith
spelled_number must (Literal n) h c = let l : n ≤ 255 = leb→le n 255 (and_both must _ h).1 in omega arith
spelled_number must (Register n) h c = let l : n < 32 = ltb→lt n 32 (and_both must _ h).1 in omega arith
spelled_number must (Cell n) h c = let l : n < 512 = ltb→lt n 512 (and_both must _ h).1 in omega arith
spelled_number must (PublicCell r k) h c =
    let w = and_both (must && ltb r 32) (ltb k 128) h in
    let l : r < 32 = ltb→lt r 32 (and_both must _ w.0).1 in
    let m : k < 128 = ltb→lt k 128 w.1 in
    omega arith
spelled_number must (SensitiveCell r k) h c =
    let w = and_both (must && ltb r 32) (ltb k 128) h in
    let l : r < 32 = ltb→lt r 32 (and_both must _ w.0).1 in
    let m : k < 128 = ltb→lt k 128 w.1 in
    omega arith
spelled_number must (TableCell r k) h c = absurd c

-- ---- an offset that is written stays so

pub based_commas : (r k : ℕ) → 0 < count_of comma (based r k)
unfolding based
based_commas r k =
    omega (arith, count_other comma 33 (114 ∷ (decimal r ++ (comma ∷ decimal k))) (λ e. omega arith), count_other comma 114 (decimal r ++ (comma ∷ decimal k)) (λ e. omega arith), count-append comma (decimal r) (comma ∷ decimal k), count_it comma (decimal k))

kept-based : (r k : ℕ) → with_offset (based r k) ≡ based r k
unfolding with_offset
kept-based r k = rw (ne_eqb (count_of comma (based r k)) 0 (λ e. omega (arith, based_commas r k))) (by (eqb (get_or (based r k) 0 0) 33))
  where
    by : (t : Bool) → cond (t && false) (based r k ++ (comma ∷ 48 ∷ [])) (based r k) ≡ based r k
    by true = refl
    by false = refl

none_kept : with_offset [] ≡ []
unfolding with_offset
none_kept = refl

plain_kept : (c : ℕ) (s : List ℕ) → eqb c 33 ≡ false → with_offset (c ∷ s) ≡ c ∷ s
unfolding with_offset
plain_kept c s h = rw h

pub kept_offset : (op : Operand) → with_offset (spell_published op) ≡ spell_published op
unfolding spell_published
kept_offset Empty = none_kept
kept_offset (Literal n) = plain_kept 35 (decimal n) refl
kept_offset (Register n) = plain_kept 114 (decimal n) refl
kept_offset (Cell n) = plain_kept 64 (decimal n) refl
kept_offset (PublicCell r k) = kept-based r k
kept_offset (SensitiveCell r k) = kept-based r (128 + k)
kept_offset (TableCell r k) = none_kept

-- ---- what the spellings are like

digits_plain : (s : List ℕ) → Digits s → Plain s
digits_plain [] d = tt
digits_plain (b ∷ s) d = let l : 48 ≤ b = d.0 in let m : b ≤ 57 = d.1 in (omega arith, (λ e. omega arith), digits_plain s d.2)

pub decimal_plain : (n : ℕ) → Plain (decimal n)
decimal_plain n = digits_plain (decimal n) (decimal_digits n)

based_plain : (r k : ℕ) → Plain (based r k)
unfolding based
based_plain r k = (
  omega arith,
  (λ e. omega arith),
  (
    omega arith,
    (λ e. omega arith),
    plain_append (decimal r) (comma ∷ decimal k) (decimal_plain r) (omega arith, (λ e. omega arith), decimal_plain k),
  ),
)

pub published_plain : (op : Operand) → Plain (spell_published op)
unfolding spell_published
published_plain Empty = tt
published_plain (Literal n) = (omega arith, (λ e. omega arith), decimal_plain n)
published_plain (Register n) = (omega arith, (λ e. omega arith), decimal_plain n)
published_plain (Cell n) = (omega arith, (λ e. omega arith), decimal_plain n)
published_plain (PublicCell r k) = based_plain r k
published_plain (SensitiveCell r k) = based_plain r (128 + k)
published_plain (TableCell r k) = tt

-- up to the cells they are spelled as in our line form
pub spelled_alike : (k : ℕ) → k < publics → spell_operand (operand_of k) ≡ spell_published (operand_of k)
unfolding operand_of spell_operand spell_published
spelled_alike k h = by (ltb k literals) (ltb k registers) (ltb k cells) (ltb k publics) (lt-ltb k publics h) _
  where
    by : (t u v w : Bool) → w ≡ true → (x : Operand)
        → spell_operand (cond t Empty (cond u (Literal (k - literals)) (cond v (Register (k - registers)) (cond w (Cell (k - cells)) x))))
        ≡ spell_published (cond t Empty (cond u (Literal (k - literals)) (cond v (Register (k - registers)) (cond w (Cell (k - cells)) x))))
    by true u v w e x = refl
    by false true v w e x = refl
    by false false true w e x = refl
    by false false false true e x = refl
    by false false false false e x = absurd (false≢true e)

some_bytes : (c : ℕ) (s : List ℕ) → ltb 0 (length (c ∷ s)) ≡ true
some_bytes c s = lt-ltb 0 (length (c ∷ s)) (omega arith)

based_some : (r k : ℕ) → ltb 0 (length (based r k)) ≡ true
unfolding based
based_some r k = some_bytes 33 (114 ∷ (decimal r ++ (comma ∷ decimal k)))

pub published-filled : (must : Bool) (op : Operand) → T (operand_right must op) → Spelled op → ltb 0 (length (spell_published op)) ≡ must
unfolding operand_right spell_published
published-filled true Empty h c = absurd h
published-filled false Empty h c = refl
published-filled true (Literal n) h c = some_bytes 35 (decimal n)
published-filled true (Register n) h c = some_bytes 114 (decimal n)
published-filled true (Cell n) h c = some_bytes 64 (decimal n)
published-filled true (PublicCell r k) h c = based_some r k
published-filled true (SensitiveCell r k) h c = based_some r (128 + k)
published-filled must (TableCell r k) h c = absurd c
published-filled false (Literal n) h c = absurd h
published-filled false (Register n) h c = absurd h
published-filled false (Cell n) h c = absurd h
published-filled false (PublicCell r k) h c = absurd h
published-filled false (SensitiveCell r k) h c = absurd h
