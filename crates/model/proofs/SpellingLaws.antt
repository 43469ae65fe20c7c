-- A field is right exactly when it is the spelling of a number of its range: the spellings of two numbers differ, so the search finds
-- the one. And what the spellings are like: how long, and without comma and newline. Assumes nothing.
use Prim.Native.Nat.{ℕ, zero, suc, ◌+◌, ◌≤◌, ◌<◌}
use mathlib.Core.Bool.{Bool, true, false, cond, false≢true}
use mathlib.Core.Path.{◌≡◌, refl, sym, ap, ap₂, ◌∙◌}
use mathlib.Core.List.{List, [], ◌∷◌, ◌++◌}
use mathlib.Core.Option.{Option, none, some}
use mathlib.Core.Logic.{◌↔◌, ◌⊎◌, inl, inr, ⊎_elim}
use native.Mathlib.Omega.{arith}
use lib.ListN.{length, length-append}
use lib.Dec.{T, ltb, eqb, leb→le, ltb→lt}
use borrow.Author.Tests.{eq-eqb, ne_eqb, eqb-true, lt-ltb}
use Rattle.model.specs.declared.Mark.{Mark}
use Rattle.model.specs.declared.Mark.TheVariants.{Unmarked, Marked}
use Rattle.model.specs.declared.Opcode.{Opcode}
use Rattle.model.specs.declared.Opcode.TheVariants.{Nop, Jmp, Not, Mov, And, Orr, Xor, Lsl, Lsr, Add, Mul, Beq, Bne}
use Rattle.model.specs.declared.Operand.{Operand}
use Rattle.model.specs.declared.Operand.TheVariants.{Empty, Literal, Register, Cell, PublicCell, SensitiveCell, TableCell}
use Rattle.model.specs.declared.Target.{Target}
use Rattle.model.specs.declared.Target.TheVariants.{Empty as NoTarget, Line as ToLine}
use Rattle.model.specs.declared.Line.{Line}
use Rattle.model.specs.Limits.{max_lines}
use Rattle.model.specs.Lines.{fills, operand_right, target_right, correct}
use Rattle.model.specs.Stored.{marks, opcodes, operands, targets, mark_code, opcode_code, operand_code, target_code, mark_of, opcode_of, operand_of, target_of}
use Rattle.model.specs.Text.{newline, comma, decimal, indirect, spell_mark, spell_opcode, spell_operand, spell_target, spell_line, same_bytes, spelled_from, mark_field, opcode_field, operand_field, target_field, up_to, past, count_of}
use Rattle.model.proofs.TestLaws.{below, is_true, holds, and_both}
use Rattle.model.proofs.Forms.{operand_number}
use Rattle.model.proofs.StoredLaws.{operand_back, target_back, mark_back, opcode_back, correct_fields}
use Rattle.model.proofs.DecimalLaws.{value_from, decimal-value, decimal_digits, decimal_5, decimal_3, decimal_2, decimal_some}
use Rattle.model.proofs.CutLaws.{count-append, count_other, digits_clean, up_to_clean, past_clean}

-- ---- the search by spelling

pub same_bytes_lem : (x y : List ℕ) → same_bytes x y ≡ true → x ≡ y
same_bytes_lem [] [] e = refl
same_bytes_lem [] (b ∷ y) e = absurd (false≢true e)
same_bytes_lem (a ∷ x) [] e = absurd (false≢true e)
same_bytes_lem (a ∷ x) (b ∷ y) e =
    let w = and_both (eqb a b) (same_bytes x y) (holds e) in
    ap₂ (λ (c : ℕ) (z : List ℕ). c ∷ z) (eqb-true a b (is_true (eqb a b) w.0)) (same_bytes_lem x y (is_true (same_bytes x y) w.1))

pub bytes_same : (x y : List ℕ) → x ≡ y → same_bytes x y ≡ true
bytes_same x y e = rw (← e) (self x)
  where
    self : (z : List ℕ) → same_bytes z z ≡ true
    self [] = refl
    self (a ∷ z) = rw (eq-eqb a a refl) (self z)

found_or : (t : Bool) (x : Option ℕ) (i k : ℕ) → cond t (some i) x ≡ some k → ((t ≡ true) × (i ≡ k)) ⊎ (x ≡ some k)
found_or true x i k e = inl (refl, cc)
found_or false x i k e = inr e

none_or : (t : Bool) (x : Option ℕ) (i : ℕ) → cond t (some i) x ≡ none → (t ≡ false) × (x ≡ none)
none_or true x i e = absurd (let z : ◌≡◌ {A = ℕ} 0 1 = cc in omega arith)
none_or false x i e = (refl, e)

module _ (spell : ℕ → List ℕ) where
  -- what the search finds is of its range, and spelled so
  pub spelled_back : (i n : ℕ) (s : List ℕ) (k : ℕ) → spelled_from spell i n s ≡ some k → (i ≤ k) × (k < i + n) × (spell k ≡ s)
  unfolding spelled_from
  spelled_back i zero s k e = absurd (let z : ◌≡◌ {A = ℕ} 0 1 = cc in omega arith)
  spelled_back i (suc n) s k e =
      ⊎_elim
      (λ f. let q : i ≡ k = f.1 in (omega arith, omega arith, ap spell (sym q) ∙ same_bytes_lem (spell i) s f.0))
      (λ f. let w = spelled_back (i + 1) n s k f in (omega arith, omega arith, w.2))
      (found_or (same_bytes (spell i) s) (spelled_from spell (i + 1) n s) i k e)

  -- where it finds none, none of its range is spelled so
  spelled_none : (i n : ℕ) (s : List ℕ) → spelled_from spell i n s ≡ none → (k : ℕ) → i ≤ k → k < i + n → spell k ≡ s → ⊥
  unfolding spelled_from
  spelled_none i zero s e k l h q = omega arith
  spelled_none i (suc n) s e k l h q =
      let w = none_or (same_bytes (spell i) s) (spelled_from spell (i + 1) n s) i e in
      below i k (λ g. spelled_none (i + 1) n s w.1 k (omega arith) (omega arith) q)
      (λ g. let z : i ≡ k = omega arith in false≢true (sym w.0 ∙ bytes_same (spell i) s (ap spell z ∙ q)))

  -- the search is any function that says of each text which number is spelled so
  module _ (n : ℕ) (f : List ℕ → Option ℕ) (right : (s : List ℕ) (k : ℕ) → (f s ≡ some k) ↔ ((k < n) × (spell k ≡ s))) (s : List ℕ) where
    pub spelled_is : spelled_from spell 0 n s ≡ f s
    spelled_is = by (spelled_from spell 0 n s) refl (f s) refl
      where
        by : (x : Option ℕ) → spelled_from spell 0 n s ≡ x → (y : Option ℕ) → f s ≡ y → spelled_from spell 0 n s ≡ f s
        by (some k) e y q = let w = spelled_back 0 n s k e in e ∙ sym ((right s k).1 (omega arith, w.2))
        by none e none q = e ∙ sym q
        by none e (some k) q = let w = (right s k).0 q in absurd (spelled_none 0 n s e k (omega arith) (omega (arith, w.0)) w.1)

  -- two numbers of the range have two spellings
  abbrev pub Distinct : ℕ → Type 0
  Distinct n = (j k : ℕ) → j < n → k < n → spell j ≡ spell k → j ≡ k

  -- then the search finds exactly the number that is spelled so
  module _ (n : ℕ) (distinct : Distinct n) where
    pub spelled_there : (k : ℕ) → k < n → spelled_from spell 0 n (spell k) ≡ some k
    spelled_there k h = by (spelled_from spell 0 n (spell k)) refl
      where
        by : (x : Option ℕ) → spelled_from spell 0 n (spell k) ≡ x → spelled_from spell 0 n (spell k) ≡ some k
        by (some j) e = let w = spelled_back 0 n (spell k) j e in e ∙ ap some (distinct j k (omega arith) h w.2)
        by none e = absurd (spelled_none 0 n (spell k) e k (omega arith) (omega arith) refl)

    pub spelled_exactly : (s : List ℕ) (k : ℕ) → (spelled_from spell 0 n s ≡ some k) ↔ ((k < n) × (spell k ≡ s))
    spelled_exactly s k = (
      λ e. let w = spelled_back 0 n s k e in (omega arith, w.2),
      λ w. ap (spelled_from spell 0 n) (sym w.1) ∙ spelled_there k w.0,
    )

-- ---- the operand and the target that a spelling is of

-- the offset and the base of `rN+k`
unfoldable pub base_in : List ℕ → ℕ
unfolding value_from up_to past
base_in s = value_from 0 (up_to 43 (past 114 s))

unfoldable pub offset_in : List ℕ → ℕ
unfolding value_from past
offset_in s = value_from 0 (past 43 (past 114 s))

unfoldable pub operand_in : List ℕ → Operand
unfolding value_from base_in offset_in
operand_in [] = Empty
operand_in (c ∷ s) =
    cond (eqb c 35) (Literal (value_from 0 s))
    (cond (eqb c 114) (Register (value_from 0 s))
    (cond (eqb c 64) (Cell (value_from 0 s))
    (cond (eqb c 33) (PublicCell (base_in s) (offset_in s))
    (cond (eqb c 37) (SensitiveCell (base_in s) (offset_in s))
    (TableCell (base_in s) (offset_in s))))))

unfoldable pub target_in : List ℕ → Target
unfolding value_from
target_in s = cond (eqb (length s) 0) NoTarget (ToLine (value_from 0 s))

-- `rN+k` after its sign
abbrev pub based : ℕ → ℕ → List ℕ
based r k = 114 ∷ (decimal r ++ (43 ∷ decimal k))

module _ (r k : ℕ) (hr : r < 32) (hk : k < 256) where
  base_in_lem : base_in (based r k) ≡ r
  unfolding base_in past
  base_in_lem = rw (up_to_clean 43 (decimal r) (decimal k) (digits_clean 43 (decimal r) (omega arith) (decimal_digits r))) (decimal-value r (omega arith))

  offset_in_lem : offset_in (based r k) ≡ k
  unfolding offset_in past
  offset_in_lem = rw (past_clean 43 (decimal r) (decimal k) (digits_clean 43 (decimal r) (omega arith) (decimal_digits r))) (decimal-value k (omega arith))

  based_7 : length (based r k) ≤ 7
  based_7 = omega (arith, length-append (decimal r) (43 ∷ decimal k), decimal_2 r (omega arith), decimal_3 k (omega arith))

-- what is spelled of an operand that is right: the operand, whether it is filled, and how long it is
pub record OperandText (must : Bool) (op : Operand) : Type 0 where
  pub same : operand_in (spell_operand op) ≡ op
  pub filled : ltb 0 (length (spell_operand op)) ≡ must
  pub short : length (spell_operand op) ≤ cond must 8 0

some_bytes : (c : ℕ) (s : List ℕ) → ltb 0 (length (c ∷ s)) ≡ true
some_bytes c s = lt-ltb 0 (length (c ∷ s)) (omega arith)

pub operand_text : (must : Bool) (op : Operand) → T (operand_right must op) → OperandText must op
unfolding operand_right spell_operand operand_in indirect
operand_text false Empty h = record { same = refl; filled = refl; short = omega arith }
operand_text true Empty h = absurd h
operand_text false (Literal n) h = absurd h
operand_text false (Register n) h = absurd h
operand_text false (Cell n) h = absurd h
operand_text false (PublicCell r k) h = absurd h
operand_text false (SensitiveCell r k) h = absurd h
operand_text false (TableCell r k) h = absurd h
operand_text true (Literal n) h =
    let l : n ≤ 255 = leb→le n 255 h in
    record { same = ap Literal (decimal-value n (omega arith)); filled = some_bytes 35 (decimal n); short = omega (arith, decimal_3 n (omega arith)) }
operand_text true (Register n) h =
    let l : n < 32 = ltb→lt n 32 h in
    record { same = ap Register (decimal-value n (omega arith)); filled = some_bytes 114 (decimal n); short = omega (arith, decimal_3 n (omega arith)) }
operand_text true (Cell n) h =
    let l : n < 512 = ltb→lt n 512 h in
    record { same = ap Cell (decimal-value n (omega arith)); filled = some_bytes 64 (decimal n); short = omega (arith, decimal_3 n (omega arith)) }
operand_text true (PublicCell r k) h =
    let w = and_both (ltb r 32) (ltb k 128) h in
    let l : r < 32 = ltb→lt r 32 w.0 in
    let m : k < 128 = ltb→lt k 128 w.1 in
    let g : k < 256 = omega arith in
    record { same = ap₂ PublicCell (base_in_lem r k l g) (offset_in_lem r k l g); filled = some_bytes 33 (based r k); short = omega (arith, based_7 r k l g) }
operand_text true (SensitiveCell r k) h =
    let w = and_both (ltb r 32) (ltb k 128) h in
    let l : r < 32 = ltb→lt r 32 w.0 in
    let m : k < 128 = ltb→lt k 128 w.1 in
    let g : k < 256 = omega arith in
    record { same = ap₂ SensitiveCell (base_in_lem r k l g) (offset_in_lem r k l g); filled = some_bytes 37 (based r k); short = omega (arith, based_7 r k l g) }
operand_text true (TableCell r k) h =
    let w = and_both (ltb r 32) (ltb k 256) h in
    let l : r < 32 = ltb→lt r 32 w.0 in
    let g : k < 256 = ltb→lt k 256 w.1 in
    record { same = ap₂ TableCell (base_in_lem r k l g) (offset_in_lem r k l g); filled = some_bytes 94 (based r k); short = omega (arith, based_7 r k l g) }

pub record TargetText (must : Bool) (t : Target) : Type 0 where
  pub same : target_in (spell_target t) ≡ t
  pub filled : ltb 0 (length (spell_target t)) ≡ must
  pub short : length (spell_target t) ≤ cond must 5 0

pub target_text : (must : Bool) (t : Target) → T (target_right must t) → TargetText must t
unfolding target_right spell_target target_in
target_text false NoTarget h = record { same = refl; filled = refl; short = omega arith }
target_text true NoTarget h = absurd h
target_text false (ToLine t) h = absurd h
target_text true (ToLine t) h =
    let l : t ≤ max_lines = leb→le t max_lines h in
    record {
      same = rw (ne_eqb (length (decimal t)) 0 (λ e. omega (arith, decimal_some t))) (ap ToLine (decimal-value t (omega arith)));
      filled = lt-ltb 0 (length (decimal t)) (decimal_some t);
      short = decimal_5 t;
    }

-- ---- the spellings of a range differ

pub operand_distinct : Distinct (λ n. spell_operand (operand_of n)) operands
operand_distinct j k hj hk e =
    sym (operand_number j)
    ∙ ap operand_code (sym (operand_text (ltb 0 j) (operand_of j) (operand_back j hj)).same ∙ ap operand_in e ∙ (operand_text (ltb 0 k) (operand_of k) (operand_back k hk)).same)
    ∙ operand_number k

pub target_distinct : Distinct (λ n. spell_target (target_of n)) targets
target_distinct j k hj hk e =
    let wj = target_back j hj in
    let wk = target_back k hk in
    sym wj.1
    ∙ ap target_code (sym (target_text (ltb 0 j) (target_of j) wj.0).same ∙ ap target_in e ∙ (target_text (ltb 0 k) (target_of k) wk.0).same)
    ∙ wk.1

mark_found : (m : Mark) → (mark_field (spell_mark m)).number ≡ some (mark_code m)
unfolding spelled_from spell_mark
mark_found Unmarked = refl
mark_found Marked = refl

opcode_found_lem : (o : Opcode) → (opcode_field (spell_opcode o)).number ≡ some (opcode_code o)
unfolding spelled_from spell_opcode
opcode_found_lem Nop = refl
opcode_found_lem Jmp = refl
opcode_found_lem Not = refl
opcode_found_lem Mov = refl
opcode_found_lem And = refl
opcode_found_lem Orr = refl
opcode_found_lem Xor = refl
opcode_found_lem Lsl = refl
opcode_found_lem Lsr = refl
opcode_found_lem Add = refl
opcode_found_lem Mul = refl
opcode_found_lem Beq = refl
opcode_found_lem Bne = refl

some_same : {j k : ℕ} → some j ≡ some k → j ≡ k
some_same e = cc

pub mark_distinct : Distinct (λ n. spell_mark (mark_of n)) marks
mark_distinct j k hj hk e =
    sym (mark_back j hj)
    ∙ some_same (sym (mark_found (mark_of j)) ∙ ap (λ (s : List ℕ). (mark_field s).number) e ∙ mark_found (mark_of k))
    ∙ mark_back k hk

pub opcode_distinct : Distinct (λ n. spell_opcode (opcode_of n)) opcodes
opcode_distinct j k hj hk e =
    sym (opcode_back j hj)
    ∙ some_same (sym (opcode_found_lem (opcode_of j)) ∙ ap (λ (s : List ℕ). (opcode_field s).number) e ∙ opcode_found_lem (opcode_of k))
    ∙ opcode_back k hk

-- ---- A FIELD IS RIGHT EXACTLY WHEN IT IS THE SPELLING OF A NUMBER OF ITS RANGE

module _ (s : List ℕ) (k : ℕ) where
  pub mark_exactly : ((mark_field s).number ≡ some k) ↔ ((k < marks) × (spell_mark (mark_of k) ≡ s))
  mark_exactly = spelled_exactly (λ n. spell_mark (mark_of n)) marks mark_distinct s k

  pub opcode_exactly : ((opcode_field s).number ≡ some k) ↔ ((k < opcodes) × (spell_opcode (opcode_of k) ≡ s))
  opcode_exactly = spelled_exactly (λ n. spell_opcode (opcode_of n)) opcodes opcode_distinct s k

  pub operand_exactly : ((operand_field s).number ≡ some k) ↔ ((k < operands) × (spell_operand (operand_of k) ≡ s))
  operand_exactly = spelled_exactly (λ n. spell_operand (operand_of n)) operands operand_distinct s k

  pub target_exactly : ((target_field s).number ≡ some k) ↔ ((k < targets) × (spell_target (target_of k) ≡ s))
  target_exactly = spelled_exactly (λ n. spell_target (target_of n)) targets target_distinct s k

-- ---- the spelling of a stored number is empty where the number is 0

module _ (k : ℕ) where
  pub operand_filled : k < operands → ltb 0 (length (spell_operand (operand_of k))) ≡ ltb 0 k
  operand_filled h = (operand_text (ltb 0 k) (operand_of k) (operand_back k h)).filled

  pub target_filled : k < targets → ltb 0 (length (spell_target (target_of k))) ≡ ltb 0 k
  target_filled h = (target_text (ltb 0 k) (target_of k) (target_back k h).0).filled

-- ---- no comma and no newline stands in a field

pub record Clean (s : List ℕ) : Type 0 where
  pub commas : count_of comma s ≡ 0
  pub newlines : count_of newline s ≡ 0

clean_cons : (b : ℕ) (s : List ℕ) → (b ≡ comma → ⊥) → (b ≡ newline → ⊥) → Clean s → Clean (b ∷ s)
clean_cons b s h g c = record { commas = count_other comma b s h ∙ c.commas; newlines = count_other newline b s g ∙ c.newlines }

clean_append : (x y : List ℕ) → Clean x → Clean y → Clean (x ++ y)
clean_append x y c d =
    record { commas = omega (arith, count-append comma x y, c.commas, d.commas); newlines = omega (arith, count-append newline x y, c.newlines, d.newlines) }

decimal_clean : (n : ℕ) → Clean (decimal n)
decimal_clean n = record { commas = digits_clean comma (decimal n) (omega arith) (decimal_digits n); newlines = digits_clean newline (decimal n) (omega arith) (decimal_digits n) }

based_clean : (r k : ℕ) → Clean (based r k)
based_clean r k =
    clean_cons 114 _ (λ e. omega arith) (λ e. omega arith)
    (clean_append (decimal r) (43 ∷ decimal k) (decimal_clean r) (clean_cons 43 (decimal k) (λ e. omega arith) (λ e. omega arith) (decimal_clean k)))

pub operand_clean : (op : Operand) → Clean (spell_operand op)
unfolding spell_operand indirect count_of
operand_clean Empty = record { commas = refl; newlines = refl }
operand_clean (Literal n) = clean_cons 35 (decimal n) (λ e. omega arith) (λ e. omega arith) (decimal_clean n)
operand_clean (Register n) = clean_cons 114 (decimal n) (λ e. omega arith) (λ e. omega arith) (decimal_clean n)
operand_clean (Cell n) = clean_cons 64 (decimal n) (λ e. omega arith) (λ e. omega arith) (decimal_clean n)
operand_clean (PublicCell r k) = clean_cons 33 (based r k) (λ e. omega arith) (λ e. omega arith) (based_clean r k)
operand_clean (SensitiveCell r k) = clean_cons 37 (based r k) (λ e. omega arith) (λ e. omega arith) (based_clean r k)
operand_clean (TableCell r k) = clean_cons 94 (based r k) (λ e. omega arith) (λ e. omega arith) (based_clean r k)

pub target_clean : (t : Target) → Clean (spell_target t)
unfolding spell_target count_of
target_clean NoTarget = record { commas = refl; newlines = refl }
target_clean (ToLine t) = decimal_clean t

pub mark_clean : (m : Mark) → Clean (spell_mark m)
unfolding spell_mark count_of
mark_clean Unmarked = record { commas = refl; newlines = refl }
mark_clean Marked = record { commas = refl; newlines = refl }

pub opcode_clean : (o : Opcode) → Clean (spell_opcode o)
unfolding spell_opcode count_of
opcode_clean Nop = record { commas = refl; newlines = refl }
opcode_clean Jmp = record { commas = refl; newlines = refl }
opcode_clean Not = record { commas = refl; newlines = refl }
opcode_clean Mov = record { commas = refl; newlines = refl }
opcode_clean And = record { commas = refl; newlines = refl }
opcode_clean Orr = record { commas = refl; newlines = refl }
opcode_clean Xor = record { commas = refl; newlines = refl }
opcode_clean Lsl = record { commas = refl; newlines = refl }
opcode_clean Lsr = record { commas = refl; newlines = refl }
opcode_clean Add = record { commas = refl; newlines = refl }
opcode_clean Mul = record { commas = refl; newlines = refl }
opcode_clean Beq = record { commas = refl; newlines = refl }
opcode_clean Bne = record { commas = refl; newlines = refl }

-- ---- a correct line has at most 33 bytes before its newline

pub mark_1 : (m : Mark) → length (spell_mark m) ≡ 1
unfolding spell_mark
mark_1 Unmarked = refl
mark_1 Marked = refl

pub opcode_3 : (o : Opcode) → length (spell_opcode o) ≡ 3
unfolding spell_opcode
opcode_3 Nop = refl
opcode_3 Jmp = refl
opcode_3 Not = refl
opcode_3 Mov = refl
opcode_3 And = refl
opcode_3 Orr = refl
opcode_3 Xor = refl
opcode_3 Lsl = refl
opcode_3 Lsr = refl
opcode_3 Add = refl
opcode_3 Mul = refl
opcode_3 Beq = refl
opcode_3 Bne = refl

-- the most bytes of the fields that an opcode fills
filled_24 : (o : Opcode) → cond (fills o).destination 8 0 + cond (fills o).first 8 0 + cond (fills o).second 8 0 + cond (fills o).target 5 0 ≤ 24
unfolding fills
filled_24 Nop = omega arith
filled_24 Jmp = omega arith
filled_24 Not = omega arith
filled_24 Mov = omega arith
filled_24 And = omega arith
filled_24 Orr = omega arith
filled_24 Xor = omega arith
filled_24 Lsl = omega arith
filled_24 Lsr = omega arith
filled_24 Add = omega arith
filled_24 Mul = omega arith
filled_24 Beq = omega arith
filled_24 Bne = omega arith

pub line_34 : (l : Line) → T (correct l) → length (spell_line l) ≤ 34
unfolding spell_line
line_34 l h =
    let f = correct_fields l h in
    simp length-append
    (omega (
      arith,
      mark_1 l.mark,
      opcode_3 l.opcode,
      (operand_text _ l.destination f.destination).short,
      (operand_text _ l.first f.first).short,
      (operand_text _ l.second f.second).short,
      (target_text _ l.target f.target).short,
      filled_24 l.opcode,
    ))
