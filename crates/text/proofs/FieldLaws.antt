-- Marks, opcodes and which fields are filled: the tests of the code give what the model's definitions give. Assumes nothing.
use Prim.Native.Nat.{ℕ, ◌<◌}
use mathlib.Core.Bool.{Bool, true, false, cond, ◌&&◌}
use mathlib.Core.Path.{◌≡◌, refl, sym, ap, ◌∙◌, subst}
use mathlib.Core.List.{List, [], ◌∷◌}
use mathlib.Core.Option.{Option, none, some}
use native.Mathlib.Omega.{arith}
use mathlib.Core.Logic.{◌⊎◌, inl, inr}
use lib.Dec.{eqb, ltb}
use lib.ListN.{length, get_or}
use borrow.Author.Tests.{eq-eqb, ne_eqb, eqb-true, eqb-false}
use Rattle.model.specs.Stored.{opcode_of, no_literal}
use Rattle.model.specs.Text.{spelled_from, spell_mark, spell_opcode, mark_field, opcode_field}
use Rattle.model.proofs.SpellingLaws.{opcode_exactly, opcode_3}
use Rattle.model.specs.declared.Opcode.{Opcode}
use Rattle.model.specs.declared.Opcode.TheVariants.{Nop, Jmp, Not, Mov, And, Orr, Xor, Lsl, Lsr, Add, Mul, Beq, Bne}
use Rattle.coding.proofs.Faults.{literal_number}

eqb_swap : (a b : ℕ) → eqb a b ≡ eqb b a
eqb_swap a b = by (eqb b a) refl
  where
    by : (t : Bool) → eqb b a ≡ t → eqb a b ≡ t
    by true e = eq-eqb a b (sym (eqb-true b a e))
    by false e = ne_eqb a b (λ q. eqb-false b a e (sym q))

and_false : (t : Bool) → (t && false) ≡ false
and_false true = refl
and_false false = refl

pub and_true : (t : Bool) → (t && true) ≡ t
and_true true = refl
and_true false = refl

-- ---- the mark

pub mark_tests : (s : List ℕ) → (mark_field s).number ≡ cond (eqb (length s) 1) (cond (eqb (get_or s 0 0) 117) (some 0) (cond (eqb (get_or s 0 0) 115) (some 1) none)) none
unfolding spelled_from spell_mark
mark_tests [] = refl
mark_tests (b ∷ []) = rw (and_true (eqb 117 b), and_true (eqb 115 b), eqb_swap 117 b, eqb_swap 115 b)
mark_tests (b ∷ c ∷ s) = rw (and_false (eqb 117 b), and_false (eqb 115 b), ne_eqb (length (b ∷ c ∷ s)) 1 (λ e. omega arith))

-- ---- the opcode

pub three_letters : (s : List ℕ) → length s ≡ 3 → get_or s 0 0 ∷ get_or s 1 0 ∷ get_or s 2 0 ∷ [] ≡ s
three_letters [] e = absurd (omega arith)
three_letters (x ∷ []) e = absurd (omega arith)
three_letters (x ∷ y ∷ []) e = absurd (omega arith)
three_letters (x ∷ y ∷ z ∷ []) e = refl
three_letters (x ∷ y ∷ z ∷ w ∷ s) e = absurd (omega arith)

-- three letters that are the spelling of an opcode
pub reads : (s : List ℕ) (k x y z : ℕ) → spell_opcode (opcode_of k) ≡ x ∷ y ∷ z ∷ [] → k < 13 → length s ≡ 3 → get_or s 0 0 ≡ x → get_or s 1 0 ≡ y → get_or s 2 0 ≡ z → some k ≡ (opcode_field s).number
reads s k x y z e h l a b c = sym ((opcode_exactly s k).1 (h, e ∙ rw (a, b, c) at (three_letters s l)))

-- three letters that are none
abbrev pub Named : ℕ → ℕ → ℕ → Type 0
Named x y z = ((x ≡ 110) × ((y ≡ 111) × (z ≡ 112))) ⊎ (((x ≡ 106) × ((y ≡ 109) × (z ≡ 112))) ⊎ (((x ≡ 110) × ((y ≡ 111) × (z ≡ 116))) ⊎ (((x ≡ 109) × ((y ≡ 111) × (z ≡ 118))) ⊎ (((x ≡ 97) × ((y ≡ 110) × (z ≡ 100))) ⊎ (((x ≡ 111) × ((y ≡ 114) × (z ≡ 114))) ⊎ (((x ≡ 120) × ((y ≡ 111) × (z ≡ 114))) ⊎ (((x ≡ 108) × ((y ≡ 115) × (z ≡ 108))) ⊎ (((x ≡ 108) × ((y ≡ 115) × (z ≡ 114))) ⊎ (((x ≡ 97) × ((y ≡ 100) × (z ≡ 100))) ⊎ (((x ≡ 109) × ((y ≡ 117) × (z ≡ 108))) ⊎ (((x ≡ 98) × ((y ≡ 101) × (z ≡ 113))) ⊎ ((x ≡ 98) × ((y ≡ 110) × (z ≡ 101))))))))))))))

named : (o : Opcode) → Named (get_or (spell_opcode o) 0 0) (get_or (spell_opcode o) 1 0) (get_or (spell_opcode o) 2 0)
unfolding spell_opcode
named Nop = inl (refl, (refl, refl))
named Jmp = inr (inl (refl, (refl, refl)))
named Not = inr (inr (inl (refl, (refl, refl))))
named Mov = inr (inr (inr (inl (refl, (refl, refl)))))
named And = inr (inr (inr (inr (inl (refl, (refl, refl))))))
named Orr = inr (inr (inr (inr (inr (inl (refl, (refl, refl)))))))
named Xor = inr (inr (inr (inr (inr (inr (inl (refl, (refl, refl))))))))
named Lsl = inr (inr (inr (inr (inr (inr (inr (inl (refl, (refl, refl)))))))))
named Lsr = inr (inr (inr (inr (inr (inr (inr (inr (inl (refl, (refl, refl))))))))))
named Add = inr (inr (inr (inr (inr (inr (inr (inr (inr (inl (refl, (refl, refl)))))))))))
named Mul = inr (inr (inr (inr (inr (inr (inr (inr (inr (inr (inl (refl, (refl, refl))))))))))))
named Beq = inr (inr (inr (inr (inr (inr (inr (inr (inr (inr (inr (inl (refl, (refl, refl)))))))))))))
named Bne = inr (inr (inr (inr (inr (inr (inr (inr (inr (inr (inr (inr (refl, (refl, refl)))))))))))))

pub unnamed : (s : List ℕ) → (length s ≡ 3 → Named (get_or s 0 0) (get_or s 1 0) (get_or s 2 0) → ⊥) → none ≡ (opcode_field s).number
unnamed s h = by (opcode_field s).number refl
  where
    by : (n : Option ℕ) → (opcode_field s).number ≡ n → none ≡ n
    by none e = refl
    by (some k) e =
        let q : spell_opcode (opcode_of k) ≡ s = ((opcode_exactly s k).0 e).1 in
        absurd (h (ap length (sym q) ∙ opcode_3 (opcode_of k)) (subst (λ (t : List ℕ). Named (get_or t 0 0) (get_or t 1 0) (get_or t 2 0)) q (named (opcode_of k))))

-- ---- a literal is no destination

pub literal_tests : (k : ℕ) → no_literal (some k) ≡ cond (ltb k 1) (some k) (cond (ltb k 257) none (some k))
literal_tests k = ap (λ (t : Bool). cond t none (some k)) (literal_number k) ∙ by (ltb k 1) (ltb k 257)
  where
    by : (t u : Bool) → cond (cond t false u) none (some k) ≡ cond t (some k) (cond u none (some k))
    by true u = refl
    by false true = refl
    by false false = refl
