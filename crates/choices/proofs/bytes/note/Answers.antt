-- `choices::bytes::note` meets its contract. Assumes nothing.
use mathlib.Core.Path.{◌≡◌, sym, ◌∙◌}
use mathlib.Core.Bool.{true, false}
use mathlib.Core.List.{List, [], ◌∷◌, ◌++◌}
use Prim.Native.Nat.{ℕ, suc, ◌+◌, ◌≤◌}
use native.Mathlib.Omega.{arith}
use lib.ListN.{length, get_or, set, length-set}
use lib.Seq.{get_or-set_same}
use Rattle.sets.specs.Walk.{set_width, max_values, listed, member, insert}
use Rattle.choices.proofs.SetBytes.{listed_new}
use Rattle.choices.proofs.bytes.note.Goals as goal

old : (x : ℕ) (xs : List ℕ) → member x xs ≡ true → xs ≡ insert xs x
unfolding insert
old x xs e = rw e

behind : (x : ℕ) (xs : List ℕ) → member x xs ≡ false → xs ++ x ∷ [] ≡ insert xs x
unfolding insert
behind x xs e = rw e

module _ (f : List ℕ) (x : ℕ) (l : length f ≡ suc set_width) (h : get_or f 0 0 ≤ max_values) where
  abbrev grown : List ℕ
  grown = set (set f (1 + get_or f 0 0) x) 0 (get_or f 0 0 + 1)

  new : member x (listed f) ≡ false → listed grown ≡ insert (listed f) x
  new e = listed_new f x (omega arith) ∙ behind x (listed f) e

  count : get_or grown 0 0 ≤ set_width
  count = omega (arith, get_or-set_same (set f (1 + get_or f 0 0) x) 0 (get_or f 0 0 + 1) 0 (omega (arith, length-set f (1 + get_or f 0 0) x)))

pub returns-then-is_member : goal.returns-then-is_member
returns-then-is_member c = (old _ _ (sym c.is_member.ensures ∙ c.if-is_member.true), omega (arith, c.requires))

pub returns : goal.returns
returns c = (new c.args.found.now c.args.x c.told-found c.requires (sym c.is_member.ensures ∙ c.if-is_member.false), count c.args.found.now c.args.x c.told-found c.requires)
