-- What a field's answer says of the field that was read: a number where there is one, else the condition that holds. Assumes nothing.
use mathlib.Core.Path.{◌≡◌, sym, ap, ◌∙◌}
use Prim.Native.Nat.{ℕ}
use native.Mathlib.Omega.{arith}
use Rattle.std.specs.Prelude.{Option as Field, None, Some, Result, Ok, Err, ok_or}
use Rattle.std.proofs.Math.Option.{Option, none, some}
use Rattle.model.specs.declared.Condition.{Condition}
use Rattle.text.specs.Fields.{found}

pub right : {x : Option ℕ} (o : Field ℕ) (e : Condition) {r : Result ℕ Condition} {k : ℕ} → found o ≡ x → r ≡ ok_or o e → r ≡ Ok k → x ≡ some k
right (Some n) e h v q = let z : n ≡ _ = cc in sym h ∙ ap some z
right None e h v q = absurd (let z : ◌≡◌ {A = ℕ} 0 1 = cc in omega arith)

pub record Wrong (x : Option ℕ) (e f : Condition) : Type 0 where
  pub missing : x ≡ none
  pub condition : f ≡ e

pub wrong : {x : Option ℕ} (o : Field ℕ) (e : Condition) {f : Condition} {r : Result ℕ Condition} → found o ≡ x → r ≡ ok_or o e → r ≡ Err f → Wrong x e f
wrong (Some n) e h v q = absurd (let z : ◌≡◌ {A = ℕ} 0 1 = cc in omega arith)
wrong None e h v q = record { missing = sym h; condition = cc }
