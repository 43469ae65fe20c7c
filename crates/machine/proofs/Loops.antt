-- The loop over steps, one turn at a time: what is left gives the same outcome as the whole.
-- Assumes nothing.
use Rattle.std.proofs.Common.{◌≡◌, ℕ, zero, suc, ◌+◌, ◌-◌, ◌<◌, ◌≤◌, List, sym, ap, ◌∙◌, arith, le-ltb, lt-ltb}
use Rattle.model.specs.Answers.{Outcome}
use Rattle.machine.specs.Loop.{Machine, step_by, step_of, halted_at, spent_at, run_from}

module _ (p : List ℕ) (n b : ℕ) (m : Machine) where
  pub begins : run_from p n (b - 0) m ≡ run_from p n b m
  begins = let z : b - 0 ≡ b = omega arith in rw z

  pub spends : m.run.counter < n → b ≤ m.run.steps → run_from p n (b - m.run.steps) m ≡ spent_at m
  unfolding run_from
  spends h k =
      let z : b - m.run.steps ≡ 0 = omega arith in
      rw (z, lt-ltb _ _ h)

  one_more : m.run.counter < n → m.run.steps < b → run_from p n (b - m.run.steps) m ≡ run_from p n (b - (m.run.steps + 1)) (step_of p m)
  unfolding run_from
  one_more h k =
      let z : b - m.run.steps ≡ suc (b - (m.run.steps + 1)) = omega arith in
      rw (z, lt-ltb _ _ h)

  pub goes_on : (m' : Machine) (o : Outcome) → m.run.counter < n → m.run.steps < b → m' ≡ step_of p m
      → run_from p n (b - m.run.steps) m ≡ o → run_from p n (b - m'.run.steps) m' ≡ o
  unfolding step_by
  goes_on m' o h k q e = rw q (sym (one_more h k) ∙ e)

pub halts : (p : List ℕ) (n b : ℕ) (m : Machine) → n ≤ m.run.counter → run_from p n b m ≡ halted_at m
unfolding run_from
halts p n zero m h = rw (le-ltb _ _ h)
halts p n (suc b) m h = rw (le-ltb _ _ h)

-- a step adds one to the tally
pub tally : (p : List ℕ) (m m' : Machine) → m' ≡ step_of p m → m'.run.steps ≡ m.run.steps + 1
unfolding step_by
tally p m m' e = ap (λ (x : Machine). x.run.steps) e
