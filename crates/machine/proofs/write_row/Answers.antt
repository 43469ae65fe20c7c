-- `machine::write_row` meets its contract. The loop's invariant: the first i numbers of the row stand in the store, the rest of
-- it is as it was. Assumes nothing.
use Rattle.std.proofs.Common.{◌≡◌, ℕ, ◌+◌, ◌*◌, ◌<◌, ◌≤◌, List, ◌++◌, length, get_or, take, drop, set, ap, ◌∙◌, add-one, arith, take_all}
use lib.Seq.{paste, paste-suc, length-paste}
use Rattle.model.specs.Limits.{row_width}
use Rattle.machine.proofs.write_row.Goals as goal

module _ (t t' : List ℕ) (k : ℕ) (r : List ℕ) (i : ℕ) (e : t' ≡ paste t k r i) (l : length r ≡ row_width) where
  same_size : k + row_width ≤ length t → i ≤ row_width → length t' ≡ length t
  same_size h j = ap length e ∙ length-paste t k r i (omega arith) (omega arith)

  one_number : k + row_width ≤ length t → i < row_width → set t' (k + i) (get_or r i 0) ≡ paste t k r (i + 1)
  one_number h j = rw (e, add-one i) (paste-suc t k r i 0 (omega arith) (omega arith))

  whole_row : i ≤ row_width → row_width ≤ i → t' ≡ take k t ++ r ++ drop (k + row_width) t
  whole_row h j =
      let z : i ≡ row_width = omega arith in
      e ∙ rw (z, take_all row_width r (omega arith))

pub loop-i-preserved : goal.loop-i-preserved
loop-i-preserved c =
    let x = c.args in
    let l = c.loop-i in
    (l.invariant.0, one_number x.trace.now l.trace (row_width * x.n) x.row l.i l.invariant.1 l.invariant.0 c.requires c.loop-i-test.true)

pub returns : goal.returns
returns c =
    let x = c.args in
    let l = c.loop-i in
    whole_row x.trace.now l.trace (row_width * x.n) x.row l.i l.invariant.1 l.invariant.0 (omega arith) (omega arith)
