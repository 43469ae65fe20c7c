-- `published::labels::Labels::find` meets its contract: from label to label of one bucket, what is left gives the answer. Assumes nothing.
use Rattle.published.proofs.TableLaws.{Sought}
use Rattle.published.proofs.labels.Labels.find.Given as goal

abbrev pub invariant-loop-k : goal.invariant-loop-k
invariant-loop-k l = Sought l.self.text.now l.self.table l.self.count l.name l.k

abbrev pub decreases-loop-k : goal.decreases-loop-k
decreases-loop-k l = l.k
