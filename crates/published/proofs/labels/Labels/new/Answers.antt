-- `published::labels::Labels::new` meets its contract: arrays of one value, which are not counted. Assumes nothing.
use Prim.Native.Nat.{ℕ}
use lib.ListN.{length-replicate}
use Rattle.published.specs.Published.{max_labels}
use Rattle.published.specs.declared.labels.Entry.{Entry}
use Rattle.published.specs.Table.{buckets, blank}
use Rattle.published.proofs.TableLaws.{zeros}
use Rattle.published.proofs.CollectLaws.{none_linked}
use Rattle.published.proofs.labels.Labels.new.Goals as goal

pub invariant_of-result : goal.invariant_of-result
invariant_of-result c = record { linked = none_linked c.args.text.now _ _ (zeros buckets) (length-replicate {A = ℕ} buckets 0) (length-replicate {A = Entry} max_labels blank) }
