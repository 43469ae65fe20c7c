-- `published::taking::keep` meets its contract: the six numbers stand at their line. Assumes nothing.
use Rattle.published.proofs.ConvertLaws.{kept_none, kept_some}
use Rattle.published.proofs.taking.keep.Goals as goal

pub returns-in_default : goal.returns-in_default
returns-in_default c = kept_none c.args.store.now c.args.n c.args.r _ c.in_default.is

pub returns : goal.returns
returns c = kept_some c.args.store.now _ c.args.n c.args.r c.in-Ok.l c.target_number.result c.in-Ok.is c.target_number.ensures c.keep_at.ensures c.requires
