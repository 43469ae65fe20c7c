-- `expander::starts::start_at` meets its contract. By whether there is such a start. Assumes nothing.
use mathlib.Core.Path.{◌≡◌, sym, ◌∙◌}
use lib.ListN.{get_or}
use Rattle.std.proofs.Common.{rules}
use Rattle.expander.proofs.StartTable.{looked_up_any}
use Rattle.expander.proofs.starts.start_at.Goals as goal

pub returns : goal.returns
returns c =
    let a = c.args in
    let got : c.unwrap_or.result ≡ get_or a.starts.now a.t 0 = search rules in
    got ∙ sym (looked_up_any a.starts.now a.t c.told-starts)
