-- `printing::size::digit_count` meets its contract. Assumes nothing.
use native.Mathlib.Omega.{arith}
use borrow.Author.Rules.{rules}
use borrow.Author.Tests.{lt-ltb, le-ltb}
use Rattle.printing.proofs.SizeLaws.{decimal-size}
use Rattle.printing.proofs.size.digit_count.Goals as goal

pub returns-in-0-to-9 : goal.returns-in-0-to-9
returns-in-0-to-9 c = (rw (decimal-size c.args.n, lt-ltb c.args.n 10000 (omega arith), lt-ltb c.args.n 1000 (omega arith), lt-ltb c.args.n 100 (omega arith), lt-ltb c.args.n 10 (omega arith)), search rules)

pub returns-in-10-to-99 : goal.returns-in-10-to-99
returns-in-10-to-99 c = (rw (decimal-size c.args.n, lt-ltb c.args.n 10000 (omega arith), lt-ltb c.args.n 1000 (omega arith), lt-ltb c.args.n 100 (omega arith), le-ltb c.args.n 10 (omega arith)), search rules)

pub returns-in-100-to-999 : goal.returns-in-100-to-999
returns-in-100-to-999 c = (rw (decimal-size c.args.n, lt-ltb c.args.n 10000 (omega arith), lt-ltb c.args.n 1000 (omega arith), le-ltb c.args.n 100 (omega arith), le-ltb c.args.n 10 (omega arith)), search rules)

pub returns-in-1000-to-9999 : goal.returns-in-1000-to-9999
returns-in-1000-to-9999 c = (rw (decimal-size c.args.n, lt-ltb c.args.n 10000 (omega arith), le-ltb c.args.n 1000 (omega arith), le-ltb c.args.n 100 (omega arith), le-ltb c.args.n 10 (omega arith)), search rules)

pub returns-in_default : goal.returns-in_default
returns-in_default c = (rw (decimal-size c.args.n, le-ltb c.args.n 10000 (omega arith), le-ltb c.args.n 1000 (omega arith), le-ltb c.args.n 100 (omega arith), le-ltb c.args.n 10 (omega arith)), search rules)
