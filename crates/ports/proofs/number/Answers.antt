-- `ports::number` meets its contract: the number stands where the row has it. Assumes nothing.
use mathlib.Core.Path.{sym}
use borrow.Author.Rules.{rules}
use Rattle.ports.proofs.Rows.{row-at}
use Rattle.ports.proofs.number.Goals as goal

pub returns : goal.returns
returns c = sym (row-at c.args.numbers.now c.args.k c.args.j (search rules))
