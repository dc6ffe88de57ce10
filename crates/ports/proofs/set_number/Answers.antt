-- `ports::set_number` meets its contract. Assumes nothing.
use borrow.Author.Rules.{rules}
use Rattle.ports.proofs.Rows.{row_put}
use Rattle.ports.proofs.set_number.Goals as goal

pub returns : goal.returns
returns c = row_put c.args.numbers.now c.args.k c.args.j c.args.v c.requires.0 (search rules) (search rules)
