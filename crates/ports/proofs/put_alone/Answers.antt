-- `ports::put_alone` meets its contract: three numbers are set and one slot is laid, and that is the port put. Assumes nothing.
use mathlib.Core.Path.{ap}
use lib.ListN.{set}
use borrow.Author.Rules.{rules}
use Rattle.ports.proofs.Rows.{row-again, row_is}
use Rattle.ports.proofs.Alone.{alone-put}
use Rattle.ports.proofs.put_alone.Goals as goal

pub returns : goal.returns
returns c =
    let size = c.args.letter.now.size in
    let first = c.set_number.ensures in
    let counted = row-again first (row_is c.set_number-2.ensures (ap (λ r. set r 4 1) first.here)) in
    let row = row-again counted (row_is c.set_number-3.ensures (ap (λ r. set r 5 size) counted.here)) in
    alone-put c.args.letter.now row c.requires.1 c.requires.2 (search rules) c.lay.ensures
