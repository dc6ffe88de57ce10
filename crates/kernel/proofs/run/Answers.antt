-- `kernel::run` meets its contract: 27, or the list carried out. Assumes nothing.
use Prim.Native.Nat.{◌%◌}
use lib.ListN.{length}
use borrow.Author.Tests.{ne_eqb}
use Rattle.kernel.proofs.Laws
use Rattle.kernel.proofs.run.Goals as goal

pub returns-then-events-ne0 : goal.returns-then-events-ne0
returns-then-events-ne0 c = Laws.refuses-27 c.args.t.now c.args.state c.args.events.now c.args.answers.now (ne_eqb (length c.args.events.now % 80) 0 c.if-events-ne0.true)
