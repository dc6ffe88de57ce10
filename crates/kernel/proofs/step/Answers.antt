-- `kernel::step` meets its contract: 27, or the event carried out. Assumes nothing.
use lib.ListN.{length}
use borrow.Author.Tests.{ne_eqb}
use Rattle.kernel.proofs.Laws
use Rattle.kernel.proofs.step.Goals as goal

pub returns-then-event-ne-EVENT_SIZE : goal.returns-then-event-ne-EVENT_SIZE
returns-then-event-ne-EVENT_SIZE c = Laws.refuses-27 c.args.t.now c.args.state c.args.event.now c.args.answers.now (ne_eqb (length c.args.event.now) 80 c.if-event-ne-EVENT_SIZE.true)
