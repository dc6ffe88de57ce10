-- `read_and_receive::told_message` meets its contract. Assumes nothing.
use Rattle.read_and_receive.proofs.Laws.{handing}
use Rattle.read_and_receive.proofs.told_message.Goals as goal

pub returns : goal.returns
returns c = λ m short e. handing c.args.doer c.args.validity c.done.result c.args.letter.now m c.done.ensures short e
