-- `modes::unmake` meets its contract: four numbers set. Assumes nothing.
use Rattle.modes.proofs.Unmade.{unmade-row}
use Rattle.modes.proofs.unmake.Goals as goal

pub returns : goal.returns
returns c = unmade-row c.set_number.ensures c.set_number-2.ensures c.set_number-3.ensures c.set_number-4.ensures
