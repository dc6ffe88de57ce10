-- `tables::counted::Tables::first_channel` meets its contract: the channels start where the ports end.
-- Assumes nothing.
use Rattle.tables.proofs.Places.{first-channel}
use Rattle.tables.proofs.counted.Tables.first_channel.Goals as goal

pub returns : goal.returns
returns c = first-channel _ _ _ _ c.args.self.laid
