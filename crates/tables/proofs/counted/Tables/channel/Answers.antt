-- `tables::counted::Tables::channel` meets its contract: the channels start where the ports end.
-- Assumes nothing.
use Rattle.std.proofs.Common.{arith}
use Rattle.tables.proofs.Places.{first-channel}
use Rattle.tables.proofs.counted.Tables.channel.Goals as goal

pub returns-clause-which : goal.returns-clause-which
returns-clause-which c = omega (arith, c.record.ensures.which, first-channel _ _ _ _ c.args.self.laid)
