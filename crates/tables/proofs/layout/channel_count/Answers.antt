-- `tables::layout::channel_count` meets its contract: the ports end within the records.
-- Assumes nothing.
use native.Mathlib.Omega.{arith}
use Rattle.model.specs.Tables.{channels}
use Rattle.tables.proofs.Places.{ports-within}
use Rattle.tables.proofs.layout.channel_count.Goals as goal

pub overflow_sub-result : goal.overflow_sub-result
overflow_sub-result c = omega (arith, ports-within c.args.t.now)

pub returns : goal.returns
unfolding channels
returns c = cc
