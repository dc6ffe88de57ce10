-- `tables::layout::port_count` meets its contract: the ports end where they start or after it.
-- Assumes nothing.
use native.Mathlib.Omega.{arith}
use Rattle.model.specs.Tables.{ports}
use Rattle.tables.proofs.Places.{ports-after}
use Rattle.tables.proofs.layout.port_count.Goals as goal

pub overflow_sub-result : goal.overflow_sub-result
overflow_sub-result c = omega (arith, ports-after c.args.t.now)

pub returns : goal.returns
unfolding ports
returns c = cc
