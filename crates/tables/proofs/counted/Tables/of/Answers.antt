-- `tables::counted::Tables::of` meets its contract: the counts are the model's, and add up to the records.
-- Assumes nothing.
use Rattle.std.proofs.Common.{arith}
use Rattle.tables.proofs.Places.{ports-after, ports-within, laid}
use Rattle.tables.proofs.counted.Tables.of.Goals as goal

pub overflow_sub-result : goal.overflow_sub-result
overflow_sub-result c = omega (arith, c.windows-first_port.ensures, c.ports_end_from-first_channel.ensures, ports-after c.args.bytes.now)

pub overflow_sub-result-2 : goal.overflow_sub-result-2
overflow_sub-result-2 c = omega (arith, c.records.ensures, c.ports_end_from-first_channel.ensures, ports-within c.args.bytes.now)

pub invariant_of-result : goal.invariant_of-result
invariant_of-result c = record { laid = laid _ _ _ _ c.windows-first_port.ensures c.ports_end_from-first_channel.ensures c.records.ensures }
