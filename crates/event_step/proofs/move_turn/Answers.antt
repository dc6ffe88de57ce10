-- `event_step::move_turn` meets its contract: nobody in a partition's window or where there is no such channel, else the channel. Assumes nothing.
use Rattle.std.proofs.Common.{sym, ◌∙◌, arith}
use Rattle.service_contracts.proofs.Acts.{refused-does}
use Rattle.event_step.specs.Turned.{clock_of}
use Rattle.event_step.proofs.Laws
use Rattle.event_step.proofs.move_turn.Goals as goal

pub returns-then-window_partition-ne-MOVER : goal.returns-then-window_partition-ne-MOVER
returns-then-window_partition-ne-MOVER c =
    λ modes event asked.
    Laws.acts (Laws.at-partition-move c.args.tables.bytes.now _ event c.args.c asked (λ z. c.if-window_partition-ne-MOVER.true (c.window_partition.ensures ∙ z)))
    (refused-does c.refused.ensures)

pub returns-then-tables-channel : goal.returns-then-tables-channel
returns-then-tables-channel c =
    λ modes event asked.
    Laws.acts (Laws.at-no-channel c.args.tables.bytes.now _ event c.args.c asked (sym c.window_partition.ensures ∙ c.if-window_partition-ne-MOVER.false) (omega arith))
    (refused-does c.refused-then-tables-channel.ensures)

pub returns : goal.returns
returns c =
    λ modes event asked.
    Laws.acts (Laws.at-move c.args.tables.bytes.now _ event c.args.c asked (sym c.window_partition.ensures ∙ c.if-window_partition-ne-MOVER.false) (omega arith))
    (c.transmit.ensures (clock_of c.args.clock) modes)
