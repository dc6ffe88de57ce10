-- `event_step::turn` meets its contract, by what the event asks. Assumes nothing.
use Rattle.std.proofs.Common.{sym}
use Rattle.service_contracts.proofs.Acts.{refused-does}
use Rattle.event_step.specs.Turned.{clock_of}
use Rattle.event_step.proofs.Laws
use Rattle.event_step.proofs.turn.Goals as goal

pub returns-in-Clock : goal.returns-in-Clock
returns-in-Clock c =
    let t = c.args.tables.bytes.now in
    Laws.acts (Laws.at-clock t _ c.args.event.now (sym c.in-Clock.ensures.asked))
    (Laws.schedule-does t (clock_of c.args.clock) (clock_of c.tick-next.result) c.args.modes.now c.args.ports.now.numbers c.args.ports.now.bytes c.told_number.result c.tick-next.ensures c.told_number.ensures)

pub returns-in-Unknown : goal.returns-in-Unknown
returns-in-Unknown c =
    Laws.acts (Laws.at-unknown c.args.tables.bytes.now _ c.args.event.now (sym c.in-Unknown.ensures.asked))
    (refused-does assumption)
