-- `event_list::run_events` meets its contract: after i turns the first i events are run. Assumes nothing.
use Rattle.event_list.specs.Stepped.{RunsTo}
use Rattle.event_list.proofs.run_events.Given as goal

abbrev pub invariant-loop-i : goal.invariant-loop-i
invariant-loop-i l = RunsTo l.tables.bytes.now l.i l.events l.initial.present l.initial.modes l.initial.ports.numbers l.initial.ports.bytes l.initial.answers l.present l.modes l.ports.numbers l.ports.bytes l.answers
