use Rattle.std.proofs.Common.{arith}
use Rattle.event_list.proofs.OneMore.{one_more}
use Rattle.event_list.proofs.run_events.Goals as goal

pub loop-i-preserved : goal.loop-i-preserved
loop-i-preserved c =
    let l = c.loop-i in
    let a = c.args in
    let r = c.turn_at-present in
    one_more a.tables.bytes.now l.i a.events.now (omega arith) a.clock a.modes.now a.ports.now.numbers a.ports.now.bytes a.answers.now
    l.present l.modes l.ports.numbers l.ports.bytes l.answers r.result r.new.modes r.new.ports.numbers r.new.ports.bytes r.new.answers
    l.invariant r.ensures
