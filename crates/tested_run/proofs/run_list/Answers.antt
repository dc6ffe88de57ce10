-- `tested_run::run_list` meets its contract: the run over modes and ports of its own, and the state put together. Assumes nothing.
use Rattle.std.proofs.Common.{arith}
use Rattle.model.proofs.Accepted.{accepted}
use Rattle.service_contracts.proofs.Holding.{sized-at}
use Rattle.tested_run.proofs.Laws
use Rattle.tested_run.proofs.run_list.Goals as goal

pub overflow_cast-result : goal.overflow_cast-result
overflow_cast-result c =
    record { fits = omega (arith, c.run_events-last.ensures.ready.ranged.in_window, (accepted c.args.tables.bytes.now c.requires.sound.0).few_windows) }

pub run_events-last-requires-clause-ready : goal.run_events-last-requires-clause-ready
run_events-last-requires-clause-ready c = Laws.ready_of c.args.tables.bytes.now c.args.state c.requires.sound.0 c.requires.sound.1

pub put_together-requires-clause-stored : goal.put_together-requires-clause-stored
put_together-requires-clause-stored c =
    let t = c.args.tables.bytes.now in
    let few = (accepted t c.requires.sound.0).few_ports in
    record {
      few = omega (arith, c.args.tables.laid.ported, few);
      each = λ k h. sized-at c.run_events-last.ensures.ready.held k (omega (arith, h, c.args.tables.laid.ported));
    }

pub returns : goal.returns
returns c =
    Laws.carried-out c.args.tables.bytes.now c.args.state c.args.events.now c.args.answers.now c.requires.events_len.0
    c.args.tables.laid.ported c.run_events-last.ensures c.put_together.ensures
