-- `write_and_send::store` meets its contract, by the case of the row. Assumes nothing.
use mathlib.Core.Path.{sym, ap}
use Rattle.model.specs.State.{with_queue, offer}
use Rattle.stores.specs.Ring.{written}
use Rattle.ports.specs.Held.{port_at}
use Rattle.ports.proofs.PortAt.{put_is}
use Rattle.write_and_send.proofs.Laws.{stored-sampling, stored-queuing}
use Rattle.write_and_send.proofs.store.Goals as goal

pub returns-in-Sampling : goal.returns-in-Sampling
returns-in-Sampling c =
    let a = c.args in
    let q = port_at a.ports.now.numbers a.ports.now.bytes a.k in
    let m = written a.letter.now in
    put_is c.put_alone.ensures (ap (with_queue q) (sym (stored-sampling a.row c.in-Sampling.field-0 q.queue m c.in-Sampling.is)))

pub returns-in-Queuing : goal.returns-in-Queuing
returns-in-Queuing c =
    let a = c.args in
    let q = port_at a.ports.now.numbers a.ports.now.bytes a.k in
    put_is {q = with_queue q (offer c.in-Queuing.depth q.queue (written a.letter.now))} c.offer.ensures
    (ap (with_queue q) (sym (stored-queuing a.row c.in-Queuing.depth q.queue (written a.letter.now) c.in-Queuing.is)))
