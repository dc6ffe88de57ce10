-- `moves::arrive` meets its contract, by the destination's mark and then the case of its row. Assumes nothing.
use mathlib.Core.Path.{◌≡◌, sym, ap}
use native.Mathlib.Omega.{arith}
use Rattle.model.specs.State.{with_queue}
use Rattle.model.specs.Services.{stored}
use Rattle.tables.specs.Shown.{mode_of, row_of}
use Rattle.stores.specs.Ring.{written}
use Rattle.ports.specs.Held.{port_at}
use Rattle.ports.proofs.PortAt.{put_is, put-kept}
use Rattle.service_contracts.proofs.Contents.{created-is}
use Rattle.moves.proofs.Laws.{arrived-uncreated, arrived-queuing, arrived-sampling, put-stamped}
use Rattle.moves.proofs.arrive.Goals as goal

pub returns-then-number-eq0 : goal.returns-then-number-eq0
returns-then-number-eq0 c =
    let a = c.args in
    let q = port_at a.ports.now.numbers a.ports.now.bytes a.k in
    let unmade : q.created ≡ 0 = omega (arith, c.if-number-eq0.true, c.number.ensures, created-is a.ports.now.numbers a.ports.now.bytes a.k) in
    put_is (put-kept a.ports.now.numbers a.ports.now.bytes a.k) (sym (arrived-uncreated a.time (row_of a.row) (written a.letter.now) q unmade))

pub returns-in-Sampling : goal.returns-in-Sampling
returns-in-Sampling c =
    let a = c.args in
    let q = port_at a.ports.now.numbers a.ports.now.bytes a.k in
    let made : q.created ≡ 1 = omega (arith, c.number.ensures, created-is a.ports.now.numbers a.ports.now.bytes a.k, c.requires.port.marked) in
    let sampling : (row_of a.row).mode ≡ 0 = ap mode_of c.in-Sampling.is in
    put_is (put-stamped {q = with_queue q (stored (row_of a.row) q.queue (written a.letter.now))} c.store.ensures c.set_number.ensures.row c.set_number.ensures.bytes)
    (sym (arrived-sampling a.time (row_of a.row) (written a.letter.now) q made sampling))

pub returns-in-Queuing : goal.returns-in-Queuing
returns-in-Queuing c =
    let a = c.args in
    let q = port_at a.ports.now.numbers a.ports.now.bytes a.k in
    let made : q.created ≡ 1 = omega (arith, c.number.ensures, created-is a.ports.now.numbers a.ports.now.bytes a.k, c.requires.port.marked) in
    let queuing : (row_of a.row).mode ≡ 1 = ap mode_of c.in-Queuing.is in
    put_is {q = with_queue q (stored (row_of a.row) q.queue (written a.letter.now))} c.store.ensures
    (sym (arrived-queuing a.time (row_of a.row) (written a.letter.now) q made queuing))
