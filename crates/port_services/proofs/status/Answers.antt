-- `port_services::status` meets its contract, by the case of the row. Assumes nothing.
use native.Mathlib.Omega.{arith}
use Rattle.events.specs.Shown.{told_as}
use Rattle.ports.specs.Held.{port_at}
use Rattle.ports.proofs.PortAt.{count-is}
use Rattle.service_contracts.proofs.Contents.{validity-is}
use Rattle.port_services.proofs.Laws.{status-sampling, status-queuing}
use Rattle.port_services.proofs.status.Goals as goal

pub overflow_cast-result : goal.overflow_cast-result
overflow_cast-result c =
    let a = c.args in
    let n = a.ports.now.numbers in
    let b = a.ports.now.bytes in
    record { fits = omega (arith, c.number.ensures, validity-is n b a.k, c.requires.port.judged) }

pub returns-in-Sampling : goal.returns-in-Sampling
unfolding told_as
returns-in-Sampling c =
    let a = c.args in
    let n = a.ports.now.numbers in
    let b = a.ports.now.bytes in
    let q = port_at n b a.k in
    rw (status-sampling a.row c.in-Sampling.refresh q c.in-Sampling.is, validity-is n b a.k, c.number.ensures, c.done.ensures)

pub returns-in-Queuing : goal.returns-in-Queuing
unfolding told_as
returns-in-Queuing c =
    let a = c.args in
    let n = a.ports.now.numbers in
    let b = a.ports.now.bytes in
    let q = port_at n b a.k in
    rw (status-queuing a.row c.in-Queuing.depth q c.in-Queuing.is, ← (count-is n b a.k), c.count_told.ensures, c.number-in-Queuing.ensures, c.done.ensures)
