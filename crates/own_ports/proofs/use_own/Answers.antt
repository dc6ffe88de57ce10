-- `own_ports::use_own` meets its contract: the port-level service, raised to the state. Assumes nothing.
use Rattle.events.specs.Shown.{call_of}
use Rattle.service_contracts.proofs.Holding.{rows_of, fits-of}
use Rattle.own_ports.proofs.OwnPorts.{use-refused, use-served}
use Rattle.own_ports.proofs.use_own.Goals as goal

pub own-requires : goal.own-requires
own-requires c = rows_of c.requires

pub returns-in_default : goal.returns-in_default
returns-in_default c =
    let a = c.args in
    use-refused a.tables.bytes.now a.ports.now.numbers a.ports.now.bytes a.p a.time a.call.event.now (call_of a.call) c.in_default.ensures c.refused.ensures

pub serve-requires : goal.serve-requires
serve-requires c =
    let o = c.in-Some.ensures in
    fits-of c.requires c.in-Some.k o.2 c.in-Some.row o.3

pub returns : goal.returns
returns c =
    let a = c.args in
    let o = c.in-Some.ensures in
    let after = c.serve.new.ports in
    use-served a.tables.bytes.now a.ports.now.numbers a.ports.now.bytes a.p a.time a.call.event.now (call_of a.call) c.requires o.0 o.1 o.3 after.numbers after.bytes c.serve.ensures
