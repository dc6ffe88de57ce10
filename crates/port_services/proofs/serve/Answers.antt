-- `port_services::serve` meets its contract, by code. Assumes nothing.
use mathlib.Core.Path.{refl}
use Rattle.events.specs.Shown.{call_of}
use Rattle.ports.proofs.PortAt.{put-kept}
use Rattle.port_services.proofs.Cases.{serve-put, serve-get, serve-clear, serve-status}
use Rattle.port_services.proofs.serve.Goals as goal

pub returns-in-WriteSamplingMessage : goal.returns-in-WriteSamplingMessage
returns-in-WriteSamplingMessage c = rw (serve-put _ _ _ c.args.call _ c.in-WriteSamplingMessage.is) c.put.ensures

pub returns-in-ReadSamplingMessage : goal.returns-in-ReadSamplingMessage
returns-in-ReadSamplingMessage c = rw (serve-get _ _ _ c.args.call _ c.in-ReadSamplingMessage.is) (c.get.ensures (call_of c.args.call) refl)

pub returns-in-ClearQueuingPort : goal.returns-in-ClearQueuingPort
returns-in-ClearQueuingPort c = rw (serve-clear _ _ _ c.args.call _ c.in-ClearQueuingPort.is) (c.clear.ensures (call_of c.args.call) refl)

pub returns-in_default : goal.returns-in_default
returns-in_default c =
    let a = c.args in
    let other = c.in_default in
    rw (serve-status _ _ _ a.call _ other.not-WriteSamplingMessage other.not-ReadSamplingMessage other.not-SendQueuingMessage other.not-ReceiveQueuingMessage other.not-ClearQueuingPort)
    (c.status.ensures, put-kept a.ports.now.numbers a.ports.now.bytes a.k)
