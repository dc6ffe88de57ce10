-- `event_step::call_turn` meets its contract: nobody in a mover window, else the caller. Assumes nothing.
use Rattle.std.proofs.Common.{sym, ◌∙◌, subst, arith}
use Rattle.model.specs.Services.{service}
use Rattle.model.proofs.Accepted.{accepted}
use Rattle.events.specs.Shown.{call_of}
use Rattle.service_contracts.specs.Did.{shown}
use Rattle.service_contracts.proofs.Acts.{refused-does}
use Rattle.event_step.specs.Turned.{clock_of}
use Rattle.event_step.proofs.Laws
use Rattle.event_step.proofs.call_turn.Goals as goal

pub returns-then-owner-eq-MOVER : goal.returns-then-owner-eq-MOVER
returns-then-owner-eq-MOVER c =
    Laws.acts (Laws.at-mover-call c.args.tables.bytes.now _ c.args.call.event.now (call_of c.args.call) c.requires.asked (sym c.window_partition-owner.ensures ∙ c.if-owner-eq-MOVER.true))
    (refused-does c.refused.ensures)

pub returns : goal.returns
returns c =
    let t = c.args.tables.bytes.now in
    let e = c.args.call.event.now in
    let k = c.args.clock in
    let st = shown t (clock_of k) c.args.modes.now c.args.ports.now.numbers c.args.ports.now.bytes in
    let o = c.window_partition-owner.ensures in
    let f = call_of c.args.call in
    Laws.acts (subst (λ p. Laws.At t st e p (service t k.time st p e f)) (sym o) (Laws.at_call t st e f c.requires.asked (λ z. c.if-owner-eq-MOVER.false (o ∙ z))))
    (c.service.ensures (clock_of k))

pub service-requires-clause-p_in_bounds : goal.service-requires-clause-p_in_bounds
service-requires-clause-p_in_bounds c =
    let t = c.args.tables.bytes.now in
    let h = c.requires.ready in
    let few = Laws.owner-few t (accepted t h.held.accepted) c.args.clock.window h.ranged.in_window (λ z. c.if-owner-eq-MOVER.false (c.window_partition-owner.ensures ∙ z)) in
    omega (arith, few, c.window_partition-owner.ensures, h.ranged.sixteen)
