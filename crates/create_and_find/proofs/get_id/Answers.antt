-- `create_and_find::get_id` meets its contract: the port that the look-up finds, if it is created. Assumes nothing.
use Prim.Native.Nat.{◌≤◌}
use mathlib.Core.Path.{refl, ◌∙◌, ap}
use native.Mathlib.Numerals.{add-one}
use native.Mathlib.Omega.{arith}
use Rattle.model.specs.Tables.{ports}
use Rattle.model.specs.Services.{look_up}
use Rattle.model.specs.Answers.{told_id}
use Rattle.model.proofs.Accepted.{accepted}
use Rattle.events.specs.Shown.{call_of, told_as}
use Rattle.service_contracts.proofs.Holding.{rows_of}
use Rattle.service_contracts.proofs.Acts.{refused-does}
use Rattle.create_and_find.proofs.Found.{id-none, id-unmade, id-made}
use Rattle.create_and_find.proofs.get_id.Goals as goal

pub look_up-requires-clause-rows : goal.look_up-requires-clause-rows
look_up-requires-clause-rows c = rows_of c.requires

pub returns-in_default : goal.returns-in_default
returns-in_default c =
    let a = c.args in
    let past : ports a.tables.bytes.now ≤ look_up a.tables.bytes.now a.p c.need.result.mode a.call.event.now = omega (arith, c.in_default.ensures) in
    λ modes clock. rw
    (id-none a.tables.bytes.now clock modes a.ports.now.numbers a.ports.now.bytes a.p a.call.event.now (call_of a.call) c.need.ensures past) (refused-does c.refused.ensures)

pub number-requires : goal.number-requires
number-requires c =
    let t = accepted c.args.tables.bytes.now c.requires.accepted in
    (omega (arith, c.in-Some.ensures.0, t.few_ports), omega arith)

pub returns-then-number-ne1 : goal.returns-then-number-ne1
returns-then-number-ne1 c =
    let a = c.args in
    λ modes clock. rw
    (id-unmade a.tables.bytes.now clock modes a.ports.now.numbers a.ports.now.bytes a.p a.call.event.now (call_of a.call) c.need.ensures c.in-Some.ensures c.number.ensures c.if-number-ne1.true) (refused-does c.refused-then-number-ne1.ensures)

pub overflow_cast-k : goal.overflow_cast-k
overflow_cast-k c =
    let t = accepted c.args.tables.bytes.now c.requires.accepted in
    record { fits = omega (arith, c.in-Some.ensures.0, t.few_ports) }

pub returns : goal.returns
returns c =
    let a = c.args in
    λ modes clock. rw
    (id-made a.tables.bytes.now clock modes a.ports.now.numbers a.ports.now.bytes a.p a.call.event.now (call_of a.call) c.need.ensures c.in-Some.ensures c.number.ensures c.if-number-ne1.false)
    (record { answered = c.told_id.ensures ∙ ap (λ i. told_as a.p (told_id i)) (add-one c.in-Some.k); left = refl })
