-- `write_and_send::put` meets its contract: the tests in their order, then the letter is stored. Assumes nothing.
use Prim.Native.Nat.{◌+◌, ◌-◌, ◌≤◌}
use mathlib.Core.Path.{◌≡◌, sym, ◌∙◌, ap}
use native.Mathlib.Omega.{arith}
use Rattle.model.specs.State.{with_queue}
use Rattle.model.specs.Services.{stored}
use Rattle.tables.specs.Shown.{row_of}
use Rattle.events.specs.Shown.{call_of}
use Rattle.stores.specs.Ring.{written}
use Rattle.ports.specs.Held.{port_at}
use Rattle.ports.proofs.PortAt.{put_is}
use Rattle.write_and_send.proofs.Laws.{written_back}
use Rattle.service_contracts.proofs.Refused.{kept}
use Rattle.write_and_send.proofs.Cases.{put-empty, put-long, put_wrong, put-stored}
use Rattle.write_and_send.proofs.put.Goals as goal

pub returns-then-call-eq0 : goal.returns-then-call-eq0
returns-then-call-eq0 c =
    let a = c.args in
    rw (put-empty _ _ (call_of a.call) _ c.if-call-eq0.true) (kept c.refused.ensures)

pub returns-then-row-call : goal.returns-then-row-call
returns-then-row-call c =
    let a = c.args in
    let some : a.call.size ≡ 0 → ⊥ = assumption in
    rw (put-long (row_of a.row) _ (call_of a.call) _ some c.if-row-call.true) (kept c.refused-then-row-call.ensures)

pub returns-then-not-directed : goal.returns-then-not-directed
returns-then-not-directed c =
    let a = c.args in
    let some : a.call.size ≡ 0 → ⊥ = assumption in
    let room : a.call.size ≤ a.row.largest = omega arith in
    rw (put_wrong (row_of a.row) _ (call_of a.call) _ some room (sym c.directed.ensures ∙ c.if-not-directed.true)) (kept c.refused-then-not-directed.ensures)

pub returns : goal.returns
returns c =
    let a = c.args in
    let r = row_of a.row in
    let e = a.call.event.now in
    let f = call_of a.call in
    let q = port_at a.ports.now.numbers a.ports.now.bytes a.k in
    let some : a.call.size ≡ 0 → ⊥ = assumption in
    let room : a.call.size ≤ a.row.largest = omega arith in
    let source = sym c.directed.ensures ∙ c.if-not-directed.false in
    let long : a.call.size ≤ 64 = omega (arith, room, c.requires.ranges.few_bytes) in
    let cut : 16 + a.call.size - 16 ≡ a.call.size = omega arith in
    let letter = ap written c.of-letter.ensures ∙ written_back e a.call.size (16 + a.call.size - 16) cut long in
    rw (put-stored r e f q some room source)
    (c.done.ensures, put_is {q = with_queue q (stored r q.queue (written c.of-letter.result))} c.store.ensures (ap (λ m. with_queue q (stored r q.queue m)) letter))
