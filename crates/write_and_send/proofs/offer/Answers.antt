-- `write_and_send::offer` meets its contract: a full store stays, and one with room takes the letter. Assumes nothing.
use Prim.Native.Nat.{◌≤◌, ◌<◌}
use mathlib.Core.Path.{sym, ◌∙◌, ap}
use native.Mathlib.Omega.{arith}
use mathlib.Core.List.{[], ◌∷◌, ◌++◌}
use lib.ListN.{length}
use Rattle.model.specs.State.{with_queue}
use Rattle.stores.specs.Ring.{queue_of, written}
use Rattle.ports.specs.Held.{port_at}
use Rattle.ports.proofs.PortAt.{put_is, put-kept, count-is, store-count, store-queue}
use Rattle.write_and_send.proofs.Laws.{offer-full, offer-room}
use Rattle.write_and_send.proofs.offer.Goals as goal

pub returns-then-depth-number : goal.returns-then-depth-number
returns-then-depth-number c =
    let a = c.args in
    let n = a.ports.now.numbers in
    let b = a.ports.now.bytes in
    let q = port_at n b a.k in
    let held = count-is n b a.k in
    let read = c.number.ensures in
    let full : a.depth ≤ length q.queue = omega (arith, held, read, c.if-depth-number.true) in
    put_is (put-kept n b a.k) (ap (with_queue q) (sym (offer-full a.depth q.queue (written a.letter.now) full)))

pub returns : goal.returns
returns c =
    let a = c.args in
    let n = a.ports.now.numbers in
    let b = a.ports.now.bytes in
    let q = port_at n b a.k in
    let m = written a.letter.now in
    let held = count-is n b a.k in
    let read = c.number.ensures in
    let room : length q.queue < a.depth = omega (arith, held, read, c.if-depth-number.false) in
    put_is c.put_store.ensures
    (ap (with_queue q)
    (c.push.ensures.queued
    ∙ ap (λ queue. queue ++ m ∷ []) (ap queue_of c.take_store-st.ensures ∙ store-queue n b a.k)
    ∙ sym (offer-room a.depth q.queue m room)))

pub push-requires : goal.push-requires
push-requires c =
    let a = c.args in
    omega (arith, c.requires.1, c.number.ensures, c.if-depth-number.false, ap (λ st. st.count) c.take_store-st.ensures, store-count a.ports.now.numbers a.ports.now.bytes a.k)
