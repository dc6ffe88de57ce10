use mathlib.Core.Path.{◌≡◌, sym, ap, ap₂, ◌∙◌}
use Prim.Native.Nat.{ℕ, ◌≤◌}
use native.Mathlib.Omega.{arith}
use borrow.Author.Rules.{rules}
use lib.ListN.{length, take}
use lib.Seq.{take-length, length-take-le}
use Rattle.stores.specs.declared.Store.{Store}
use Rattle.stores.specs.Ring.{slot_of, message_in, queue_of, appended, lay_out}
use Rattle.stores.proofs.Laws.{queue-length, message-length, lay_out-none, lay_out-next, lay_out-count}
use Rattle.stores.proofs.Store.settled.Goals as goal

pub loop-i-init : goal.loop-i-init
loop-i-init c = c.empty-settled.ensures ∙ sym lay_out-none

pub push-requires : goal.push-requires
push-requires c =
    let st = c.args.self.now in
    let i : ℕ = c.loop-i.i in
    let few : st.count ≤ 8 = c.requires.few in
    let first = take i (queue_of st) in
    let counted : length first ≡ i = length-take-le i (queue_of st) (omega (arith, queue-length st)) in
    let held : c.loop-i.settled.count ≡ length first = ap (λ (laid : Store). laid.count) c.loop-i.invariant ∙ lay_out-count first in
    omega arith

pub loop-i-preserved : goal.loop-i-preserved
loop-i-preserved c =
    let st = c.args.self.now in
    let i : ℕ = c.loop-i.i in
    let few : st.count ≤ 8 = c.requires.few in
    let size = message-length st (search rules) (search rules) (slot_of st i) in
    let short : length (message_in st (slot_of st i)) ≤ 64 = omega (arith, size, c.requires.short i (omega arith)) in
    c.push.ensures.appended ∙ ap₂ appended c.loop-i.invariant c.letter.ensures ∙ lay_out-next st i (omega arith) (omega arith) short

pub returns : goal.returns
returns c =
    let st = c.args.self.now in
    let whole : c.loop-i.i ≡ length (queue_of st) = omega (arith, queue-length st) in
    c.loop-i.invariant ∙ ap lay_out (rw whole (take-length (queue_of st)))
