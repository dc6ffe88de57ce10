use mathlib.Core.Path.{◌≡◌, sym, ◌∙◌}
use native.Mathlib.Omega.{arith}
use native.Mathlib.Nat.{zero-add}
use lib.ListN.{length}
use Rattle.stores.proofs.Lists.{paste-pasted, paste-turn}
use Rattle.state_buffer.specs.Layout.{numbers_from}
use Rattle.state_buffer.proofs.Laws.{numbers-length, numbers-at, pasted-whole}
use Rattle.state_buffer.proofs.read_numbers.Goals as goal

pub loop-i-preserved : goal.loop-i-preserved
loop-i-preserved c =
    let s = c.args in
    let l = c.loop-i in
    let n = length s.out.now in
    let numbers = numbers_from s.b.now n s.at in
    paste-turn s.out.now 0 numbers l.i l.invariant (sym (zero-add l.i))
    (c.word32.ensures ∙ sym (numbers-at s.b.now n s.at l.i (omega arith)))
    (omega arith)
    (omega (arith, numbers-length s.b.now n s.at))

pub returns : goal.returns
returns c =
    let s = c.args in
    let l = c.loop-i in
    let numbers = numbers_from s.b.now (length s.out.now) s.at in
    let long = numbers-length s.b.now (length s.out.now) s.at in
    let all : l.i ≡ length numbers = omega (arith, long) in
    l.invariant ∙ rw all (paste-pasted s.out.now 0 numbers) ∙ pasted-whole s.out.now numbers long
