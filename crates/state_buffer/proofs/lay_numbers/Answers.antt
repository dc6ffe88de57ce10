use Prim.Native.Nat.{◌+◌, ◌*◌}
use mathlib.Core.Path.{◌≡◌, sym, ◌∙◌, ap, ap₂}
use native.Mathlib.Omega.{arith}
use lib.ListN.{length, get_or, take}
use lib.Seq.{length-take-le}
use Rattle.model.specs.Words.{bytes32}
use Rattle.stores.specs.Ring.{pasted}
use Rattle.settled_form.proofs.Parts.{pasted-behind}
use Rattle.state_buffer.specs.Layout.{bytes_of_all}
use Rattle.state_buffer.proofs.Laws.{all-length, all-next}
use Rattle.state_buffer.proofs.lay_numbers.Goals as goal

pub loop-i-preserved : goal.loop-i-preserved
loop-i-preserved c =
    let s = c.args in
    let l = c.loop-i in
    let numbers = s.numbers.now in
    let so_far = bytes_of_all (take l.i numbers) in
    let long : length so_far ≡ 4 * l.i = all-length (take l.i numbers) ∙ ap (λ n. 4 * n) (length-take-le l.i numbers (omega arith)) in
    c.lay_number.ensures
    ∙ ap₂ (λ o k. pasted o (s.at + k) (bytes32 (get_or numbers l.i 0))) l.invariant (sym long)
    ∙ pasted-behind s.out.now s.at so_far (bytes32 (get_or numbers l.i 0)) (omega arith)
    ∙ ap (pasted s.out.now s.at) (sym (all-next numbers l.i (omega arith)))
