-- `kernel::reader::read` meets its contract: the stretch, which lies within the answers. Assumes nothing.
use Prim.Native.Nat.{◌+◌, ◌-◌, ◌^◌, ◌<◌}
use mathlib.Core.Path.{◌≡◌, ◌∙◌, ap, ap₂}
use native.Mathlib.Omega.{arith}
use lib.ListN.{length, take, drop}
use borrow.Author.Rules.{rules}
use Rattle.model.specs.Answers.{handed}
use Rattle.kernel.proofs.Laws
use Rattle.kernel.proofs.reader.read.Goals as goal

pub overflow_add-end : goal.overflow_add-end
overflow_add-end c =
    let few_bytes : length c.args.answers.now < 2 ^ 64 = search rules in
    let b = c.args.answers.now in
    let n = c.args.number in
    let p = c.place-found.ensures in
    let inside = Laws.stretch-inside b n in
    record { fits = omega (arith, p.from, p.size, inside, few_bytes) }

pub slice_bounds-result-end : goal.slice_bounds-result-end
slice_bounds-result-end c =
    let b = c.args.answers.now in
    let n = c.args.number in
    let p = c.place-found.ensures in
    let inside = Laws.stretch-inside b n in
    omega (arith, p.from, p.size, inside)

pub returns : goal.returns
unfolding handed
returns c =
    let b = c.args.answers.now in
    let p = c.place-found.ensures in
    let x = c.place-found.result in
    let size : x.from + x.size - x.from ≡ x.size = omega arith in
    ap (λ k. take k (drop x.from b)) size ∙ ap₂ (λ f k. take k (drop f b)) p.from p.size
