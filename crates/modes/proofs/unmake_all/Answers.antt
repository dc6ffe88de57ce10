use mathlib.Core.Path.{◌≡◌, subst}
use native.Mathlib.Omega.{arith}
use Rattle.model.specs.Tables.{ports}
use Rattle.modes.proofs.Sweep.{Swept, swept_all}
use Rattle.modes.proofs.unmake_all.Goals as goal

pub returns : goal.returns
returns c =
    let a = c.args in
    let t = a.tables.bytes.now in
    let n = a.numbers.now in
    let l = c.loop-k in
    let all : l.k ≡ ports t = omega (arith, a.tables.laid.ported, c.loop-k-test.false, l.auto.k-end) in
    swept_all t a.p n (ports t) l.numbers (subst (λ k. Swept t a.p k n l.numbers) all l.invariant)
