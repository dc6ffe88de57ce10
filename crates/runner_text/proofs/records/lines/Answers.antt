use mathlib.Core.Path.{sym, ap}
use native.Mathlib.Numerals.{add-one}
use native.Mathlib.Omega.{arith}
use Rattle.runner_text.specs.Text.{lines}
use Rattle.runner_text.proofs.Laws
use Rattle.runner_text.proofs.records.lines.Goals as goal

pub loop-i-init : goal.loop-i-init
loop-i-init c = Laws.adds_none c.args.page.now

pub loop-i-preserved : goal.loop-i-preserved
loop-i-preserved c =
    let a = c.args in
    let l = c.loop-i in
    Laws.adds_as (omega arith) (sym (ap (lines a.first a.events.now a.answers.now) (add-one l.i)))
    (Laws.adds_then (omega (arith, c.requires.2, c.loop-i-test.true)) l.invariant c.line.ensures)
