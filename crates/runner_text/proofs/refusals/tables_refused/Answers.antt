-- `runner_text::refusals::tables_refused` meets its contract: its parts one after another. Assumes nothing.
use mathlib.Core.Path.{refl, ap}
use native.Mathlib.Omega.{arith}
use borrow.Author.Rules.{rules}
use Rattle.runner_text.specs.Text.{decimal, tables_refused}
use Rattle.runner_text.proofs.Laws
use Rattle.runner_text.proofs.refusals.tables_refused.Goals as goal

pub returns : goal.returns
unfolding tables_refused
returns c =
    let number = Laws.adds_same (ap decimal c.from.ensures) c.decimal.ensures in
    let written = Laws.adds-five (omega (arith, c.requires)) c.text.ensures number c.text-2.ensures c.decimal-2.ensures c.text-3.ensures in
    Laws.adds_all refl refl written (search (rules, written.same))
