-- `runner_text::records::who` meets its contract: three fields. Assumes nothing.
use mathlib.Core.Path.{refl}
use native.Mathlib.Omega.{arith}
use Rattle.runner_text.specs.Text.{who}
use Rattle.runner_text.proofs.Laws
use Rattle.runner_text.proofs.records.who.Goals as goal

pub returns : goal.returns
unfolding who
returns c =
    Laws.adds_fields (omega (arith, c.requires)) refl c.from.ensures c.from-2.ensures
    c.field.ensures c.field-2.ensures c.field-3.ensures
