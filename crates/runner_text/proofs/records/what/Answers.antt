-- `runner_text::records::what` meets its contract: three fields. Assumes nothing.
use mathlib.Core.Path.{◌∙◌}
use native.Mathlib.Omega.{arith}
use Rattle.runner_text.specs.Text.{what}
use Rattle.runner_text.proofs.Laws
use Rattle.runner_text.proofs.records.what.Goals as goal

pub returns : goal.returns
unfolding what
returns c =
    Laws.adds_fields (omega (arith, c.requires)) (c.from.ensures ∙ c.word16.ensures) (c.from-2.ensures ∙ c.word32.ensures) (c.from-3.ensures ∙ c.word32-2.ensures)
    c.field.ensures c.field-2.ensures c.field-3.ensures
