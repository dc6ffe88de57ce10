-- `runner_text::records::how` meets its contract: three fields. Assumes nothing.
use mathlib.Core.Path.{◌∙◌}
use native.Mathlib.Omega.{arith}
use Rattle.runner_text.specs.Text.{how}
use Rattle.runner_text.proofs.Laws
use Rattle.runner_text.proofs.records.how.Goals as goal

pub returns : goal.returns
unfolding how
returns c =
    Laws.adds_fields (omega (arith, c.requires)) c.from.ensures c.from-2.ensures (c.from-3.ensures ∙ c.word16.ensures)
    c.field.ensures c.field-2.ensures c.field-3.ensures
