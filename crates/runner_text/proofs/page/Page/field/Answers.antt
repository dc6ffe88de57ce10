-- `runner_text::page::Page::field` meets its contract: the number, then a space. Assumes nothing.
use native.Mathlib.Omega.{arith}
use Rattle.runner_text.specs.Text.{field}
use Rattle.runner_text.proofs.Laws
use Rattle.runner_text.proofs.page.Page.field.Goals as goal

pub returns : goal.returns
unfolding field
returns c = Laws.adds_then (omega (arith, c.requires)) c.decimal.ensures c.text.ensures
