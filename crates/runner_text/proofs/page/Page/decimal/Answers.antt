-- `runner_text::page::Page::decimal` meets its contract: the kit's decimal text is that of 01. Assumes nothing.
use mathlib.Core.Path.{sym, ◌∙◌}
use native.Mathlib.Omega.{arith}
use Rattle.runner_text.proofs.Laws
use Rattle.runner_text.proofs.Kit
use Rattle.runner_text.proofs.page.Page.decimal.Goals as goal

pub returns : goal.returns
returns c =
    Laws.adds_as (omega (arith, c.format.ensures.fits, c.as_bytes.ensures.len))
    (c.as_bytes.ensures.value ∙ c.format.ensures.text ∙ sym (Kit.decimal-kit c.args.n c.ranges.n.fits)) c.text.ensures
