-- `tables::layout::run_end` meets its contract: `find` gives the first record of another kind.
-- Assumes nothing.
use Rattle.std.proofs.Common.{◌∙◌, rules, arith, refl}
use Rattle.tables.specs.Runs.{other_kind}
use Rattle.tables.proofs.Ranges.{first-in_range}
use Rattle.tables.proofs.layout.run_end.Goals as goal

pub returns : goal.returns
returns c =
    let x = c.args in
    let e = c.records-end.ensures in
    let found = first-in_range (other_kind x.wanted x.t.now) x.start c.records-end.result _ _ _ refl (omega (arith, c.requires, e)) c.find.ensures.ran (λ y b q k. search rules) in
    c.unwrap_or.ensures ∙ rw (← e) found
