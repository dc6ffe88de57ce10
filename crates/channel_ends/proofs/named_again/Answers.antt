-- `channel_ends::named_again` meets its contract: `any` looks at each end.
-- Assumes nothing.
use Rattle.std.proofs.Common.{◌∙◌, rules, refl, sym}
use Rattle.model.specs.Load.{named_before}
use Rattle.tables.proofs.Ranges.{any-in_range}
use Rattle.channel_ends.proofs.Searched.{again-whole}
use Rattle.channel_ends.proofs.named_again.Goals as goal

pub returns : goal.returns
returns c =
    let r = c.args.channel in
    let t = r.tables.bytes.now in
    any-in_range (named_before t r.number) 0 c.end_count.result _ _ _ refl c.any.ensures.ran (λ y b q k. search rules) ∙ sym (again-whole t r.number _ c.end_count.ensures.count)
