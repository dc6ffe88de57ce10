-- `channel_ends::named_among` meets its contract: `any` looks at each of the ends.
-- Assumes nothing.
use Rattle.std.proofs.Common.{◌∙◌, rules, refl, sym}
use Rattle.tables.proofs.Ranges.{any-in_range}
use Rattle.channel_ends.proofs.Searched.{is_end, among-whole}
use Rattle.channel_ends.proofs.named_among.Goals as goal

pub returns : goal.returns
returns c =
    let x = c.args in
    let r = x.channel in
    any-in_range (is_end r.tables.bytes.now x.id r.number) 0 x.n _ _ _ refl c.any.ensures.ran (λ y b q k. search rules) ∙ sym (among-whole r.tables.bytes.now x.id x.n r.number)
