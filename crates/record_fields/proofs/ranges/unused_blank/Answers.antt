-- `record_fields::ranges::unused_blank` meets its contract: `all` looks at each end past the count.
-- Assumes nothing.
use Rattle.std.proofs.Common.{◌∙◌, rules, refl, sym, ◌+◌}
use Rattle.tables.proofs.Ranges.{all-in_range}
use Rattle.record_fields.proofs.Searched.{is_unused, unused-whole}
use Rattle.record_fields.proofs.ranges.unused_blank.Goals as goal

pub returns : goal.returns
returns c =
    let r = c.args.«record» in
    let looked = all-in_range (is_unused r.tables.bytes.now r.number) (c.from.result + 1) 9 _ _ _ refl c.all.ensures.ran (λ y b q k. search rules) in
    (rw c.from.ensures at looked) ∙ sym (unused-whole r.tables.bytes.now r.number c.args.count)
