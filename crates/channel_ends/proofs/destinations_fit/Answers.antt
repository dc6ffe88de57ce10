-- `channel_ends::destinations_fit` meets its contract: `all` looks at each destination.
-- Assumes nothing.
use Rattle.std.proofs.Common.{◌∙◌, rules, refl, sym}
use Rattle.model.specs.Load.{end_fits}
use Rattle.tables.proofs.Ranges.{all-in_range}
use Rattle.channel_ends.proofs.Searched.{destinations-whole}
use Rattle.channel_ends.proofs.destinations_fit.Goals as goal

pub returns : goal.returns
returns c =
    let r = c.args.channel in
    let t = r.tables.bytes.now in
    all-in_range (end_fits t r.number) 1 c.end_count.result _ _ _ refl c.all.ensures.ran (λ y b q k. search rules) ∙ sym (destinations-whole t r.number _ c.end_count.ensures.count)
