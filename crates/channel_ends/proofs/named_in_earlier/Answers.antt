-- `channel_ends::named_in_earlier` meets its contract: `any` looks at each earlier channel.
-- Assumes nothing.
use Rattle.std.proofs.Common.{rules, refl}
use Rattle.tables.proofs.Ranges.{any-in_range}
use Rattle.channel_ends.proofs.Searched.{names}
use Rattle.channel_ends.proofs.named_in_earlier.Goals as goal

pub returns : goal.returns
returns c =
    let x = c.args in
    let t = x.channel.tables.bytes.now in
    let looked = any-in_range (names t x.id) c.first_channel.result x.channel.number _ _ _ refl c.any.ensures.ran (λ y b q k. search rules) in
    rw (← c.first_channel.ensures) looked
