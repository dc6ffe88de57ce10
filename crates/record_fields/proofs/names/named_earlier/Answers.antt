-- `record_fields::names::named_earlier` meets its contract: `any` looks at each earlier port.
-- Assumes nothing.
use Rattle.std.proofs.Common.{rules, refl}
use Rattle.model.specs.Load.{same_owner_and_name}
use Rattle.tables.proofs.Ranges.{any-in_range}
use Rattle.record_fields.proofs.names.named_earlier.Goals as goal

pub returns : goal.returns
returns c =
    let r = c.args.«record» in
    rw (← r.tables.laid.windowed) (any-in_range (same_owner_and_name r.tables.bytes.now r.number) r.tables.windows r.number _ _ _ refl c.any.ensures.ran (λ y b q k. search rules))
