-- `record_fields::names::name_ended` meets its contract: `all` looks at each byte of the name with the one after it.
-- Assumes nothing.
use Rattle.std.proofs.Common.{rules, refl}
use Rattle.model.specs.Tables.{name_start}
use Rattle.tables.proofs.Ranges.{all-in_range}
use Rattle.record_fields.proofs.Searched.{follows, here, next}
use Rattle.record_fields.proofs.names.name_ended.Goals as goal

pub returns : goal.returns
returns c =
    let r = c.args.«record» in
    all-in_range (follows r.tables.bytes.now (name_start r.number)) 0 29 _ _ _ refl c.all.ensures.ran (λ y b q k. rw (here r.number y, next r.number y) (search rules))
