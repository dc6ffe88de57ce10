-- `channel_ends::channel_ends_fit` meets its contract: each test is a part of the definition, in its order.
-- Assumes nothing.
use Rattle.std.proofs.Common.{sym, arith}
use Rattle.std.proofs.lemmas.Grind.{common_steps}
use Rattle.std.proofs.lemmas.Bool.Decides.{nat_tests}
use Rattle.channel_ends.proofs.ChannelEnds.{in-turn, sourceless}
use Rattle.channel_ends.proofs.channel_ends_fit.Goals as goal

pub returns-in_default : goal.returns-in_default
returns-in_default c =
    let r = c.args.channel in
    sym (sourceless r.tables.bytes.now r.number (rw c.id.ensures.value at c.in_default.ensures.none))

pub destinations_fit-requires : goal.destinations_fit-requires
destinations_fit-requires c = record { has = rw c.id.ensures.value at c.in-Some.ensures.some.has; same = c.in-Some.ensures.some.same }

pub returns-then-count_fits : goal.returns-then-count_fits
returns-then-count_fits c =
    let r = c.args.channel in
    let found = c.in-Some.ensures.some in
    let parts = in-turn r.tables.bytes.now r.number c.in-Some.source.number (rw c.id.ensures.value at found.has) in
    let same = found.same in
    grind (arith, common_steps, nat_tests)

pub returns-else-count_fits : goal.returns-else-count_fits
returns-else-count_fits c =
    let r = c.args.channel in
    let found = c.in-Some.ensures.some in
    let parts = in-turn r.tables.bytes.now r.number c.in-Some.source.number (rw c.id.ensures.value at found.has) in
    let same = found.same in
    grind (arith, common_steps, nat_tests)
