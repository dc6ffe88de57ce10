-- `channel_ends::destination_fits` meets its contract: `destination-end` says the test of an end that has a row.
-- Assumes nothing.
use Rattle.std.proofs.Common.{◌∙◌, sym}
use Rattle.model.specs.Load.{end_fits}
use Rattle.channel_ends.proofs.ChannelEnds.{rowed, rowless, destination-end}
use Rattle.channel_ends.proofs.destination_fits.Goals as goal

pub returns-in-Some : goal.returns-in-Some
returns-in-Some c =
    let r = c.args.channel in
    let t = r.tables.bytes.now in
    let found = c.in-Some.ensures.some in
    let its = c.requires.source_row in
    let own = rowed t _ _ (rw c.id.ensures.value at found.has) in
    let from = rowed t _ _ its.has in
    (rw (found.same, its.same, own.stands, from.stands) at c.takes_from.ensures) ∙ sym (destination-end t r.number c.args.j c.requires.j_nonzero.0 own.has)

pub returns-in-None : goal.returns-in-None
unfolding end_fits
returns-in-None c =
    let t = c.args.channel.tables.bytes.now in
    rw (rowless t _ (rw c.id.ensures.value at c.in-None.ensures.none))
