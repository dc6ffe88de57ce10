-- `moves::hand_on` meets its contract: the row that is read is the destination's own. Assumes nothing.
use Rattle.std.proofs.Common.{◌<◌, arith}
use Rattle.model.specs.Tables.{channels}
use Rattle.stores.specs.Ring.{written}
use Rattle.moves.proofs.Channels.{few-destinations, destination-there, destination-fits, handed}
use Rattle.moves.proofs.hand_on.Goals as goal

pub destination_port-k-requires : goal.destination_port-k-requires
destination_port-k-requires c =
    let there : c.args.c < channels c.args.tables.bytes.now = omega arith in
    (c.requires.there.0, omega (arith, few-destinations c.requires.held c.args.c there))

pub row-requires : goal.row-requires
row-requires c =
    let there : c.args.c < channels c.args.tables.bytes.now = omega arith in
    omega (arith, destination-there c.requires.held c.args.c there c.args.j c.requires.there.1 c.destination_port-k.ensures)

pub arrive-requires : goal.arrive-requires
arrive-requires c =
    let there : c.args.c < channels c.args.tables.bytes.now = omega arith in
    destination-fits c.requires.held c.args.c there c.args.j c.requires.there.1 c.destination_port-k.ensures c.row.ensures

pub returns : goal.returns
returns c =
    let there : c.args.c < channels c.args.tables.bytes.now = omega arith in
    handed c.requires.held c.args.c there c.args.j c.requires.there.1 c.args.time (written c.args.letter.now) c.destination_port-k.ensures c.row.ensures c.arrive.ensures
