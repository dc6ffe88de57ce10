-- `moves::transmit` meets its contract: an empty source is refused, and else the oldest message is taken and delivered. Assumes nothing.
use Rattle.std.proofs.Common.{◌<◌, arith}
use Rattle.model.specs.Tables.{channels}
use Rattle.moves.proofs.Channels.{few-channels, source-few, source-sized, source-some, source-held, source-carried, moved, unmoved}
use Rattle.moves.proofs.transmit.Goals as goal

pub overflow_cast-doer : goal.overflow_cast-doer
overflow_cast-doer c =
    let there : c.args.c < channels c.args.tables.bytes.now = omega arith in
    omega (arith, few-channels c.requires.held c.args.c there)

pub overflow_add-doer : goal.overflow_add-doer
overflow_add-doer c =
    let there : c.args.c < channels c.args.tables.bytes.now = omega arith in
    omega (arith, few-channels c.requires.held c.args.c there)

pub waiting-requires : goal.waiting-requires
waiting-requires c =
    let there : c.args.c < channels c.args.tables.bytes.now = omega arith in
    source-few c.requires.held c.args.c there c.source_port-k.ensures

pub returns-then-waiting-eq0 : goal.returns-then-waiting-eq0
returns-then-waiting-eq0 c =
    let there : c.args.c < channels c.args.tables.bytes.now = omega arith in
    unmoved c.requires.held c.args.c there c.source_port-k.ensures c.waiting.ensures c.args.time c.if-waiting-eq0.true c.refused.ensures

pub take_oldest-letter-requires-clause-there : goal.take_oldest-letter-requires-clause-there
take_oldest-letter-requires-clause-there c =
    let there : c.args.c < channels c.args.tables.bytes.now = omega arith in
    omega (arith, source-few c.requires.held c.args.c there c.source_port-k.ensures)

pub take_oldest-letter-requires-clause-sized : goal.take_oldest-letter-requires-clause-sized
take_oldest-letter-requires-clause-sized c =
    let there : c.args.c < channels c.args.tables.bytes.now = omega arith in
    source-sized c.requires.held c.args.c there c.source_port-k.ensures

pub take_oldest-letter-requires-clause-fact : goal.take_oldest-letter-requires-clause-fact
take_oldest-letter-requires-clause-fact c =
    let there : c.args.c < channels c.args.tables.bytes.now = omega arith in
    source-some c.requires.held c.args.c there c.source_port-k.ensures c.waiting.ensures c.if-waiting-eq0.false

pub deliver-requires : goal.deliver-requires
deliver-requires c =
    let there : c.args.c < channels c.args.tables.bytes.now = omega arith in
    let found = c.source_port-k.ensures in
    let counted = c.waiting.ensures in
    let some = c.if-waiting-eq0.false in
    let gone = c.take_oldest-letter.ensures in
    record {
      held = source-held c.requires.held c.args.c there found counted some gone;
      there = c.requires.there;
      carried = source-carried c.requires.held c.args.c there found counted some gone;
    }

pub returns : goal.returns
returns c =
    let there : c.args.c < channels c.args.tables.bytes.now = omega arith in
    moved c.requires.held c.args.c there c.source_port-k.ensures c.waiting.ensures c.if-waiting-eq0.false c.take_oldest-letter.ensures
    c.args.time c.deliver.new.ports.numbers c.deliver.new.ports.bytes c.deliver.ensures assumption
