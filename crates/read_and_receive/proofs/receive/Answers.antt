-- `read_and_receive::receive` meets its contract: 2 where the port is empty, else its oldest message. Assumes nothing.
use Rattle.service_contracts.proofs.Contents.{none-held, some-held, oldest-held}
use Rattle.service_contracts.proofs.Refused.{kept}
use Rattle.read_and_receive.proofs.Laws.{head-short}
use Rattle.read_and_receive.proofs.receive.Goals as goal

pub returns-then-number-eq0 : goal.returns-then-number-eq0
returns-then-number-eq0 c =
    let a = c.args in
    rw (none-held a.numbers.now a.bytes.now a.k c.number.ensures c.if-number-eq0.true) (kept c.refused.ensures)

pub returns : goal.returns
returns c =
    let a = c.args in
    let found = oldest-held a.numbers.now a.bytes.now a.k c.number.ensures c.if-number-eq0.false in
    let taken = c.take_oldest-letter.ensures found.0 found.1 found.2 in
    let short = head-short a.numbers.now a.bytes.now a.k c.requires.sized found.0 found.1 found.2 in
    rw found.2 (c.told_message.ensures found.0 short taken.0, taken.1)

pub take_oldest-letter-requires-clause-fact : goal.take_oldest-letter-requires-clause-fact
take_oldest-letter-requires-clause-fact c = some-held c.args.numbers.now c.args.bytes.now c.args.k c.number.ensures c.if-number-eq0.false
