-- `ports::put_store` meets its contract: row and block are put, and that is the port put. Assumes nothing.
use mathlib.Core.Path.{◌≡◌, ◌∙◌, ap}
use lib.ListN.{length, set}
use lib.Seq.{paste}
use Rattle.ports.proofs.Rows.{row-again, row_is, lengths-put, block-put}
use Rattle.ports.proofs.PortAt.{port-put, put_is, store-row}
use borrow.Author.Rules.{rules}
use Rattle.ports.proofs.put_store.Goals as goal

pub returns : goal.returns
returns c =
    let a = c.args in
    let st = a.st.now in
    let eight : length st.lengths ≡ 8 = search rules in
    let whole : length st.bytes ≡ 512 = search rules in
    let oldest = c.set_number in
    let count = c.set_number-2 in
    let lengths = lengths-put st.lengths (count.auto.numbers ∙ oldest.auto.numbers ∙ c.requires.0) c.requires.2 eight c.lay.ensures in
    let block = block-put c.requires.1 c.requires.2 whole c.lay-2.ensures in
    let turned = row-again oldest.ensures (row_is count.ensures (ap (λ r. set r 4 st.count) oldest.ensures.here)) in
    let row = row-again turned (row_is lengths (ap (λ r. paste r 5 st.lengths 8) turned.here)) in
    put_is (port-put row block) (store-row a.numbers.now a.bytes.now a.k st eight)
