-- `read_and_receive::read` meets its contract: 1 where the port is empty, else the message and its validity. Assumes nothing.
use Prim.Native.Nat.{◌≤◌, ◌<◌}
use mathlib.Core.Path.{◌≡◌, sym, ◌∙◌, ap, subst}
use lib.ListN.{get_or, set}
use Rattle.model.specs.State.{valid}
use Rattle.model.specs.Answers.{told_message}
use Rattle.model.specs.Services.{mark}
use Rattle.tables.specs.Shown.{row_of}
use Rattle.events.specs.Shown.{told_as}
use Rattle.stores.specs.declared.Store.{Store}
use Rattle.stores.specs.Ring.{slot_of, oldest_of}
use Rattle.stores.proofs.Laws.{oldest-head}
use Rattle.ports.specs.Held
use Rattle.ports.specs.Held.{store_at, port_at}
use Rattle.ports.proofs.Rows.{row_is}
use Rattle.ports.proofs.PortAt.{store-queue}
use Rattle.ports.proofs.Marks.{put-validity}
use Rattle.service_contracts.proofs.Contents.{sized_of, none-held, some-held, oldest-held, arrival-is}
use Rattle.read_and_receive.proofs.Laws.{some-count, head-short}
use Rattle.service_contracts.proofs.Refused.{kept}
use Rattle.read_and_receive.proofs.Cases.{read_some}
use Rattle.read_and_receive.proofs.read.Goals as goal

pub returns-then-number-eq0 : goal.returns-then-number-eq0
returns-then-number-eq0 c =
    let a = c.args in
    rw (none-held a.numbers.now a.bytes.now a.k c.number.ensures c.if-number-eq0.true) (kept c.refused.ensures)

pub returns : goal.returns
returns c =
    let a = c.args in
    let n = a.numbers.now in
    let b = a.bytes.now in
    let q = port_at n b a.k in
    let r = row_of a.row in
    let found = oldest-held n b a.k c.number.ensures c.if-number-eq0.false in
    let some = some-count n b a.k (some-held n b a.k c.number.ensures c.if-number-eq0.false) in
    let held = store-queue n b a.k ∙ found.2 in
    let short = head-short n b a.k (sized_of n b a.k a.row c.requires.fits) found.0 found.1 found.2 in
    let v : c.validity-v.result ≡ mark (valid r.refresh a.time q.arrival) =
    c.validity-v.ensures
    ∙ ap (λ x. mark (valid x a.time c.number-2.result)) c.refresh.ensures
    ∙ ap (λ x. mark (valid r.refresh a.time x)) (c.number-2.ensures ∙ sym (arrival-is n b a.k))
    in
    let letter = c.oldest-letter.ensures ∙ ap oldest_of c.take_store.ensures ∙ oldest-head (store_at n b a.k) some found.0 found.1 held in
    let marked = row_is c.set_number.ensures (ap (λ x. set (Held.row_of n a.k) 1 x) (c.from.ensures ∙ v)) in
    rw (read_some r.refresh a.time q found.0 found.1 found.2) (
      c.told_message.ensures found.0 short letter ∙ ap (λ x. told_as a.doer (told_message found.0 x)) v,
      put-validity n b a.k (mark (valid r.refresh a.time q.arrival)) marked,
    )

pub oldest-letter-requires : goal.oldest-letter-requires
oldest-letter-requires c =
    let a = c.args in
    let n = a.numbers.now in
    let b = a.bytes.now in
    let some = some-count n b a.k (some-held n b a.k c.number.ensures c.if-number-eq0.false) in
    let taken = sym c.take_store.ensures in
    record {
      count_nonzero = subst (λ (st : Store). 0 < st.count) taken some;
      st_bound = subst (λ (st : Store). get_or st.lengths (slot_of st 0) 0 ≤ 64) taken ((sized_of n b a.k a.row c.requires.fits).short 0 some);
    }
