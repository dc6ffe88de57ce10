-- `read_and_receive::take_oldest` meets its contract: the letter of the oldest message, and the store without it. Assumes nothing.
use Prim.Native.Nat.{◌≤◌, ◌<◌}
use mathlib.Core.Path.{sym, ◌∙◌, ap, subst}
use lib.ListN.{get_or, set}
use Rattle.model.specs.State.{with_queue}
use Rattle.stores.specs.declared.Store.{Store}
use Rattle.stores.specs.Ring.{slot_of, dropped, oldest_of}
use Rattle.stores.proofs.Laws.{oldest-head}
use Rattle.ports.specs.Held
use Rattle.ports.specs.Held.{store_at, port_at}
use Rattle.ports.proofs.Rows.{row_is}
use Rattle.ports.proofs.PortAt.{put_is, store-queue}
use Rattle.ports.proofs.Marks.{put-dropped}
use Rattle.read_and_receive.proofs.Laws.{some-count, rest-is}
use Rattle.read_and_receive.proofs.take_oldest.Goals as goal

pub drop_oldest-requires : goal.drop_oldest-requires
drop_oldest-requires c =
    let a = c.args in
    subst (λ (st : Store). 0 < st.count) (sym c.take_store-st.ensures) (some-count a.numbers.now a.bytes.now a.k c.requires.fact)

pub returns : goal.returns
returns c =
    λ m rest e.
    let a = c.args in
    let n = a.numbers.now in
    let b = a.bytes.now in
    let q = port_at n b a.k in
    let st = store_at n b a.k in
    let some = some-count n b a.k c.requires.fact in
    let held = store-queue n b a.k ∙ e in
    let left = c.drop_oldest.ensures ∙ ap dropped c.take_store-st.ensures in (
      c.oldest.ensures ∙ ap oldest_of c.take_store-st.ensures ∙ oldest-head st some m rest held,
      put_is
          (put-dropped n b a.k
          (row_is c.set_number.ensures (ap (λ (s : Store). set (Held.row_of n a.k) 3 s.oldest) left))
          (row_is c.set_number-2.ensures (ap (λ (s : Store). set (Held.row_of c.set_number.new.numbers a.k) 4 s.count) left)))
          (ap (with_queue q) (rest-is st some m rest held)),
    )

pub oldest-requires : goal.oldest-requires
oldest-requires c =
    let a = c.args in
    let some = some-count a.numbers.now a.bytes.now a.k c.requires.fact in
    let taken = sym c.take_store-st.ensures in
    record {
      count_nonzero = subst (λ (st : Store). 0 < st.count) taken some;
      st_bound = subst (λ (st : Store). get_or st.lengths (slot_of st 0) 0 ≤ 64) taken (c.requires.sized.short 0 some);
    }
