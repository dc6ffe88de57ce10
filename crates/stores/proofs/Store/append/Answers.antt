-- `stores::Store::append` meets its contract: the bytes stand in the slot behind the last. Assumes nothing.
use Prim.Native.Nat.{ℕ, ◌+◌, ◌-◌, ◌*◌}
use mathlib.Core.Path.{◌≡◌, ap}
use mathlib.Core.List.{List}
use native.Mathlib.Omega.{arith}
use lib.ListN.{set}
use Rattle.std.proofs.lemmas.List.{drop-drop}
use Rattle.stores.specs.declared.Store.{Store}
use Rattle.stores.specs.Ring.{slot_of, pasted, laid_behind}
use Rattle.stores.proofs.Store.append.Goals as goal

stored : (st : Store) (bytes : List ℕ) (size at : ℕ) → at ≡ slot_of st st.count
    → record { bytes = pasted st.bytes (64 * at) bytes; lengths = set st.lengths at size; oldest = st.oldest; count = st.count + 1 } ≡ laid_behind st bytes size
unfolding laid_behind
stored st bytes size at here =
    ap (λ i. record { bytes = pasted st.bytes (64 * i) bytes; lengths = set st.lengths i size; oldest = st.oldest; count = st.count + 1 }) here

pub returns : goal.returns
returns c =
    let st = c.args.self.now in
    let at = c.slot-at.result in
    let cut : 64 * at + 64 - 64 * at ≡ 64 = omega arith in
    rw (cut, c.copy_from_slice.ensures.after, drop-drop) (rw c.requires.whole at (stored st c.args.bytes.now c.args.size at c.slot-at.ensures))
