-- A port's row with its marks, arrival and count zero is a port that is not created.
-- Assumes nothing.
use Prim.Native.Nat.{ℕ}
use mathlib.Core.Path.{refl, ap}
use mathlib.Core.List.{List}
use lib.ListN.{set}
use Rattle.model.specs.State.{with_queue, fresh}
use Rattle.stores.proofs.Laws.{queue-empty}
use Rattle.ports.specs.Held.{row_of, block_of, store_in, RowPut, PortPut}
use Rattle.ports.proofs.PortAt.{port-put, put_is, block-kept}
use Rattle.ports.proofs.Rows.{row-again, row_is}

pub unmade-row : {n₀ n₁ n₂ n₃ n₄ : List ℕ} {k : ℕ} → RowPut n₀ n₁ k (set (row_of n₀ k) 0 0) → RowPut n₁ n₂ k (set (row_of n₁ k) 1 0) → RowPut n₂ n₃ k (set (row_of n₂ k) 2 0)
    → RowPut n₃ n₄ k (set (row_of n₃ k) 4 0) → (bytes : List ℕ) → PortPut n₀ bytes n₄ bytes k fresh
unfolding row_of
unmade-row {n₀} {n₁} {n₂} {n₃} {n₄} {k} a b c d bytes =
    let ab = row-again a (row_is b (ap (λ r. set r 1 0) a.here)) in
    let abc = row-again ab (row_is c (ap (λ r. set r 2 0) ab.here)) in
    let abcd = row-again abc (row_is d (ap (λ r. set r 4 0) abc.here)) in
    put_is (port-put abcd (block-kept bytes k))
    (ap (with_queue fresh) (queue-empty (store_in (set (set (set (set (row_of n₀ k) 0 0) 1 0) 2 0) 4 0) (block_of bytes k)) refl))
