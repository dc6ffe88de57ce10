-- One number of a port's row set: which field of the port that is.
-- Assumes nothing.
use Prim.Native.Nat.{ℕ}
use mathlib.Core.Path.{refl, ap}
use mathlib.Core.List.{List, []}
use lib.ListN.{set}
use Rattle.model.specs.State.{with_queue}
use Rattle.stores.specs.Ring.{queue_of, dropped}
use Rattle.stores.proofs.Laws.{queue-empty}
use Rattle.ports.specs.Held.{row_of, block_of, store_in, store_at, port_at, RowPut, PortPut}
use Rattle.ports.proofs.Rows.{row-again, row_is}
use Rattle.ports.proofs.PortAt.{port-put, block-kept, put_is}

module _ (numbers bytes : List ℕ) (k : ℕ) where
  pub put-created : {numbers' : List ℕ} (v : ℕ) → RowPut numbers numbers' k (set (row_of numbers k) 0 v)
      → PortPut numbers bytes numbers' bytes k
      (record { created = v; arrival = (port_at numbers bytes k).arrival; validity = (port_at numbers bytes k).validity; queue = (port_at numbers bytes k).queue })
  unfolding port_at row_of
  put-created v p = put_is (port-put p (block-kept bytes k)) refl

  pub put-validity : {numbers' : List ℕ} (v : ℕ) → RowPut numbers numbers' k (set (row_of numbers k) 1 v)
      → PortPut numbers bytes numbers' bytes k
      (record { created = (port_at numbers bytes k).created; arrival = (port_at numbers bytes k).arrival; validity = v; queue = (port_at numbers bytes k).queue })
  unfolding port_at row_of
  put-validity v p = put_is (port-put p (block-kept bytes k)) refl

  pub put-arrival : {numbers' : List ℕ} (v : ℕ) → RowPut numbers numbers' k (set (row_of numbers k) 2 v)
      → PortPut numbers bytes numbers' bytes k
      (record { created = (port_at numbers bytes k).created; arrival = v; validity = (port_at numbers bytes k).validity; queue = (port_at numbers bytes k).queue })
  unfolding port_at row_of
  put-arrival v p = put_is (port-put p (block-kept bytes k)) refl

  -- no message counts any more
  pub put-none : {numbers' : List ℕ} → RowPut numbers numbers' k (set (row_of numbers k) 4 0) → PortPut numbers bytes numbers' bytes k (with_queue (port_at numbers bytes k) [])
  unfolding port_at row_of
  put-none p =
      put_is (port-put p (block-kept bytes k))
      (ap (with_queue (port_at numbers bytes k)) (queue-empty (store_in (set (row_of numbers k) 4 0) (block_of bytes k)) refl))

  -- the oldest slot and the count of the store with its oldest message taken away
  pub put-dropped : {numbers' numbers'' : List ℕ} → RowPut numbers numbers' k (set (row_of numbers k) 3 (dropped (store_at numbers bytes k)).oldest)
      → RowPut numbers' numbers'' k (set (row_of numbers' k) 4 (dropped (store_at numbers bytes k)).count)
      → PortPut numbers bytes numbers'' bytes k (with_queue (port_at numbers bytes k) (queue_of (dropped (store_at numbers bytes k))))
  unfolding port_at store_at row_of dropped
  put-dropped p q =
      put_is (port-put (row-again p (row_is q (ap (λ r. set r 4 (dropped (store_at numbers bytes k)).count) p.here))) (block-kept bytes k)) refl
