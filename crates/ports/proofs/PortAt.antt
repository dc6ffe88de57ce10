-- Laws of ports in the lent arrays: one port put, and the list of ports after it.
-- Assumes nothing.
use Prim.Native.Nat.{ℕ, zero, suc, ◌+◌, ◌*◌, ◌<◌}
use mathlib.Core.Path.{◌≡◌, refl, sym, ◌∙◌, ap, ap₂}
use mathlib.Core.Bool.{Bool, true, false}
use mathlib.Core.List.{List, append-nil}
use native.Mathlib.Nat.{zero-add, add-zero}
use native.Mathlib.Omega.{arith}
use lib.Dec.{eqb}
use lib.ListN.{length, get_or, take, drop, set, length-set, length-drop}
use lib.Seq.{ext_get_or, get_or-set_same, get_or-set_other, paste, take_all, length-take-le}
use borrow.Author.Tests.{eqb-true, eqb-false}
use Rattle.model.specs.State.{Port, fresh, with_queue}
use Rattle.stores.specs.Ring.{queue_of}
use Rattle.stores.proofs.Laws.{queue-length}
use Rattle.stores.specs.declared.Store.{Store}
use Rattle.ports.specs.Held.{row_of, block_of, store_at, port_in, port_at, ports_from, ports_of, RowPut, BlockPut, PortPut}

module _ (numbers bytes : List ℕ) where
  from-length : (n k : ℕ) → length (ports_from numbers bytes n k) ≡ n
  from-length zero k = refl
  from-length (suc n) k = ap suc (from-length n (suc k))

  from_at : (n k i : ℕ) → i < n → get_or (ports_from numbers bytes n k) i fresh ≡ port_at numbers bytes (k + i)
  from_at zero k i h = absurd (omega arith)
  from_at (suc n) k zero h = rw add-zero
  from_at (suc n) k (suc i) h = from_at n (suc k) i (omega arith) ∙ ap (port_at numbers bytes) (omega arith)

  pub ports-length : (n : ℕ) → length (ports_of numbers bytes n) ≡ n
  unfolding ports_of
  ports-length n = from-length n 0

  pub ports-at : (n k : ℕ) → k < n → get_or (ports_of numbers bytes n) k fresh ≡ port_at numbers bytes k
  unfolding ports_of
  ports-at n k h = from_at n 0 k h ∙ ap (port_at numbers bytes) (zero-add k)

-- one port put is that element of the list set
pub ports-put : {numbers bytes numbers' bytes' : List ℕ} {k : ℕ} {q : Port} (n : ℕ) → k < n → PortPut numbers bytes numbers' bytes' k q
    → ports_of numbers' bytes' n ≡ set (ports_of numbers bytes n) k q
ports-put {numbers} {bytes} {numbers'} {bytes'} {k} {q} n h p =
    ext_get_or fresh _ _ (ports-length numbers' bytes' n ∙ sym (length-set (ports_of numbers bytes n) k q ∙ ports-length numbers bytes n)) (λ i l. at i (omega (arith, l, ports-length numbers' bytes' n)))
  where
    at : (i : ℕ) → i < n → get_or (ports_of numbers' bytes' n) i fresh ≡ get_or (set (ports_of numbers bytes n) k q) i fresh
    at i l = ports-at numbers' bytes' n i l ∙ go (eqb i k) refl
      where
        go : (b : Bool) → eqb i k ≡ b → port_at numbers' bytes' i ≡ get_or (set (ports_of numbers bytes n) k q) i fresh
        go true e =
            ap (port_at numbers' bytes') (eqb-true i k e)
            ∙ p.here
            ∙ sym (ap (λ x. get_or (set (ports_of numbers bytes n) k q) x fresh) (eqb-true i k e) ∙ get_or-set_same (ports_of numbers bytes n) k q fresh (omega (arith, ports-length numbers bytes n)))
        go false e =
            p.elsewhere i (eqb-false i k e)
            ∙ sym (get_or-set_other (ports_of numbers bytes n) k i q fresh (eqb-false i k e) ∙ ports-at numbers bytes n i l)

-- a row put, with or without a block, is a port put
pub port-put : {numbers bytes numbers' bytes' : List ℕ} {k : ℕ} {row block : List ℕ} → RowPut numbers numbers' k row → BlockPut bytes bytes' k block
    → PortPut numbers bytes numbers' bytes' k (port_in row block)
unfolding port_at
port-put p b = record { here = ap₂ port_in p.here b.here; elsewhere = λ j other. ap₂ port_in (p.elsewhere j other) (b.elsewhere j other) }

pub block-kept : (bytes : List ℕ) (k : ℕ) → BlockPut bytes bytes k (block_of bytes k)
block-kept bytes k = record { here = refl; elsewhere = λ j other. refl }

pub put_is : {numbers bytes numbers' bytes' : List ℕ} {k : ℕ} {q r : Port} → PortPut numbers bytes numbers' bytes' k q → q ≡ r → PortPut numbers bytes numbers' bytes' k r
put_is p e = record { here = p.here ∙ e; elsewhere = p.elsewhere }

-- the row of a store that is put
pub store-row : (numbers bytes : List ℕ) (k : ℕ) (st : Store) → length st.lengths ≡ 8
    → port_in (paste (set (set (row_of numbers k) 3 st.oldest) 4 st.count) 5 st.lengths 8) st.bytes ≡ with_queue (port_at numbers bytes k) (queue_of st)
unfolding port_at row_of
store-row numbers bytes k st l = rw (append-nil (take 8 st.lengths), take_all 8 st.lengths (omega arith))

pub put-kept : (numbers bytes : List ℕ) (k : ℕ) → PortPut numbers bytes numbers bytes k (port_at numbers bytes k)
put-kept numbers bytes k = record { here = refl; elsewhere = λ j other. refl }

-- the store that is taken out of port k: its arrays are whole, its count is the row's number, and its messages are the port's
module _ (numbers bytes : List ℕ) (k : ℕ) where
  pub store-queue : queue_of (store_at numbers bytes k) ≡ (port_at numbers bytes k).queue
  unfolding store_at port_at
  store-queue = refl

  pub store-count : (store_at numbers bytes k).count ≡ get_or (row_of numbers k) 4 0
  unfolding store_at
  store-count = refl

  pub store-lengths : length (store_at numbers bytes k).lengths ≡ 8
  unfolding store_at row_of
  store-lengths = refl

  pub store_bytes : length bytes ≡ 32768 → k < 64 → length (store_at numbers bytes k).bytes ≡ 512
  unfolding store_at block_of
  store_bytes l h = length-take-le 512 (drop (512 * k) bytes) (simp length-drop (omega arith))

  pub count-is : get_or (row_of numbers k) 4 0 ≡ length (port_at numbers bytes k).queue
  count-is = sym store-count ∙ sym (queue-length (store_at numbers bytes k)) ∙ ap length store-queue
