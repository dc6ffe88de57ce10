-- The laws of a state in settled form: it shows the same ports, and its store indexes are in range.
-- Assumes nothing.
use Prim.Native.Nat.{ℕ, zero, suc, ◌+◌, ◌*◌, ◌≤◌, ◌<◌}
use mathlib.Core.Path.{◌≡◌, refl, ◌∙◌, ap, ap₂}
use mathlib.Core.Bool.{Bool, true}
use mathlib.Core.List.{List}
use native.Mathlib.Omega.{arith}
use lib.Dec.{ltb}
use lib.ListN.{length, get_or, drop}
use lib.Seq.{ext_get_or}
use Rattle.model.specs.Words.{all}
use Rattle.model.specs.Tables.{Tables}
use Rattle.model.specs.Tables.{ports as port_count}
use Rattle.model.specs.State.{Port, fresh, with_queue}
use Rattle.model.proofs.Tests.{both}
use Rattle.stores.specs.Ring.{lay_out}
use Rattle.stores.proofs.Laws.{queue-lay_out}
use Rattle.ports.specs.Held.{row_of, port_in, port_at, ports_of}
use Rattle.ports.proofs.PortAt.{ports-length, ports-at}
use Rattle.state_test.specs.Tested.{indexed}
use Rattle.settled_form.specs.Settled.{port_numbers, port_bytes, settled_numbers, settled_bytes, Storable}
use Rattle.settled_form.proofs.Laid.{row_back, block_back}

-- each number of a search passes
all_true : (p : ℕ → Bool) (n k e : ℕ) → k + n ≤ e → ((i : ℕ) → i < e → p i ≡ true) → all p n k ≡ true
all_true p zero k e h f = refl
all_true p (suc n) k e h f = both (f k (omega arith)) (all_true p n (suc k) e (omega arith) f)

-- the port of a settled row and block
settled-port : (q : Port) → Storable q → port_in (port_numbers q) (port_bytes q) ≡ q
unfolding port_numbers port_bytes lay_out
settled-port q h = ap (with_queue q) (queue-lay_out q.queue h.few h.short)

-- a settled state shows the ports that it was made of, whatever stands behind them
pub settled-shows : (ps : List Port) (numbers bytes : List ℕ) → ((k : ℕ) → k < length ps → Storable (get_or ps k fresh))
    → ports_of (settled_numbers ps numbers) (settled_bytes ps bytes) (length ps) ≡ ps
unfolding port_at settled_numbers settled_bytes
settled-shows ps numbers bytes each =
    ext_get_or fresh _ _ (ports-length (settled_numbers ps numbers) (settled_bytes ps bytes) (length ps))
    (λ k h. at k (omega (arith, h, ports-length (settled_numbers ps numbers) (settled_bytes ps bytes) (length ps))))
  where
    at : (k : ℕ) → k < length ps → get_or (ports_of (settled_numbers ps numbers) (settled_bytes ps bytes) (length ps)) k fresh ≡ get_or ps k fresh
    at k h =
        ports-at (settled_numbers ps numbers) (settled_bytes ps bytes) (length ps) k h
        ∙ ap₂ port_in (row_back ps (drop (13 * length ps) numbers) k h) (block_back ps (drop (512 * length ps) bytes) k h)
        ∙ settled-port (get_or ps k fresh) (each k h)

-- its store indexes are in range
pub settled-indexed : (t : Tables) (ps : List Port) (numbers : List ℕ) → length ps ≡ port_count t → indexed t (settled_numbers ps numbers) ≡ true
unfolding indexed settled_numbers port_numbers
settled-indexed t ps numbers whole =
    all_true (λ k. ltb (get_or (row_of (settled_numbers ps numbers) k) 3 0) 8) (port_count t) 0 (port_count t) (omega arith)
    (λ k h. ap (λ r. ltb (get_or r 3 0) 8) (row_back ps (drop (13 * length ps) numbers) k (omega arith)))
