-- The state at load shows the model's, and passes test 29.
-- Assumes nothing.
use Prim.Native.Nat.{ℕ, zero, suc, ◌+◌, ◌*◌}
use mathlib.Core.Path.{◌≡◌, refl, ◌∙◌, ap, ap₂}
use mathlib.Core.Bool.{true}
use mathlib.Core.List.{List, ◌∷◌}
use lib.Dec.{ltb}
use lib.ListN.{get_or, replicate}
use Rattle.model.specs.Words.{all, zeros}
use Rattle.model.specs.Tables.{Tables}
use Rattle.model.specs.Tables.{ports as port_count}
use Rattle.model.specs.State.{partitions, cold_start, fresh, with_queue, loaded, in_range}
use Rattle.model.specs.Load.{accepts}
use Rattle.model.proofs.Tests.{both}
use Rattle.model.proofs.Accepted.{accepted}
use Rattle.model.proofs.Ranges.{in-range}
use Rattle.model.proofs.Reached.{loaded-ranged}
use Rattle.stores.proofs.Laws.{queue-empty}
use Rattle.ports.specs.Held.{all_numbers, all_bytes, numbers_from, row_of, block_of, store_in, port_at, ports_from, ports_of}
use Rattle.state_test.specs.Tested.{indexed}
use Rattle.states.specs.Shown.{shown_state, state_fits, at_load}

-- zeros read anywhere
zero-at : (m i : ℕ) → get_or (zeros m) i 0 ≡ 0
zero-at zero i = refl
zero-at (suc m) zero = refl
zero-at (suc m) (suc i) = zero-at m i

zeros-from : (m n at : ℕ) → numbers_from (zeros m) n at ≡ zeros n
zeros-from m zero at = refl
zeros-from m (suc n) at = ap₂ (λ x xs. x ∷ xs) (zero-at m at) (zeros-from m n (at + 1))

row-zeros : (m k : ℕ) → row_of (zeros m) k ≡ zeros 13
unfolding row_of
row-zeros m k = zeros-from m 13 (13 * k)

-- a port whose numbers are zeros is not created, and holds nothing
port-zeros : (m : ℕ) (bytes : List ℕ) (k : ℕ) → port_at (zeros m) bytes k ≡ fresh
unfolding port_at
port-zeros m bytes k = rw (row-zeros m k) (ap (with_queue fresh) (queue-empty (store_in (zeros 13) (block_of bytes k)) refl))

ports-zeros : (m : ℕ) (bytes : List ℕ) (n k : ℕ) → ports_from (zeros m) bytes n k ≡ replicate n fresh
ports-zeros m bytes zero k = refl
ports-zeros m bytes (suc n) k = ap₂ (λ x xs. x ∷ xs) (port-zeros m bytes k) (ports-zeros m bytes n (suc k))

shown-ports : (m : ℕ) (bytes : List ℕ) (n : ℕ) → ports_of (zeros m) bytes n ≡ replicate n fresh
unfolding ports_of
shown-ports m bytes n = ports-zeros m bytes n 0

-- the oldest slot of each is slot 0
first-places : (m n k : ℕ) → all (λ i. ltb (get_or (row_of (zeros m) i) 3 0) 8) n k ≡ true
first-places m zero k = refl
first-places m (suc n) k = both (ap (λ r. ltb (get_or r 3 0) 8) (row-zeros m k)) (first-places m n (suc k))

pub load-shown : (t : Tables) → shown_state t at_load ≡ loaded t
unfolding at_load loaded
load-shown t =
    ap (λ ps. record { clock = record { window = 0; time = 0 }; modes = replicate partitions cold_start; ports = ps }) (shown-ports all_numbers (zeros all_bytes) (port_count t))

pub load-indexed : (t : Tables) → indexed t at_load.numbers ≡ true
unfolding at_load indexed
load-indexed t = first-places all_numbers (port_count t) 0

pub load_fits : (t : Tables) → accepts t ≡ true → state_fits t at_load ≡ true
load_fits t ok = both (ap (in_range t) (load-shown t) ∙ in-range t (loaded t) (loaded-ranged t (accepted t ok))) (load-indexed t)
