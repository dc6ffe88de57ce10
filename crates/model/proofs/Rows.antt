-- Of accepted tables: how many windows and ports there are, and the ranges of their rows.
-- Assumes nothing.
use Rattle.std.specs.Prelude.{if◌then◌else◌}
use Prim.Native.Nat.{ℕ, ◌+◌, ◌-◌, ◌≤◌, ◌<◌}
use mathlib.Core.Path.{◌≡◌, refl}
use mathlib.Core.Bool.{Bool, true, false, ◌&&◌, ◌||◌, not, true≢false}
use mathlib.Core.Logic.{◌⊎◌, inl, inr, ⊎_elim}
use native.Mathlib.Nat.{eq-or-lt_of_le}
use native.Mathlib.Omega.{arith}
use lib.Dec.{leb, eqb}
use borrow.Author.Tests.{leb-true, leb-false, eqb-true, not-false, eq-eqb}
use Rattle.model.specs.Words.{between, any, blank}
use Rattle.model.specs.Tables.{Tables, windows, ports, ports_end, mover, window_partition, window_length, start, Row, row, room, port_record, name_start, same_name, sampling, queuing, destination}
use Rattle.model.specs.Ranged.{RowRanges}
use Rattle.model.specs.Load.{accepts, window_fits, row_fits, port_fits, field_fault, count_fault, name_fault, port_name_fault, same_owner_and_name, name_fits}
use Rattle.model.proofs.Tests.{both_left, both_right, neither_right, between-low, between-high}
use Rattle.model.proofs.Bounded.{any_at}
use Rattle.model.proofs.Order.{no-fault, windows-end, ports-end, ports-after, window-kind, port-kind}

-- a number that is at most 1 is 0 or 1
bit : (n : ℕ) → leb n 1 ≡ true → (n ≡ 0) ⊎ (n ≡ 1)
bit n e =
    let h : n ≤ 1 = leb-true n 1 e in
    ⊎_elim (λ q. inr q) (λ q. inl (omega arith)) (eq-or-lt_of_le h)

-- a row's ranges, from the tests of its fields
row-ranges : (r : Row) → row_fits r ≡ true → RowRanges r
unfolding row_fits
row-ranges r e =
    record {
      owned = omega (arith, leb-true r.owner 15 (both_left a b e₁));
      moded = bit r.mode (both_right a b e₁);
      directed = bit r.direction (both_right (a && b) c e₂);
      some = between-low 1 64 _ (both_right (a && b && c) d e₃);
      few_bytes = between-high 1 64 _ (both_right (a && b && c) d e₃);
      keeps = kept.0;
      keeps_few = kept.1;
      no_depth = λ q. eqb-true _ 0 (rw q at depths);
      no_refresh = λ q. eqb-true _ 0 (rw q at periods);
      short_period = short (eqb r.mode sampling && eqb r.direction destination) periods;
    }
  where
    a : Bool
    a = leb r.owner 15

    b : Bool
    b = leb r.mode 1

    c : Bool
    c = leb r.direction 1

    d : Bool
    d = between 1 64 r.largest

    x : Bool
    x = if eqb r.mode queuing then between 1 8 r.depth else eqb r.depth 0

    y : Bool
    y = if eqb r.mode sampling && eqb r.direction destination then between 1 1_000_000 r.refresh else eqb r.refresh 0

    e₄ : (a && b && c && d && x) ≡ true
    e₄ = both_left (a && b && c && d && x) y e

    e₃ : (a && b && c && d) ≡ true
    e₃ = both_left (a && b && c && d) x e₄

    e₂ : (a && b && c) ≡ true
    e₂ = both_left (a && b && c) d e₃

    e₁ : (a && b) ≡ true
    e₁ = both_left (a && b) c e₂

    depths : x ≡ true
    depths = both_right (a && b && c && d) x e₄

    periods : y ≡ true
    periods = both_right (a && b && c && d && x) y e

    kept : (1 ≤ room r) × (room r ≤ 8)
    kept =
        ⊎_elim (λ q. rw q (omega arith, omega arith))
        (λ q. let h : between 1 8 r.depth ≡ true = rw q at depths in rw q (between-low 1 8 _ h, between-high 1 8 _ h))
        (bit r.mode (both_right a b e₁))

    short : (z : Bool) → (if z then between 1 1_000_000 r.refresh else eqb r.refresh 0) ≡ true → r.refresh ≤ 1_000_000
    short true h = between-high 1 1_000_000 _ h
    short false h = let none : r.refresh ≡ 0 = eqb-true _ 0 h in omega arith

module _ (t : Tables) (ok : accepts t ≡ true) where
  window-fits : (w : ℕ) → w < windows t → window_fits t w ≡ true
  unfolding field_fault
  window-fits w h =
      let inside = windows-end t ok in
      not-false _ (rw (window-kind t ok w h) at (no-fault t ok w (omega arith)).fields_fit)

  -- the record of a port, and of a channel
  port-record : (k : ℕ) → k < ports t → windows t + k < ports_end t
  port-record k h = let after = ports-after t ok in omega arith

  port-fits : (k : ℕ) → k < ports t → port_fits t (port_record t k) ≡ true
  unfolding field_fault
  port-fits k h =
      let inside = port-record k h in
      let end = ports-end t ok in
      not-false _ (rw (port-kind t ok (windows t + k) (omega arith) inside) at (no-fault t ok (windows t + k) (omega arith)).fields_fit)

  pub few-windows : windows t ≤ 64
  unfolding count_fault
  few-windows =
      let inside = windows-end t ok in
      let no : 64 < windows t → ⊥ = λ h. true≢false (rw (window-kind t ok 64 h) at (no-fault t ok 64 (omega arith)).count_fits) in
      omega arith

  pub few-ports : ports t ≤ 64
  unfolding count_fault
  few-ports =
      let after = ports-after t ok in
      let end = ports-end t ok in
      let no : 64 < ports t → ⊥ =
      λ h.
      let r = windows t + 64 in
      let fault : leb 64 (r - windows t) ≡ false = rw (port-kind t ok r (omega arith) (omega arith)) at (no-fault t ok r (omega arith)).count_fits in
      let few = leb-false 64 (r - windows t) fault in
      omega arith
      in
      omega arith

  pub window-partition : (w : ℕ) → w < windows t → (window_partition t w < 16) ⊎ (window_partition t w ≡ mover)
  unfolding window_fits
  window-partition w h =
      go (leb (window_partition t w) 15) refl
      (both_left (leb (window_partition t w) 15 || eqb (window_partition t w) mover) (between 1 10_000 (window_length t w))
      (both_left _ (blank t 44 (start w + 4)) (window-fits w h)))
    where
      go : (b : Bool) → leb (window_partition t w) 15 ≡ b → (b || eqb (window_partition t w) mover) ≡ true → (window_partition t w < 16) ⊎ (window_partition t w ≡ mover)
      go true e z = inl (omega (arith, leb-true (window_partition t w) 15 e))
      go false e z = inr (eqb-true (window_partition t w) mover z)

  pub window-step : (w : ℕ) → w < windows t → window_length t w ≤ 10_000
  unfolding window_fits
  window-step w h =
      between-high 1 10_000 _
      (both_right (leb (window_partition t w) 15 || eqb (window_partition t w) mover) (between 1 10_000 (window_length t w))
      (both_left _ (blank t 44 (start w + 4)) (window-fits w h)))

  pub row_ok : (k : ℕ) → k < ports t → RowRanges (row t k)
  unfolding port_fits
  row_ok k h = row-ranges _ (both_left (row_fits (row t k)) (blank t 2 (start (port_record t k) + 46)) (port-fits k h))

  -- no two ports of one owner have the same name
  pub names-distinct : (k l : ℕ) → k < l → l < ports t → (row t k).owner ≡ (row t l).owner
      → same_name t (name_start (port_record t k)) t (name_start (port_record t l)) ≡ false
  unfolding name_fault port_name_fault same_owner_and_name
  names-distinct k l m h e =
      let r = windows t + l in
      let inside = port-record l h in
      let end = ports-end t ok in
      let none = neither_right (not (name_fits t (name_start r))) (any (same_owner_and_name t r) (r - windows t) (windows t)) (rw (port-kind t ok r (omega arith) inside) at (no-fault t ok r (omega arith)).name_fits) in
      let here : same_owner_and_name t r (windows t + k) ≡ false = any_at (same_owner_and_name t r) (r - windows t) (windows t) (windows t + k) none (omega arith) (omega arith) in
      rw (eq-eqb (row t k).owner (row t l).owner e) at here
