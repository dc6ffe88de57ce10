-- What the tests of a channel's ends lean on: an id that has a row and its record, the test of end 0, the test of another end, and the test
-- of the count.
-- Assumes nothing.
use Rattle.std.specs.Prelude.{if◌then◌else◌, None, Some}
use Prim.Native.Nat.{ℕ, ◌+◌, ◌-◌, ◌≤◌, ◌<◌}
use mathlib.Core.Path.{◌≡◌, refl, ◌∙◌}
use mathlib.Core.Bool.{Bool, true, false, ◌&&◌, ◌||◌, not}
use native.Mathlib.Nat.{le_refl}
use native.Mathlib.Omega.{arith}
use lib.Dec.{leb, eqb}
use borrow.Author.Tests.{eq-eqb, ne_eqb, le-leb, leb-true}
use Rattle.model.specs.Words.{between}
use Rattle.model.specs.Tables.{Tables, records, windows, ports_end, ports, queuing, source, row_at, port_record, destinations_at, end_at}
use Rattle.model.specs.Load.{id_row, end_fits, count_fits, channel_ends_fit}
use Rattle.model.proofs.Tests.{both_left, both_right}
use Rattle.tables.proofs.Places.{ports-within}
use Rattle.channel_ends.specs.Pieces.{record_of, takes_from, destinations_fit, named_again}

and-true : (a : Bool) → a && true ≡ a
and-true true = refl
and-true false = refl

pub record Within (low high x : ℕ) : Type 0 where
  pub least : low ≤ x
  pub most : x ≤ high

pub within : (low high x : ℕ) → between low high x ≡ true → Within low high x
within low high x e = record { least = leb-true low x (both_left _ _ e); most = leb-true x high (both_right (leb low x) _ e) }

-- the record of an id that has a row, by where the ports and the channels start
module _ (t : Tables) {port channel : ℕ} (ported : port ≡ windows t) (channeled : channel ≡ ports_end t) where
  pub there : (id : ℕ) {q : ℕ} → between 1 (channel - port) id ≡ true → q ≡ port + (id - 1) → q < records t
  there id rowed stands = omega (arith, within 1 (channel - port) id rowed, ports-within t)

-- an id has a row, in record q
pub record Rowed (t : Tables) (id q : ℕ) : Type 0 where
  pub has : between 1 (ports t) id ≡ true
  pub stands : q ≡ port_record t (id - 1)
  pub there : q < records t

module _ (t : Tables) (id : ℕ) where
  in-records : between 1 (ports t) id ≡ true → port_record t (id - 1) < records t
  unfolding ports
  in-records h = omega (arith, within 1 (ports_end t - windows t) id h, ports-within t)

  pub rowed : (q : ℕ) → record_of t id ≡ Some q → Rowed t id q
  rowed q e = go (between 1 (ports t) id) refl e
    where
      go : (b : Bool) → between 1 (ports t) id ≡ b → (if b then Some (port_record t (id - 1)) else None) ≡ Some q → Rowed t id q
      go true h e = let stands : q ≡ port_record t (id - 1) = cc in record { has = h; stands = stands; there = rw stands (in-records h) }
      go false h e = cc

  pub rowless : record_of t id ≡ None → between 1 (ports t) id ≡ false
  rowless e = go (between 1 (ports t) id) refl e
    where
      go : (b : Bool) → between 1 (ports t) id ≡ b → (if b then Some (port_record t (id - 1)) else None) ≡ None → between 1 (ports t) id ≡ false
      go true h e = cc
      go false h e = h

-- the test of end 0, where its own row is the source's
pub source-end : (t : Tables) (r : ℕ) →
    end_fits t r 0 ≡ (between 1 (ports t) (end_at t r 0) && eqb (id_row t (end_at t r 0)).direction source)
unfolding end_fits
source-end t r = rw (eq-eqb (id_row t (end_at t r 0)).mode _ refl, le-leb (id_row t (end_at t r 0)).largest _ (le_refl _)) (and-true _ ∙ and-true _)

-- the test of another end, which has a row
pub destination-end : (t : Tables) (r j : ℕ) → 0 < j → between 1 (ports t) (end_at t r j) ≡ true
    → end_fits t r j ≡ takes_from (id_row t (end_at t r j)) (id_row t (end_at t r 0))
unfolding end_fits
destination-end t r j some e =
    let zero : eqb j 0 ≡ false = ne_eqb j 0 (λ z. omega arith) in
    rw (e, zero)

-- the tests in their order, where the source has a row, and where it has none
module _ (t : Tables) (r : ℕ) where
  pub in-turn : (q : ℕ) → record_of t (end_at t r 0) ≡ Some q
      → channel_ends_fit t r ≡ (eqb (row_at t q).direction source && destinations_fit t r && (not (eqb (row_at t q).mode queuing) || eqb (destinations_at t r) 1) && not (named_again t r))
  unfolding channel_ends_fit count_fits
  in-turn q e = let own = rowed t (end_at t r 0) q e in rw (source-end t r, own.has, own.stands)

  pub sourceless : record_of t (end_at t r 0) ≡ None → channel_ends_fit t r ≡ false
  unfolding channel_ends_fit
  sourceless e = rw (source-end t r, rowless t (end_at t r 0) e)
