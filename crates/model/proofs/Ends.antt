-- Of accepted tables: how many channels there are, and what their ends are.
-- Assumes nothing.
use Rattle.std.specs.Prelude.{if◌then◌else◌}
use Prim.Native.Nat.{ℕ, suc, ◌+◌, ◌-◌, ◌≤◌, ◌<◌}
use mathlib.Core.Path.{◌≡◌, sym, ◌∙◌, subst}
use mathlib.Core.Bool.{Bool, true, false, ◌&&◌, not}
use mathlib.Core.Logic.{⊎_elim}
use native.Mathlib.Omega.{arith}
use lib.Dec.{leb, eqb}
use borrow.Author.Tests.{leb-true, leb-false, eqb-true, eqb-false, not-false, not-true, ne_eqb}
use Rattle.model.specs.Words.{between, any, all, blank}
use Rattle.model.specs.Tables.{Tables, records, ports_end, ports, channels, start, row, source, destination, destinations_at, end_at, channel_record, source_port, destinations, destination_port}
use Rattle.model.specs.Load.{accepts, channel_fits, field_fault, count_fault, end_fault, channel_ends_fit, end_fits, count_fits, named_before, named_among, ends, id_row}
use Rattle.model.proofs.Tests.{both_left, both_right, neither_left, neither_right, between-low, between-high, three}
use Rattle.model.proofs.Bounded.{all-at, any_at}
use Rattle.model.proofs.Order.{no-fault, channels-after, channel-kind}

-- the ends of a channel: its source, and its destinations
pub record SourceEnd (t : Tables) (c : ℕ) : Type 0 where
  pub there : source_port t c < ports t
  pub is_source : (row t (source_port t c)).direction ≡ source
  pub some_ends : 1 ≤ destinations t c
  pub few_ends : destinations t c ≤ 8

pub record DestinationEnd (t : Tables) (c j : ℕ) : Type 0 where
  pub there : destination_port t c j < ports t
  pub is_destination : (row t (destination_port t c j)).direction ≡ destination
  pub same_mode : (row t (destination_port t c j)).mode ≡ (row t (source_port t c)).mode
  pub takes_all : (row t (source_port t c)).largest ≤ (row t (destination_port t c j)).largest

-- what the tests of an end tell, in terms of its id
record EndTests (t : Tables) (r j : ℕ) : Type 0 where
  some : 1 ≤ end_at t r j
  few : end_at t r j ≤ ports t
  direction : (id_row t (end_at t r j)).direction ≡ (if eqb j 0 then source else destination)
  mode : (id_row t (end_at t r j)).mode ≡ (id_row t (end_at t r 0)).mode
  largest : (id_row t (end_at t r 0)).largest ≤ (id_row t (end_at t r j)).largest

module _ (t : Tables) (ok : accepts t ≡ true) where
  channel-record : (c : ℕ) → c < channels t → ports_end t + c < records t
  channel-record c h = let after = channels-after t ok in omega arith

  channel-fits : (c : ℕ) → c < channels t → channel_fits t (channel_record t c) ≡ true
  unfolding field_fault
  channel-fits c h =
      let inside = channel-record c h in
      not-false _ (rw (channel-kind t ok (ports_end t + c) (omega arith) inside) at (no-fault t ok (ports_end t + c) inside).fields_fit)

  channel-ends : (c : ℕ) → c < channels t → channel_ends_fit t (channel_record t c) ≡ true
  unfolding end_fault
  channel-ends c h =
      let inside = channel-record c h in
      not-false _ (rw (channel-kind t ok (ports_end t + c) (omega arith) inside) at (no-fault t ok (ports_end t + c) inside).ends_fit)

  pub few-channels : channels t ≤ 32
  unfolding count_fault
  few-channels =
      let after = channels-after t ok in
      let no : 32 < channels t → ⊥ =
      λ h.
      let r = ports_end t + 32 in
      let fault : leb 32 (r - ports_end t) ≡ false = rw (channel-kind t ok r (omega arith) (omega arith)) at (no-fault t ok r (omega arith)).count_fits in
      let few = leb-false 32 (r - ports_end t) fault in
      omega arith
      in
      omega arith

  -- the test of end j of channel c, and how many destinations it has
  end_fits_lem : (c : ℕ) → c < channels t → (j : ℕ) → j < ends t (channel_record t c) → end_fits t (channel_record t c) j ≡ true
  unfolding channel_ends_fit
  end_fits_lem c h j l =
      let r = channel_record t c in
      all-at (end_fits t r) (ends t r) 0 j
      (both_left (all (end_fits t r) (ends t r) 0) (count_fits t r)
      (both_left (all (end_fits t r) (ends t r) 0 && count_fits t r) (not (any (named_before t r) (ends t r) 0)) (channel-ends c h)))
      (omega arith) (omega arith)

  destination-count : (c : ℕ) → c < channels t → between 1 8 (destinations t c) ≡ true
  unfolding channel_fits destinations
  destination-count c h =
      let r = channel_record t c in
      let b = between 1 8 (destinations_at t r) in
      let u = all (λ j. eqb (end_at t r j) 0) (8 - destinations_at t r) (suc (destinations_at t r)) in
      both_left b u (both_left (b && u) (blank t 28 (start r + 20)) (channel-fits c h))

  -- what the four tests of end j of channel c tell
  end-tests : (c : ℕ) → c < channels t → (j : ℕ) → j < ends t (channel_record t c) → EndTests t (channel_record t c) j
  unfolding end_fits
  end-tests c h j l =
      record {
        some = between-low 1 (ports t) _ here;
        few = between-high 1 (ports t) _ here;
        direction = eqb-true _ _ (both_right there way (both_left (there && way) mode e₃));
        mode = eqb-true _ _ (both_right (there && way) mode e₃);
        largest = leb-true _ _ (both_right (there && way && mode) size (end_fits_lem c h j l));
      }
    where
      r : ℕ
      r = channel_record t c

      there : Bool
      there = between 1 (ports t) (end_at t r j)

      way : Bool
      way = eqb (id_row t (end_at t r j)).direction (if eqb j 0 then source else destination)

      mode : Bool
      mode = eqb (id_row t (end_at t r j)).mode (id_row t (end_at t r 0)).mode

      size : Bool
      size = leb (id_row t (end_at t r 0)).largest (id_row t (end_at t r j)).largest

      e₃ : (there && way && mode) ≡ true
      e₃ = both_left (there && way && mode) size (end_fits_lem c h j l)

      here : there ≡ true
      here = both_left there way (both_left (there && way) mode e₃)

  pub source-end : (c : ℕ) → c < channels t → SourceEnd t c
  unfolding source_port
  source-end c h =
      let e = end-tests c h 0 (omega arith) in
      let n = destination-count c h in
      record {
        there = omega (arith, e.some, e.few);
        is_source = e.direction;
        some_ends = between-low 1 8 _ n;
        few_ends = between-high 1 8 _ n;
      }

  pub destination-end : (c : ℕ) → c < channels t → (j : ℕ) → j < destinations t c → DestinationEnd t c j
  unfolding source_port destinations destination_port
  destination-end c h j l =
      let e = end-tests c h (suc j) (omega arith) in
      record {
        there = omega (arith, e.some, e.few);
        is_destination = e.direction ∙ simp (ne_eqb (suc j) 0 (omega arith));
        same_mode = e.mode;
        takes_all = e.largest;
      }

  -- no port is named twice: not in an earlier end of the same channel, nor in an earlier channel
  not_named : (c : ℕ) → c < channels t → (j : ℕ) → j < ends t (channel_record t c) → named_before t (channel_record t c) j ≡ false
  unfolding channel_ends_fit
  not_named c h j l =
      let r = channel_record t c in
      any_at (named_before t r) (ends t r) 0 j
      (not-true _ (both_right (all (end_fits t r) (ends t r) 0 && count_fits t r) (not (any (named_before t r) (ends t r) 0)) (channel-ends c h)))
      (omega arith) (omega arith)

  pub ends-here : (c : ℕ) → c < channels t → (i j : ℕ) → i < j → j < ends t (channel_record t c) → end_at t (channel_record t c) i ≡ end_at t (channel_record t c) j → ⊥
  unfolding named_before named_among
  ends-here c h i j m l =
      let r = channel_record t c in
      let none = neither_left (named_among t (end_at t r j) j r) (any (λ q. named_among t (end_at t r j) (ends t q) q) (r - ports_end t) (ports_end t)) (not_named c h j l) in
      eqb-false _ _ (any_at (λ i. eqb (end_at t r i) (end_at t r j)) j 0 i none (omega arith) (omega arith))

  pub ends-apart : (c d : ℕ) → c < d → d < channels t → (i j : ℕ) → i < ends t (channel_record t c) → j < ends t (channel_record t d) → end_at t (channel_record t c) i ≡ end_at t (channel_record t d) j → ⊥
  unfolding named_before named_among
  ends-apart c d m h i j k l =
      let q = channel_record t c in
      let r = channel_record t d in
      let none = neither_right (named_among t (end_at t r j) j r) (any (λ q. named_among t (end_at t r j) (ends t q) q) (r - ports_end t) (ports_end t)) (not_named d h j l) in
      let earlier = any_at (λ q. named_among t (end_at t r j) (ends t q) q) (r - ports_end t) (ports_end t) q none (omega arith) (omega arith) in
      eqb-false _ _ (any_at (λ i. eqb (end_at t q i) (end_at t r j)) (ends t q) 0 i earlier (omega arith) (omega arith))

  -- ends with the same port are the same end
  same_here : (c : ℕ) → c < channels t → (i j : ℕ) → i < ends t (channel_record t c) → j < ends t (channel_record t c)
      → end_at t (channel_record t c) i ≡ end_at t (channel_record t c) j → i ≡ j
  same_here c h i j l m e =
      ⊎_elim (λ q. absurd (ends-here c h i j q m e))
      (λ rest. ⊎_elim (λ q. q) (λ q. absurd (ends-here c h j i q l (sym e))) rest)
      (three i j)

  pub same_end : (c d : ℕ) → c < channels t → d < channels t → (i j : ℕ) → i < ends t (channel_record t c) → j < ends t (channel_record t d)
      → end_at t (channel_record t c) i - 1 ≡ end_at t (channel_record t d) j - 1 → (c ≡ d) × (i ≡ j)
  same_end c d h k i j l m e =
      ⊎_elim (λ q. absurd (ends-apart c d q k i j l m ids))
      (λ rest. ⊎_elim (λ q. (q, subst (λ x. j < ends t (channel_record t x) → end_at t (channel_record t c) i ≡ end_at t (channel_record t x) j → i ≡ j) q (same_here c h i j l) m ids))
      (λ q. absurd (ends-apart d c q h j i m l (sym ids))) rest)
      (three c d)
    where
      ids : end_at t (channel_record t c) i ≡ end_at t (channel_record t d) j
      ids = omega (arith, e, (end-tests c h i l).some, (end-tests d k j m).some)

  pub sources-distinct : (c d : ℕ) → c < channels t → d < channels t → source_port t c ≡ source_port t d → c ≡ d
  unfolding source_port
  sources-distinct c d h k e = (same_end c d h k 0 0 (omega arith) (omega arith) e).0

  pub destinations-distinct : (c d : ℕ) → c < channels t → d < channels t → (i j : ℕ) → i < destinations t c → j < destinations t d
      → destination_port t c i ≡ destination_port t d j → (c ≡ d) × (i ≡ j)
  unfolding destinations destination_port
  destinations-distinct c d h k i j l m e =
      let same = same_end c d h k (suc i) (suc j) (omega arith) (omega arith) e in
      (same.0, omega (arith, same.1))
