-- Of accepted tables: no record has a fault, and the records are windows, then ports, then channels, as their numbers say.
-- Assumes nothing.
use Rattle.std.specs.Prelude.{if◌then◌else◌}
use Prim.Native.Nat.{ℕ, zero, suc, ◌+◌, ◌-◌, ◌≤◌, ◌<◌}
use mathlib.Core.Path.{◌≡◌, refl, sym, subst}
use mathlib.Core.Bool.{Bool, true, false, ◌&&◌, not, true≢false}
use native.Mathlib.Nat.{add-zero, le_refl}
use native.Mathlib.Omega.{arith}
use lib.Dec.{ltb, eqb}
use borrow.Author.Tests.{ltb-false, eqb-true, eqb-false, not-true, not-false, lt-ltb}
use Rattle.model.specs.Words.{between}
use Rattle.model.specs.Tables.{Tables, records, kind, windows, ports_end, ports, channels}
use Rattle.model.specs.Load.{length_fault, kind_fault, count_fault, field_fault, name_fault, end_fault, fault, first_fault, refused, accepted, is_accepted, load_of, accepts}
use Rattle.model.proofs.Tests.{neither_left, neither_right, between-low, between-high}
use Rattle.model.proofs.Searches.{first-least, first-most, first-passed, first-is}

-- no fault of any kind at a record
pub record Faultless (t : Tables) (r : ℕ) : Type 0 where
  pub kind_fits : kind_fault t r ≡ false
  pub count_fits : count_fault t r ≡ false
  pub fields_fit : field_fault t r ≡ false
  pub name_fits : name_fault t r ≡ false
  pub ends_fit : end_fault t r ≡ false

faultless : (t : Tables) (r : ℕ) → fault t r ≡ 0 → Faultless t r
unfolding fault
faultless t r = go (kind_fault t r) (count_fault t r) (field_fault t r) (name_fault t r) (end_fault t r) refl refl refl refl refl
  where
    go : (a b c d e : Bool) → kind_fault t r ≡ a → count_fault t r ≡ b → field_fault t r ≡ c → name_fault t r ≡ d → end_fault t r ≡ e
        → ◌≡◌ {A = ℕ} (if a then 21 else if b then 22 else if c then 23 else if d then 24 else if e then 25 else 0) 0 → Faultless t r
    go true b c d e p q u v w z = absurd (omega arith)
    go false true c d e p q u v w z = absurd (omega arith)
    go false false true d e p q u v w z = absurd (omega arith)
    go false false false true e p q u v w z = absurd (omega arith)
    go false false false false true p q u v w z = absurd (omega arith)
    go false false false false false p q u v w z = record { kind_fits = p; count_fits = q; fields_fit = u; name_fits = v; ends_fit = w }

-- the three tests of the verdict, passed
record Passed (t : Tables) : Type 0 where
  whole : length_fault t ≡ false
  no_fault : ltb (first_fault t) (records t) ≡ false
  some_window : eqb (windows t) 0 ≡ false

passed : (t : Tables) → accepts t ≡ true → Passed t
unfolding accepts load_of
passed t = go (length_fault t) (ltb (first_fault t) (records t)) (eqb (windows t) 0) refl refl refl
  where
    go : (a b c : Bool) → length_fault t ≡ a → ltb (first_fault t) (records t) ≡ b → eqb (windows t) 0 ≡ c
        → is_accepted (if a then refused 20 0 else if b then refused (fault t (first_fault t)) (first_fault t) else if c then refused 26 (records t) else accepted) ≡ true
        → Passed t
    go true b c p q u z = absurd (true≢false (sym z))
    go false true c p q u z = absurd (true≢false (sym z))
    go false false true p q u z = absurd (true≢false (sym z))
    go false false false p q u z = record { whole = p; no_fault = q; some_window = u }

module _ (t : Tables) (ok : accepts t ≡ true) where
  pub no-fault : (r : ℕ) → r < records t → Faultless t r
  unfolding first_fault
  no-fault r h =
      let past : records t ≤ first_fault t = ltb-false _ _ (passed t ok).no_fault in
      let none = first-passed (λ r. not (eqb (fault t r) 0)) (records t) 0 r (omega arith) (omega arith) in
      faultless t r (eqb-true _ _ (not-false _ none))

  pub some-window : 0 < windows t
  some-window =
      let some : windows t ≡ 0 → ⊥ = eqb-false (windows t) 0 (passed t ok).some_window in
      omega arith

  kind-range : (r : ℕ) → r < records t → between 1 3 (kind t r) ≡ true
  unfolding kind_fault
  kind-range r h =
      not-false _ (neither_left (not (between 1 3 (kind t r))) (ltb 0 r && ltb (kind t r) (kind t (r - 1))) (no-fault r h).kind_fits)

  -- kinds do not fall from a record to the next, nor over several
  kind-next : (r : ℕ) → suc r < records t → kind t r ≤ kind t (suc r)
  unfolding kind_fault
  kind-next r h =
      let back : suc r - 1 ≡ r = omega arith in
      let order = neither_right (not (between 1 3 (kind t (suc r)))) (ltb 0 (suc r) && ltb (kind t (suc r)) (kind t (suc r - 1))) (no-fault (suc r) h).kind_fits in
      let first : ltb 0 (suc r) ≡ true = lt-ltb 0 (suc r) (omega arith) in
      let order' : ltb (kind t (suc r)) (kind t (suc r - 1)) ≡ false = rw first at order in
      subst (λ q. kind t q ≤ kind t (suc r)) back (ltb-false _ _ order')

  kind-up : (n r : ℕ) → r + n < records t → kind t r ≤ kind t (r + n)
  kind-up zero r h = rw add-zero (le_refl _)
  kind-up (suc n) r h =
      let here : kind t r ≤ kind t (r + n) = kind-up n r (omega arith) in
      let more : kind t (r + n) ≤ kind t (suc (r + n)) = kind-next (r + n) (omega arith) in
      let same : r + suc n ≡ suc (r + n) = omega arith in
      rw same (omega arith)

  kind-order : (q r : ℕ) → q ≤ r → r < records t → kind t q ≤ kind t r
  kind-order q r l h =
      let way : q + (r - q) ≡ r = omega arith in
      subst (λ x. kind t q ≤ kind t x) way (kind-up (r - q) q (omega arith))

  -- windows, then ports, then channels
  pub windows-end : windows t ≤ records t
  unfolding windows
  windows-end = let h = first-most (λ r. not (eqb (kind t r) 1)) (records t) 0 in omega arith

  pub ports-start : windows t ≤ ports_end t
  unfolding ports_end
  ports-start = first-least (λ r. not (eqb (kind t r) 2)) (records t - windows t) (windows t)

  pub ports-end : ports_end t ≤ records t
  unfolding ports_end
  ports-end =
      let inside = windows-end in
      let h = first-most (λ r. not (eqb (kind t r) 2)) (records t - windows t) (windows t) in
      omega arith

  pub ports-after : windows t + ports t ≡ ports_end t
  unfolding ports
  ports-after = let h = ports-start in omega arith

  pub channels-after : ports_end t + channels t ≡ records t
  unfolding channels
  channels-after = let h = ports-end in omega arith

  pub window-kind : (w : ℕ) → w < windows t → kind t w ≡ 1
  unfolding windows
  window-kind w h = eqb-true _ _ (not-false _ (first-passed (λ r. not (eqb (kind t r) 1)) (records t) 0 w (omega arith) h))

  pub port-kind : (r : ℕ) → windows t ≤ r → r < ports_end t → kind t r ≡ 2
  unfolding ports_end
  port-kind r l h =
      eqb-true _ _ (not-false _ (first-passed (λ r. not (eqb (kind t r) 2)) (records t - windows t) (windows t) r l h))

  past-windows : windows t < records t → 2 ≤ kind t (windows t)
  unfolding windows
  past-windows h =
      let other : kind t (windows t) ≡ 1 → ⊥ = eqb-false _ 1 (not-true _ (first-is (λ r. not (eqb (kind t r) 1)) (records t) 0 (omega arith))) in
      let low : 1 ≤ kind t (windows t) = between-low 1 3 _ (kind-range (windows t) h) in
      omega arith

  past-ports : ports_end t < records t → 3 ≤ kind t (ports_end t)
  unfolding ports_end
  past-ports h =
      let inside = windows-end in
      let from = ports-start in
      let other : kind t (ports_end t) ≡ 2 → ⊥ = eqb-false _ 2 (not-true _ (first-is (λ r. not (eqb (kind t r) 2)) (records t - windows t) (windows t) (omega arith))) in
      let low : 2 ≤ kind t (windows t) = past-windows (omega arith) in
      let order : kind t (windows t) ≤ kind t (ports_end t) = kind-order (windows t) (ports_end t) from h in
      omega arith

  pub channel-kind : (r : ℕ) → ports_end t ≤ r → r < records t → kind t r ≡ 3
  channel-kind r l h =
      let low : 3 ≤ kind t (ports_end t) = past-ports (omega arith) in
      let order : kind t (ports_end t) ≤ kind t r = kind-order (ports_end t) r l h in
      let high : kind t r ≤ 3 = between-high 1 3 _ (kind-range r h) in
      omega arith
