-- Test 29 of the model's state as facts: of one port, of each port of a list, and of the state; and that putting a port in range into a state keeps them.
-- Assumes nothing.
use Prim.Native.Nat.{ℕ, zero, suc, ◌+◌, ◌<◌}
use mathlib.Core.Path.{◌≡◌, refl, ◌∙◌, subst}
use mathlib.Core.Bool.{Bool, true, false, ◌&&◌, ◌||◌}
use mathlib.Core.List.{List, [], ◌∷◌}
use native.Mathlib.Nat.{add-zero, add-suc, suc-add, zero-add}
use native.Mathlib.Omega.{arith}
use lib.Dec.{leb, ltb, eqb}
use lib.ListN.{length, get_or, set, length-set}
use lib.Seq.{get_or-set_same, get_or-set_other}
use borrow.Author.Tests.{leb-true, le-leb, ltb-true, lt-ltb, eqb-true, eqb-false, eq-eqb}
use Rattle.model.specs.Words.{all_in}
use Rattle.model.specs.Tables.{Tables, windows, Row, row, room}
use Rattle.model.specs.Tables.{ports as port_count}
use Rattle.model.specs.State.{Port, State, fresh, partitions, normal, port, with_port, is_created, port_in_range, ports_in_range, in_range}
use Rattle.model.specs.State.{fits}
use Rattle.model.specs.Ranged.{PortRanged, Ranged}
use Rattle.model.proofs.Tests.{both_left, both_right, both}

pub port-ranged : (r : Row) (q : Port) → port_in_range r q ≡ true → PortRanged r q
unfolding port_in_range
port-ranged r q e =
    record {
      marked = leb-true _ 1 (both_left a b e₁);
      judged = leb-true _ 1 (both_right a b e₁);
      counted = leb-true _ _ (both_right (a && b) c e₂);
      sized = both_right (a && b && c) d e₃;
      made = both_right (a && b && c && d) x e;
    }
  where
    a : Bool
    a = leb q.created 1

    b : Bool
    b = leb q.validity 1

    c : Bool
    c = leb (length q.queue) (room r)

    d : Bool
    d = all_in (fits r) q.queue

    x : Bool
    x = is_created q || eqb (length q.queue) 0

    e₃ : (a && b && c && d) ≡ true
    e₃ = both_left (a && b && c && d) x e

    e₂ : (a && b && c) ≡ true
    e₂ = both_left (a && b && c) d e₃

    e₁ : (a && b) ≡ true
    e₁ = both_left (a && b) c e₂

pub port-in-range : (r : Row) (q : Port) → PortRanged r q → port_in_range r q ≡ true
unfolding port_in_range
port-in-range r q h =
    both (both (both (both (le-leb _ 1 h.marked) (le-leb _ 1 h.judged)) (le-leb _ _ h.counted)) h.sized) h.made

-- the ports of a list, one by one and all together
pub ports-at : (t : Tables) (k : ℕ) (qs : List Port) → ports_in_range t k qs ≡ true → (i : ℕ) → i < length qs → port_in_range (row t (k + i)) (get_or qs i fresh) ≡ true
ports-at t k [] e i h = absurd (omega arith)
ports-at t k (q ∷ qs) e zero h = rw add-zero (both_left (port_in_range (row t k) q) (ports_in_range t (suc k) qs) e)
ports-at t k (q ∷ qs) e (suc i) h =
    rw (add-suc, ← (suc-add k i)) (ports-at t (suc k) qs (both_right (port_in_range (row t k) q) (ports_in_range t (suc k) qs) e) i (omega arith))

pub ports-all : (t : Tables) (k : ℕ) (qs : List Port) → ((i : ℕ) → i < length qs → port_in_range (row t (k + i)) (get_or qs i fresh) ≡ true) → ports_in_range t k qs ≡ true
ports-all t k [] h = refl
ports-all t k (q ∷ qs) h =
    both (rw add-zero at (h 0 (omega arith)))
    (ports-all t (suc k) qs (λ i l. rw (suc-add k i, ← (add-suc k i)) (h (suc i) (omega arith))))

pub ranged : (t : Tables) (s : State) → in_range t s ≡ true → Ranged t s
unfolding in_range
ranged t s e =
    record {
      in_window = ltb-true _ _ (both_left a b e₁);
      sixteen = eqb-true _ _ (both_right a b e₁);
      moded = both_right (a && b) c e₂;
      whole = whole_list;
      each = λ k h. port-ranged _ _ (subst (λ i. port_in_range (row t i) (port s k) ≡ true) (zero-add k) (ports-at t 0 s.ports (both_right (a && b && c && d) x e) k (omega (arith, whole_list))));
    }
  where
    a : Bool
    a = ltb s.clock.window (windows t)

    b : Bool
    b = eqb (length s.modes) partitions

    c : Bool
    c = all_in (λ m. leb m normal) s.modes

    d : Bool
    d = eqb (length s.ports) (port_count t)

    x : Bool
    x = ports_in_range t 0 s.ports

    e₃ : (a && b && c && d) ≡ true
    e₃ = both_left (a && b && c && d) x e

    e₂ : (a && b && c) ≡ true
    e₂ = both_left (a && b && c) d e₃

    e₁ : (a && b) ≡ true
    e₁ = both_left (a && b) c e₂

    whole_list : length s.ports ≡ port_count t
    whole_list = eqb-true _ _ (both_right (a && b && c) d e₃)

pub in-range : (t : Tables) (s : State) → Ranged t s → in_range t s ≡ true
unfolding in_range
in-range t s h =
    both (both (both (both (lt-ltb _ _ h.in_window) (eq-eqb _ _ h.sixteen)) h.moded) (eq-eqb _ _ h.whole))
    (ports-all t 0 s.ports (λ i l. rw zero-add (port-in-range _ _ (h.each i (omega (arith, h.whole))))))

-- a port in range put into a state in range
pub with-port-ranged : (t : Tables) (s : State) (k : ℕ) (q : Port) → k < port_count t → Ranged t s → PortRanged (row t k) q → Ranged t (with_port s k q)
with-port-ranged t s k q l h p =
    record {
      in_window = h.in_window;
      sixteen = h.sixteen;
      moded = h.moded;
      whole = length-set s.ports k q ∙ h.whole;
      each = each;
    }
  where
    each : (j : ℕ) → j < port_count t → PortRanged (row t j) (get_or (set s.ports k q) j fresh)
    each j m = go (eqb j k) refl
      where
        go : (b : Bool) → eqb j k ≡ b → PortRanged (row t j) (get_or (set s.ports k q) j fresh)
        go true e = rw (eqb-true j k e, get_or-set_same s.ports k q fresh (omega (arith, h.whole))) p
        go false e = rw (get_or-set_other s.ports k j q fresh (eqb-false j k e)) (h.each j m)
