-- The numbers of a state fit the widths in which the layout keeps them: at load, after a list, and so in each state that the public calls give. Such a state,
-- laid into a buffer and read again, is that state (`state-back`, state_buffer/proofs/Round).
-- Assumes nothing.
use Prim.Native.Nat.{ℕ, zero, suc, ◌+◌, ◌*◌, ◌%◌, ◌≤◌, ◌<◌}
use mathlib.Core.Path.{◌≡◌, refl, sym, ◌∙◌, subst}
use mathlib.Core.Bool.{Bool, true, false, ◌&&◌, not}
use mathlib.Core.List.{List, [], ◌∷◌, ◌++◌, map}
use native.Mathlib.Nat.{mul-zero, mul-suc}
use native.Mathlib.Omega.{arith}
use lib.Dec.{ltb, eqb}
use lib.ListN.{get_or-eq_default, length, get_or, take, drop, length-append, length-drop, length-replicate}
use lib.Seq.{get_or-drop}
use borrow.Author.Tests.{ltb-true, ltb-false, eqb-true}
use Rattle.model.specs.Words.{zeros, all_in}
use Rattle.model.specs.Tables.{Tables, Row, row}
use Rattle.model.specs.Tables.{ports as port_count}
use Rattle.model.specs.Load.{accepts}
use Rattle.model.specs.State.{Message, Port, fresh, port, fits}
use Rattle.model.specs.State as model
use Rattle.model.specs.Ranged.{PortRanged, Ranged}
use Rattle.model.specs.Events.{event_size}
use Rattle.model.specs.Run.{after_all, events_of, joined}
use Rattle.model.proofs.Tests.{both_left, both_right, between-high, by-test}
use Rattle.model.proofs.Accepted.{accepted}
use Rattle.ports.specs.Held.{row_of, port_at, ports_of}
use Rattle.ports.proofs.PortAt.{ports-length, ports-at}
use Rattle.settled_form.specs.Settled.{port_numbers, port_bytes, settled_numbers, settled_bytes}
use Rattle.settled_form.proofs.Laid.{numbers-length, bytes-length}
use Rattle.states.specs.declared.State.{State}
use Rattle.states.specs.Shown.{shown_state, is_sound, settled_as, at_load, all_zero}
use Rattle.kernel.specs.Meets.{state_after}
use Rattle.kernel.specs.Given.{Given, by_load, by_step, by_run}
use Rattle.kernel.proofs.GivenStates.{sound-accepts, after-ranged}
use Rattle.state_buffer.proofs.Round.{Typed}
use Rattle.demands.proofs.Steps.{not-refused}
use Rattle.demands.proofs.Times.{most, Timed, all-timed}

-- each number of a list fits 32 bits
abbrev Small : List ℕ → Type 0
Small l = (i : ℕ) → get_or l i 0 < most

small-zeros : (n : ℕ) → Small (zeros n)
small-zeros zero i = omega arith
small-zeros (suc n) zero = omega arith
small-zeros (suc n) (suc i) = small-zeros n i

small-append : (a b : List ℕ) → Small a → Small b → Small (a ++ b)
small-append [] b f g i = g i
small-append (x ∷ a) b f g zero = f 0
small-append (x ∷ a) b f g (suc i) = small-append a b (λ j. f (suc j)) g i

small-take : (n : ℕ) (l : List ℕ) → Small l → Small (take n l)
small-take zero l f i = omega arith
small-take (suc n) [] f i = f i
small-take (suc n) (x ∷ l) f zero = f 0
small-take (suc n) (x ∷ l) f (suc i) = small-take n l (λ j. f (suc j)) i

small-drop : (n : ℕ) (l : List ℕ) → Small l → Small (drop n l)
small-drop n l f i = rw (get_or-drop n l i 0) (f (n + i))

-- a port in range, with a time that fits
small-lengths : (r : Row) → r.largest ≤ 64 → (queue : List Message) → all_in (fits r) queue ≡ true → Small (map length queue)
small-lengths r few [] h i = omega arith
small-lengths r few (m ∷ rest) h zero = omega (arith, between-high 1 r.largest (length m) (both_left (fits r m) (all_in (fits r) rest) h))
small-lengths r few (m ∷ rest) h (suc i) = small-lengths r few rest (both_right (fits r m) (all_in (fits r) rest) h) i

small-port : (r : Row) → r.largest ≤ 64 → (q : Port) → PortRanged r q → q.arrival < most → length q.queue < most → Small (port_numbers q)
unfolding port_numbers
small-port r few q h a n zero = omega (arith, h.marked)
small-port r few q h a n (suc zero) = omega (arith, h.judged)
small-port r few q h a n (suc (suc zero)) = a
small-port r few q h a n (suc (suc (suc zero))) = omega arith
small-port r few q h a n (suc (suc (suc (suc zero)))) = n
small-port r few q h a n (suc (suc (suc (suc (suc i))))) =
    small-take 8 (map length q.queue ++ zeros 8) (small-append (map length q.queue) (zeros 8) (small-lengths r few q.queue h.sized) (small-zeros 8)) i

-- the rows of ports, one behind the other
small-rows : (ps : List Port) → ((k : ℕ) → k < length ps → Small (port_numbers (get_or ps k fresh))) → Small (joined (map port_numbers ps))
small-rows [] f i = omega arith
small-rows (q ∷ ps) f i = small-append (port_numbers q) (joined (map port_numbers ps)) (f 0 (omega arith)) (small-rows ps (λ k h. f (suc k) (omega arith))) i

rows-length : (f : Port → List ℕ) (size : ℕ) → ((q : Port) → length (f q) ≡ size) → (ps : List Port) → length (joined (map f ps)) ≡ size * length ps
rows-length f size sized [] = sym (mul-zero size)
rows-length f size sized (q ∷ ps) = length-append (f q) (joined (map f ps)) ∙ omega (arith, sized q, rows-length f size sized ps, mul-suc size (length ps))

-- the state at load
pub load_typed : Typed at_load
unfolding at_load
load_typed =
    record {
      window = omega arith;
      time = omega arith;
      modes = length-replicate {A = ℕ} 16 1;
      rows = length-replicate {A = ℕ} 832 0;
      numbers = small-zeros 832;
      bytes = length-replicate {A = ℕ} 32768 0;
    }

-- the state of zeros
pub zero-typed : Typed all_zero
unfolding all_zero
zero-typed =
    record {
      window = omega arith;
      time = omega arith;
      modes = length-replicate {A = ℕ} 16 0;
      rows = length-replicate {A = ℕ} 832 0;
      numbers = small-zeros 832;
      bytes = length-replicate {A = ℕ} 32768 0;
    }

-- the settled form of a state in range, over a state that fits
pub settled-typed : (t : Tables) → accepts t ≡ true → (st : State) → Typed st → (s : model.State) → Ranged t s → Timed s → Typed (settled_as st s)
unfolding settled_as settled_numbers settled_bytes
settled-typed t ok st typed s r timed =
    let laws = accepted t ok in
    let n = length s.ports in
    let few : n ≤ 64 = omega (arith, r.whole, laws.few_ports) in
    record {
      window = omega (arith, r.in_window, laws.few_windows);
      time = timed.time;
      modes = r.sixteen;
      rows =
          length-append (joined (map port_numbers s.ports)) (drop (13 * n) st.numbers)
          ∙ omega (arith, rows-length port_numbers 13 numbers-length s.ports, length-drop (13 * n) st.numbers, typed.rows);
      numbers =
          small-append (joined (map port_numbers s.ports)) (drop (13 * n) st.numbers) (small-rows s.ports each) (small-drop (13 * n) st.numbers typed.numbers);
      bytes =
          length-append (joined (map port_bytes s.ports)) (drop (512 * n) st.bytes)
          ∙ omega (arith, rows-length port_bytes 512 bytes-length s.ports, length-drop (512 * n) st.bytes, typed.bytes);
    }
  where
    each : (k : ℕ) → k < length s.ports → Small (port_numbers (port s k))
    each k h =
        let l : k < port_count t = omega (arith, r.whole) in
        let row_laws = (accepted t ok).rows k l in
        small-port (row t k) row_laws.few_bytes (port s k) (r.each k l) (timed.arrivals k) (omega (arith, (r.each k l).counted, row_laws.keeps_few))

-- what a state that fits shows has times that fit
pub shown-timed : (t : Tables) (st : State) → Typed st → Timed (shown_state t st)
unfolding port_at row_of
shown-timed t st h = record { time = h.time; arrivals = λ k. at k (ltb k n) refl }
  where
    n : ℕ
    n = port_count t

    ps : List Port
    ps = ports_of st.numbers st.bytes n

    at : (k : ℕ) (b : Bool) → ltb k n ≡ b → (get_or ps k fresh).arrival < most
    at k true e = rw (ports-at st.numbers st.bytes n k (ltb-true k n e)) (h.numbers (13 * k + 1 + 1))
    at k false e =
        let past : length ps ≤ k = omega (arith, ports-length st.numbers st.bytes n, ltb-false k n e) in
        rw (get_or-eq_default ps fresh past) (omega arith)

-- the state after a call on a list, from a state that fits
module _ (t : Tables) (st : State) (typed : Typed st) (events : List ℕ) where
  run_typed : is_sound t st ≡ true → Typed (settled_as st (after_all t (shown_state t st) (events_of events)))
  run_typed sound =
      settled-typed t (sound-accepts t st sound) st typed (after_all t (shown_state t st) (events_of events)) (after-ranged t st sound events)
      (all-timed t (shown_state t st) (shown-timed t st typed) (events_of events))

  pub after-typed : (fault : ℕ) → (fault ≡ 0 → is_sound t st ≡ true) → Typed (state_after fault t st events)
  unfolding state_after
  after-typed fault sound =
      by-test Typed (eqb fault 0 && not (eqb (length events) 0))
      (λ e. run_typed (sound (eqb-true fault 0 (both_left (eqb fault 0) (not (eqb (length events) 0)) e)))) (λ e. typed)

-- each state that the public calls give fits
pub given-typed : (t : Tables) (st : State) → Given t st → Typed st
given-typed t st (by_load m) = subst Typed (sym m.state) load_typed
given-typed t st (by_step {st = s} event room answers g m) =
    subst Typed (sym m.state) (after-typed t s (given-typed t s g) event _ (λ e. (not-refused (eqb (length event) event_size) event room (is_sound t s) e).is_sound))
given-typed t st (by_run {st = s} events room answers g m) =
    subst Typed (sym m.state) (after-typed t s (given-typed t s g) events _ (λ e. (not-refused (eqb (length events % event_size) 0) events room (is_sound t s) e).is_sound))
