-- Of the states that the public calls give: none is refused 29, and each shows a state that the model reaches.
-- Assumes nothing.
use Rattle.std.specs.Prelude.{Result, Ok}
use Prim.Native.Nat.{ℕ, ◌%◌, ◌<◌}
use mathlib.Core.Path.{◌≡◌, refl, sym, ◌∙◌, ap, subst}
use mathlib.Core.Bool.{Bool, true, ◌&&◌, not}
use mathlib.Core.List.{List, [], ◌++◌}
use native.Mathlib.Omega.{arith}
use lib.Dec.{eqb}
use lib.ListN.{length, get_or, drop}
use borrow.Author.Tests.{eqb-true, not-false}
use Rattle.model.specs.Tables.{Tables, row}
use Rattle.model.specs.Tables.{ports as port_count}
use Rattle.model.specs.Load.{accepts}
use Rattle.model.specs.State.{port, in_range}
use Rattle.model.specs.State as model
use Rattle.model.specs.Events.{event_size}
use Rattle.model.specs.Run.{answers, after_all, events_of, joined, list_fault, ran_or, Reached}
use Rattle.model.specs.Run as Model
use Rattle.model.proofs.Tests.{both, both_left, both_right, between-high, by-test}
use Rattle.model.proofs.Accepted.{Accepted, accepted}
use Rattle.model.proofs.Lists.{events-sized}
use Rattle.model.specs.Ranged.{Ranged}
use Rattle.model.proofs.Ranges.{ranged, in-range}
use Rattle.model.proofs.Reached.{all-ranged}
use Rattle.ports.specs.Held.{ports_of}
use Rattle.service_contracts.proofs.Contents.{fits-at}
use Rattle.states.specs.declared.State.{State}
use Rattle.state_test.specs.Tested.{indexed}
use Rattle.states.specs.Shown.{shown_state, state_fits}
use Rattle.settled_form.specs.Settled.{settled_numbers, settled_bytes, Storable}
use Rattle.states.proofs.Settled.{settled-shows, settled-indexed}
use Rattle.states.proofs.Load.{load-shown, load_fits}
use Rattle.loader.proofs.Accepts.{is_ok-accepts}
use Rattle.states.specs.Shown.{is_sound, settled_as}
use Rattle.kernel.specs.declared.refusal.ListRefusal.{ListRefusal}
use Rattle.kernel.specs.Shown.{refusal_of, state_kept}
use Rattle.kernel.specs.Meets.{state_after, answers_after, LoadMeets, ListMeets}
use Rattle.kernel.specs.Given.{Given, by_load, by_step, by_run}

-- a port in range can be stored
storable : (t : Tables) → Accepted t → (s : model.State) → Ranged t s → (k : ℕ) → k < port_count t → Storable (port s k)
storable t a s r k l =
    let q = r.each k l in
    let ranges = a.rows k l in
    record {
      few = omega (arith, q.counted, ranges.keeps_few);
      short =
          λ i h.
          let m = get_or (port s k).queue i [] in
          omega (arith, between-high 1 (row t k).largest (length m) (fits-at (row t k) (port s k).queue q.sized i h), ranges.few_bytes);
    }

-- the settled state shows the state that it was put together from, and passes test 29
module _ (t : Tables) (ok : accepts t ≡ true) (st : State) (s : model.State) (r : Ranged t s) where
  pub settled-shown : shown_state t (settled_as st s) ≡ s
  unfolding settled_as
  settled-shown =
      ap (λ ps. record { clock = s.clock; modes = s.modes; ports = ps })
      (ap (ports_of (settled_numbers s.ports st.numbers) (settled_bytes s.ports st.bytes)) (sym r.whole)
      ∙ settled-shows s.ports st.numbers st.bytes (λ k l. storable t (accepted t ok) s r k (omega (arith, l, r.whole))))

  pub settled-sound : is_sound t (settled_as st s) ≡ true
  unfolding is_sound settled_as
  settled-sound = both ok (both (ap (in_range t) settled-shown ∙ in-range t s r) (settled-indexed t s.ports st.numbers r.whole))

-- a state that passes test 29 shows a state in range
pub sound-accepts : (t : Tables) (st : State) → is_sound t st ≡ true → accepts t ≡ true
unfolding is_sound
sound-accepts t st h = both_left (accepts t) (state_fits t st) h

pub sound-ranged : (t : Tables) (st : State) → is_sound t st ≡ true → Ranged t (shown_state t st)
unfolding is_sound
sound-ranged t st h =
    ranged t (shown_state t st) (both_left (in_range t (shown_state t st)) (indexed t st.numbers) (both_right (accepts t) (state_fits t st) h))

-- a call on a list that is not refused, from a state that passes test 29
module _ (t : Tables) (st : State) (sound : is_sound t st ≡ true) (events : List ℕ) where
  pub after-ranged : Ranged t (after_all t (shown_state t st) (events_of events))
  after-ranged = all-ranged t (accepted t (sound-accepts t st sound)) (shown_state t st) (sound-ranged t st sound) (events_of events) (events-sized events)

  no-events : length events ≡ 0 → after_all t (shown_state t st) (events_of events) ≡ shown_state t st
  unfolding events_of
  no-events e = rw e

  pub list-shown : shown_state t (state_after 0 t st events) ≡ after_all t (shown_state t st) (events_of events)
  unfolding state_after
  list-shown =
      by-test (λ (x : State). shown_state t x ≡ after_all t (shown_state t st) (events_of events)) (not (eqb (length events) 0))
      (λ e. settled-shown t (sound-accepts t st sound) st (after_all t (shown_state t st) (events_of events)) after-ranged)
      (λ e. sym (no-events (eqb-true (length events) 0 (not-false (eqb (length events) 0) e))))

  pub list-sound : is_sound t (state_after 0 t st events) ≡ true
  unfolding state_after
  list-sound =
      by-test (λ (x : State). is_sound t x ≡ true) (not (eqb (length events) 0))
      (λ e. settled-sound t (sound-accepts t st sound) st (after_all t (shown_state t st) (events_of events)) after-ranged)
      (λ e. sound)

-- a call that is not refused leaves that state
left_by : {fault : ℕ} {t : List ℕ} {st : State} {events buffer : List ℕ} {r : Result State ListRefusal} {buffer' : List ℕ} → ListMeets fault t st events buffer r buffer' → refusal_of r ≡ 0
    → state_kept st r ≡ state_after 0 t st events
left_by {fault} {t} {st} {events} m z = m.state ∙ ap (λ f. state_after f t st events) (sym m.refusal ∙ z)

-- a load that gives a state has accepted the tables
pub load-accepts : {t : List ℕ} {st : State} → LoadMeets t (Ok st) → accepts t ≡ true
load-accepts {t} {st} m = sym (is_ok-accepts t (Ok st) m.verdict)

load-sound : {t : List ℕ} {st : State} → LoadMeets t (Ok st) → is_sound t st ≡ true
unfolding is_sound
load-sound {t} m = let ok = load-accepts m in subst (λ x. (accepts t && state_fits t x) ≡ true) (sym m.state) (both ok (load_fits t ok))

-- no state that the public calls give is refused 29
pub given-sound : (t : List ℕ) (st : State) → Given t st → is_sound t st ≡ true
given-sound t st (by_load m) = load-sound m
given-sound t st (by_step {st = s} event buffer buffer' g m) = subst (λ x. is_sound t x ≡ true) (sym (left_by m refl)) (list-sound t s (given-sound t s g) event)
given-sound t st (by_run {st = s} events buffer buffer' g m) = subst (λ x. is_sound t x ≡ true) (sym (left_by m refl)) (list-sound t s (given-sound t s g) events)

-- the model's call on the list is not refused either
sound-model : (t : Tables) (st : State) → is_sound t st ≡ true → Model.is_sound t (shown_state t st) ≡ true
unfolding is_sound
sound-model t st h =
    both (both_left (accepts t) (state_fits t st) h)
    (both_left (in_range t (shown_state t st)) (indexed t st.numbers) (both_right (accepts t) (state_fits t st) h))

-- what the model's call gives where its fault is 0
ran-state : (fault : ℕ) (t : Tables) (s : model.State) (events buffer : List ℕ) → fault ≡ 0 → (ran_or fault t s events buffer).state ≡ after_all t s (events_of events)
unfolding ran_or
ran-state fault t s events buffer e = rw e

ran-refusal : (fault : ℕ) (t : Tables) (s : model.State) (events buffer : List ℕ) → fault ≡ 0 → (ran_or fault t s events buffer).refusal ≡ 0
unfolding ran_or
ran-refusal fault t s events buffer e = rw e

-- the fault of the call is that of the model's
module _ (t : Tables) (st : State) (sound : is_sound t st ≡ true) (whole : Bool) (events buffer : List ℕ) where
  same-fault : list_fault whole events buffer (is_sound t st) ≡ 0 → list_fault whole events buffer (Model.is_sound t (shown_state t st)) ≡ 0
  same-fault z = ap (list_fault whole events buffer) (sound-model t st sound ∙ sym sound) ∙ z

-- each state that the public calls give shows a state that the model reaches
pub given-reached : (t : List ℕ) (st : State) → Given t st → Reached t (shown_state t st)
unfolding Model.run Model.step
given-reached t st (by_load m) = subst (Reached t) (sym (ap (shown_state t) m.state ∙ load-shown t)) (Model.by_load (load-accepts m))
given-reached t st (by_step {st = s} event buffer buffer' g m) =
    let sound = given-sound t s g in
    let fault = same-fault t s sound (eqb (length event) event_size) event buffer (sym m.refusal) in
    subst (Reached t)
    (ran-state _ t (shown_state t s) event buffer fault ∙ sym (ap (shown_state t) (left_by m refl) ∙ list-shown t s sound event))
    (Model.by_step event buffer (ran-refusal _ t (shown_state t s) event buffer fault) (given-reached t s g))
given-reached t st (by_run {st = s} events buffer buffer' g m) =
    let sound = given-sound t s g in
    let fault = same-fault t s sound (eqb (length events % event_size) 0) events buffer (sym m.refusal) in
    subst (Reached t)
    (ran-state _ t (shown_state t s) events buffer fault ∙ sym (ap (shown_state t) (left_by m refl) ∙ list-shown t s sound events))
    (Model.by_run events buffer (ran-refusal _ t (shown_state t s) events buffer fault) (given-reached t s g))

-- what a run that is not refused leaves, and what stands in its answers
pub run-leaves : {t : List ℕ} {st : State} {events buffer : List ℕ} {r : Result State ListRefusal} {buffer' : List ℕ} {fault : ℕ} → is_sound t st ≡ true → ListMeets fault t st events buffer r buffer'
    → refusal_of r ≡ 0
    → shown_state t (state_kept st r) ≡ after_all t (shown_state t st) (events_of events)
run-leaves {t} {st} {events} sound m z = ap (shown_state t) (left_by m z) ∙ list-shown t st sound events

pub run-answers : {t : List ℕ} {st : State} {events buffer : List ℕ} {r : Result State ListRefusal} {buffer' : List ℕ} {fault : ℕ} → ListMeets fault t st events buffer r buffer' → refusal_of r ≡ 0
    → buffer' ≡ joined (answers t (shown_state t st) (events_of events)) ++ drop (length events) buffer
unfolding answers_after
run-answers {t} {st} {events} {buffer} m z = m.answered ∙ ap (λ f. answers_after f t st events buffer) (sym m.refusal ∙ z)
