-- Demand 1 of the public calls: an event that is not answered 0 leaves the state that is shown, and its record is its code, its doer and zeros.
-- Of a step, and of each event of a run. The numbers of the state may come back in another arrangement, its settled form, which shows the same: 01 calls
-- two states the same if window, time, modes, marks, arrival times, last validities and messages agree, and that is what is shown.
-- Assumes nothing.
use Rattle.std.specs.Prelude.{Ok}
use Prim.Native.Nat.{ℕ, zero, suc, ◌+◌, ◌*◌, ◌/◌, ◌%◌, ◌≤◌, ◌<◌}
use mathlib.Core.Path.{◌≡◌, refl, sym, ◌∙◌, ap, subst}
use mathlib.Core.List.{List, [], ◌∷◌, ◌++◌, append_assoc}
use native.Mathlib.Omega.{arith}
use lib.Dec.{eqb}
use lib.ListN.{length, get_or, take, drop, take-append-drop}
use lib.Seq.{length-take-le, take_at, drop_at, drop-drop}
use Rattle.model.specs.Words.{byte, zeros, cut}
use Rattle.model.specs.Tables.{Tables}
use Rattle.model.specs.State as model
use Rattle.model.specs.Events.{Event, event_size}
use Rattle.model.specs.Step.{doer, answer, after}
use Rattle.model.specs.Run.{answers, after_all, events_of, joined}
use Rattle.model.proofs.Lists.{answer-length, events-append}
use Rattle.model.proofs.Refusals.{refused-changes-nothing}
use Rattle.states.specs.declared.State.{State}
use Rattle.states.specs.Shown.{shown_state, is_sound}
use Rattle.kernel.specs.Meets.{RunMeets, StepMeets}
use Rattle.kernel.proofs.GivenStates.{run-leaves, run-answers}
use Rattle.demands.proofs.Steps.{not-refused, step-length, one-event}

-- record i of answer bytes, event i of event bytes, and the model's state that a run has reached before event i
abbrev pub record_at : List ℕ → ℕ → List ℕ
record_at b i = take 80 (drop (80 * i) b)

abbrev pub event_at : List ℕ → ℕ → Event
event_at events i = get_or (events_of events) i []

abbrev pub before : Tables → State → List ℕ → ℕ → model.State
before t st events i = after_all t (shown_state t st) (take i (events_of events))

-- an answer that is not 0: its doer did nothing, and the record says no more than code and doer
pub record DidNothing (t : Tables) (s : model.State) (e : Event) (s' : model.State) (record' : List ℕ) : Type 0 where
  pub unchanged : s' ≡ s
  pub bare : record' ≡ byte record' 0 ∷ doer t s e ∷ zeros 78

-- the model's run, event by event
module _ (t : Tables) where
  record_is : (s : model.State) (es : List Event) (rest : List ℕ) (i : ℕ) → i < length es → record_at (joined (answers t s es) ++ rest) i ≡ answer t (after_all t s (take i es)) (get_or es i [])
  record_is s [] rest i h = absurd (omega arith)
  record_is s (e ∷ es) rest zero h =
      let later = joined (answers t (after t s e) es) in
      ap (take 80) (append_assoc (answer t s e) later rest) ∙ take_at (answer t s e) (later ++ rest) 80 (answer-length t s e)
  record_is s (e ∷ es) rest (suc i) h =
      let later = joined (answers t (after t s e) es) in
      let next : 80 * suc i ≡ 80 + 80 * i = omega arith in
      ap (take 80)
      (ap (λ n. drop n ((answer t s e ++ later) ++ rest)) next
      ∙ sym (drop-drop (80 * i) 80 ((answer t s e ++ later) ++ rest))
      ∙ ap (drop (80 * i)) (ap (drop 80) (append_assoc (answer t s e) later rest) ∙ drop_at (answer t s e) (later ++ rest) 80 (answer-length t s e)))
      ∙ record_is (after t s e) es rest i (omega arith)

  after_next : (s : model.State) (es : List Event) (i : ℕ) → i < length es → after_all t s (take (suc i) es) ≡ after t (after_all t s (take i es)) (get_or es i [])
  after_next s [] i h = absurd (omega arith)
  after_next s (e ∷ es) zero h = refl
  after_next s (e ∷ es) (suc i) h = after_next (after t s e) es i (omega arith)

  did_nothing : (s : model.State) (e : Event) (a : List ℕ) → a ≡ answer t s e → (byte a 0 ≡ 0 → ⊥) → DidNothing t s e (after t s e) a
  did_nothing s e a same h =
      let refused = refused-changes-nothing t s e (λ z. h (ap (λ l. byte l 0) same ∙ z)) in
      record { unchanged = refused.unchanged; bare = subst (λ l. l ≡ byte l 0 ∷ doer t s e ∷ zeros 78) (sym same) refused.bare }

pub run-refused :
    (t : Tables) (st : State) (events room : List ℕ) (st' : State) (answers : List ℕ) → RunMeets t st events room (Ok st') answers  -- a list that is run,
    → (i : ℕ) → i < length (events_of events)  -- and an event of it
    → (byte (record_at answers i) 0 ≡ 0 → ⊥)  -- that is not answered 0:
    → DidNothing t (before t st events i) (event_at events i) (before t st events (suc i)) (record_at answers i)
run-refused t st events room st' answers m i h code =
    let s = shown_state t st in
    let same = ap (λ b. record_at b i) (run-answers m refl) ∙ record_is t s (events_of events) (drop (length events) room) i h in
    subst (λ s'. DidNothing t (before t st events i) (event_at events i) s' (record_at answers i)) (sym (after_next t s (events_of events) i h))
    (did_nothing t (before t st events i) (event_at events i) (record_at answers i) same code)

-- the state before event i is what any run of the first i events alone shows
cut-length : (size n : ℕ) (b : List ℕ) → length (cut size n b) ≡ n
cut-length size zero b = refl
cut-length size (suc n) b = ap suc (cut-length size n (drop size b))

first-events : (events : List ℕ) (i : ℕ) → 80 * i ≤ length events → events_of (take (80 * i) events) ≡ take i (events_of events)
unfolding events_of
first-events events i h =
    let part = take (80 * i) events in
    let long : length part ≡ 80 * i = length-take-le (80 * i) events h in
    let count : length (events_of part) ≡ i = cut-length 80 (length part / 80) part ∙ omega arith in
    sym (take_at (events_of part) (events_of (drop (80 * i) events)) i count)
    ∙ ap (take i) (sym (events-append part (drop (80 * i) events) (omega arith)) ∙ ap events_of (take-append-drop (80 * i) events))

pub before-shown :
    (t : Tables) (st : State) (events : List ℕ) (i : ℕ) → 80 * i ≤ length events
    → (room : List ℕ) (st' : State) (answers : List ℕ) → RunMeets t st (take (80 * i) events) room (Ok st') answers
    → shown_state t st' ≡ before t st events i
before-shown t st events i h room st' answers m =
    let part = take (80 * i) events in
    let sound = (not-refused (eqb (length part % event_size) 0) part room (is_sound t st) (sym m.refusal)).is_sound in
    run-leaves sound m refl ∙ ap (after_all t (shown_state t st)) (first-events events i h)

pub step-refused :
    (t : Tables) (st : State) (event room : List ℕ) (left : State) (answers : List ℕ) → StepMeets t st event room (Ok left) answers  -- a step that is not refused,
    → (byte (take 80 answers) 0 ≡ 0 → ⊥)  -- whose event is not answered 0:
    → DidNothing t (shown_state t st) event (shown_state t left) (take 80 answers)
step-refused t st event room left answers m code =
    let s = shown_state t st in
    let sound = (not-refused (eqb (length event) event_size) event room (is_sound t st) (sym m.refusal)).is_sound in
    let one = one-event event (step-length m refl) in
    let there : 0 < length (events_of event) = omega (arith, ap length one) in
    let same = ap (take 80) (run-answers m refl) ∙ record_is t s (events_of event) (drop (length event) room) 0 there ∙ ap (λ es. answer t s (get_or es 0 [])) one in
    subst (λ s'. DidNothing t s event s' (take 80 answers)) (sym (run-leaves sound m refl ∙ ap (after_all t s) one))
    (did_nothing t s event (take 80 answers) same code)
