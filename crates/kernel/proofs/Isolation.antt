-- Demand 3, carried to the code: two runs of the public call, from states that the public calls gave, whose outcomes meet the contract.
-- Assumes nothing.
use Rattle.std.specs.Prelude.{if◌then◌else◌, Ok}
use Prim.Native.Nat.{ℕ, ◌<◌}
use mathlib.Core.Path.{◌≡◌, refl, sym, ◌∙◌, ap, ap₂}
use mathlib.Core.Bool.{true}
use mathlib.Core.List.{List, [], ◌∷◌, ◌++◌, append_assoc}
use lib.Dec.{eqb}
use lib.ListN.{length, take, drop}
use lib.Seq.{take_at, drop_at}
use Rattle.model.specs.Tables.{Tables}
use Rattle.model.specs.State as model
use Rattle.model.specs.Events.{Event}
use Rattle.model.specs.Step.{doer, answer, after}
use Rattle.model.specs.Run.{answers, events_of, joined}
use Rattle.model.specs.Walk.{is_member}
use Rattle.model.specs.Flow.{holds, set_of, mattering_to, answers_to}
use Rattle.model.proofs.Lists.{answer-length}
use Rattle.model.proofs.NonInterference.{noninterference}
use Rattle.states.specs.declared.State.{State}
use Rattle.states.specs.Shown.{shown_state}
use Rattle.kernel.specs.Meets.{RunMeets}
use Rattle.kernel.specs.Given.{Given, records_to}
use Rattle.kernel.proofs.GivenStates.{given-sound, given-reached, run-leaves, run-answers}

-- the records of the partition's calls, read off the answer bytes, are the answers to them
records-are : (t : Tables) (p : ℕ) (s : model.State) (es : List Event) (rest : List ℕ) → records_to t p s es (joined (answers t s es) ++ rest) ≡ answers_to t p s es
records-are t p s [] rest = refl
records-are t p s (e ∷ es) rest =
    let a = answer t s e in
    let later = joined (answers t (after t s e) es) in
    let split : (a ++ later) ++ rest ≡ a ++ (later ++ rest) = append_assoc a later rest in
    ap₂ (λ x y. if eqb (doer t s e) p then x ∷ y else y)
    (ap (take 80) split ∙ take_at a (later ++ rest) 80 (answer-length t s e))
    (ap (λ l. records_to t p (after t s e) es l) (ap (drop 80) split ∙ drop_at a (later ++ rest) 80 (answer-length t s e)) ∙ records-are t p (after t s e) es rest)

-- what the partition sees of a run, bytes and all: the records that answer its calls, and what it holds afterwards
pub record SameBytes (t : List ℕ) (p : ℕ) (st : State) (events : List ℕ) (left : State) (buffer : List ℕ) (st' : State) (events' : List ℕ) (left' : State) (buffer' : List ℕ) : Type 0 where
  pub answered : records_to t p (shown_state t st) (events_of events) buffer ≡ records_to t p (shown_state t st') (events_of events') buffer'
  pub holding : holds t (shown_state t left) p ≡ holds t (shown_state t left') p

pub isolation :
    (t : List ℕ) (p : ℕ) → p < 16  -- fix tables, a partition,
    → (st : State) → Given t st  -- a state that the public calls gave
    → (events room : List ℕ) (left : State) (buffer : List ℕ) → RunMeets t st events room (Ok left) buffer  -- and a list that is run;
    → (st' : State) → Given t st'  -- take a second such state under the same tables
    → ((d : ℕ) → is_member d (set_of t p (shown_state t st) (events_of events)) ≡ true → holds t (shown_state t st) d ≡ holds t (shown_state t st') d)  -- that agrees on what each final member holds,
    → (events' room' : List ℕ) (left' : State) (buffer' : List ℕ) → RunMeets t st' events' room' (Ok left') buffer'  -- and a second list that is run,
    → mattering_to t p (shown_state t st) (events_of events) ≡ mattering_to t p (shown_state t st') (events_of events')  -- whose mattering events from there are the same records in the same order:
    → SameBytes t p st events left buffer st' events' left' buffer'  -- the partition is answered the same, byte for byte, and holds the same
isolation t p few st g events room left buffer m st' g' agree events' room' left' buffer' m' matter =
    let same = noninterference t p few (shown_state t st) (given-reached t st g) (events_of events) (shown_state t st') (given-reached t st' g') agree (events_of events') matter in
    record {
      answered =
          ap (records_to t p (shown_state t st) (events_of events)) (run-answers m refl)
          ∙ records-are t p (shown_state t st) (events_of events) (drop (length events) room)
          ∙ same.answers
          ∙ sym (ap (records_to t p (shown_state t st') (events_of events')) (run-answers m' refl) ∙ records-are t p (shown_state t st') (events_of events') (drop (length events') room'));
      holding =
          ap (λ s. holds t s p) (run-leaves (given-sound t st g) m refl) ∙ same.holding ∙ sym (ap (λ s. holds t s p) (run-leaves (given-sound t st' g') m' refl));
    }
