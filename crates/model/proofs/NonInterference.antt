-- Demand 3: what a partition is told and holds depends on the events that matter to it, and on what their doers held at the start.
-- The walk, the doers and what each holds are defined in specs/Walk and specs/Flow, the step in specs/Step, reached states in specs/Run.
-- Assumes nothing: reached states have accepted tables.
use Rattle.std.specs.Prelude.{if◌then◌else◌}
use Prim.Native.Nat.{ℕ, ◌<◌}
use mathlib.Core.Path.{◌≡◌, refl, ap, sym, ◌∙◌}
use mathlib.Core.Bool.{true}
use mathlib.Core.List.{List, [], ◌∷◌}
use lib.Dec.{eqb}
use borrow.Author.Tests.{eq-eqb}
use Rattle.model.proofs.Accepted.{Accepted, accepted}
use Rattle.model.proofs.Conditions.{machine, conditions}
use Rattle.model.proofs.Reached.{reached-accepted}
use Rattle.model.proofs.Shaped.{Shaped, reached-shaped}
use Rattle.model.proofs.Unwinding.{SameRun, answers_of, end_of, unwinding}
use Rattle.model.specs.Tables.{Tables}
use Rattle.model.specs.State.{State}
use Rattle.model.specs.Events.{Event}
use Rattle.model.specs.Step.{answer, after, doer}
use Rattle.model.specs.Run.{after_all, Reached}
use Rattle.model.specs.Walk.{is_member}
use Rattle.model.specs.Flow.{holds, start_set, set_of, mattering_to, answers_to}

-- the model's run is the machine's
run_end : (t : Tables) (s : State) (es : List Event) → after_all t s es ≡ end_of (machine t) s es
run_end t s [] = refl
run_end t s (e ∷ es) = run_end t (after t s e) es

run-answers : (t : Tables) (p : ℕ) (s : State) (es : List Event) → answers_to t p s es ≡ answers_of (machine t) p s es
run-answers t p s [] = refl
run-answers t p s (e ∷ es) =
    ap (λ later. if eqb (doer t s e) p then answer t s e ∷ later else later) (run-answers t p (after t s e) es)

-- the conclusion
pub record SameView (t : Tables) (p : ℕ) (s : State) (es : List Event) (s' : State) (es' : List Event) : Type 0 where
  pub answers : answers_to t p s es ≡ answers_to t p s' es'  -- both runs give the partition's calls the same answers, byte for byte,
  pub holding : holds t (after_all t s es) p ≡ holds t (after_all t s' es') p  -- and leave it holding the same;
  pub sets : set_of t p s es ≡ set_of t p s' es'  -- and both walks end in one set, which demand 3 need not assume

pub noninterference :
    (t : Tables) (p : ℕ) → p < 16  -- fix tables, a partition,
    → (s : State) → Reached t s  -- a reached state
    → (es : List Event)  -- and an event list;
    → (s' : State) → Reached t s'  -- take a second reached state under the same tables
    → ((d : ℕ) → is_member d (set_of t p s es) ≡ true → holds t s d ≡ holds t s' d)  -- that agrees on what each final member holds,
    → (es' : List Event)  -- and a second list
    → mattering_to t p s es ≡ mattering_to t p s' es'  -- whose mattering events from there are the same records in the same order:
    → SameView t p s es s' es'
unfolding set_of mattering_to
noninterference t p few s reached es s' reached' agree es' same =
    record {
      answers = run-answers t p s es ∙ both.answers p member ∙ sym (run-answers t p s' es');
      holding = ap (λ a. holds t a p) (run_end t s es) ∙ both.ends p member ∙ sym (ap (λ a. holds t a p) (run_end t s' es'));
      sets = both.sets;
    }
  where
    laws : Accepted t
    laws = accepted t (reached-accepted t s reached)

    both : SameRun (machine t) p s es s' es'
    both =
        unwinding (machine t) (Shaped t) (conditions t laws) p s s' es es' (reached-shaped t s reached) (reached-shaped t s' reached') agree same

    member : is_member p (start_set p) ≡ true
    member = rw (eq-eqb p p refl)
