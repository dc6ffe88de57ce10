-- Demand 1 of the model's step: an event not answered 0 changes no state, and its answer record is code, doer and zeros.
-- Assumes nothing.
use mathlib.Core.Path.{◌≡◌, refl}
use mathlib.Core.List.{◌∷◌}
use Rattle.model.specs.Words.{byte, zeros}
use Rattle.model.specs.Tables.{Tables}
use Rattle.model.specs.State.{State}
use Rattle.model.specs.Events.{Event}
use Rattle.model.specs.Answers.{refusal, told}
use Rattle.model.specs.Services.{Reply, refuse, done}
use Rattle.model.specs.Step.{reply, doer, answer, after}

-- what holds of an event that is not answered 0
pub record Refused (t : Tables) (s : State) (e : Event) : Type 0 where
  pub unchanged : after t s e ≡ s
  pub bare : answer t s e ≡ byte (answer t s e) 0 ∷ doer t s e ∷ zeros 78

pub refused-changes-nothing : (t : Tables) (s : State) (e : Event) → (byte (answer t s e) 0 ≡ 0 → ⊥) → Refused t s e
unfolding answer after refusal told
refused-changes-nothing t s e = go (reply t s e) refl
  where
    go : (r : Reply) → reply t s e ≡ r → (byte (answer t s e) 0 ≡ 0 → ⊥) → Refused t s e
    go (refuse code) p h = record { unchanged = rw p; bare = rw p }
    go (done v s') p h = absurd (h (rw p))
