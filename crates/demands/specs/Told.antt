-- The result that a refusal's number and a state tell: the state for 0, else the refusal of that number.
-- Assumes nothing.
use Rattle.std.specs.Prelude.{if◌then◌else◌, ℕ, ◌≡◌, eqb, Result, Ok, Err}
use Rattle.states.specs.declared.State.{State}
use Rattle.kernel.specs.declared.refusal.ListRefusal.{ListRefusal}
use Rattle.kernel.specs.Shown.{refusal_numbered, refusal_of, state_kept}

abbrev pub told : ℕ → State → Result State ListRefusal
told n st = if eqb n 0 then Ok st else Err (refusal_numbered n)

-- the number and the state are those of an outcome that meets the contract: told as a result they meet it, and the result tells them again
pub record MeetsAs (Meets : Result State ListRefusal → Type 0) (before : State) (n : ℕ) (after : State) : Type 0 where
  pub meets : Meets (told n after)
  pub number : refusal_of (told n after) ≡ n
  pub state : state_kept before (told n after) ≡ after
