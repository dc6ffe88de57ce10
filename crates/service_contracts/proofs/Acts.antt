-- A doer's act, from a refusal and from what a service at one port gives.
-- Assumes nothing.
use Prim.Native.Nat.{ℕ, ◌<◌}
use mathlib.Core.Path.{◌≡◌, refl, ap₂}
use mathlib.Core.List.{List}
use Rattle.model.specs.Tables.{Tables}
use Rattle.model.specs.Tables.{ports as port_count}
use Rattle.model.specs.State.{Clock, State}
use Rattle.model.specs.Services.{refuse, Served, refuses, serves, at_port}
use Rattle.events.specs.declared.answers.Answer.{Answer}
use Rattle.events.specs.Shown.{refused_as}
use Rattle.service_contracts.specs.Did.{shown, Does}
use Rattle.service_contracts.specs.Served.{Serves}
use Rattle.service_contracts.proofs.Holding.{shown-put}

-- a refusal leaves the state
pub refused-does : {s : State} {doer code : ℕ} {r : Answer} → r ≡ refused_as code doer → Does s (refuse code) doer r s
refused-does a = record { answered = a; left = refl }

-- a service at one port is a reply at that port
pub serves-does :
    (t : Tables) (clock : Clock) (modes numbers bytes numbers' bytes' : List ℕ) (k doer : ℕ) (r : Answer) (x : Served) → k < port_count t
    → Serves numbers bytes numbers' bytes' k doer r x
    → Does (shown t clock modes numbers bytes) (at_port (shown t clock modes numbers bytes) k x) doer r (shown t clock modes numbers' bytes')
serves-does t clock modes numbers bytes numbers' bytes' k doer r (refuses code) h s =
    record { answered = s.answered; left = ap₂ (shown t clock modes) s.numbers_kept s.bytes_kept }
serves-does t clock modes numbers bytes numbers' bytes' k doer r (serves v q) h s = record { answered = s.0; left = shown-put t clock modes h s.1 }
