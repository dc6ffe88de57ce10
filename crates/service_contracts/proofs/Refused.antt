-- A service that refuses, over the lent arrays.
-- Assumes nothing.
use Prim.Native.Nat.{ℕ}
use mathlib.Core.Path.{◌≡◌, refl}
use mathlib.Core.List.{List}
use Rattle.events.specs.declared.answers.Answer.{Answer}
use Rattle.events.specs.Shown.{refused_as}
use Rattle.service_contracts.specs.Served.{Refuses}

-- a refusal leaves the lent arrays as they are
pub kept : {numbers bytes : List ℕ} {doer code : ℕ} {r : Answer} → r ≡ refused_as code doer → Refuses numbers bytes numbers bytes doer code r
kept a = record { answered = a; numbers_kept = refl; bytes_kept = refl }
