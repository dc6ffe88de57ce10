-- A code's number is a known one, and no other code's.
-- Assumes nothing.
use Rattle.std.proofs.Common.{◌≡◌, ℕ, ◌-◌, true, false, ◌==◌, [], ◌∷◌, get_or, refl, sym, ap, ◌∙◌, ne_eqb}
use Rattle.model.specs.Events.{known}
use Rattle.events.specs.declared.codes.Code.{Code}
use Rattle.events.specs.declared.codes.Code.TheVariants as code
use Rattle.events.specs.Shown.{number_of}

pub number_known : (c : Code) → known (number_of c) ≡ true
number_known code.CreateSamplingPort = refl
number_known code.WriteSamplingMessage = refl
number_known code.ReadSamplingMessage = refl
number_known code.GetSamplingPortId = refl
number_known code.GetSamplingPortStatus = refl
number_known code.CreateQueuingPort = refl
number_known code.SendQueuingMessage = refl
number_known code.ReceiveQueuingMessage = refl
number_known code.GetQueuingPortId = refl
number_known code.GetQueuingPortStatus = refl
number_known code.ClearQueuingPort = refl
number_known code.SetPartitionMode = refl
number_known code.Schedule = refl
number_known code.Transmit = refl

-- the code of a number
code_of : ℕ → Code
code_of n =
    get_or
    (code.CreateSamplingPort ∷ code.WriteSamplingMessage ∷ code.ReadSamplingMessage ∷ code.GetSamplingPortId ∷ code.GetSamplingPortStatus
    ∷ code.CreateQueuingPort ∷ code.SendQueuingMessage ∷ code.ReceiveQueuingMessage ∷ code.GetQueuingPortId ∷ code.GetQueuingPortStatus
    ∷ code.ClearQueuingPort ∷ code.SetPartitionMode ∷ code.Schedule ∷ [])
    (n - 1)
    code.Transmit

code_of-number : (c : Code) → code_of (number_of c) ≡ c
unfolding code_of
code_of-number code.CreateSamplingPort = refl
code_of-number code.WriteSamplingMessage = refl
code_of-number code.ReadSamplingMessage = refl
code_of-number code.GetSamplingPortId = refl
code_of-number code.GetSamplingPortStatus = refl
code_of-number code.CreateQueuingPort = refl
code_of-number code.SendQueuingMessage = refl
code_of-number code.ReceiveQueuingMessage = refl
code_of-number code.GetQueuingPortId = refl
code_of-number code.GetQueuingPortStatus = refl
code_of-number code.ClearQueuingPort = refl
code_of-number code.SetPartitionMode = refl
code_of-number code.Schedule = refl
code_of-number code.Transmit = refl

pub one_number : (c d : Code) → number_of c ≡ number_of d → c ≡ d
one_number c d e = sym (code_of-number c) ∙ ap code_of e ∙ code_of-number d

pub other_number : (c d : Code) → (c ≡ d → ⊥) → (number_of c == number_of d) ≡ false
other_number c d n = ne_eqb (number_of c) (number_of d) (λ e. n (one_number c d e))
