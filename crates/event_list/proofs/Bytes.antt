-- The 80 bytes of an answer to a reply are those of the model.
-- Assumes nothing.
use Prim.Native.Nat.{ℕ}
use mathlib.Core.Path.{◌≡◌, refl}
use Rattle.model.specs.Answers.{refusal, told}
use Rattle.model.specs.Services.{Reply, refuse, done}
use Rattle.model.specs.Step.{answer_of}
use Rattle.events.specs.Shown.{refused_as, told_as, replied, head_bytes, answer_bytes}

pub bytes-replied : (d : ℕ) (x : Reply) → answer_bytes (replied d x) ≡ answer_of d x
unfolding answer_bytes head_bytes refused_as told_as refusal told
bytes-replied d (refuse code) = refl
bytes-replied d (done v s) = refl
