-- Who may hand to whom, read off the test: a partition that does not hand to a channel does not own its source, and
-- a channel that does not hand to a partition has no destination of that partition's.
-- Assumes nothing.
use Prim.Native.Nat.{ℕ, ◌+◌, ◌-◌, ◌<◌}
use native.Mathlib.Omega.{arith}
use mathlib.Core.Path.{◌≡◌}
use mathlib.Core.Bool.{Bool, false, ◌&&◌, ◌||◌}
use mathlib.Core.Logic.{◌≢◌}
use lib.Dec.{eqb}
use borrow.Author.Tests.{eqb-false}
use Rattle.model.proofs.Bounded.{any_at}
use Rattle.model.proofs.Tests.{neither_left, neither_right}
use Rattle.model.proofs.HeldPorts.{is-channel, channel-number}
use Rattle.model.specs.Words.{any}
use Rattle.model.specs.Tables.{Tables, channels, row, source_port, destinations, destination_port}
use Rattle.model.specs.Step.{scheduler, first_channel}
use Rattle.model.specs.Flow.{is_channel, hands}

-- the two halves of the test
from_owner : Tables → ℕ → ℕ → Bool
from_owner t d x = is_channel t x && eqb (row t (source_port t (x - first_channel))).owner d

to_owner : Tables → ℕ → ℕ → Bool
to_owner t d x =
    is_channel t d && any (λ j. eqb (row t (destination_port t (d - first_channel) j)).owner x) (destinations t (d - first_channel)) 0

module _ (t : Tables) (c : ℕ) (there : c < channels t) where
  pub not-source-owner : (p : ℕ) → hands t p (first_channel + c) ≡ false → (row t (source_port t c)).owner ≢ p
  unfolding hands from_owner to_owner
  not-source-owner p none =
      let d = first_channel + c in
      let half = neither_right (eqb p scheduler) (from_owner t p d) (neither_left (eqb p scheduler || from_owner t p d) (to_owner t p d) none) in
      eqb-false _ _ (rw (is-channel t c there, channel-number t c) at half)

  pub no-destination-owner :
      (d : ℕ) → hands t (first_channel + c) d ≡ false → (j : ℕ) → j < destinations t c → (row t (destination_port t c j)).owner ≢ d
  unfolding hands from_owner to_owner
  no-destination-owner d none j few =
      let half = neither_right (eqb (first_channel + c) scheduler || from_owner t (first_channel + c) d) (to_owner t (first_channel + c) d) none in
      eqb-false _ _
      (any_at (λ i. eqb (row t (destination_port t c i)).owner d) (destinations t c) 0 j
      (rw (is-channel t c there, channel-number t c) at half) (omega arith) (omega arith))
