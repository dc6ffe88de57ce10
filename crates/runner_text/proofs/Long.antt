-- Tables longer than 161 records: what the runner loads of them is refused. Assumes nothing.
use Prim.Native.Nat.{ℕ, ◌%◌, ◌≤◌, ◌<◌}
use mathlib.Core.Path.{◌≡◌, refl}
use mathlib.Core.Bool.{Bool, true, false}
use mathlib.Core.List.{List}
use native.Mathlib.Omega.{arith}
use lib.Dec.{eqb}
use lib.ListN.{length, take, length-take}
use borrow.Author.Tests.{lt-leb}
use Rattle.model.specs.Tables.{Tables, records}
use Rattle.model.specs.Load.{accepts}
use Rattle.model.proofs.Accepted.{accepted}
use Rattle.model.proofs.Tests.{by-test}
use Rattle.runner_text.specs.Text.{loaded_length}

-- accepted tables have 1 to 160 records: a window, at most 64 windows, 64 ports and 32 channels
pub few-records : (t : Tables) → accepts t ≡ true → (0 < records t) × (records t ≤ 160)
few-records t ok =
    let a = accepted t ok in
    (omega (arith, a.windowed, a.ports_after, a.channels_after), omega (arith, a.few_windows, a.few_ports, a.few_channels, a.ports_after, a.channels_after))

not-accepted : (t : Tables) → (accepts t ≡ true → ⊥) → accepts t ≡ false
not-accepted t h = go (accepts t) refl
  where
    go : (b : Bool) → accepts t ≡ b → accepts t ≡ false
    go true e = absurd (h e)
    go false e = e

-- 161 whole records are refused, and so is the empty file that stands for every long one whose length is refused
pub long-refused : (b : List ℕ) → 7728 < length b → accepts (take (loaded_length (length b)) b) ≡ false
unfolding loaded_length
long-refused b h =
    rw (lt-leb (length b) 7728 h)
    (by-test (λ n. accepts (take n b) ≡ false) (eqb (length b % 48) 0)
    (λ _. not-accepted (take 7728 b) (λ ok. absurd (omega (arith, (few-records (take 7728 b) ok).1, length-take 7728 b, h))))
    (λ _. not-accepted (take 0 b) (λ ok. absurd (omega (arith, (few-records (take 0 b) ok).0, length-take 0 b)))))
