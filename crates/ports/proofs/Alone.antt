-- A letter laid alone in a port: three numbers of the port's row, and the first slot of its block.
-- Assumes nothing.
use Prim.Native.Nat.{ℕ, ◌+◌, ◌*◌, ◌≤◌, ◌<◌}
use mathlib.Core.Path.{◌≡◌, ◌∙◌, ap, ap₂}
use mathlib.Core.List.{List, [], ◌∷◌}
use mathlib.Core.Logic.{◌⊎◌, inl, inr}
use native.Mathlib.Omega.{arith}
use lib.ListN.{length, take, drop, set}
use lib.Seq.{take-take, take_all, take-append-le}
use Rattle.model.specs.Words.{filled, zeros}
use Rattle.model.specs.State.{with_queue}
use Rattle.model.proofs.Tests.{three}
use Rattle.stores.specs.declared.Letter.{Letter}
use Rattle.stores.specs.Ring.{written, pasted, queue_of}
use Rattle.stores.proofs.Lists.{read-part, read-before, read-after}
use Rattle.ports.specs.Held.{row_of, block_of, port_in, port_at, RowPut, PortPut}

-- 64 bytes laid at the start of block k: its first slot holds them, and every other block is as it was
module _ (bytes bytes' part : List ℕ) (k : ℕ) (whole : length bytes ≡ 32768) (there : k < 64) (long : length part ≡ 64) (laid : bytes' ≡ pasted bytes (512 * k) part) where
  within : 512 * k + length part ≤ length bytes
  within = omega (arith, whole, there, long)

  first-slot : take 64 (block_of bytes' k) ≡ part
  unfolding block_of
  first-slot =
      take-take 64 512 (drop (512 * k) bytes') (omega arith)
      ∙ ap (λ b. take 64 (drop (512 * k) b)) laid
      ∙ read-part bytes (512 * k) part within 64 (omega (arith, long))
      ∙ take_all 64 part (omega (arith, long))

  other-blocks : (j : ℕ) → (j ≡ k → ⊥) → block_of bytes' j ≡ block_of bytes j
  unfolding block_of
  other-blocks j other = ap (λ b. take 512 (drop (512 * j) b)) laid ∙ go (three j k)
    where
      go : (j < k) ⊎ ((j ≡ k) ⊎ (k < j)) → take 512 (drop (512 * j) (pasted bytes (512 * k) part)) ≡ take 512 (drop (512 * j) bytes)
      go (inl q) = read-before bytes (512 * k) part within 512 (512 * j) (omega arith)
      go (inr (inl q)) = absurd (other q)
      go (inr (inr q)) = read-after bytes (512 * k) part within 512 (512 * j) (omega (arith, long))

-- a row and a block whose one message is the letter's
alone-row : (numbers bytes : List ℕ) (k : ℕ) (l : Letter) (block : List ℕ) → length l.bytes ≡ 64 → take 64 block ≡ l.bytes
    → port_in (set (set (set (row_of numbers k) 3 0) 4 1) 5 l.size) block ≡ with_queue (port_at numbers bytes k) (written l ∷ [])
unfolding port_at row_of queue_of
alone-row numbers bytes k l block whole laid =
    let message : filled l.size (take 64 block) ≡ written l = ap (filled l.size) laid ∙ take-append-le l.size l.bytes (zeros l.size) (omega (arith, l.short, whole)) in
    ap (λ m. with_queue (port_at numbers bytes k) (m ∷ [])) message

-- the law for put_alone
pub alone-put : {numbers bytes numbers' bytes' : List ℕ} {k : ℕ} (l : Letter) → RowPut numbers numbers' k (set (set (set (row_of numbers k) 3 0) 4 1) 5 l.size)
    → length bytes ≡ 32768 → k < 64 → length l.bytes ≡ 64 → bytes' ≡ pasted bytes (512 * k) l.bytes
    → PortPut numbers bytes numbers' bytes' k (with_queue (port_at numbers bytes k) (written l ∷ []))
unfolding port_at
alone-put {numbers} {bytes} {numbers'} {bytes'} {k} l row whole there long laid =
    record {
      here = ap (λ r. port_in r (block_of bytes' k)) row.here ∙ alone-row numbers bytes k l (block_of bytes' k) long (first-slot bytes bytes' l.bytes k whole there long laid);
      elsewhere = λ j other. ap₂ port_in (row.elsewhere j other) (other-blocks bytes bytes' l.bytes k whole there long laid j other);
    }
