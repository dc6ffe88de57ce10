-- What the reader hands out of record i is what it hands out of that record alone, and the message of a line is that. Assumes nothing.
use Prim.Native.Nat.{ℕ, ◌+◌, ◌*◌, ◌/◌, ◌%◌, ◌≤◌, ◌<◌}
use mathlib.Core.Path.{◌≡◌, refl, sym, ap, ap₂, ◌∙◌}
use mathlib.Core.Bool.{Bool, true, false, ◌&&◌}
use mathlib.Core.List.{List, [], ◌∷◌}
use native.Mathlib.Nat.{add_assoc, add-zero}
use native.Mathlib.Omega.{arith}
use lib.Dec.{eqb, leb}
use lib.ListN.{length, take, drop, length-take, length-drop}
use lib.Seq.{length-take-le, take-add, drop_at, take-take, drop-drop, get_or-take, get_or-drop}
use borrow.Author.Tests.{eq-eqb, lt-ltb}
use Rattle.model.specs.Words.{byte, word16, word32}
use Rattle.model.specs.Answers.{handed, is_handed, stretch}
use Rattle.kernel.proofs.Laws.{one-handed, none-handed}
use Rattle.kernel.proofs.Laws.{handed-short as size-short}
use Rattle.runner_text.specs.Text.{hex, dash, shows_message, message, record_at}

-- a message handed out has at most 64 bytes
handed-short : (b : List ℕ) (r : ℕ) → length (handed b r) ≤ 64
unfolding handed
handed-short b r = go (is_handed b r) refl
  where
    go : (x : Bool) → is_handed b r ≡ x → length (take (stretch b r).size (drop (stretch b r).from b)) ≤ 64
    go true h = rw (one-handed b r h) (omega (arith, size-short b r h, length-take (word32 b (80 * r + 8)) (drop (80 * r + 16) b)))
    go false h = rw (none-handed b r h) (omega arith)

pub message-short : (m b : List ℕ) (r : ℕ) → m ≡ handed b r → length m ≤ 64
message-short m b r e = rw e (handed-short b r)

-- record i of whole records: its bytes, the reader's test of it, and what is handed out
module _ (b : List ℕ) (i : ℕ) (whole : length b % 80 ≡ 0) (there : 80 * i + 80 ≤ length b) where
  record-length : length (record_at b i) ≡ 80
  record-length = length-take-le 80 (drop (80 * i) b) (simp length-drop (omega arith))

  record-byte : (k : ℕ) → k < 80 → byte (record_at b i) k ≡ byte b (80 * i + k)
  record-byte k h = get_or-take 80 (drop (80 * i) b) k 0 h ∙ get_or-drop (80 * i) b k 0

  record-code : byte (record_at b i) 0 ≡ byte b (80 * i)
  record-code = record-byte 0 (omega arith) ∙ ap (byte b) (add-zero (80 * i))

  record-word : (k : ℕ) → k + 1 < 80 → word16 (record_at b i) k ≡ word16 b (80 * i + k)
  record-word k h = omega (arith, record-byte k (omega arith), record-byte (k + 1) h, ap (byte b) (add_assoc (80 * i) k 1))

  record-size : word32 (record_at b i) 8 ≡ word32 b (80 * i + 8)
  record-size = omega (arith, record-word 8 (omega arith), record-word (8 + 2) (omega arith), ap (word16 b) (add_assoc (80 * i) 8 2))

  same_test : is_handed (record_at b i) 0 ≡ is_handed b i
  unfolding is_handed
  same_test =
      rw (record-length, eq-eqb (length b % 80) 0 whole, lt-ltb i (length b / 80) (omega arith))
      (ap₂ (λ z n. eqb z 0 && leb n 64) record-code record-size)

  record-body : drop 16 (record_at b i) ≡ take 64 (drop (80 * i + 16) b)
  record-body =
      ap (drop 16) (take-add 16 64 (drop (80 * i) b))
      ∙ drop_at (take 16 (drop (80 * i) b)) (take 64 (drop 16 (drop (80 * i) b))) 16 (length-take-le 16 (drop (80 * i) b) (simp length-drop (omega arith)))
      ∙ ap (take 64) (drop-drop 16 (80 * i) b)

  pub handed-record : handed b i ≡ handed (record_at b i) 0
  unfolding handed
  handed-record = go (is_handed b i) refl
    where
      go : (x : Bool) → is_handed b i ≡ x → take (stretch b i).size (drop (stretch b i).from b) ≡ take (stretch (record_at b i) 0).size (drop (stretch (record_at b i) 0).from (record_at b i))
      go true h =
          rw (one-handed b i h, one-handed (record_at b i) 0 (same_test ∙ h))
          (sym (ap₂ take record-size record-body ∙ take-take (word32 b (80 * i + 8)) 64 (drop (80 * i + 16) b) (size-short b i h)))
      go false h = rw (none-handed b i h, none-handed (record_at b i) 0 (same_test ∙ h))

-- the message of a line, by the test
pub message-shown : (event answer : List ℕ) → shows_message event answer ≡ true → message event answer ≡ hex (handed answer 0)
unfolding message
message-shown event answer h = rw h

pub message-not : (event answer : List ℕ) → shows_message event answer ≡ false → message event answer ≡ dash ∷ []
unfolding message
message-not event answer h = rw h
