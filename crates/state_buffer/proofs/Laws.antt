-- Numbers as bytes: read from a place on, and laid one behind the other.
-- Assumes nothing.
use Prim.Native.Nat.{ℕ, zero, suc, ◌+◌, ◌*◌, ◌≤◌, ◌<◌}
use mathlib.Core.Path.{◌≡◌, refl, sym, ◌∙◌, ap}
use mathlib.Core.List.{List, [], ◌∷◌, ◌++◌, append_assoc, append-nil}
use native.Mathlib.Nat.{zero-add}
use native.Mathlib.Numerals.{add-one}
use native.Mathlib.Omega.{arith}
use lib.ListN.{length, get_or, take, drop, length-append, length-drop}
use lib.Seq.{take-suc, drop-length, length-take-le}
use Rattle.model.specs.Words.{word32, bytes32}
use Rattle.stores.specs.Ring.{pasted}
use Rattle.settled_form.proofs.Parts.{pasted-behind}
use Rattle.states.specs.declared.State.{State}
use Rattle.state_buffer.specs.Layout.{state_size, numbers_from, bytes_of_all, state_of, bytes_of}

pub numbers-length : (b : List ℕ) (n at : ℕ) → length (numbers_from b n at) ≡ n
numbers-length b zero at = refl
numbers-length b (suc n) at = ap suc (numbers-length b n (at + 4))

pub numbers-at : (b : List ℕ) (n at i : ℕ) → i < n → get_or (numbers_from b n at) i 0 ≡ word32 b (at + 4 * i)
numbers-at b zero at i h = absurd (omega arith)
numbers-at b (suc n) at zero h = ap (word32 b) (omega arith)
numbers-at b (suc n) at (suc i) h = numbers-at b n (at + 4) i (omega arith) ∙ ap (word32 b) (omega arith)

pub all-length : (l : List ℕ) → length (bytes_of_all l) ≡ 4 * length l
all-length [] = refl
all-length (x ∷ l) = omega (arith, all-length l)

all-behind : (l : List ℕ) (x : ℕ) → bytes_of_all (l ++ x ∷ []) ≡ bytes_of_all l ++ bytes32 x
all-behind [] x = refl
all-behind (y ∷ l) x = ap (λ r. bytes32 y ++ r) (all-behind l x)

-- one number more
pub all-next : (l : List ℕ) (i : ℕ) → i < length l → bytes_of_all (take (i + 1) l) ≡ bytes_of_all (take i l) ++ bytes32 (get_or l i 0)
all-next l i h = rw (add-one i, take-suc l i 0 h) (all-behind (take i l) (get_or l i 0))

-- what covers the whole list
pub pasted-whole : (l part : List ℕ) → length part ≡ length l → pasted l 0 part ≡ part
pasted-whole l part h = rw (zero-add, h, drop-length l) (append-nil part)

-- a part laid behind what stands at the start
behind : (l front part : List ℕ) (n : ℕ) → length front ≡ n → pasted (pasted l 0 front) n part ≡ pasted l 0 (front ++ part)
behind l front part n long =
    ap (λ k. pasted (pasted l 0 front) k part) (sym long ∙ sym (zero-add (length front))) ∙ pasted-behind l 0 front part (omega arith)

-- the five parts of a state, laid in their order, are its buffer
pub state-laid :
    (o : List ℕ) (st : State) → length o ≡ state_size → length st.modes ≡ 16 → length st.numbers ≡ 832 → length st.bytes ≡ 32768
    → pasted (pasted (pasted (pasted (pasted o 0 (bytes32 st.window)) 4 (bytes32 st.time)) 8 st.modes) 24 (bytes_of_all st.numbers)) 3352 st.bytes ≡ bytes_of st
unfolding bytes_of
state-laid o st whole modes numbers bytes =
    let w = bytes32 st.window in
    let wt = w ++ bytes32 st.time in
    let wtm = wt ++ st.modes in
    let wtmn = wtm ++ bytes_of_all st.numbers in
    let long-m : length wtm ≡ 24 = omega (arith, modes) in
    let long-n : length wtmn ≡ 3352 = omega (arith, length-append wtm (bytes_of_all st.numbers), long-m, all-length st.numbers, numbers) in
    let long : length (wtmn ++ st.bytes) ≡ length o = omega (arith, length-append wtmn st.bytes, long-n, bytes, whole) in
    ap (λ l. pasted (pasted (pasted l 8 st.modes) 24 (bytes_of_all st.numbers)) 3352 st.bytes) (behind o w (bytes32 st.time) 4 refl)
    ∙ ap (λ l. pasted (pasted l 24 (bytes_of_all st.numbers)) 3352 st.bytes) (behind o wt st.modes 8 refl)
    ∙ ap (λ l. pasted l 3352 st.bytes) (behind o wtm (bytes_of_all st.numbers) 24 long-m)
    ∙ behind o wtmn st.bytes 3352 long-n
    ∙ pasted-whole o (wtmn ++ st.bytes) long
    ∙ ap (λ r. w ++ (bytes32 st.time ++ r)) (append_assoc st.modes (bytes_of_all st.numbers) st.bytes)

-- a stretch of the buffer
pub part-long : (b : List ℕ) (at n : ℕ) → at + n ≤ length b → length (take n (drop at b)) ≡ n
part-long b at n h = length-take-le n (drop at b) (omega (arith, length-drop at b))

-- the five parts of a buffer, read, are its state
pub state-read :
    (b : List ℕ) {window time : ℕ} {modes numbers bytes : List ℕ} → window ≡ word32 b 0 → time ≡ word32 b 4 → modes ≡ take 16 (drop 8 b) → numbers ≡ numbers_from b 832 24 → bytes ≡ take 32768 (drop 3352 b)
    → record { window = window; time = time; modes = modes; numbers = numbers; bytes = bytes } ≡ state_of b
unfolding state_of
state-read b w t m n c = λ i. record { window = w i; time = t i; modes = m i; numbers = n i; bytes = c i }
