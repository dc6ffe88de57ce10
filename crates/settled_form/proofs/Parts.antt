-- What the code does to put a state together: a port's numbers laid in two parts, and one port after another.
-- Assumes nothing.
use Prim.Native.Nat.{ℕ, zero, suc, ◌+◌, ◌*◌, ◌≤◌}
use mathlib.Core.Path.{◌≡◌, sym, ◌∙◌, ap, ap₂}
use mathlib.Core.List.{List, [], ◌∷◌, ◌++◌, append_assoc}
use native.Mathlib.Nat.{zero-add, add-zero}
use native.Mathlib.Numerals.{add-one}
use native.Mathlib.Omega.{arith}
use lib.ListN.{length, get_or, take, drop, length-append}
use lib.Seq.{length-take-le, take_at, drop-append-add, drop-drop}
use Rattle.stores.specs.declared.Store.{Store}
use Rattle.stores.specs.Ring.{pasted, lay_out, queue_of}
use Rattle.ports.specs.Held.{row_of, store_at, port_at, ports_from, ports_of}
use Rattle.ports.proofs.PortAt.{ports-length}
use Rattle.settled_form.specs.Settled.{port_numbers, port_bytes, settled_numbers, settled_bytes}
use Rattle.settled_form.proofs.Laid.{laid_none, laid_next, numbers-length, bytes-length}

-- a part laid behind another is both laid at once
pub pasted-behind : (l : List ℕ) (at : ℕ) (a b : List ℕ) → at ≤ length l → pasted (pasted l at a) (at + length a) b ≡ pasted l at (a ++ b)
pasted-behind l at a b within =
    let front : List ℕ = take at l ++ a in
    let behind : List ℕ = drop (at + length a) l in
    let long : length front ≡ at + length a = length-append (take at l) a ∙ ap (λ n. n + length a) (length-take-le at l within) in
    let split : pasted l at a ≡ front ++ behind = sym (append_assoc (take at l) a behind) in
    let counted : at + length a + length b ≡ at + length (a ++ b) = omega (arith, length-append a b) in
    let rest : drop (at + length a + length b) (front ++ behind) ≡ drop (at + length (a ++ b)) l =
    ap (λ n. drop (n + length b) (front ++ behind)) (sym long)
    ∙ drop-append-add front behind (length b)
    ∙ drop-drop (length b) (at + length a) l
    ∙ ap (λ n. drop n l) counted
    in
    ap (λ w. pasted w (at + length a) b) split
    ∙ ap₂ (λ x y. x ++ (b ++ y)) (take_at front behind (at + length a) long) rest
    ∙ append_assoc (take at l) a (b ++ drop (at + length (a ++ b)) l)
    ∙ ap (λ w. take at l ++ w) (sym (append_assoc a b (drop (at + length (a ++ b)) l)))

-- the numbers and the block of port k, from its settled store
module _ (numbers bytes : List ℕ) (k : ℕ) {st : Store} (settled : st ≡ lay_out (queue_of (store_at numbers bytes k))) where
  pub row_laid : {a b c : ℕ} → a ≡ get_or (row_of numbers k) 0 0 → b ≡ get_or (row_of numbers k) 1 0 → c ≡ get_or (row_of numbers k) 2 0
      → a ∷ b ∷ c ∷ st.oldest ∷ st.count ∷ st.lengths ≡ port_numbers (port_at numbers bytes k)
  unfolding port_numbers port_at store_at lay_out
  row_laid created validity arrival = rw (created, validity, arrival, settled)

  pub block-laid : st.bytes ≡ port_bytes (port_at numbers bytes k)
  unfolding port_bytes port_at store_at lay_out
  block-laid = rw settled

-- one port more
from_last : (numbers bytes : List ℕ) (n k : ℕ) → ports_from numbers bytes (suc n) k ≡ ports_from numbers bytes n k ++ port_at numbers bytes (k + n) ∷ []
from_last numbers bytes zero k = rw add-zero
from_last numbers bytes (suc n) k =
    ap (λ ps. port_at numbers bytes k ∷ ps)
    (from_last numbers bytes n (suc k) ∙ ap (λ i. ports_from numbers bytes n (suc k) ++ port_at numbers bytes i ∷ []) (omega arith))

ports-last : (numbers bytes : List ℕ) (n : ℕ) → ports_of numbers bytes (n + 1) ≡ ports_of numbers bytes n ++ port_at numbers bytes n ∷ []
unfolding ports_of
ports-last numbers bytes n =
    ap (λ i. ports_from numbers bytes i 0) (add-one n)
    ∙ from_last numbers bytes n 0
    ∙ ap (λ i. ports_from numbers bytes n 0 ++ port_at numbers bytes i ∷ []) (zero-add n)

module _ (numbers bytes old : List ℕ) where
  pub numbers-none : old ≡ settled_numbers (ports_of numbers bytes 0) old
  unfolding settled_numbers ports_of
  numbers-none = sym (laid_none port_numbers 13 numbers-length old)

  pub bytes-none : old ≡ settled_bytes (ports_of numbers bytes 0) old
  unfolding settled_bytes ports_of
  bytes-none = sym (laid_none port_bytes 512 bytes-length old)

  -- what stands after a turn, from what stood before it and from the port that the turn laid
  pub numbers-next : (k : ℕ) {before after : List ℕ} → before ≡ settled_numbers (ports_of numbers bytes k) old
      → after ≡ pasted before (13 * k) (port_numbers (port_at numbers bytes k)) → after ≡ settled_numbers (ports_of numbers bytes (k + 1)) old
  unfolding settled_numbers
  numbers-next k so_far laid =
      laid
      ∙ ap₂ (λ l n. pasted l (13 * n) (port_numbers (port_at numbers bytes k))) so_far (sym (ports-length numbers bytes k))
      ∙ laid_next port_numbers 13 numbers-length (ports_of numbers bytes k) (port_at numbers bytes k) old
      ∙ ap (λ ps. settled_numbers ps old) (sym (ports-last numbers bytes k))

  pub bytes_next : (k : ℕ) {before after : List ℕ} → before ≡ settled_bytes (ports_of numbers bytes k) old
      → after ≡ pasted before (512 * k) (port_bytes (port_at numbers bytes k)) → after ≡ settled_bytes (ports_of numbers bytes (k + 1)) old
  unfolding settled_bytes
  bytes_next k so_far laid =
      laid
      ∙ ap₂ (λ l n. pasted l (512 * n) (port_bytes (port_at numbers bytes k))) so_far (sym (ports-length numbers bytes k))
      ∙ laid_next port_bytes 512 bytes-length (ports_of numbers bytes k) (port_at numbers bytes k) old
      ∙ ap (λ ps. settled_bytes ps old) (sym (ports-last numbers bytes k))
