-- Test 29 as the code makes it is the model's: the numbers of a port tell what the model asks of the port, whatever its message bytes.
-- Assumes nothing.
use Prim.Native.Nat.{ℕ, zero, suc, ◌+◌, ◌-◌, ◌*◌, ◌≤◌, ◌<◌}
use mathlib.Core.Path.{◌≡◌, refl, sym, ◌∙◌, ap, ap₂, subst}
use mathlib.Core.Bool.{Bool, true, false, ◌&&◌, ◌||◌}
use mathlib.Core.List.{List, [], ◌∷◌}
use native.Mathlib.Omega.{arith}
use lib.Dec.{leb, ltb, eqb}
use Rattle.std.specs.List.{list_all}
use Rattle.std.proofs.lemmas.Bool.Decides.{nat_tests}
use lib.ListN.{length, get_or, take, drop, length-take, length-drop}
use lib.Seq.{get_or-take, get_or-drop, ext_get_or}
use borrow.Author.Tests.{eq-eqb}
use Rattle.model.specs.Words.{between, all, all_in}
use Rattle.model.specs.Tables.{Tables, windows, Row, row, room}
use Rattle.model.specs.Tables.{ports as port_count}
use Rattle.model.specs.State.{Clock, shortest, port_in_range, ports_in_range, in_range}
use Rattle.model.specs.State.{fits}
use Rattle.model.specs.Load.{accepts}
use Rattle.model.specs.Ranged.{RowRanges}
use Rattle.model.proofs.Accepted.{accepted}
use Rattle.tables.specs.Shown as Shown
use Rattle.tables.specs.declared.PortRow.{PortRow}
use Rattle.stores.specs.Ring.{slots, slot_of, messages_from, queue_of}
use Rattle.stores.proofs.Laws.{message-length}
use Rattle.ports.specs.Held.{row_of, block_of, store_in, store_at, port_at, ports_from, ports_of}
use Rattle.ports.proofs.Rows.{row-at, row-length}
use Rattle.ports.proofs.PortAt.{count-is, store_bytes, store-lengths, ports-length}
use Rattle.service_contracts.proofs.Holding.{row_read}
use Rattle.service_contracts.specs.Did.{shown}
use Rattle.state_test.specs.Tested.{modes_fit, length_fits, lengths_fit, numbers_fit, port_fits, indexed, each_fits}

-- ---- bounded searches

all-shift : (p : ℕ → Bool) (n k : ℕ) → all p n (suc k) ≡ all (λ i. p (suc i)) n k
all-shift p zero k = refl
all-shift p (suc n) k = ap (λ rest. p (suc k) && rest) (all-shift p n (suc k))

-- std's test of each element is the model's
pub list-all : {A : Type 0} (p : A → Bool) (l : List A) → list_all p l ≡ all_in p l
list-all p [] = refl
list-all p (x ∷ l) = ap (λ rest. p x && rest) (list-all p l)

swapped : (a b c d : Bool) → (a && b && (c && d)) ≡ (a && c && (b && d))
swapped true true c d = refl
swapped true false true d = refl
swapped true false false d = refl
swapped false b c d = refl

-- two tests of each number, one after the other and both at once
all_both : (p q : ℕ → Bool) (n k : ℕ) → (all p n k && all q n k) ≡ all (λ i. p i && q i) n k
all_both p q zero k = refl
all_both p q (suc n) k = swapped (p k) (all p n (suc k)) (q k) (all q n (suc k)) ∙ ap (λ rest. p k && q k && rest) (all_both p q n (suc k))

-- two tests that agree on each number
all_same : (p q : ℕ → Bool) (n k e : ℕ) → k + n ≤ e → ((i : ℕ) → i < e → p i ≡ q i) → all p n k ≡ all q n k
all_same p q zero k e h same = refl
all_same p q (suc n) k e h same = ap₂ ◌&&◌ (same k (omega arith)) (all_same p q n (suc k) e (omega arith) same)

-- ---- one port

-- the stored messages have the lengths that are stored with them
lengths-stored : (numbers block : List ℕ) → length block ≡ 512 → length (drop 5 numbers) ≡ 8 → (r : Row) (n i : ℕ)
    → all_in (fits r) (messages_from (store_in numbers block) n i)
    ≡ all (length_fits r.largest numbers (get_or numbers 3 0)) n i
lengths-stored numbers block wide eight r zero i = refl
lengths-stored numbers block wide eight r (suc n) i =
    ap₂ ◌&&◌
    (ap (between shortest r.largest)
    (message-length (store_in numbers block) wide eight (slot_of (store_in numbers block) i) ∙ get_or-drop 5 numbers (slot_of (store_in numbers block) i) 0))
    (lengths-stored numbers block wide eight r n (suc i))

pub lengths-held : (numbers bytes : List ℕ) (k : ℕ) → length bytes ≡ 32768 → k < 64 → (r : Row)
    → all_in (fits r) (port_at numbers bytes k).queue
    ≡ lengths_fit r.largest (row_of numbers k) (get_or (row_of numbers k) 3 0) (get_or (row_of numbers k) 4 0)
unfolding port_at queue_of store_at
lengths-held numbers bytes k wide few r =
    lengths-stored (row_of numbers k) (block_of bytes k) (store_bytes numbers bytes k wide few) (store-lengths numbers bytes k) r (get_or (row_of numbers k) 4 0) 0

-- the order of the tests does not matter
reordered : (c v i n m l : Bool) → (c && v && i && n && m && l) ≡ (c && v && n && l && m && i)
reordered false v i n m l = refl
reordered true false i n m l = refl
reordered true true i n m l = rest i n l m
  where
    rest : (i n l m : Bool) → (i && n && m && l) ≡ (n && l && m && i)
    rest false false l m = refl
    rest false true false m = refl
    rest false true true false = refl
    rest false true true true = refl
    rest true false l m = refl
    rest true true false false = refl
    rest true true false true = refl
    rest true true true false = refl
    rest true true true true = refl

pub numbers-judged : (numbers bytes : List ℕ) (k : ℕ) → length bytes ≡ 32768 → k < 64 → (r : Row)
    → numbers_fit r (row_of numbers k) ≡ (port_in_range r (port_at numbers bytes k) && ltb (get_or (row_of numbers k) 3 0) slots)
unfolding numbers_fit port_in_range port_at
numbers-judged numbers bytes k wide few r =
    rw (← (count-is numbers bytes k), lengths-held numbers bytes k wide few r)
    (reordered (leb (get_or (row_of numbers k) 0 0) 1) (leb (get_or (row_of numbers k) 1 0) 1) (ltb (get_or (row_of numbers k) 3 0) slots)
    (leb (get_or (row_of numbers k) 4 0) (room r)) (eqb (get_or (row_of numbers k) 0 0) 1 || eqb (get_or (row_of numbers k) 4 0) 0)
    (lengths_fit r.largest (row_of numbers k) (get_or (row_of numbers k) 3 0) (get_or (row_of numbers k) 4 0)))

-- an oldest slot past the ring is refused, whatever else the numbers say
pub index-out : (r : Row) (n : List ℕ) → 8 ≤ get_or n 3 0 → numbers_fit r n ≡ false
unfolding numbers_fit
index-out r n h = grind (arith, nat_tests)

-- ---- all ports

ports-from : (t : Tables) (numbers bytes : List ℕ) (n k : ℕ) → ports_in_range t k (ports_from numbers bytes n k) ≡ all (λ i. port_in_range (row t i) (port_at numbers bytes i)) n k
ports-from t numbers bytes zero k = refl
ports-from t numbers bytes (suc n) k = ap (λ rest. port_in_range (row t k) (port_at numbers bytes k) && rest) (ports-from t numbers bytes n (suc k))

pub ports-judged : (t : Tables) (numbers bytes : List ℕ) → length bytes ≡ 32768 → port_count t ≤ 64
    → (ports_in_range t 0 (ports_of numbers bytes (port_count t)) && indexed t numbers) ≡ each_fits t numbers
unfolding ports_of indexed each_fits
ports-judged t numbers bytes wide few =
    ap (λ ports. ports && indexed t numbers) (ports-from t numbers bytes (port_count t) 0)
    ∙ all_both (λ i. port_in_range (row t i) (port_at numbers bytes i)) (λ i. ltb (get_or (row_of numbers i) 3 0) slots) (port_count t) 0
    ∙ sym (all_same (port_fits t numbers) (λ i. port_in_range (row t i) (port_at numbers bytes i) && ltb (get_or (row_of numbers i) 3 0) slots) (port_count t) 0 (port_count t) (omega arith)
    (λ i h. numbers-judged numbers bytes i wide (omega arith) (row t i)))

-- port k of accepted tables, as the code reads it: its row decoded, and its thirteen numbers as a part of all
module _ (t : Tables) (numbers : List ℕ) (ok : accepts t ≡ true) (whole : length numbers ≡ 832) (k : ℕ) (there : k < port_count t) where
  few : k < 64
  few = omega (arith, (accepted t ok).few_ports)

  pub part-inside : 13 * k + 13 ≤ length numbers
  part-inside = omega (arith, few)

  part-length : length (take (13 * k + 13 - 13 * k) (drop (13 * k) numbers)) ≡ 13
  part-length = simp (length-take, length-drop) (omega (arith, few))

  part-is : take (13 * k + 13 - 13 * k) (drop (13 * k) numbers) ≡ row_of numbers k
  part-is =
      ext_get_or 0 _ _ (part-length ∙ sym (row-length numbers k))
      (λ i inside.
      let here : i < 13 = omega (arith, part-length) in
      get_or-take (13 * k + 13 - 13 * k) (drop (13 * k) numbers) i 0 (omega arith) ∙ get_or-drop (13 * k) numbers i 0 ∙ sym (row-at numbers k i here))

  module _ {r : PortRow} (read : r ≡ Shown.decoded (row t k)) where
    pub its-ranges : RowRanges (Shown.row_of r)
    its-ranges = subst RowRanges (sym (row_read t (accepted t ok) k there read)) ((accepted t ok).rows k there)

    pub port-judged : {b : Bool} → b ≡ numbers_fit (Shown.row_of r) (take (13 * k + 13 - 13 * k) (drop (13 * k) numbers)) → b ≡ port_fits t numbers k
    port-judged e = e ∙ ap₂ numbers_fit (row_read t (accepted t ok) k there read) part-is

-- ---- the state

joined : (w m p i e : Bool) → (p && i) ≡ e → (w && true && m && true && p && i) ≡ (w && m && e)
joined false m p i e h = refl
joined true false p i e h = refl
joined true true p i e h = h

pub state-judged : (t : Tables) (clock : Clock) (modes numbers bytes : List ℕ) → length modes ≡ 16 → length bytes ≡ 32768 → port_count t ≤ 64
    → (in_range t (shown t clock modes numbers bytes) && indexed t numbers) ≡ (ltb clock.window (windows t) && modes_fit modes && each_fits t numbers)
unfolding in_range
state-judged t clock modes numbers bytes sixteen wide few =
    rw (eq-eqb (length modes) 16 sixteen, eq-eqb (length (ports_of numbers bytes (port_count t))) (port_count t) (ports-length numbers bytes (port_count t)))
    (joined (ltb clock.window (windows t)) (modes_fit modes) (ports_in_range t 0 (ports_of numbers bytes (port_count t))) (indexed t numbers) (each_fits t numbers)
    (ports-judged t numbers bytes wide few))
