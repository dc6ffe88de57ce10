-- The messages of a store, oldest first; what append, drop and settle do to its slots.
-- Assumes nothing.
use Rattle.std.specs.Prelude.{ℕ, zero, suc, ◌+◌, ◌-◌, ◌*◌, ◌%◌, ◌≤◌, min, List, [], ◌∷◌, ◌++◌, map, length, get_or, take, drop, set}
use Rattle.std.proofs.Math.Nat.{min-le_right}
use Rattle.model.specs.Words.{filled, zeros}
use Rattle.model.specs.State.{Message}
use Rattle.stores.specs.declared.Letter.{Letter}
use Rattle.stores.specs.declared.Store.{Store}

abbrev pub slots : ℕ
slots = 8

abbrev pub slot_size : ℕ
slot_size = 64

-- the slot of the message that is i places behind the oldest
abbrev pub slot_of : Store → ℕ → ℕ
slot_of st i = (st.oldest + i) % slots

-- the message in a slot: as many bytes as its length says. A length above 64, which test 29 refuses, does not reach into the next slot
abbrev pub message_in : Store → ℕ → Message
message_in st slot = filled (get_or st.lengths slot 0) (take slot_size (drop (slot_size * slot) st.bytes))

-- n messages from the i-th on
abbrev pub messages_from : Store → ℕ → ℕ → List Message
messages_from st zero i = []
messages_from st (suc n) i = message_in st (slot_of st i) ∷ messages_from st n (suc i)

-- the messages of a store, oldest first
unfoldable pub queue_of : Store → List Message
queue_of st = messages_from st st.count 0

-- the message of a letter, and a message as a letter
abbrev pub written : Letter → Message
written l = take l.size l.bytes

-- a letter has at most 64 bytes: of a longer message, the first 64
abbrev pub letter_of : Message → Letter
letter_of m = record { bytes = filled slot_size m; size = min (length m) slot_size; short = min-le_right (length m) slot_size }

-- a list with part of it replaced
abbrev pub pasted : {A : Type 0} → List A → ℕ → List A → List A
pasted l at part = take at l ++ (part ++ drop (at + length part) l)

-- 64 bytes with a length put into the slot behind the last
unfoldable pub laid_behind : Store → List ℕ → ℕ → Store
laid_behind st bytes size =
    record {
      bytes = pasted st.bytes (slot_size * slot_of st st.count) bytes;
      lengths = set st.lengths (slot_of st st.count) size;
      oldest = st.oldest;
      count = st.count + 1;
    }

-- a letter put there
unfoldable pub appended : Store → Letter → Store
appended st l =
    record {
      bytes = pasted st.bytes (slot_size * slot_of st st.count) l.bytes;
      lengths = set st.lengths (slot_of st st.count) l.size;
      oldest = st.oldest;
      count = st.count + 1;
    }

-- the oldest message taken away
unfoldable pub dropped : Store → Store
dropped st = record { bytes = st.bytes; lengths = st.lengths; oldest = (st.oldest + 1) % slots; count = st.count - 1 }

-- the oldest message, as a letter
unfoldable pub oldest_of : Store → Letter
oldest_of st = letter_of (message_in st (slot_of st 0))

unfoldable pub no_messages : Store
no_messages = record { bytes = zeros 512; lengths = zeros slots; oldest = 0; count = 0 }

-- the settled form of a store that holds these messages: the oldest in slot 0, and zeros wherever no message stands
abbrev pub all_filled : List Message → List ℕ
all_filled [] = []
all_filled (m ∷ ms) = filled slot_size m ++ all_filled ms

unfoldable pub lay_out : List Message → Store
lay_out queue = record { bytes = filled 512 (all_filled queue); lengths = filled slots (map length queue); oldest = 0; count = length queue }

-- what test 29 says of a store, as far as its own slots go: at most eight messages, each of at most 64 bytes
pub record Sized (st : Store) : Type 0 where
  pub few : st.count ≤ slots
  pub short : (i : ℕ) → suc i ≤ st.count → get_or st.lengths (slot_of st i) 0 ≤ slot_size

-- the same said of the messages themselves: each has at most 64 bytes
abbrev pub Short : List Message → Type 0
Short queue = (i : ℕ) → suc i ≤ length queue → length (get_or queue i []) ≤ slot_size
