-- A state as bytes, in a buffer of one size: window, time, sixteen modes, the 832 numbers of the port rows, the message bytes.
-- Each number that is wider than a byte is four bytes, low byte first.
-- Assumes nothing.
use Rattle.std.specs.Prelude.{ℕ, zero, suc, ◌+◌, List, [], ◌∷◌, ◌++◌, take, drop}
use Rattle.model.specs.Words.{word32, bytes32}
use Rattle.states.specs.declared.State.{State}

abbrev pub state_size : ℕ
state_size = 36120

-- n numbers, the first of them at a place
abbrev pub numbers_from : List ℕ → ℕ → ℕ → List ℕ
numbers_from b zero at = []
numbers_from b (suc n) at = word32 b at ∷ numbers_from b n (at + 4)

-- the bytes of numbers
abbrev pub bytes_of_all : List ℕ → List ℕ
bytes_of_all [] = []
bytes_of_all (n ∷ ns) = bytes32 n ++ bytes_of_all ns

-- the state in a buffer
unfoldable pub state_of : List ℕ → State
state_of b =
    record {
      window = word32 b 0;
      time = word32 b 4;
      modes = take 16 (drop 8 b);
      numbers = numbers_from b 832 24;
      bytes = take 32768 (drop 3352 b);
    }

-- the buffer of a state
unfoldable pub bytes_of : State → List ℕ
bytes_of st = bytes32 st.window ++ (bytes32 st.time ++ (st.modes ++ (bytes_of_all st.numbers ++ st.bytes)))
