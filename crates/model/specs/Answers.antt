-- 01, "Answers": what an answer says, its 80 bytes, and the reader.
-- Assumes nothing.
use Rattle.std.specs.Prelude.{if◌then◌else◌, ℕ, ◌+◌, ◌*◌, ◌/◌, ◌%◌, Bool, ◌&&◌, List, [], ◌∷◌, ◌++◌, leb, ltb, eqb, length, take, drop}
use Rattle.model.specs.Words.{byte, word32, bytes16, bytes32, zeros, filled}
use Rattle.model.specs.Events.{event_size}
use Rattle.model.specs.State.{Message}

-- return codes
abbrev pub no_error : ℕ
no_error = 0

abbrev pub no_action : ℕ
no_action = 1

abbrev pub not_available : ℕ
not_available = 2

abbrev pub invalid_param : ℕ
invalid_param = 3

abbrev pub invalid_config : ℕ
invalid_config = 4

abbrev pub invalid_mode : ℕ
invalid_mode = 5

-- what an answer of code 0 tells: 2-3 id; 4-7 number; 8-11 length or largest message; 12 validity or last validity; 13 direction; 14-15 depth; 16-79 message
pub record Told : Type 0 where
  pub id : ℕ
  pub number : ℕ
  pub size : ℕ
  pub validity : ℕ
  pub direction : ℕ
  pub depth : ℕ
  pub message : Message

-- all else is zero
abbrev pub nothing_told : Told
nothing_told = record { id = 0; number = 0; size = 0; validity = 0; direction = 0; depth = 0; message = [] }

abbrev pub told_id : ℕ → Told
told_id id = record { id = id; number = 0; size = 0; validity = 0; direction = 0; depth = 0; message = [] }

abbrev pub told_number : ℕ → Told
told_number n = record { id = 0; number = n; size = 0; validity = 0; direction = 0; depth = 0; message = [] }

abbrev pub told_message : Message → ℕ → Told
told_message m validity = record { id = 0; number = 0; size = length m; validity = validity; direction = 0; depth = 0; message = m }

-- the 80 bytes of an answer: byte 0 code, 1 doer; code 0 alone tells more
unfoldable pub refusal : ℕ → ℕ → List ℕ
refusal code doer = code ∷ doer ∷ zeros 78

unfoldable pub told : ℕ → Told → List ℕ
told doer v =
    no_error ∷ doer ∷ bytes16 v.id
    ++ (bytes32 v.number
    ++ (bytes32 v.size
    ++ (v.validity ∷ v.direction ∷ bytes16 v.depth ++ filled 64 v.message)))

-- A message is handed out as the stretch of the lent answers where it stands: where it starts, and its length
pub record Stretch : Type 0 where
  pub from : ℕ
  pub size : ℕ

-- the record asked for is there, its code is 0 and its length is at most 64
unfoldable pub is_handed : List ℕ → ℕ → Bool
is_handed b r =
    eqb (length b % event_size) 0
    && ltb r (length b / event_size)
    && eqb (byte b (event_size * r)) no_error
    && leb (word32 b (event_size * r + 8)) 64

-- bytes 16 up to 16 plus length of the record, or the empty stretch at the start
unfoldable pub stretch : List ℕ → ℕ → Stretch
stretch b r =
    if is_handed b r then record { from = event_size * r + 16; size = word32 b (event_size * r + 8) }
    else record { from = 0; size = 0 }

unfoldable pub handed : List ℕ → ℕ → List ℕ
handed b r = take (stretch b r).size (drop (stretch b r).from b)
