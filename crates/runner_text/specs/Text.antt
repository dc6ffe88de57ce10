-- 01, "The runner": the text of a line, of the two refusals, and how a list's bytes are split into records.
-- Assumes nothing.
use Rattle.std.specs.Prelude.{if◌then◌else◌, ℕ, zero, suc, ◌+◌, ◌*◌, ◌/◌, ◌%◌, Bool, ◌&&◌, ◌||◌, List, [], ◌∷◌, ◌++◌, ltb, leb, eqb, take, drop}
use Rattle.model.specs.Words.{byte, word16, word32}
use Rattle.model.specs.Events.{event_size}
use Rattle.model.specs.Answers.{handed}

-- the characters of a line besides digits
abbrev pub space : ℕ
space = 32

abbrev pub dash : ℕ
dash = 45

abbrev pub newline : ℕ
newline = 10

-- a number's decimal digits, the most significant first, with no zero in front: at most k of them, the last ones where n has more
abbrev pub digits : ℕ → ℕ → List ℕ
digits zero n = []
digits (suc k) n = if ltb n 10 then (48 + n) ∷ [] else (digits k (n / 10) ++ ((48 + n % 10) ∷ []))

-- twenty digits hold every number of 64 bits
unfoldable pub decimal : ℕ → List ℕ
decimal n = digits 20 n

-- a byte as two lower-case hexadecimal digits, and bytes one after another
abbrev pub hex_digit : ℕ → ℕ
hex_digit d = if ltb d 10 then 48 + d else (87 + d)

unfoldable pub hex_byte : ℕ → List ℕ
hex_byte b = hex_digit (b / 16) ∷ hex_digit (b % 16) ∷ []

abbrev pub hex : List ℕ → List ℕ
hex [] = []
hex (b ∷ bs) = hex_byte b ++ hex bs

-- a number and the space after it
unfoldable pub field : ℕ → List ℕ
field n = decimal n ++ (space ∷ [])

-- number, doer, code
unfoldable pub who : ℕ → List ℕ → List ℕ
who number answer = field number ++ (field (byte answer 1) ++ field (byte answer 0))

-- id, number, length field
unfoldable pub what : List ℕ → List ℕ
what answer = field (word16 answer 2) ++ (field (word32 answer 4) ++ field (word32 answer 8))

-- byte 12, byte 13, depth
unfoldable pub how : List ℕ → List ℕ
how answer = field (byte answer 12) ++ (field (byte answer 13) ++ field (word16 answer 14))

-- code 0 of events 3 and 8
unfoldable pub shows_message : List ℕ → List ℕ → Bool
shows_message event answer = eqb (byte answer 0) 0 && (eqb (byte event 0) 3 || eqb (byte event 0) 8)

-- the message bytes, else a dash
unfoldable pub message : List ℕ → List ℕ → List ℕ
message event answer = if shows_message event answer then hex (handed answer 0) else (dash ∷ [])

unfoldable pub line : ℕ → List ℕ → List ℕ → List ℕ
line number event answer = who number answer ++ (what answer ++ (how answer ++ (message event answer ++ (newline ∷ []))))

-- record i of the bytes of events or of answers
abbrev pub record_at : List ℕ → ℕ → List ℕ
record_at b i = take event_size (drop (event_size * i) b)

-- the lines of the first n records, numbered from first on
abbrev pub lines : ℕ → List ℕ → List ℕ → ℕ → List ℕ
lines first events answers zero = []
lines first events answers (suc n) = lines first events answers n ++ line (first + n) (record_at events n) (record_at answers n)

-- "tables refused N at R"
unfoldable pub tables_refused : ℕ → ℕ → List ℕ
tables_refused number record' =
    (116 ∷ 97 ∷ 98 ∷ 108 ∷ 101 ∷ 115 ∷ 32 ∷ 114 ∷ 101 ∷ 102 ∷ 117 ∷ 115 ∷ 101 ∷ 100 ∷ 32 ∷ [])
    ++ (decimal number ++ ((32 ∷ 97 ∷ 116 ∷ 32 ∷ []) ++ (decimal record' ++ (newline ∷ []))))

-- "events refused 27"
unfoldable pub events_refused : List ℕ
events_refused = 101 ∷ 118 ∷ 101 ∷ 110 ∷ 116 ∷ 115 ∷ 32 ∷ 114 ∷ 101 ∷ 102 ∷ 117 ∷ 115 ∷ 101 ∷ 100 ∷ 32 ∷ 50 ∷ 55 ∷ newline ∷ []

-- how many bytes of tables of a length are loaded: all of them, or the first 161 records where there are more; none where the length itself is refused
unfoldable pub loaded_length : ℕ → ℕ
loaded_length n = if leb n 7728 then n else if eqb (n % 48) 0 then 7728 else 0
