-- The reader of answer records, by hand and computed: where a message starts, how long it is, and its bytes. 01: bytes 16 up to 16 plus length of the record
-- asked for; a record that is not there, bytes not a multiple of 80, a code other than 0 or a length above 64 give the empty stretch at the start.
-- Assumes nothing.
use Prim.Native.Nat.{ℕ}
use mathlib.Core.Path.{◌≡◌, refl}
use mathlib.Core.List.{List, [], ◌∷◌, ◌++◌}
use lib.ListN.{replicate, take}
use Rattle.model.specs.Answers.{Stretch, stretch, handed}
use Rattle.model.proofs.Computing.{stepping}
use Rattle.model.proofs.Laid.{blanks, answer_row}

-- some lent answers, the record asked for, and what the reader gives: start, length and bytes
record Row : Type 0 where
  answers : List ℕ
  asked : ℕ
  place : Stretch
  message : List ℕ

abbrev row : List ℕ → ℕ → ℕ → ℕ → List ℕ → Row
row answers asked from size message = record { answers = answers; asked = asked; place = record { from = from; size = size }; message = message }

abbrev nothing : List ℕ → ℕ → Row
nothing answers asked = row answers asked 0 0 []

-- a read answered with two bytes; with as many as it says of 64; a refusal; a status, whose length field is the largest message
abbrev two : List ℕ
two = answer_row 1 0 0 0 2 1 0 0 (65 ∷ 66 ∷ [])

abbrev long : ℕ → List ℕ
long size = answer_row 1 0 0 0 size 0 0 0 (replicate 64 67)

abbrev refused : List ℕ
refused = 1 ∷ 1 ∷ 0 ∷ 0 ∷ 0 ∷ 0 ∷ 0 ∷ 0 ∷ 2 ∷ blanks 71

abbrev status : List ℕ
status = answer_row 1 0 0 20 4 1 1 0 []

abbrev rows : List Row
rows =
    row two 0 16 2 (65 ∷ 66 ∷ [])
    ∷ row (refused ++ two) 1 96 2 (65 ∷ 66 ∷ [])
    ∷ row (two ++ refused) 0 16 2 (65 ∷ 66 ∷ [])
    ∷ nothing (refused ++ two) 0
    ∷ nothing (refused ++ two) 2
    ∷ nothing [] 0
    ∷ nothing (two ++ 0 ∷ []) 0
    ∷ nothing (take 79 two) 0
    ∷ row (long 64) 0 16 64 (replicate 64 67)
    ∷ nothing (long 65) 0
    ∷ nothing (long 0x01000002) 0
    ∷ row status 0 16 4 (0 ∷ 0 ∷ 0 ∷ 0 ∷ [])
    ∷ row (two ++ long 0) 1 96 0 []
    ∷ []

abbrev places : List Row → List Stretch
places [] = []
places (r ∷ rs) = stretch r.answers r.asked ∷ places rs

abbrev given-places : List Row → List Stretch
given-places [] = []
given-places (r ∷ rs) = r.place ∷ given-places rs

abbrev messages : List Row → List (List ℕ)
messages [] = []
messages (r ∷ rs) = handed r.answers r.asked ∷ messages rs

abbrev given-messages : List Row → List (List ℕ)
given-messages [] = []
given-messages (r ∷ rs) = r.message ∷ given-messages rs

pub answers-read : (places rows ≡ given-places rows) × (messages rows ≡ given-messages rows)
unfolding stepping
answers-read = (refl, refl)
