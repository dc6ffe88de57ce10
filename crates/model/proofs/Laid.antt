-- Records of tables, events and answers laid out byte by byte as 01 has them, for worked examples. Nothing of the model's own reading or writing is used:
-- the layers of digits below are this file's own, and what they give is written out once.
-- Assumes nothing.
use Prim.Native.Nat.{ℕ, ◌/◌, ◌%◌}
use mathlib.Core.Path.{◌≡◌, refl}
use mathlib.Core.List.{List, [], ◌∷◌, ◌++◌}
use lib.ListN.{length, take, replicate}

-- numbers of two and of four bytes, low byte first
abbrev pub two : ℕ → List ℕ
two n = n % 256 ∷ n / 256 % 256 ∷ []

abbrev pub four : ℕ → List ℕ
four n = n % 256 ∷ n / 256 % 256 ∷ n / 256 / 256 % 256 ∷ n / 256 / 256 / 256 ∷ []

low-byte-first : (two 0x0201 ≡ 1 ∷ 2 ∷ []) × (four 0x04030201 ≡ 1 ∷ 2 ∷ 3 ∷ 4 ∷ [])
low-byte-first = (refl, refl)

abbrev pub blanks : ℕ → List ℕ
blanks n = replicate n 0

-- some bytes, then zeros up to n
abbrev pub padded : ℕ → List ℕ → List ℕ
padded n bytes = take n (bytes ++ blanks n)

-- byte 0 = 1; 1 partition, or 32; 2-3 length
abbrev pub window_row : ℕ → ℕ → List ℕ
window_row partition size = 1 ∷ partition ∷ two size ++ blanks 44

-- byte 0 = 2; 1 owner; 2 mode; 3 direction; 4-7 largest; 8-11 depth; 12-15 refresh; 16-45 name
abbrev pub port_row : ℕ → ℕ → ℕ → ℕ → ℕ → ℕ → List ℕ → List ℕ
port_row owner mode direction largest depth refresh name =
    2 ∷ owner ∷ mode ∷ direction ∷ four largest ++ (four depth ++ (four refresh ++ (padded 30 name ++ blanks 2)))

abbrev pub ids : List ℕ → List ℕ
ids [] = []
ids (id ∷ rest) = two id ++ ids rest

-- byte 0 = 3; 1 destination count; 2-3 source id; 4-19 destination ids
abbrev pub channel_row : ℕ → List ℕ → List ℕ
channel_row from to = 3 ∷ length to ∷ two from ++ (padded 16 (ids to) ++ blanks 28)

-- byte 0 code; 1 direction or new mode; 2-3 port id or channel; 4-7 refresh or depth; 8-11 message length or largest message; 16-79 message or name
abbrev pub event : ℕ → ℕ → ℕ → ℕ → ℕ → List ℕ → List ℕ
event code choice id number size body =
    code ∷ choice ∷ two id ++ (four number ++ (four size ++ (blanks 4 ++ padded 64 body)))

-- byte 0 code, 1 doer; 2-3 id; 4-7 number; 8-11 length or largest; 12 validity; 13 direction; 14-15 depth; 16-79 message
abbrev pub answer_row : ℕ → ℕ → ℕ → ℕ → ℕ → ℕ → ℕ → ℕ → List ℕ → List ℕ
answer_row doer code id number size validity direction depth message =
    code ∷ doer ∷ two id ++ (four number ++ (four size ++ (validity ∷ direction ∷ two depth ++ padded 64 message)))
