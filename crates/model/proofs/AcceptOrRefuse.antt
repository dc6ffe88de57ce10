-- Small tables with the verdict that 01 gives on each, "Load refusals", written by hand and computed: every number from 20 to 26, with its record, and both
-- sides of an edge where that is cheap. A definition that reads, counts or judges a record otherwise fails here, before any law is proved of it.
-- Assumes nothing.
use Prim.Native.Nat.{ℕ, zero, suc}
use mathlib.Core.Path.{◌≡◌, refl}
use mathlib.Core.Bool.{true, false}
use mathlib.Core.List.{List, [], ◌∷◌, ◌++◌}
use lib.ListN.{set}
use Rattle.model.specs.Tables.{Tables}
use Rattle.model.specs.Load.{Verdict, accepted, refused, count_fault, load_of}
use Rattle.model.proofs.Computing.{computing}
use Rattle.model.proofs.Laid.{blanks, window_row, port_row, channel_row}

record Case : Type 0 where
  tables : Tables
  verdict : Verdict

infix 70 ◌gets◌
abbrev ◌gets◌ : Tables → Verdict → Case
t gets v = record { tables = t; verdict = v }

-- record after record
infixr 75 ◌then◌
abbrev ◌then◌ : List ℕ → List ℕ → List ℕ
a then b = a ++ b

-- a window of partition 0; names; a sampling and a queuing port at each end
abbrev window : List ℕ
window = window_row 0 10

abbrev A : List ℕ
A = 65 ∷ []

abbrev B : List ℕ
B = 66 ∷ []

abbrev from : List ℕ
from = port_row 0 0 0 4 0 0 A

abbrev to : ℕ → List ℕ → List ℕ
to largest name = port_row 1 0 1 largest 0 20 name

abbrev queue_from : List ℕ
queue_from = port_row 0 1 0 4 2 0 A

abbrev queue_to : List ℕ → List ℕ
queue_to name = port_row 1 1 1 4 2 0 name

-- 20: length 0 or not a multiple of 48
abbrev lengths : List Case
lengths =
    [] gets refused 20 0
    ∷ (1 ∷ 0 ∷ 10 ∷ 0 ∷ blanks 43) gets refused 20 0
    ∷ (1 ∷ 0 ∷ 10 ∷ 0 ∷ blanks 44) gets accepted
    ∷ (1 ∷ 0 ∷ 10 ∷ 0 ∷ blanks 45) gets refused 20 0
    ∷ []

-- 21: kind not 1..3, or below the kind before. 26: no window at all
abbrev kinds : List Case
kinds =
    window then set window 0 4 gets refused 21 1
    ∷ window then set window 0 0 gets refused 21 1
    ∷ set window 0 0 gets refused 21 0
    ∷ window then from then window gets refused 21 2
    ∷ window then from then to 4 B then channel_row 1 (2 ∷ []) then port_row 2 0 0 4 0 0 A gets refused 21 4
    ∷ window then from gets accepted
    ∷ from gets refused 26 1
    ∷ from then to 4 B gets refused 26 2
    ∷ []

-- 23: a field outside its range, or a byte outside a port's name that should be zero
abbrev window_fields : List Case
window_fields =
    window_row 15 1 gets accepted
    ∷ window_row 16 1 gets refused 23 0
    ∷ window_row 32 1 gets accepted
    ∷ window_row 33 1 gets refused 23 0
    ∷ window_row 0 0 gets refused 23 0
    ∷ window_row 0 10_000 gets accepted
    ∷ window_row 0 10_001 gets refused 23 0
    ∷ set window 4 1 gets refused 23 0
    ∷ set window 47 1 gets refused 23 0
    ∷ []

abbrev port_fields : List Case
port_fields =
    window then port_row 15 0 0 64 0 0 A gets accepted
    ∷ window then port_row 16 0 0 4 0 0 A gets refused 23 1
    ∷ window then port_row 0 2 0 4 0 0 A gets refused 23 1
    ∷ window then port_row 0 0 2 4 0 0 A gets refused 23 1
    ∷ window then port_row 0 0 0 0 0 0 A gets refused 23 1
    ∷ window then port_row 0 0 0 65 0 0 A gets refused 23 1
    ∷ window then port_row 0 0 0 4 1 0 A gets refused 23 1
    ∷ window then port_row 0 1 0 4 0 0 A gets refused 23 1
    ∷ window then port_row 0 1 0 4 8 0 A gets accepted
    ∷ window then port_row 0 1 0 4 9 0 A gets refused 23 1
    ∷ window then port_row 0 0 0 4 0 1 A gets refused 23 1
    ∷ window then port_row 0 1 1 4 8 1 A gets refused 23 1
    ∷ window then port_row 0 0 1 4 0 0 A gets refused 23 1
    ∷ window then port_row 0 0 1 4 0 1_000_000 A gets accepted
    ∷ window then port_row 0 0 1 4 0 1_000_001 A gets refused 23 1
    ∷ window then port_row 0 0 1 4 0 0x01000014 A gets refused 23 1
    ∷ window then set from 46 1 gets refused 23 1
    ∷ window then set from 47 1 gets refused 23 1
    ∷ []

-- 24: name empty or nonzero after a zero, or an earlier port has the same owner and name. Within a record the lower number is reported
abbrev names : List Case
names =
    window then port_row 0 0 0 4 0 0 [] gets refused 24 1
    ∷ window then port_row 0 0 0 4 0 0 (65 ∷ 0 ∷ 66 ∷ []) gets refused 24 1
    ∷ window then set from 45 1 gets refused 24 1
    ∷ window then from then queue_from gets refused 24 2
    ∷ window then from then port_row 1 0 0 4 0 0 A gets accepted
    ∷ window then port_row 0 0 0 65 0 0 [] gets refused 23 1
    ∷ []

-- 23 and 25 of a channel: an id with no row, wrong direction, mixed modes, a queuing channel with a count other than 1, a destination's largest message
-- below the source's, or a port named twice, here or in an earlier channel
abbrev ends : List Case
ends =
    window then from then to 4 A then channel_row 1 (2 ∷ []) gets accepted
    ∷ window then from then to 4 A then channel_row 1 [] gets refused 23 3
    ∷ window then from then to 4 A then set (channel_row 1 (2 ∷ [])) 1 9 gets refused 23 3
    ∷ window then from then to 4 A then set (channel_row 1 (2 ∷ [])) 19 1 gets refused 23 3
    ∷ window then from then to 4 A then set (channel_row 1 (2 ∷ [])) 20 1 gets refused 23 3
    ∷ window then from then to 4 A then set (channel_row 1 (2 ∷ [])) 47 1 gets refused 23 3
    ∷ window then from then to 4 A then channel_row 0 (2 ∷ []) gets refused 25 3
    ∷ window then from then to 4 A then channel_row 3 (2 ∷ []) gets refused 25 3
    ∷ window then from then to 4 A then channel_row 0x0101 (2 ∷ []) gets refused 25 3
    ∷ window then from then to 4 A then channel_row 1 (0 ∷ []) gets refused 25 3
    ∷ window then from then to 4 A then channel_row 1 (3 ∷ []) gets refused 25 3
    ∷ window then from then to 4 A then channel_row 2 (1 ∷ []) gets refused 25 3
    ∷ window then to 4 A then to 4 B then channel_row 1 (2 ∷ []) gets refused 25 3
    ∷ window then from then queue_to A then channel_row 1 (2 ∷ []) gets refused 25 3
    ∷ window then from then to 3 A then channel_row 1 (2 ∷ []) gets refused 25 3
    ∷ window then from then to 5 A then channel_row 1 (2 ∷ []) gets accepted
    ∷ window then from then to 4 A then to 4 B then channel_row 1 (2 ∷ 3 ∷ []) gets accepted
    ∷ window then from then to 4 A then channel_row 1 (2 ∷ 2 ∷ []) gets refused 25 3
    ∷ window then queue_from then queue_to A then channel_row 1 (2 ∷ []) gets accepted
    ∷ window then queue_from then queue_to A then queue_to B then channel_row 1 (2 ∷ 3 ∷ []) gets refused 25 4
    ∷ window then from then to 4 A then to 4 B then channel_row 1 (2 ∷ []) then channel_row 1 (3 ∷ []) gets refused 25 5
    ∷ []

abbrev judged : List Case → List Verdict
judged [] = []
judged (x ∷ xs) = load_of x.tables ∷ judged xs

abbrev given : List Case → List Verdict
given [] = []
given (x ∷ xs) = x.verdict ∷ given xs

pub lengths-judged : judged lengths ≡ given lengths
unfolding computing
lengths-judged = refl

pub kinds-judged : judged kinds ≡ given kinds
unfolding computing
kinds-judged = refl

pub fields-judged : (judged window_fields ≡ given window_fields) × (judged port_fields ≡ given port_fields)
unfolding computing
fields-judged = (refl, refl)

pub names-judged : judged names ≡ given names
unfolding computing
names-judged = refl

pub ends-judged : judged ends ≡ given ends
unfolding computing
ends-judged = refl

-- 22: a 65th window or port, or a 33rd channel. Whole tables of that size are run and not computed (01, "Run only"); the test of the record is computed
abbrev copies : ℕ → List ℕ → List ℕ
copies zero bytes = []
copies (suc n) bytes = bytes ++ copies n bytes

abbrev counted : ℕ → ℕ → ℕ → Tables
counted windows ports channels = copies windows window then copies ports from then copies channels (channel_row 1 (2 ∷ []))

pub windows-counted : (count_fault (counted 65 0 0) 63 ≡ false) × (count_fault (counted 65 0 0) 64 ≡ true)
unfolding computing
windows-counted = (refl, refl)

pub ports-counted : (count_fault (counted 2 65 0) 65 ≡ false) × (count_fault (counted 2 65 0) 66 ≡ true)
unfolding computing
ports-counted = (refl, refl)

pub channels-counted : (count_fault (counted 2 1 33) 34 ≡ false) × (count_fault (counted 2 1 33) 35 ≡ true)
unfolding computing
channels-counted = (refl, refl)
