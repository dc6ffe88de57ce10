-- 01, "The runner": all that the runner prints, from the bytes of tables.bin and those of standard input; and the same with the input taken in turns.
-- Assumes nothing.
use Rattle.std.specs.Prelude.{if◌then◌else◌, ℕ, zero, suc, ◌*◌, ◌/◌, ◌%◌, List, [], ◌++◌, eqb, length, take, drop}
use Rattle.model.specs.Tables.{Tables}
use Rattle.model.specs.Load.{Verdict, accepted, refused, load_of}
use Rattle.model.specs.State.{State, loaded}
use Rattle.model.specs.Events.{event_size}
use Rattle.model.specs.Run.{answers, after_all, events_of, joined}
use Rattle.runner_text.specs.Text.{lines, tables_refused, events_refused, loaded_length}

-- the lines of the whole records of the input, answered from a state; the first has the number first
unfoldable pub lines_from : Tables → State → ℕ → List ℕ → List ℕ
lines_from t s first input = lines first input (joined (answers t s (events_of input))) (length input / event_size)

-- what is told of a broken tail of so many bytes
abbrev pub torn_text : ℕ → List ℕ
torn_text zero = []
torn_text (suc n) = events_refused

-- the whole records' lines, then the broken tail
unfoldable pub text_from : Tables → State → ℕ → List ℕ → List ℕ
text_from t s first input = lines_from t s first input ++ torn_text (length input % event_size)

-- what is loaded of tables.bin; a file that is missing is the empty one
unfoldable pub tables_of : List ℕ → Tables
tables_of file = take (loaded_length (length file)) file

-- a refused load prints its line and nothing else
abbrev pub unless_refused : Verdict → List ℕ → List ℕ
unless_refused accepted text = text
unless_refused (refused number place) text = tables_refused number place

-- all that is printed
unfoldable pub output : List ℕ → List ℕ → List ℕ
output file input = unless_refused (load_of (tables_of file)) (text_from (tables_of file) (loaded (tables_of file)) 0 input)

-- at most 400 records are read at a time
abbrev pub turn_records : ℕ
turn_records = 400

abbrev pub turn_size : ℕ
turn_size = event_size * turn_records

-- the text of at most so many turns, after `turns` of them: a turn prints the text of what it reads, and where the read was full another follows,
-- from the state after it
abbrev pub in_turns : ℕ → Tables → State → ℕ → List ℕ → List ℕ
in_turns zero t s turns input = []
in_turns (suc left) t s turns input =
    let read = take turn_size input in
    text_from t s (turn_records * turns) read
    ++ (if eqb (length read) turn_size then in_turns left t (after_all t s (events_of read)) (suc turns) (drop turn_size input) else [])
