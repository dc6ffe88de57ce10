-- The worked example of 01, "The runner": its tables, its fifteen events, and all 80 bytes of each answer that the model gives, computed.
-- Assumes nothing.
use mathlib.Core.Path.{◌≡◌, refl}
use mathlib.Core.Bool.{true}
use mathlib.Core.List.{List, [], ◌∷◌, ◌++◌}
use Prim.Native.Nat.{ℕ}
use Rattle.model.specs.Tables.{Tables}
use Rattle.model.specs.Load.{accepts}
use Rattle.model.specs.State.{loaded}
use Rattle.model.specs.Events.{Event}
use Rattle.model.specs.Run.{answers}
use Rattle.model.proofs.Computing.{computing}
use Rattle.model.proofs.Laid.{window_row, port_row, channel_row, event, answer_row}

abbrev sky : List ℕ
sky = 83 ∷ 75 ∷ 89 ∷ []

abbrev pub worked_tables : Tables
worked_tables =
    window_row 0 10
    ++ (window_row 32 5
    ++ (window_row 1 20
    ++ (port_row 0 0 0 4 0 0 sky
    ++ (port_row 1 0 1 4 0 20 sky
    ++ channel_row 1 (2 ∷ [])))))

abbrev clock : Event
clock = event 13 0 0 0 0 []

abbrev pub worked_events : List Event
worked_events =
    event 1 0 0 0 4 sky
    ∷ clock
    ∷ clock
    ∷ event 1 1 0 20 4 sky
    ∷ clock
    ∷ event 2 0 1 0 2 (65 ∷ 66 ∷ [])
    ∷ clock
    ∷ event 14 0 0 0 0 []
    ∷ clock
    ∷ event 3 0 2 0 0 []
    ∷ event 5 0 2 0 0 []
    ∷ clock
    ∷ clock
    ∷ clock
    ∷ event 3 0 2 0 0 []
    ∷ []

-- the listing: doer, code, id, number, length field, byte 12, byte 13, depth, message
abbrev pub worked_answers : List (List ℕ)
worked_answers =
    answer_row 0 0 1 0 0 0 0 0 []
    ∷ answer_row 32 0 0 10 0 0 0 0 []
    ∷ answer_row 32 0 0 15 0 0 0 0 []
    ∷ answer_row 1 0 2 0 0 0 0 0 []
    ∷ answer_row 32 0 0 35 0 0 0 0 []
    ∷ answer_row 0 0 0 0 0 0 0 0 []
    ∷ answer_row 32 0 0 45 0 0 0 0 []
    ∷ answer_row 64 0 0 0 0 0 0 0 []
    ∷ answer_row 32 0 0 50 0 0 0 0 []
    ∷ answer_row 1 0 0 0 2 1 0 0 (65 ∷ 66 ∷ [])
    ∷ answer_row 1 0 0 20 4 1 1 0 []
    ∷ answer_row 32 0 0 70 0 0 0 0 []
    ∷ answer_row 32 0 0 80 0 0 0 0 []
    ∷ answer_row 32 0 0 85 0 0 0 0 []
    ∷ answer_row 1 0 0 0 2 0 0 0 (65 ∷ 66 ∷ [])
    ∷ []

pub worked-tables : accepts worked_tables ≡ true
unfolding computing
worked-tables = refl

pub worked-answers : answers worked_tables (loaded worked_tables) worked_events ≡ worked_answers
unfolding computing
worked-answers = refl
