-- The wrong kernels of specs/WrongKernels, each shut out by the contract of run on a small worked input, from the state at load: two clock steps, and a message
-- that is sent and counted.
-- Assumes nothing.
use Rattle.std.specs.Prelude.{Result, Ok, Err}
use Prim.Native.Nat.{ℕ, ◌+◌, ◌*◌, ◌%◌, ◌/◌, ◌<◌}
use mathlib.Core.Path.{◌≡◌, refl, sym, ◌∙◌, ap}
use mathlib.Core.Bool.{true}
use mathlib.Core.List.{List, [], ◌∷◌, ◌++◌, append-nil}
use native.Mathlib.Nat.{div-div-eq-div-mul}
use native.Mathlib.Omega.{arith}
use borrow.Author.Tests.{eqb-true}
use lib.Dec.{eqb}
use lib.ListN.{length, get_or, take, drop, replicate, length-append, get_or-append}
use lib.Seq.{get_or-append-add}
use Rattle.model.specs.Words.{zeros}
use Rattle.model.specs.Tables.{Tables}
use Rattle.model.specs.Load.{accepts}
use Rattle.model.specs.State.{loaded}
use Rattle.model.specs.State as model
use Rattle.model.specs.Events.{Event, event_size}
use Rattle.model.specs.Run.{answers, after_all, events_of, joined, list_fault}
use Rattle.model.proofs.Tests.{both, by-test}
use Rattle.model.proofs.Computing.{computing}
use Rattle.model.proofs.Laid.{window_row, port_row, channel_row, event, answer_row}
use Rattle.states.specs.Shown.{shown_state, is_sound, at_load}
use Rattle.states.proofs.Load.{load-shown, load_fits}
use Rattle.states.specs.declared.State.{State}
use Rattle.kernel.specs.declared.refusal.ListRefusal.{ListRefusal}
use Rattle.kernel.specs.Shown.{refusal_numbered, refusal_of, state_kept}
use Rattle.kernel.proofs.Laws.{unnumbered}
use Rattle.demands.specs.Told.{told}
use Rattle.demands.proofs.Told.{told-meets}
use Rattle.kernel.specs.Meets.{RunMeets}
use Rattle.kernel.proofs.GivenStates.{run-leaves, run-answers}
use Rattle.demands.specs.WrongKernels.{MeetsOn, Meets, right, refuses_everything, refuses_each, with_state, constant_answer, changes_nothing, first_then_prints, other_records, telling, invented_counts, invented_times}

-- from the state at load of accepted tables, a list of whole records with room for its answers is run: what any outcome is
load-passes : (t : Tables) → accepts t ≡ true → is_sound t at_load ≡ true
unfolding is_sound
load-passes t ok = both ok (load_fits t ok)

module _ (t : Tables) (ok : accepts t ≡ true) (events room : List ℕ) (runs : list_fault (eqb (length events % event_size) 0) events room true ≡ 0) where
  list-runs : list_fault (eqb (length events % event_size) 0) events room (is_sound t at_load) ≡ 0
  list-runs = ap (list_fault (eqb (length events % event_size) 0) events room) (load-passes t ok) ∙ runs

  others-are : (records : Tables → model.State → List Event → List (List ℕ)) → (other_records records t at_load events room).answers ≡ joined (records t (loaded t) (events_of events)) ++ drop (length events) room
  others-are records = rw list-runs (ap (λ s. joined (records t s (events_of events)) ++ drop (length events) room) (load-shown t))

  module _ {r : Result State ListRefusal} {answers' : List ℕ} (m : RunMeets t at_load events room r answers') where
    refusal_is : refusal_of r ≡ 0
    refusal_is = m.refusal ∙ list-runs

    shown-is : shown_state t (state_kept at_load r) ≡ after_all t (loaded t) (events_of events)
    shown-is = run-leaves (load-passes t ok) m refusal_is ∙ ap (λ s. after_all t s (events_of events)) (load-shown t)

    answers-are : answers' ≡ joined (answers t (loaded t) (events_of events)) ++ drop (length events) room
    answers-are = run-answers m refusal_is ∙ ap (λ s. joined (answers t s (events_of events)) ++ drop (length events) room) (load-shown t)

-- ---- two clock steps in one window of 10 ticks: told 10 and 20

abbrev pub clock_tables : Tables
clock_tables = window_row 0 10

abbrev pub clock : Event
clock = event 13 0 0 0 0 []

abbrev pub two_clocks : List ℕ
two_clocks = clock ++ clock

abbrev pub clock_room : List ℕ
clock_room = zeros 160

clock-accepted : accepts clock_tables ≡ true
unfolding computing
clock-accepted = refl

clock-runs : list_fault (eqb (length two_clocks % event_size) 0) two_clocks clock_room true ≡ 0
unfolding computing
clock-runs = refl

abbrev clock_told : List ℕ
clock_told = answer_row 32 0 0 10 0 0 0 0 [] ++ answer_row 32 0 0 20 0 0 0 0 []

clock-told : joined (answers clock_tables (loaded clock_tables) (events_of two_clocks)) ++ drop (length two_clocks) clock_room ≡ clock_told
unfolding computing
clock-told = refl

clock-left : (after_all clock_tables (loaded clock_tables) (events_of two_clocks)).clock.time ≡ 20
unfolding computing
clock-left = refl

-- any number but 0 is told as a refusal
told-refused : (n : ℕ) → (n ≡ 0 → ⊥) → (st : State) → refusal_of (told n st) ≡ 0 → ⊥
told-refused n some st = by-test (λ (r : Result State ListRefusal). refusal_of r ≡ 0 → ⊥) (eqb n 0) (λ e z. some (eqb-true n 0 e)) (λ e z. unnumbered (refusal_numbered n) z)

pub refuses-everything : (n : ℕ) → (n ≡ 0 → ⊥) → MeetsOn (refuses_everything n) clock_tables at_load two_clocks clock_room → ⊥
refuses-everything n some m = told-refused n some at_load (refusal_is clock_tables clock-accepted two_clocks clock_room clock-runs m)

pub refuses-each : (e : ListRefusal) → MeetsOn (refuses_each e) clock_tables at_load two_clocks clock_room → ⊥
refuses-each e m = unnumbered e (refusal_is clock_tables clock-accepted two_clocks clock_room clock-runs m)

-- another state in a result that is no refusal is the state that is left
kept-with : (before other : State) (r : Result State ListRefusal) → refusal_of (with_state other r) ≡ 0 → state_kept before (with_state other r) ≡ other
kept-with before other (Ok st) z = refl
kept-with before other (Err e) z = absurd (unnumbered e z)

pub changes-nothing : MeetsOn changes_nothing clock_tables at_load two_clocks clock_room → ⊥
unfolding loaded
changes-nothing m =
    let stays : ◌≡◌ {A = ℕ} (shown_state clock_tables at_load).clock.time 0 = ap (λ s. s.clock.time) (load-shown clock_tables) in
    let run = (right clock_tables at_load two_clocks clock_room).result in
    let kept = kept-with at_load at_load run (refusal_is clock_tables clock-accepted two_clocks clock_room clock-runs m) in
    let goes : ◌≡◌ {A = ℕ} (shown_state clock_tables at_load).clock.time 20 = ap (λ st. (shown_state clock_tables st).clock.time) (sym kept) ∙ ap (λ s. s.clock.time) (shown-is clock_tables clock-accepted two_clocks clock_room clock-runs m) ∙ clock-left in
    let no : ◌≡◌ {A = ℕ} 0 20 = sym stays ∙ goes in
    omega arith

-- the right kernel meets it on every input
pub right-meets : Meets right
right-meets t st events room = told-meets (eqb (length events % event_size) 0) events room (is_sound t st) t st refl refl refl

one-runs : list_fault (eqb (length (take event_size two_clocks) % event_size) 0) (take event_size two_clocks) clock_room true ≡ 0
unfolding computing
one-runs = refl

one_left : (after_all clock_tables (loaded clock_tables) (events_of (take event_size two_clocks))).clock.time ≡ 10
unfolding computing
one_left = refl

pub first-then-prints : MeetsOn first_then_prints clock_tables at_load two_clocks clock_room → ⊥
first-then-prints m =
    let one = ap (λ s. s.clock.time) (shown-is clock_tables clock-accepted (take event_size two_clocks) clock_room one-runs (right-meets clock_tables at_load (take event_size two_clocks) clock_room)) ∙ one_left in
    let first = state_kept at_load (right clock_tables at_load (take event_size two_clocks) clock_room).result in
    let kept = kept-with at_load first (right clock_tables at_load two_clocks clock_room).result (refusal_is clock_tables clock-accepted two_clocks clock_room clock-runs m) in
    let two = ap (λ st. (shown_state clock_tables st).clock.time) (sym kept) ∙ ap (λ s. s.clock.time) (shown-is clock_tables clock-accepted two_clocks clock_room clock-runs m) ∙ clock-left in
    let no : ◌≡◌ {A = ℕ} 10 20 = sym one ∙ two in
    omega arith

twice : (c both : List ℕ) → length both ≡ 160 → c ++ c ≡ both → get_or both 4 0 ≡ get_or both 84 0
twice c both long same =
    let half : length c ≡ 80 = omega (arith, length-append c c, ap length same) in
    let place : length c + 4 ≡ 84 = omega arith in
    ap (λ l. get_or l 4 0) (sym same)
    ∙ get_or-append c c 0 4 (omega arith)
    ∙ sym (get_or-append-add c c 4 0)
    ∙ ap (λ k. get_or (c ++ c) k 0) place
    ∙ ap (λ l. get_or l 84 0) same

pub constant-answer : (c : List ℕ) → MeetsOn (constant_answer c) clock_tables at_load two_clocks clock_room → ⊥
unfolding events_of
constant-answer c m =
    let bare : (c ++ (c ++ [])) ++ [] ≡ c ++ c = append-nil (c ++ (c ++ [])) ∙ ap (λ l. c ++ l) (append-nil c) in
    let both =
    sym (others-are clock_tables clock-accepted two_clocks clock_room clock-runs (λ t s es. replicate (length es) c))
    ∙ answers-are clock_tables clock-accepted two_clocks clock_room clock-runs m
    ∙ clock-told
    in
    let no : ◌≡◌ {A = ℕ} 10 20 = twice c clock_told refl (sym bare ∙ both) in
    omega arith

-- a number of 32 bits is told by its four bytes
parts : (n : ℕ) → n < 4294967296 → n ≡ n % 256 + 256 * (n / 256 % 256 + 256 * (n / 65536 % 256 + 256 * (n / 16777216 % 256)))
parts n small =
    let two : n / 256 ≡ n / 256 % 256 + 256 * (n / 65536) = omega (arith, div-div-eq-div-mul n 256 256) in
    let three : n / 65536 ≡ n / 65536 % 256 + 256 * (n / 16777216) = omega (arith, div-div-eq-div-mul n 65536 256) in
    let four : n / 16777216 % 256 ≡ n / 16777216 = omega arith in
    omega arith

digits : (n k : ℕ) → n < 4294967296 → n % 256 ≡ k → n / 256 % 256 ≡ 0 → n / 65536 % 256 ≡ 0 → n / 16777216 % 256 ≡ 0 → n ≡ k
digits n k small a b c d = parts n small ∙ (rw (a, b, c, d) (omega arith))

-- any rule that gives numbers of 32 bits and another time than 10, or another than 20
pub invented-times : (f : ℕ → ℕ) → ((x : ℕ) → f x < 4294967296) → (f 10 ≡ 10 → f 20 ≡ 20 → ⊥) → MeetsOn (invented_times f) clock_tables at_load two_clocks clock_room → ⊥
unfolding computing
invented-times f small other m =
    let same : joined (telling 13 f (events_of two_clocks) (answers clock_tables (loaded clock_tables) (events_of two_clocks))) ++ drop (length two_clocks) clock_room ≡ clock_told =
    sym (others-are clock_tables clock-accepted two_clocks clock_room clock-runs (λ t s es. telling 13 f es (answers t s es))) ∙ answers-are clock_tables clock-accepted two_clocks clock_room clock-runs m ∙ clock-told
    in
    let at : (i : ℕ) → get_or (joined (telling 13 f (events_of two_clocks) (answers clock_tables (loaded clock_tables) (events_of two_clocks))) ++ drop (length two_clocks) clock_room) i 0 ≡ get_or clock_told i 0 = λ i. ap (λ l. get_or l i 0) same in
    other (digits (f 10) 10 (small 10) (at 4) (at 5) (at 6) (at 7)) (digits (f 20) 20 (small 20) (at 84) (at 85) (at 86) (at 87))

-- ---- a message is sent over a channel to a queuing destination port, whose status is asked before it came and afterwards: told 0 messages and 1

abbrev pub count_tables : Tables
count_tables = window_row 0 10 ++ (window_row 32 5 ++ (port_row 0 1 0 4 2 0 (83 ∷ []) ++ (port_row 0 1 1 4 2 0 (84 ∷ []) ++ channel_row 1 (2 ∷ []))))

abbrev pub create : ℕ → ℕ → Event
create direction name = event 6 direction 0 2 4 (name ∷ [])

abbrev pub status : Event
status = event 10 0 2 0 0 []

abbrev pub send_and_count : List ℕ
send_and_count = create 0 83 ++ (create 1 84 ++ (status ++ (event 7 0 1 0 1 (65 ∷ []) ++ (clock ++ (event 14 0 0 0 0 [] ++ (clock ++ status))))))

abbrev pub count_room : List ℕ
count_room = zeros 640

abbrev count_told : ℕ → List ℕ
count_told n = answer_row 0 0 0 n 4 0 1 2 []

abbrev all_told : List ℕ
all_told =
    answer_row 0 0 1 0 0 0 0 0 []
    ++ (answer_row 0 0 2 0 0 0 0 0 []
    ++ (count_told 0
    ++ (answer_row 0 0 0 0 0 0 0 0 []
    ++ (answer_row 32 0 0 10 0 0 0 0 []
    ++ (answer_row 64 0 0 0 0 0 0 0 []
    ++ (answer_row 32 0 0 15 0 0 0 0 [] ++ count_told 1))))))

count-accepted : accepts count_tables ≡ true
unfolding computing
count-accepted = refl

count_runs : list_fault (eqb (length send_and_count % event_size) 0) send_and_count count_room true ≡ 0
unfolding computing
count_runs = refl

count-told : joined (answers count_tables (loaded count_tables) (events_of send_and_count)) ++ drop (length send_and_count) count_room ≡ all_told
unfolding computing
count-told = refl

-- any rule that gives numbers of 32 bits and another count than 0, or another than 1
pub invented-counts : (f : ℕ → ℕ) → ((x : ℕ) → f x < 4294967296) → (f 0 ≡ 0 → f 1 ≡ 1 → ⊥) → MeetsOn (invented_counts f) count_tables at_load send_and_count count_room → ⊥
unfolding computing
invented-counts f small other m =
    let same : joined (telling 10 f (events_of send_and_count) (answers count_tables (loaded count_tables) (events_of send_and_count))) ++ drop (length send_and_count) count_room ≡ all_told =
    sym (others-are count_tables count-accepted send_and_count count_room count_runs (λ t s es. telling 10 f es (answers t s es))) ∙ answers-are count_tables count-accepted send_and_count count_room count_runs m ∙ count-told
    in
    let at : (i : ℕ) → get_or (joined (telling 10 f (events_of send_and_count) (answers count_tables (loaded count_tables) (events_of send_and_count))) ++ drop (length send_and_count) count_room) i 0 ≡ get_or all_told i 0 = λ i. ap (λ l. get_or l i 0) same in
    other (digits (f 0) 0 (small 0) (at 164) (at 165) (at 166) (at 167)) (digits (f 1) 1 (small 1) (at 564) (at 565) (at 566) (at 567))
