-- The kernels that 01's last section says demand 2 shuts out, as functions of a run's input: tables, a state, event bytes and room for the answers.
-- Each but the first is the right kernel with the one fault that 01 names. proofs/WrongKernels shows of each that the contract of run refuses it.
-- Assumes nothing.
use Rattle.std.specs.Prelude.{if◌then◌else◌, ℕ, ◌%◌, ◌&&◌, List, [], ◌∷◌, ◌++◌, eqb, length, take, drop, replicate, Result, Ok, Err}
use Rattle.model.specs.Words.{byte, word32, bytes32}
use Rattle.model.specs.Tables.{Tables}
use Rattle.model.specs.State as model
use Rattle.model.specs.Events.{Event, event_size, get_queuing_port_status}
use Rattle.model.specs.Run.{answers, events_of, joined, list_fault}
use Rattle.states.specs.declared.State.{State}
use Rattle.states.specs.Shown.{shown_state, is_sound}
use Rattle.kernel.specs.declared.refusal.ListRefusal.{ListRefusal}
use Rattle.kernel.specs.Shown.{refusal_of, state_kept}
use Rattle.kernel.specs.Meets.{RunMeets, state_after, answers_after}
use Rattle.demands.specs.Told.{told}

-- what a kernel gives for a run: the state or the refusal, and the answers
pub record Outcome : Type 0 where
  pub result : Result State ListRefusal
  pub answers : List ℕ

abbrev pub Kernel : Type 0
Kernel = Tables → State → List ℕ → List ℕ → Outcome

-- its outcome on an input meets the contract
abbrev pub MeetsOn : Kernel → Tables → State → List ℕ → List ℕ → Type 0
MeetsOn k t st events room = RunMeets t st events room (k t st events room).result (k t st events room).answers

-- and so on every input
abbrev pub Meets : Kernel → Type 0
Meets k = (t : Tables) (st : State) (events room : List ℕ) → MeetsOn k t st events room

-- the right kernel: it meets the contract on every input (`right-meets`), and by `run-unique` every kernel that does so gives what it gives
abbrev pub right : Kernel
right t st events room =
    let fault = list_fault (eqb (length events % event_size) 0) events room (is_sound t st) in
    record { result = told fault (state_after fault t st events); answers = answers_after fault t st events room }

-- one that refuses everything, with any number
abbrev pub refuses_everything : ℕ → Kernel
refuses_everything n t st events room = record { result = told n st; answers = room }

-- and with any refusal, by its own name
abbrev pub refuses_each : ListRefusal → Kernel
refuses_each e t st events room = record { result = Err e; answers = room }

-- the right kernel with other answer records, where a list is run
abbrev pub other_records : (Tables → model.State → List Event → List (List ℕ)) → Kernel
other_records records t st events room =
    let result = (right t st events room).result in
    record {
      result = result;
      answers = if eqb (refusal_of result) 0 then joined (records t (shown_state t st) (events_of events)) ++ drop (length events) room else room;
    }

-- one with a constant answer: any one record, to every event
abbrev pub constant_answer : List ℕ → Kernel
constant_answer c = other_records (λ t s es. replicate (length es) c)

-- a result with another state, where there is one
abbrev pub with_state : State → Result State ListRefusal → Result State ListRefusal
with_state other (Ok st) = Ok other
with_state other (Err e) = Err e

-- one that changes nothing: its answers are right, and the state comes back as it came
abbrev pub changes_nothing : Kernel
changes_nothing t st events room =
    record { result = with_state st (right t st events room).result; answers = (right t st events room).answers }

-- one that runs the first event honestly and then only prints answers: they are right, and the state is that after the first event
abbrev pub first_then_prints : Kernel
first_then_prints t st events room =
    record {
      result = with_state (state_kept st (right t st (take event_size events) room).result) (right t st events room).result;
      answers = (right t st events room).answers;
    }

-- one with invented numbers, by any rule: wherever an event of a code is answered 0, bytes 4-7 of its record tell f x in place of x
abbrev pub telling_number : (ℕ → ℕ) → List ℕ → List ℕ
telling_number f a = take 4 a ++ (bytes32 (f (word32 a 4)) ++ drop 8 a)

abbrev pub telling : ℕ → (ℕ → ℕ) → List Event → List (List ℕ) → List (List ℕ)
telling code f [] as' = as'
telling code f (e ∷ es) [] = []
telling code f (e ∷ es) (a ∷ as') = (if eqb (byte e 0) code && eqb (byte a 0) 0 then telling_number f a else a) ∷ telling code f es as'

abbrev pub invented_numbers : ℕ → (ℕ → ℕ) → Kernel
invented_numbers code f = other_records (λ t s es. telling code f es (answers t s es))

-- message counts: the number in the answer to GET_QUEUING_PORT_STATUS
abbrev pub invented_counts : (ℕ → ℕ) → Kernel
invented_counts = invented_numbers get_queuing_port_status

-- times: the number in the answer to SCHEDULE
abbrev pub invented_times : (ℕ → ℕ) → Kernel
invented_times = invented_numbers 13
