-- The exported calls on buffers are the kernel's calls on the states that stand in them: whatever meets the contract of an exported run or step on a buffer
-- whose numbers fit the layout meets the kernel's contract on the state in the buffer, and the state after it is read from the buffer after it.
-- So each buffer that the exported functions give holds a state that the public calls give.
-- Assumes nothing.
use Rattle.std.specs.Prelude.{if◌then◌else◌}
use Prim.Native.Nat.{ℕ, ◌+◌, ◌*◌, ◌%◌, ◌≤◌, ◌<◌}
use mathlib.Core.Path.{◌≡◌, refl, sym, ◌∙◌, ap, subst}
use mathlib.Core.Bool.{Bool, true, false, ◌&&◌, not, true≢false}
use mathlib.Core.List.{List, ◌++◌}
use native.Mathlib.Omega.{arith}
use lib.Dec.{eqb, ltb}
use lib.ListN.{length, get_or, length-append, get_or-eq_default}
use borrow.Author.Tests.{eq-eqb, ltb-true, ltb-false}
use Rattle.model.specs.Words.{word32}
use Rattle.model.specs.Tables.{Tables, records, windows}
use Rattle.model.specs.Load.{Verdict, accepted, refused, fault, first_fault, length_fault, is_accepted, load_of, accepts}
use Rattle.model.specs.Events.{event_size}
use Rattle.model.specs.Run.{after_all, events_of, list_fault}
use Rattle.model.proofs.Tests.{by-test}
use Rattle.model.proofs.Searches.{first-is}
use Rattle.states.specs.declared.State.{State}
use Rattle.states.specs.Shown.{shown_state, is_sound, settled_as, at_load}
use Rattle.kernel.specs.Shown.{refusal_of, state_kept}
use Rattle.kernel.specs.Meets.{ListMeets, RunMeets, StepMeets, state_after}
use Rattle.kernel.specs.Given.{Given}
use Rattle.kernel.specs.Given as Kernel
use Rattle.state_buffer.specs.Layout.{state_size, numbers_from, bytes_of_all, state_of, bytes_of}
use Rattle.state_buffer.proofs.Laws.{numbers-length, numbers-at, all-length, part-long}
use Rattle.state_buffer.proofs.Round.{Typed, state-back}
use Rattle.host.specs.Exports.{is_sized, number_in, load_code, buffer_sound, buffer_or, HostLoad, HostList, HostRun, HostStep}
use Rattle.host.proofs.Calls.{sound-as}
use Rattle.demands.specs.Calls.{Called, by_run, by_step, HostCalled, by_host_run, by_host_step, HostGiven, by_load, by_call}
use Rattle.demands.specs.Told.{told, MeetsAs}
use Rattle.demands.proofs.Told.{told-refusal, told-kept, told-meets}
use Rattle.demands.proofs.Steps.{not-refused}
use Rattle.demands.proofs.Widths.{load_typed, after-typed, given-typed}

-- any buffer of bytes that has a state's size holds numbers that fit
pub bytes-typed : (b : List ℕ) → length b ≡ state_size → ((i : ℕ) → get_or b i 0 < 256) → Typed (state_of b)
unfolding state_of
bytes-typed b whole small =
    record {
      window = word 0;
      time = word 4;
      modes = part-long b 8 16 (omega (arith, whole));
      rows = numbers-length b 832 24;
      numbers = λ i. at i (ltb i 832) refl;
      bytes = part-long b 3352 32768 (omega (arith, whole));
    }
  where
    word : (k : ℕ) → word32 b k < 4294967296
    word k = omega (arith, small k, small (k + 1), small (k + 2), small (k + 2 + 1))

    at : (i : ℕ) (x : Bool) → ltb i 832 ≡ x → get_or (numbers_from b 832 24) i 0 < 4294967296
    at i true e = rw (numbers-at b 832 24 i (ltb-true i 832 e)) (word (24 + 4 * i))
    at i false e =
        let past : length (numbers_from b 832 24) ≤ i = omega (arith, numbers-length b 832 24, ltb-false i 832 e) in
        rw (get_or-eq_default (numbers_from b 832 24) 0 past) (omega arith)

-- a state whose numbers fit takes a buffer of a state's size
laid-sized : (st : State) → Typed st → is_sized (bytes_of st) ≡ true
unfolding bytes_of
laid-sized st h =
    eq-eqb (length (bytes_of st)) state_size
    (omega (arith, h.modes, h.rows, h.bytes, length-append st.modes (bytes_of_all st.numbers ++ st.bytes), length-append (bytes_of_all st.numbers) st.bytes, all-length st.numbers))

-- a state that the public calls give, laid into a buffer and read again, is that state
pub given_back : (t : Tables) (st : State) → Given t st → state_of (bytes_of st) ≡ st
given_back t st g = state-back st (given-typed t st g)

-- ---- a call on a list

module _ (t b : List ℕ) (typed : Typed (state_of b)) (events : List ℕ) where
  -- the state after the list is what is read from the buffer after it, which has a state's size
  module _ (fault : ℕ) (sound : fault ≡ 0 → is_sound t (state_of b) ≡ true) where
    read_back : state_of (buffer_or fault events b (state_after fault t (state_of b) events)) ≡ state_after fault t (state_of b) events
    unfolding state_after buffer_or
    read_back = go (eqb fault 0 && not (eqb (length events) 0)) (after-typed t (state_of b) typed events fault sound)
      where
        after : State
        after = settled_as (state_of b) (after_all t (shown_state t (state_of b)) (events_of events))

        go : (c : Bool) → Typed (if c then after else state_of b) → state_of (if c then bytes_of (if c then after else state_of b) else b) ≡ (if c then after else state_of b)
        go true fits = state-back after fits
        go false fits = refl

    after-sized : is_sized b ≡ true → is_sized (buffer_or fault events b (state_after fault t (state_of b) events)) ≡ true
    unfolding buffer_or
    after-sized sized =
        by-test (λ (l : List ℕ). is_sized l ≡ true) (eqb fault 0 && not (eqb (length events) 0))
        (λ e. laid-sized (state_after fault t (state_of b) events) (after-typed t (state_of b) typed events fault sound)) (λ e. sized)

  module _ (sized : is_sized b ≡ true) (whole : Bool) (room : List ℕ) {r : ℕ} {b' answers : List ℕ} (h : HostList (list_fault whole events room (buffer_sound t b)) t b events room r b' answers) where
    called : HostList (list_fault whole events room (is_sound t (state_of b))) t b events room r b' answers
    called = subst (λ s. HostList (list_fault whole events room s) t b events room r b' answers) (sound-as t b sized) h

    sound : list_fault whole events room (is_sound t (state_of b)) ≡ 0 → is_sound t (state_of b) ≡ true
    sound z = (not-refused whole events room (is_sound t (state_of b)) z).is_sound

    list_read : state_of b' ≡ state_after (list_fault whole events room (is_sound t (state_of b))) t (state_of b) events
    list_read = ap state_of called.state ∙ read_back (list_fault whole events room (is_sound t (state_of b))) sound

    list-is-kernel : ListMeets (list_fault whole events room (is_sound t (state_of b))) t (state_of b) events room (told r (state_of b')) answers
    list-is-kernel = told-meets whole events room (is_sound t (state_of b)) t (state_of b) called.refusal list_read called.answered

    list-told : refusal_of (told r (state_of b')) ≡ r
    list-told = told-refusal whole events room (is_sound t (state_of b)) t (state_of b) called.refusal (state_of b')

    list-kept : state_kept (state_of b) (told r (state_of b')) ≡ state_of b'
    list-kept = told-kept whole events room (is_sound t (state_of b)) t (state_of b) called.refusal list_read

    list-fits : Typed (state_of b')
    list-fits = subst Typed (sym list_read) (after-typed t (state_of b) typed events (list_fault whole events room (is_sound t (state_of b))) sound)

    list-sized : is_sized b' ≡ true
    list-sized = subst (λ l. is_sized l ≡ true) (sym called.state) (after-sized (list_fault whole events room (is_sound t (state_of b))) sound sized)

-- a buffer that holds a state as the layout keeps it: it has a state's size, and the numbers in it fit
pub record Sits (b : List ℕ) : Type 0 where
  pub sized : is_sized b ≡ true
  pub typed : Typed (state_of b)

-- so does every buffer of bytes of that size
pub bytes-sit : (b : List ℕ) → length b ≡ state_size → ((i : ℕ) → get_or b i 0 < 256) → Sits b
bytes-sit b whole small = record { sized = eq-eqb (length b) state_size whole; typed = bytes-typed b whole small }

-- a run or a step of the exported functions is the kernel's, on the state in the buffer, and leaves in the buffer the state that the kernel's leaves
module _ (t b : List ℕ) (sits : Sits b) (events room : List ℕ) (r : ℕ) (b' answers : List ℕ) where
  pub host-run-is-run : HostRun t b events room r b' answers → MeetsAs (λ x. RunMeets t (state_of b) events room x answers) (state_of b) r (state_of b')
  host-run-is-run h =
      let whole = eqb (length events % event_size) 0 in
      record {
        meets = list-is-kernel t b sits.typed events sits.sized whole room h;
        number = list-told t b sits.typed events sits.sized whole room h;
        state = list-kept t b sits.typed events sits.sized whole room h;
      }

  pub host-step-is-step : HostStep t b events room r b' answers → MeetsAs (λ x. StepMeets t (state_of b) events room x answers) (state_of b) r (state_of b')
  host-step-is-step h =
      let whole = eqb (length events) event_size in
      record {
        meets = list-is-kernel t b sits.typed events sits.sized whole room h;
        number = list-told t b sits.typed events sits.sized whole room h;
        state = list-kept t b sits.typed events sits.sized whole room h;
      }

  -- the refusal and the state of that outcome are those of the exported call
  pub host-run-told : HostRun t b events room r b' answers → refusal_of (told r (state_of b')) ≡ r
  host-run-told = list-told t b sits.typed events sits.sized (eqb (length events % event_size) 0) room

  pub host-step-told : HostStep t b events room r b' answers → refusal_of (told r (state_of b')) ≡ r
  host-step-told = list-told t b sits.typed events sits.sized (eqb (length events) event_size) room

  pub host-run-kept : HostRun t b events room r b' answers → state_kept (state_of b) (told r (state_of b')) ≡ state_of b'
  host-run-kept = list-kept t b sits.typed events sits.sized (eqb (length events % event_size) 0) room

  pub host-step-kept : HostStep t b events room r b' answers → state_kept (state_of b) (told r (state_of b')) ≡ state_of b'
  host-step-kept = list-kept t b sits.typed events sits.sized (eqb (length events) event_size) room

  pub host-run-sits : HostRun t b events room r b' answers → Sits b'
  host-run-sits h =
      let whole = eqb (length events % event_size) 0 in
      record { sized = list-sized t b sits.typed events sits.sized whole room h; typed = list-fits t b sits.typed events sits.sized whole room h }

  pub host-step-sits : HostStep t b events room r b' answers → Sits b'
  host-step-sits h =
      let whole = eqb (length events) event_size in
      record { sized = list-sized t b sits.typed events sits.sized whole room h; typed = list-fits t b sits.typed events sits.sized whole room h }

-- ---- the buffers that the exported functions give

-- a load that gives 0 had accepted tables and a buffer of a state's size
refused-number : (t : Tables) → is_accepted (load_of t) ≡ false → number_in (load_of t) ≡ 0 → ⊥
unfolding load_of first_fault
refused-number t =
    by-test P (length_fault t) (λ e a z. omega arith)
    (λ e. by-test P (ltb (first_fault t) (records t)) (λ x a z. true≢false (sym (rw z at (found x))))
    (λ x. by-test P (eqb (windows t) 0) (λ y a z. omega arith) (λ y a z. true≢false a)))
  where
    P : Verdict → Type 0
    P v = is_accepted v ≡ false → number_in v ≡ 0 → ⊥

    found : ltb (first_fault t) (records t) ≡ true → not (eqb (fault t (first_fault t)) 0) ≡ true
    found x = first-is (λ r. not (eqb (fault t r) 0)) (records t) 0 (omega (arith, ltb-true (first_fault t) (records t) x))

load-done : (t b : List ℕ) → 0 ≡ load_code t b → (accepts t ≡ true) × (is_sized b ≡ true)
unfolding load_code accepts
load-done t b z = go (is_accepted (load_of t)) (is_sized b) refl refl
  where
    go : (x y : Bool) → is_accepted (load_of t) ≡ x → is_sized b ≡ y → (is_accepted (load_of t) ≡ true) × (is_sized b ≡ true)
    go true true p q = (p, q)
    go true false p q = absurd (omega (arith, rw (p, q) at z))
    go false y p q = absurd (refused-number t p (sym (rw p at z)))

is-accepted : (v : Verdict) → is_accepted v ≡ true → accepted ≡ v
is-accepted accepted e = refl
is-accepted (refused n r) e = absurd (true≢false (sym e))

-- what a given buffer holds: a state that the public calls give
pub record Keeps (t b : List ℕ) : Type 0 where
  pub given : Given t (state_of b)
  pub sits : Sits b

-- a load that gives 0 leaves the state at load
load-laid : {t b b' : List ℕ} {r : ℕ} → HostLoad t b r b' → r ≡ 0 → b' ≡ bytes_of at_load
load-laid {t} {b} h z = let done = load-done t b (sym z ∙ h.code) in h.state ∙ (rw (done.0, done.1))

pub host-load-is-load : (t b : List ℕ) (r : ℕ) (b' : List ℕ) → HostLoad t b r b' → r ≡ 0 → state_of b' ≡ at_load
host-load-is-load t b r b' h z = ap state_of (load-laid h z) ∙ state-back at_load load_typed

-- the buffer of a state whose numbers fit holds that state
pub laid-sits : (st : State) → Typed st → Sits (bytes_of st)
laid-sits st h = record { sized = laid-sized st h; typed = subst Typed (sym (state-back st h)) h }

load-keeps : (t b : List ℕ) (r : ℕ) (b' : List ℕ) → HostLoad t b r b' → r ≡ 0 → Keeps t b'
unfolding accepts
load-keeps t b r b' h z =
    let ok = (load-done t b (sym z ∙ h.code)).0 in
    record {
      given = Kernel.by_load (record { verdict = is-accepted (load_of t) ok; state = host-load-is-load t b r b' h z });
      sits = subst Sits (sym (load-laid h z)) (laid-sits at_load load_typed);
    }

call-keeps : {t b events room b' answers : List ℕ} → Keeps t b → HostCalled t b events room b' answers → Keeps t b'
call-keeps {t} {b} {events} {room} {b'} {answers} k (by_host_run h) =
    record { given = Kernel.by_run events room answers k.given (host-run-is-run t b k.sits events room 0 b' answers h).meets; sits = host-run-sits t b k.sits events room 0 b' answers h }
call-keeps {t} {b} {events} {room} {b'} {answers} k (by_host_step h) =
    record { given = Kernel.by_step events room answers k.given (host-step-is-step t b k.sits events room 0 b' answers h).meets; sits = host-step-sits t b k.sits events room 0 b' answers h }

pub given-keeps : (t b : List ℕ) → HostGiven t b → Keeps t b
given-keeps t b' (by_load {b = b} h) = load-keeps t b _ b' h refl
given-keeps t b' (by_call {b = b} g c) = call-keeps (given-keeps t b g) c

-- a call that is not refused is the kernel's call, from the state in the buffer
pub host-call-is-call : (t b : List ℕ) → Sits b → (events room b' answers : List ℕ) → HostCalled t b events room b' answers → Called t (state_of b) events room (state_of b') answers
host-call-is-call t b sits events room b' answers (by_host_run h) = by_run (host-run-is-run t b sits events room 0 b' answers h).meets
host-call-is-call t b sits events room b' answers (by_host_step h) = by_step (host-step-is-step t b sits events room 0 b' answers h).meets
