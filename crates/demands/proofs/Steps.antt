-- A step is a run of one event: whatever meets the contract of step on 80 bytes meets that of run, of the kernel and of the exported functions.
-- A step that is not refused had 80 bytes.
-- Assumes nothing.
use Rattle.std.specs.Prelude.{Result}
use Prim.Native.Nat.{ℕ, ◌%◌}
use mathlib.Core.Path.{◌≡◌, refl, sym, ◌∙◌, ap, subst}
use mathlib.Core.Bool.{Bool, true, false}
use mathlib.Core.List.{List, [], ◌∷◌}
use native.Mathlib.Omega.{arith}
use lib.Dec.{eqb, ltb}
use lib.ListN.{length}
use lib.Seq.{take_all}
use borrow.Author.Tests.{eqb-true, eq-eqb}
use Rattle.model.specs.Tables.{Tables}
use Rattle.model.specs.Events.{event_size}
use Rattle.model.specs.Run.{events_of, list_fault}
use Rattle.states.specs.declared.State.{State}
use Rattle.states.specs.Shown.{is_sound}
use Rattle.kernel.specs.declared.refusal.ListRefusal.{ListRefusal}
use Rattle.kernel.specs.Shown.{refusal_of}
use Rattle.kernel.specs.Meets.{ListMeets, RunMeets, StepMeets}
use Rattle.host.specs.Exports.{HostList, HostRun, HostStep, buffer_sound}

-- what a list that is not refused had: whole records, room for the answers, and what passes test 29
pub record NotRefused (whole : Bool) (events room : List ℕ) (sound : Bool) : Type 0 where
  pub is_whole : whole ≡ true
  pub has_room : ltb (length room) (length events) ≡ false
  pub is_sound : sound ≡ true

pub not-refused : (whole : Bool) (events room : List ℕ) (sound : Bool) → list_fault whole events room sound ≡ 0 → NotRefused whole events room sound
unfolding list_fault
not-refused whole events room sound = go whole (ltb (length room) (length events)) sound refl refl refl
  where
    go : (w l s : Bool) → whole ≡ w → ltb (length room) (length events) ≡ l → sound ≡ s
        → list_fault whole events room sound ≡ 0 → NotRefused whole events room sound
    go false l s p q r z = absurd (omega (arith, rw p at z))
    go true true s p q r z = absurd (omega (arith, rw (p, q) at z))
    go true false false p q r z = absurd (omega (arith, rw (p, q, r) at z))
    go true false true p q r z = record { is_whole = p; has_room = q; is_sound = r }

-- the tests of the two agree on 80 bytes
one-whole : (event : List ℕ) → length event ≡ event_size → eqb (length event) event_size ≡ eqb (length event % event_size) 0
one-whole event e = eq-eqb (length event) event_size e ∙ sym (eq-eqb (length event % event_size) 0 (omega arith))

module _ {t : Tables} {st : State} {event room : List ℕ} {r : Result State ListRefusal} {answers : List ℕ} where
  pub step-is-run : length event ≡ event_size → StepMeets t st event room r answers → RunMeets t st event room r answers
  step-is-run e = subst (λ w. ListMeets (list_fault w event room (is_sound t st)) t st event room r answers) (one-whole event e)

  pub step-length : StepMeets t st event room r answers → refusal_of r ≡ 0 → length event ≡ event_size
  step-length m z = eqb-true (length event) event_size (not-refused (eqb (length event) event_size) event room (is_sound t st) (sym m.refusal ∙ z)).is_whole

module _ {t b event room : List ℕ} {r : ℕ} {b' answers : List ℕ} where
  pub host-step-is-run : length event ≡ event_size → HostStep t b event room r b' answers → HostRun t b event room r b' answers
  host-step-is-run e = subst (λ w. HostList (list_fault w event room (buffer_sound t b)) t b event room r b' answers) (one-whole event e)

  pub host-step-length : HostStep t b event room r b' answers → r ≡ 0 → length event ≡ event_size
  host-step-length m z = eqb-true (length event) event_size (not-refused (eqb (length event) event_size) event room (buffer_sound t b) (sym m.refusal ∙ z)).is_whole

-- the records of 80 bytes are those bytes alone
pub one-event : (event : List ℕ) → length event ≡ event_size → events_of event ≡ event ∷ []
unfolding events_of
one-event event e = rw e (ap (λ l. l ∷ []) (take_all 80 event (omega arith)))
