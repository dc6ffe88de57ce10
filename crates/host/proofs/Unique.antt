-- Any two outcomes that meet the contract of an exported function, for the same bytes, are equal; and with a buffer of a state's size the
-- outcome is the kernel's, laid into the buffer.
-- Assumes nothing.
use Rattle.std.specs.Prelude.{Result}
use Prim.Native.Nat.{ℕ, ◌%◌}
use mathlib.Core.Path.{◌≡◌, refl, sym, ◌∙◌}
use mathlib.Core.Bool.{Bool, true}
use mathlib.Core.List.{List}
use lib.Dec.{eqb}
use lib.ListN.{length}
use Rattle.model.specs.Events.{event_size}
use Rattle.model.specs.Run.{list_fault}
use Rattle.states.specs.declared.State.{State}
use Rattle.states.specs.Shown.{is_sound}
use Rattle.kernel.specs.declared.refusal.ListRefusal.{ListRefusal}
use Rattle.kernel.specs.Shown.{refusal_of, state_kept}
use Rattle.kernel.specs.Meets.{ListMeets, RunMeets, StepMeets}
use Rattle.state_buffer.specs.Layout.{state_of}
use Rattle.host.specs.Exports.{is_sized, buffer_sound, buffer_or, HostLoad, HostRecord, HostTest, HostList, HostRun, HostStep, HostStart, HostLength}
use Rattle.host.proofs.Calls as Calls

-- a result, the state's buffer, and the answers
pub record Same (r : ℕ) (b a : List ℕ) (r' : ℕ) (b' a' : List ℕ) : Type 0 where
  pub result : r ≡ r'
  pub state : b ≡ b'
  pub answered : a ≡ a'

pub load-unique : (t b : List ℕ) (r r' : ℕ) (x y : List ℕ) → HostLoad t b r x → HostLoad t b r' y → (r ≡ r') × (x ≡ y)
load-unique t b r r' x y p q = (p.code ∙ sym q.code, p.state ∙ sym q.state)

pub record-unique : (t : List ℕ) (r r' : ℕ) → HostRecord t r → HostRecord t r' → r ≡ r'
record-unique t r r' p q = p ∙ sym q

pub test-unique : (t b : List ℕ) (r r' : ℕ) → HostTest t b r → HostTest t b r' → r ≡ r'
test-unique t b r r' p q = p ∙ sym q

list-unique : (fault : ℕ) (t b events a : List ℕ) (r r' : ℕ) (x y v w : List ℕ) → HostList fault t b events a r x v → HostList fault t b events a r' y w → Same r x v r' y w
list-unique fault t b events a r r' x y v w p q =
    record { result = p.refusal ∙ sym q.refusal; state = p.state ∙ sym q.state; answered = p.answered ∙ sym q.answered }

pub run-unique : (t b events a : List ℕ) (r r' : ℕ) (x y v w : List ℕ) → HostRun t b events a r x v → HostRun t b events a r' y w → Same r x v r' y w
run-unique t b events a = list-unique _ t b events a

pub step-unique : (t b event a : List ℕ) (r r' : ℕ) (x y v w : List ℕ) → HostStep t b event a r x v → HostStep t b event a r' y w → Same r x v r' y w
step-unique t b event a = list-unique _ t b event a

pub start-unique : (a : List ℕ) (n r r' : ℕ) → HostStart a n r → HostStart a n r' → r ≡ r'
start-unique a n r r' p q = p ∙ sym q

pub length-unique : (a : List ℕ) (n r r' : ℕ) → HostLength a n r → HostLength a n r' → r ≡ r'
length-unique a n r r' p q = p ∙ sym q

-- the kernel's outcome on the state in the buffer, for any outcome of the exported call
module _ (t b : List ℕ) (sized : is_sized b ≡ true) where
  as-kernel : (whole : Bool) (events a : List ℕ) {ran : Result State ListRefusal} {a' : List ℕ} → ListMeets (list_fault whole events a (is_sound t (state_of b))) t (state_of b) events a ran a'
      → {r : ℕ} {b' a'' : List ℕ} → HostList (list_fault whole events a (buffer_sound t b)) t b events a r b' a'' → Same r b' a'' (refusal_of ran) (buffer_or (refusal_of ran) events b (state_kept (state_of b) ran)) a'
  as-kernel whole events a {ran} {a'} m h =
      list-unique _ t b events a _ _ _ _ _ _ h
      (Calls.sized t b whole events a sized refl m (record { refusal = refl; state = refl }))

  pub run-is-kernel : (events a : List ℕ) {ran : Result State ListRefusal} {a' : List ℕ} → RunMeets t (state_of b) events a ran a'
      → {r : ℕ} {b' a'' : List ℕ} → HostRun t b events a r b' a'' → Same r b' a'' (refusal_of ran) (buffer_or (refusal_of ran) events b (state_kept (state_of b) ran)) a'
  run-is-kernel events a = as-kernel (eqb (length events % event_size) 0) events a

  pub step-is-kernel : (event a : List ℕ) {ran : Result State ListRefusal} {a' : List ℕ} → StepMeets t (state_of b) event a ran a'
      → {r : ℕ} {b' a'' : List ℕ} → HostStep t b event a r b' a'' → Same r b' a'' (refusal_of ran) (buffer_or (refusal_of ran) event b (state_kept (state_of b) ran)) a'
  step-is-kernel event a = as-kernel (eqb (length event) event_size) event a
