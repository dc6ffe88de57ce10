-- The exported calls by their cases: what the kernel gave, and the size of the buffer.
-- Assumes nothing.
use Rattle.std.specs.Prelude.{if◌then◌else◌, Result}
use Prim.Native.Nat.{ℕ}
use mathlib.Core.Path.{◌≡◌, ◌∙◌, ap₂, subst}
use mathlib.Core.Bool.{Bool, true, false, not}
use mathlib.Core.List.{List}
use native.Mathlib.Omega.{arith}
use Rattle.std.proofs.lemmas.Bool.Decides.{nat_tests}
use lib.Dec.{ltb}
use lib.ListN.{length}
use borrow.Author.Tests.{ne_eqb}
use Rattle.model.specs.Load.{accepted, refused, load_of, accepts}
use Rattle.model.specs.Run.{list_fault}
use Rattle.model.proofs.Tests.{by-test}
use Rattle.states.specs.declared.State.{State}
use Rattle.states.specs.Shown.{at_load, all_zero}
use Rattle.kernel.specs.declared.refusal.ListRefusal.{ListRefusal}
use Rattle.states.specs.Shown.{is_sound}
use Rattle.kernel.specs.Meets.{answers_after, ListMeets}
use Rattle.state_buffer.specs.Layout.{state_of, bytes_of}
use Rattle.host.specs.Exports.{is_sized, load_code, buffer_sound, buffer_or, HostLoad, HostList, HandedBack}

module _ (t b : List ℕ) where
  -- load, by the verdict and the size of the buffer
  pub load-refused : (n r : ℕ) → load_of t ≡ refused n r → HostLoad t b n b
  unfolding load_code accepts
  load-refused n r e = record { code = rw e; state = rw e }

  pub load-unsized : load_of t ≡ accepted → is_sized b ≡ false → HostLoad t b 29 b
  unfolding load_code accepts
  load-unsized e s = record { code = rw (e, s); state = rw (e, s) }

  pub load-done : load_of t ≡ accepted → is_sized b ≡ true → {b' : List ℕ} → b' ≡ bytes_of at_load → HostLoad t b 0 b'
  unfolding load_code accepts
  load-done e s laid = record { code = rw (e, s); state = laid ∙ (rw (e, s)) }

  pub at_load_lem : load_of t ≡ accepted → {x : State} → x ≡ (if accepts t then at_load else all_zero) → x ≡ at_load
  unfolding accepts
  at_load_lem e h = h ∙ (rw e)

  -- test 29
  pub unsound : is_sized b ≡ false → buffer_sound t b ≡ false
  unfolding buffer_sound
  unsound s = rw s

  pub sound-as : is_sized b ≡ true → buffer_sound t b ≡ is_sound t (state_of b)
  unfolding buffer_sound
  sound-as s = rw s

  -- a call on a list whose buffer has another size is refused and changes nothing
  module _ (whole : Bool) (events a : List ℕ) where
    fault-not-0 : list_fault whole events a false ≡ 0 → ⊥
    unfolding list_fault
    fault-not-0 =
        by-test (λ (f : ℕ). f ≡ 0 → ⊥) (not whole) (λ e z. omega arith)
        (λ e. by-test (λ (f : ℕ). f ≡ 0 → ⊥) (ltb (length a) (length events)) (λ e z. omega arith) (λ e z. omega arith))

    pub unsized : is_sized b ≡ false → {r : ℕ} → r ≡ list_fault whole events a false → HostList (list_fault whole events a (buffer_sound t b)) t b events a r b a
    unfolding buffer_or answers_after
    unsized s e =
        let no = ne_eqb (list_fault whole events a false) 0 fault-not-0 in
        record { refusal = e ∙ (rw (unsound s)); state = rw (unsound s, no); answered = rw (unsound s, no) }

    -- with a buffer of the right size it is the kernel's call, of the state that was read from it
    pub sized : is_sized b ≡ true → {st : State} → st ≡ state_of b → {ran : Result State ListRefusal} {r : ℕ} {b' a' : List ℕ} → ListMeets (list_fault whole events a (is_sound t st)) t st events a ran a' → HandedBack ran events b r b'
        → HostList (list_fault whole events a (buffer_sound t b)) t b events a r b' a'
    sized s {st} e {ran} {a' = a'} given h =
        let m : ListMeets (list_fault whole events a (is_sound t (state_of b))) t (state_of b) events a ran a' =
        subst (λ (x : State). ListMeets (list_fault whole events a (is_sound t x)) t x events a ran a') e given
        in
        rw (sound-as s)
        (record {
          refusal = h.refusal ∙ m.refusal;
          state = h.state ∙ ap₂ (λ f st. buffer_or f events b st) m.refusal m.state;
          answered = m.answered;
        })

-- what a search of the buffer's test takes
pub ruleset buffer_tests = (nat_tests, sound-as, unsound)
