-- What the public calls' proofs lean on: the refusals of a list, and the reader's tests.
-- Assumes nothing.
use Rattle.std.specs.Prelude.{Ok, Err}
use Prim.Native.Nat.{ℕ, ◌+◌, ◌*◌, ◌/◌, ◌%◌, ◌≤◌, ◌<◌}
use mathlib.Core.Path.{◌≡◌, refl, sym, ◌∙◌, ap}
use mathlib.Core.Bool.{Bool, true, false, ◌&&◌}
use mathlib.Core.List.{List}
use native.Mathlib.Omega.{arith}
use lib.Dec.{eqb, ltb, leb}
use lib.ListN.{length}
use borrow.Author.Tests.{eq-eqb, ne_eqb, lt-ltb, le-ltb, ltb-true, leb-true}
use Rattle.model.specs.Words.{byte, word32}
use Rattle.model.specs.Answers.{is_handed, stretch}
use Rattle.model.specs.Run.{events_of, list_fault}
use Rattle.model.proofs.Tests.{both_left, both_right}
use Rattle.states.specs.declared.State.{State}
use Rattle.states.specs.Shown.{is_sound}
use Rattle.tested_run.specs.Carried.{CarriedOut}
use Rattle.kernel.specs.declared.refusal.ListRefusal.{ListRefusal}
use Rattle.kernel.specs.declared.refusal.ListRefusal.TheVariants.{EventsLength, AnswersShort, StateRefused}
use Rattle.kernel.specs.Shown.{number_of}
use Rattle.kernel.specs.Meets.{state_after, answers_after, ListMeets}

-- the refusals of a list
pub fault-28 : (events buffer : List ℕ) (s : Bool) → length buffer < length events → list_fault true events buffer s ≡ 28
unfolding list_fault
fault-28 events buffer s h = rw (lt-ltb (length buffer) (length events) h)

pub fault-29 : (events buffer : List ℕ) (s : Bool) → length events ≤ length buffer → s ≡ false → list_fault true events buffer s ≡ 29
unfolding list_fault
fault-29 events buffer s h e = rw (le-ltb (length buffer) (length events) h, e)

pub fault-0 : (events buffer : List ℕ) (s : Bool) → length events ≤ length buffer → s ≡ true → list_fault true events buffer s ≡ 0
unfolding list_fault
fault-0 events buffer s h e = rw (le-ltb (length buffer) (length events) h, e)

pub fault-27 : (events buffer : List ℕ) (s : Bool) → list_fault false events buffer s ≡ 27
unfolding list_fault
fault-27 events buffer s = refl

-- no refusal has the number 0
pub unnumbered : (e : ListRefusal) → number_of e ≡ 0 → ⊥
unnumbered EventsLength z = cc
unnumbered AnswersShort z = cc
unnumbered StateRefused z = cc

-- a refused call hands everything back
pub refuses : (fault : ℕ) (n : ListRefusal) (t : List ℕ) (st : State) (events buffer : List ℕ) → fault ≡ number_of n → ListMeets fault t st events buffer (Err n) buffer
unfolding state_after answers_after
refuses fault n t st events buffer e =
    let some = ne_eqb (number_of n) 0 (unnumbered n) in
    record { refusal = sym e; state = rw (e, some); answered = rw (e, some) }

module _ (t : List ℕ) (st : State) (events buffer : List ℕ) where
  -- 27 where the bytes are not whole, and else what the list gives
  pub refuses-27 : {whole : Bool} → whole ≡ false → ListMeets (list_fault whole events buffer (is_sound t st)) t st events buffer (Err EventsLength) buffer
  refuses-27 e = refuses _ EventsLength t st events buffer (ap (λ w. list_fault w events buffer (is_sound t st)) e ∙ fault-27 events buffer (is_sound t st))

  pub refuses-28 : length buffer < length events → ListMeets (list_fault true events buffer (is_sound t st)) t st events buffer (Err AnswersShort) buffer
  refuses-28 h = refuses _ AnswersShort t st events buffer (fault-28 events buffer (is_sound t st) h)

  pub refuses-29 : length events ≤ length buffer → is_sound t st ≡ false → ListMeets (list_fault true events buffer (is_sound t st)) t st events buffer (Err StateRefused) buffer
  refuses-29 h s = refuses _ StateRefused t st events buffer (fault-29 events buffer (is_sound t st) h s)

  -- an empty list is run and does nothing
  pub runs_none : length events ≤ length buffer → is_sound t st ≡ true → length events ≡ 0 → ListMeets (list_fault true events buffer (is_sound t st)) t st events buffer (Ok st) buffer
  unfolding state_after answers_after events_of
  runs_none h s e =
      let f = fault-0 events buffer (is_sound t st) h s in
      record { refusal = sym f; state = rw (f, e); answered = rw (f, e) }

  -- any other list is carried out
  pub runs-all : length events ≤ length buffer → is_sound t st ≡ true → (length events ≡ 0 → ⊥) → (r : State) (buffer' : List ℕ) → CarriedOut t st events buffer r buffer'
      → ListMeets (list_fault true events buffer (is_sound t st)) t st events buffer (Ok r) buffer'
  unfolding state_after answers_after
  runs-all h s e r buffer' c =
      let f = fault-0 events buffer (is_sound t st) h s in
      record { refusal = sym f; state = c.state ∙ (rw (f, ne_eqb (length events) 0 e)); answered = c.answered ∙ (rw f) }

-- the reader's tests, in their order
module _ (b : List ℕ) (n : ℕ) where
  pub torn : (length b % 80 ≡ 0 → ⊥) → is_handed b n ≡ false
  unfolding is_handed
  torn h = rw (ne_eqb (length b % 80) 0 h)

  module _ (whole : length b % 80 ≡ 0) where
    pub not_there : length b / 80 ≤ n → is_handed b n ≡ false
    unfolding is_handed
    not_there h = rw (eq-eqb (length b % 80) 0 whole, le-ltb n (length b / 80) h)

    pub not-0 : n < length b / 80 → (byte b (80 * n) ≡ 0 → ⊥) → is_handed b n ≡ false
    unfolding is_handed
    not-0 there h = rw (eq-eqb (length b % 80) 0 whole, lt-ltb n (length b / 80) there, ne_eqb (byte b (80 * n)) 0 h)

    pub by_length : n < length b / 80 → byte b (80 * n) ≡ 0 → is_handed b n ≡ leb (word32 b (80 * n + 8)) 64
    unfolding is_handed
    by_length there z = rw (eq-eqb (length b % 80) 0 whole, lt-ltb n (length b / 80) there, eq-eqb (byte b (80 * n)) 0 z)

  pub none-handed : is_handed b n ≡ false → stretch b n ≡ record { from = 0; size = 0 }
  unfolding stretch
  none-handed h = rw h

  pub one-handed : is_handed b n ≡ true → stretch b n ≡ record { from = 80 * n + 16; size = word32 b (80 * n + 8) }
  unfolding stretch
  one-handed h = rw h

  -- a record that is handed out lies within the bytes
  pub handed-there : is_handed b n ≡ true → n < length b / 80
  unfolding is_handed
  handed-there h =
      let w = eqb (length b % 80) 0 in
      let t = ltb n (length b / 80) in
      let z = eqb (byte b (80 * n)) 0 in
      ltb-true n (length b / 80) (both_right w t (both_left (w && t) z (both_left (w && t && z) (leb (word32 b (80 * n + 8)) 64) h)))

  pub handed-short : is_handed b n ≡ true → word32 b (80 * n + 8) ≤ 64
  unfolding is_handed
  handed-short h =
      let w = eqb (length b % 80) 0 in
      let t = ltb n (length b / 80) in
      let z = eqb (byte b (80 * n)) 0 in
      leb-true (word32 b (80 * n + 8)) 64 (both_right (w && t && z) (leb (word32 b (80 * n + 8)) 64) h)

-- every stretch lies within the bytes
pub stretch-inside : (b : List ℕ) (n : ℕ) → (stretch b n).from + (stretch b n).size ≤ length b
stretch-inside b n = go (is_handed b n) refl
  where
    go : (x : Bool) → is_handed b n ≡ x → (stretch b n).from + (stretch b n).size ≤ length b
    go true h = rw (one-handed b n h) (omega (arith, handed-there b n h, handed-short b n h))
    go false h = rw (none-handed b n h) (omega arith)
