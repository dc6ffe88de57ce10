-- Turns that meet their contract, one after another, print the text of the whole input, and after a load that is accepted all of the output.
-- Assumes nothing.
use Rattle.std.specs.Prelude.{Ok}
use Prim.Native.Nat.{ℕ, suc, ◌*◌}
use mathlib.Core.Path.{◌≡◌, sym, ap, ◌∙◌}
use mathlib.Core.Bool.{true}
use mathlib.Core.List.{List, ◌++◌}
use lib.ListN.{take, drop, take-append-drop}
use lib.Seq.{length-take-le}
use Rattle.model.specs.State.{loaded}
use Rattle.states.specs.declared.State.{State}
use Rattle.states.specs.Shown.{shown_state, is_sound}
use Rattle.states.proofs.Load.{load-shown}
use Rattle.kernel.specs.Meets.{LoadMeets}
use Rattle.kernel.specs.Given.{by_load}
use Rattle.kernel.proofs.GivenStates.{given-sound}
use Rattle.runner_text.specs.Output.{text_from, tables_of, unless_refused, output}
use Rattle.runner_text.specs.Turned.{Printed, last, more}
use Rattle.runner_text.proofs.Laws.{wrote-text}
use Rattle.runner_text.proofs.Turns.{turn-full}

pub printed-text : {t : List ℕ} {st : State} {turns : ℕ} {input text : List ℕ} → Printed t st turns input text → text ≡ text_from t (shown_state t st) (400 * turns) input
printed-text (last short m) = wrote-text m.wrote
printed-text {t} {st} {turns} (more {input = input} {text = text} long m p) =
    ap (λ l. l ++ text) (wrote-text m.wrote)
    ∙ turn-full t (shown_state t st) turns (take 32000 input) (drop 32000 input) (length-take-le 32000 input long)
    (printed-text p ∙ ap (λ s. text_from t s (400 * suc turns) (drop 32000 input)) m.after)
    ∙ ap (text_from t (shown_state t st) (400 * turns)) (take-append-drop 32000 input)

-- an accepted load, by any outcome that meets its contract
module _ (t : List ℕ) (st : State) (m : LoadMeets t (Ok st)) where
  pub load-sound : is_sound t st ≡ true
  load-sound = given-sound t st (by_load m)

  load-shows : shown_state t st ≡ loaded t
  load-shows = ap (shown_state t) m.state ∙ load-shown t

-- all that is printed after it
pub printed-output : (file : List ℕ) {input text : List ℕ} {st : State} → LoadMeets (tables_of file) (Ok st) → Printed (tables_of file) st 0 input text → text ≡ output file input
unfolding output
printed-output file {input} {text} {st} m p =
    let t = tables_of file in
    printed-text p
    ∙ ap (λ s. text_from t s 0 input) (load-shows t st m)
    ∙ sym (ap (λ v. unless_refused v (text_from t (loaded t) 0 input)) (sym m.verdict))
