-- `kernel::carry_out` meets its contract: the refusals in their order, then the list. Assumes nothing.
use mathlib.Core.Path.{◌≡◌, sym, ◌∙◌, ap, subst}
use mathlib.Core.Bool.{true}
use native.Mathlib.Omega.{arith}
use Rattle.std.proofs.lemmas.Bool.Decides.{nat_tests}
use Rattle.model.specs.Load as Accepts
use Rattle.states.specs.Shown
use Rattle.tested_run.specs.Carried.{CarriedOut}
use Rattle.tested_run.proofs.Laws as Sound
use Rattle.kernel.proofs.Laws
use Rattle.kernel.proofs.carry_out.Goals as goal

pub returns-then-answers-events : goal.returns-then-answers-events
returns-then-answers-events c = Laws.refuses-28 c.args.t.now c.args.state c.args.events.now c.args.answers.now c.if-answers-events.true

pub returns-then-not-is_accepted : goal.returns-then-not-is_accepted
returns-then-not-is_accepted c =
    let a = c.args in
    Laws.refuses-29 a.t.now a.state a.events.now a.answers.now c.if-answers-events.false
    (Sound.sound-not a.t.now a.state (sym c.is_accepted.ensures ∙ c.if-not-is_accepted.true))

pub state_fits-requires : goal.state_fits-requires
state_fits-requires c = ap Accepts.accepts c.of-tables.ensures ∙ sym c.is_accepted.ensures ∙ c.if-not-is_accepted.false

pub returns-then-not-state_fits : goal.returns-then-not-state_fits
returns-then-not-state_fits c =
    let a = c.args in
    let accepted = sym c.is_accepted.ensures ∙ c.if-not-is_accepted.false in
    let fits = c.state_fits.ensures ∙ ap (λ t. Shown.state_fits t a.state) c.of-tables.ensures in
    Laws.refuses-29 a.t.now a.state a.events.now a.answers.now c.if-answers-events.false
    (Sound.sound-is a.t.now a.state accepted fits ∙ c.if-not-state_fits.true)

pub returns-then-is_empty : goal.returns-then-is_empty
returns-then-is_empty c =
    let a = c.args in
    let accepted = sym c.is_accepted.ensures ∙ c.if-not-is_accepted.false in
    let fits = c.state_fits.ensures ∙ ap (λ t. Shown.state_fits t a.state) c.of-tables.ensures in
    Laws.runs_none a.t.now a.state a.events.now a.answers.now c.if-answers-events.false
    (Sound.sound-is a.t.now a.state accepted fits ∙ c.if-not-state_fits.false) (grind (arith, nat_tests))

pub run_list-requires-clause-sound : goal.run_list-requires-clause-sound
run_list-requires-clause-sound c =
    (ap Accepts.accepts c.of-tables.ensures ∙ sym c.is_accepted.ensures ∙ c.if-not-is_accepted.false, sym c.state_fits.ensures ∙ c.if-not-state_fits.false)

pub returns : goal.returns
returns c =
    let a = c.args in
    let accepted = sym c.is_accepted.ensures ∙ c.if-not-is_accepted.false in
    let fits = c.state_fits.ensures ∙ ap (λ t. Shown.state_fits t a.state) c.of-tables.ensures in
    let carried = subst (λ t. CarriedOut t a.state a.events.now a.answers.now c.run_list.result c.run_list.new.answers) c.of-tables.ensures c.run_list.ensures in
    Laws.runs-all a.t.now a.state a.events.now a.answers.now c.if-answers-events.false
    (Sound.sound-is a.t.now a.state accepted fits ∙ c.if-not-state_fits.false) (grind (arith, nat_tests)) c.run_list.result c.run_list.new.answers carried
