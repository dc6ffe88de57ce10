-- `runner_text::turn::answer_events` meets its contract: the kernel's run, and the lines of its answers. Assumes nothing.
use mathlib.Core.Path.{subst}
use Rattle.kernel.specs.Meets.{RunMeets}
use Rattle.runner_text.proofs.Laws
use Rattle.runner_text.proofs.Answered
use native.Mathlib.Omega.{arith}
use Rattle.runner_text.proofs.turn.answer_events.Goals as goal

pub unwrap-after-requires : goal.unwrap-after-requires
unwrap-after-requires c = Answered.run-given c.requires.0 c.requires.1 (omega (arith, c.requires.2)) c.run.ensures

pub returns : goal.returns
returns c =
    let a = c.args in
    let run = subst (λ r. RunMeets a.t.now a.state a.events.now _ r c.run.new.answers) c.unwrap-after.ensures c.run.ensures in
    record {
      wrote = Laws.adds_as (omega (arith, c.requires.2)) (Answered.run-lines c.requires.0 c.requires.1 (omega (arith, c.requires.2)) run a.first) c.lines.ensures;
      after = Answered.run-shown c.requires.0 c.requires.1 (omega (arith, c.requires.2)) run;
      sound = Answered.run_sound c.requires.0 c.requires.1 (omega (arith, c.requires.2)) run;
    }
