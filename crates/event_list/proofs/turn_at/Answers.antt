-- `event_list::turn_at` meets its contract: the turn, and its answer laid in record i. Assumes nothing.
use Prim.Native.Nat.{◌+◌, ◌*◌, ◌-◌}
use mathlib.Core.Path.{◌≡◌, ◌∙◌, ap, ap₂, subst}
use mathlib.Core.List.{◌++◌}
use native.Mathlib.Omega.{arith}
use lib.ListN.{take, drop}
use borrow.Rule.Slice.PartMut.{Post-is}
use Rattle.model.specs.Step.{answer, doer, reply}
use Rattle.events.specs.Shown.{answer_bytes}
use Rattle.service_contracts.specs.Did.{shown}
use Rattle.event_step.specs.Turned.{clock_of, Answers}
use Rattle.event_list.proofs.Bytes.{bytes-replied}
use Rattle.event_list.proofs.turn_at.Goals as goal

pub returns : goal.returns
unfolding answer
returns c =
    let t = c.args.tables.bytes.now in
    let i = c.args.i in
    let a = c.args.answers.now in
    let es = c.args.events.now in
    let st = shown t (clock_of c.args.clock) c.args.modes.now c.args.ports.now.numbers c.args.ports.now.bytes in
    let size : 80 * i + 80 - 80 * i ≡ 80 = omega arith in
    let done = subst
    (λ k. Answers t (take k (drop (80 * i) es)) c.args.clock c.args.modes.now c.args.ports.now.numbers c.args.ports.now.bytes c.turn-turned.result.answer c.turn-turned.result.clock c.turn-turned.new.modes c.turn-turned.new.ports.numbers c.turn-turned.new.ports.bytes)
    size c.turn-turned.ensures
    in
    let e = take 80 (drop (80 * i) es) in
    record {
      answered =
          ap₂ (λ l r. take (80 * i) a ++ (l ++ r))
          (c.lay_answer.ensures ∙ ap answer_bytes done.answered ∙ bytes-replied (doer t st e) (reply t st e))
          (Post-is (80 * i) (80 * i + 80) a (omega arith));
      left = done.left;
    }
