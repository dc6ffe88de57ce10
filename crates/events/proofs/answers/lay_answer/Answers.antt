-- `events::answers::lay_answer` meets its contract: the head, and then the message up to the end. Assumes nothing.
use Rattle.std.proofs.Common.{◌≡◌, ◌++◌, ◌-◌, take, drop, length, [], ap, arith}
use Rattle.std.proofs.lemmas.List.{drop_all, length-drop, append-nil}
use Rattle.events.specs.Shown.{head_bytes, answer_bytes}
use Rattle.events.proofs.answers.lay_answer.Goals as goal

pub returns : goal.returns
unfolding answer_bytes head_bytes
returns c =
    let l = c.lay_head.new.out in
    let past : drop (length l - 16) (drop 16 l) ≡ [] = drop_all (length l - 16) (drop 16 l) (omega (arith, length-drop 16 l)) in
    rw (c.copy_from_slice.ensures.after, past, append-nil c.args.a.message) (ap (λ x. take 16 x ++ c.args.a.message) c.lay_head.ensures)
