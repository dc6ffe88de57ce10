-- `state_buffer::state_of` meets its contract: each part is that of the buffer. Assumes nothing.
use Prim.Native.Nat.{◌-◌}
use mathlib.Core.Path.{◌∙◌, ap}
use lib.ListN.{take, drop}
use Rattle.state_buffer.proofs.Laws.{state-read}
use Rattle.state_buffer.proofs.state_of.Goals as goal

pub returns : goal.returns
returns c =
    let b = c.args.b.now in
    state-read b c.word32.ensures c.word32-2.ensures c.copy_from_slice.ensures.after c.read_numbers.ensures
    (c.copy_from_slice-2.ensures.after ∙ ap (λ n. take (n - 3352) (drop 3352 b)) c.requires)
