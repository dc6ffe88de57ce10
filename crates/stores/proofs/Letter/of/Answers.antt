-- `stores::Letter::of` meets its contract: the message stands over zeros, and its length is the size. Assumes nothing.
use mathlib.Core.Path.{ap, ◌∙◌}
use mathlib.Core.List.{◌++◌}
use native.Mathlib.Omega.{arith}
use lib.ListN.{length, drop}
use Rattle.model.specs.Words.{zeros}
use Rattle.stores.proofs.Lists.{filled-over}
use Rattle.stores.proofs.Laws.{letter_is}
use Rattle.stores.proofs.Letter.of.Goals as goal

pub returns : goal.returns
returns c =
    let m = c.args.message.now in
    letter_is _ m (ap (λ l. l ++ drop (length m) (zeros 64)) c.copy_from_slice.ensures.after ∙ filled-over 64 m c.requires) (omega arith)
