-- `stores::Store::push` meets its contract: the letter's bytes are laid with its length, and its message stands last in the queue. Assumes nothing.
use mathlib.Core.Path.{◌≡◌, ap, ◌∙◌, refl}
use borrow.Author.Rules.{rules}
use Rattle.stores.specs.declared.Letter.{Letter}
use Rattle.stores.specs.declared.Store.{Store}
use Rattle.stores.specs.Ring.{queue_of, laid_behind, appended}
use Rattle.stores.proofs.Laws.{queue-appended}
use Rattle.stores.proofs.Store.push.Goals as goal

laid : (st : Store) (l : Letter) → laid_behind st l.bytes l.size ≡ appended st l
unfolding laid_behind appended
laid st l = refl

pub returns-clause-appended : goal.returns-clause-appended
returns-clause-appended c = c.append.ensures ∙ laid c.args.self.now c.args.letter.now

pub returns-clause-queued : goal.returns-clause-queued
returns-clause-queued c =
    ap queue_of (returns-clause-appended c) ∙ queue-appended c.args.self.now (search rules) (search rules) c.args.letter.now (search rules) c.requires
