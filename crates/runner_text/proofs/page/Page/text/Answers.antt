-- `runner_text::page::Page::text` meets its contract: a part of the lent bytes is copied over. Assumes nothing.
use mathlib.Core.Path.{refl}
use native.Mathlib.Omega.{arith}
use Rattle.runner_text.proofs.Laws
use Rattle.runner_text.proofs.page.Page.text.Goals as goal

pub returns : goal.returns
returns c = record { same = refl; wrote = Laws.wrote-part _ _ _ _ _ refl (omega arith) c.copy_from_slice.ensures.after }
