-- `tables::layout::windows` meets its contract: the windows are a run from the first record on.
-- Assumes nothing.
use mathlib.Core.Path.{sym, ◌∙◌}
use Rattle.tables.proofs.Places.{windows-run}
use Rattle.tables.proofs.layout.windows.Goals as goal

pub returns : goal.returns
returns c = c.run_end.ensures ∙ sym (windows-run _)
