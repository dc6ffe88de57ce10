-- `tables::names::same_name` meets its contract: `==` of two slices compares them byte by byte.
-- Assumes nothing.
use Rattle.std.proofs.Common.{◌∙◌}
use Rattle.tables.proofs.Searched.{names-alike}
use Rattle.tables.proofs.names.same_name.Goals as goal

pub returns : goal.returns
returns c = c.eq.ensures ∙ names-alike _ _ _ _ c.requires.at_in_bounds c.requires.bt_in_bounds
