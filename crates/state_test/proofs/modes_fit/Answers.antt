-- `state_test::modes_fit` meets its contract: each of the modes passes. Assumes nothing.
use Rattle.std.proofs.Common.{◌∙◌, rules, leb}
use Rattle.std.proofs.lemmas.Iterator.{YieldsList-from_slice}
use Rattle.std.proofs.lemmas.Iterator.Search.{all_from_yields_List}
use Rattle.state_test.proofs.Judged.{list-all}
use Rattle.state_test.proofs.modes_fit.Goals as goal

pub returns : goal.returns
returns c =
    let modes = c.args.modes.now in
    all_from_yields_List (λ m. leb m 3) _ _ _ c.all.ensures.ran (YieldsList-from_slice modes cc) (λ x b q k. search rules) ∙ list-all (λ m. leb m 3) modes
