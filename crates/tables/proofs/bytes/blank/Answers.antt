-- `tables::bytes::blank` meets its contract: each byte of the stretch is zero.
-- Assumes nothing.
use Rattle.std.proofs.Common.{ℕ, ◌+◌, ◌-◌, ◌∙◌, Bool, rules, take, drop, eqb}
use Rattle.std.proofs.lemmas.Iterator.{YieldsList-from_slice}
use Rattle.std.proofs.lemmas.Iterator.Search.{all_from_yields_List}
use Rattle.tables.proofs.Searched.{each-passes}
use Rattle.tables.proofs.bytes.blank.Goals as goal

abbrev is_zero : ℕ → Bool
is_zero b = eqb b 0

pub returns : goal.returns
returns c =
    let x = c.args in
    let stretch = take (x.at + x.n - x.at) (drop x.at x.t.now) in
    all_from_yields_List is_zero _ _ _ c.all.ensures.ran (YieldsList-from_slice stretch cc) (λ y b q k. search rules)
    ∙ each-passes is_zero x.t.now x.n x.at c.requires
