-- `create_and_find::names::look_up` meets its contract: the first that passes. Assumes nothing.
use Prim.Native.Nat.{ℕ}
use mathlib.Core.Path.{◌≡◌}
use mathlib.Core.Bool.{Bool, true, false}
use borrow.Author.Rules.{rules}
use Rattle.std.proofs.lemmas.Iterator.{first_from_Range}
use Rattle.model.specs.Services.{is_named, look_up}
use Rattle.create_and_find.proofs.LookUp.{found}
use Rattle.create_and_find.proofs.names.look_up.Goals as goal

pub returns : goal.returns
unfolding look_up
returns c =
    let a = c.args in
    let p : ℕ → Bool = is_named a.tables.bytes.now a.p a.mode a.event.now in
    rw (← a.tables.laid.ported)
    (found p a.tables.ports c.find.result (first_from_Range _ _ _ c.find.result (λ k. p k ≡ true) (λ k. p k ≡ false) c.find.ensures.ran (λ x q k. search rules) (λ x q k. search rules)))
