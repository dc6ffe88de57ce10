-- `loader::judge` meets its contract: each test is a part of the definition, in its order.
-- Assumes nothing.
use Prim.Native.Nat.{◌≤◌, ◌<◌}
use mathlib.Core.Path.{◌≡◌, ap, sym, ◌∙◌}
use native.Mathlib.Omega.{arith}
use borrow.Author.Tests.{eq-eqb, ne_eqb, lt-ltb, le-ltb}
use Rattle.model.specs.Tables.{Tables, records, windows}
use Rattle.model.specs.Load.{fault, first_fault, load_of}
use Rattle.loader.specs.Shown.{number_of}
use Rattle.loader.proofs.judge.Goals as goal

pub returns-then-length_fault : goal.returns-then-length_fault
unfolding load_of
returns-then-length_fault c = rw (sym c.length_fault.ensures ∙ c.if-length_fault.true)

pub returns-in-Some : goal.returns-in-Some
unfolding load_of
returns-in-Some c =
    let same = c.of-tables.ensures in
    let found = c.in-Some.ensures.found in
    let place = c.in-Some.refused.«record» in
    let first : place ≡ first_fault c.args.t.now = found.first ∙ ap first_fault same in
    let within : place < records c.args.t.now = omega (arith, found.within, ap records same) in
    let number : number_of c.in-Some.refused.fault ≡ fault c.args.t.now place = found.number ∙ ap (λ (t : Tables). fault t place) same in
    rw (sym c.length_fault.ensures ∙ c.if-length_fault.false, ← first, lt-ltb _ _ within, ← number)

pub returns-then-tables-eq0 : goal.returns-then-tables-eq0
unfolding load_of
returns-then-tables-eq0 c =
    let same = c.of-tables.ensures in
    let end : records c.args.t.now ≤ first_fault c.args.t.now = omega (arith, c.in_default.ensures.none, ap records same, ap first_fault same) in
    let none : windows c.args.t.now ≡ 0 = sym (c.of-tables.result.laid.windowed ∙ ap windows same) ∙ c.if-tables-eq0.true in
    rw (sym c.length_fault.ensures ∙ c.if-length_fault.false, le-ltb _ _ end, eq-eqb _ 0 none, c.records.ensures ∙ ap records same)

pub returns : goal.returns
unfolding load_of
returns c =
    let same = c.of-tables.ensures in
    let end : records c.args.t.now ≤ first_fault c.args.t.now = omega (arith, c.in_default.ensures.none, ap records same, ap first_fault same) in
    let some : windows c.args.t.now ≡ 0 → ⊥ = λ z. c.if-tables-eq0.false (c.of-tables.result.laid.windowed ∙ ap windows same ∙ z) in
    rw (sym c.length_fault.ensures ∙ c.if-length_fault.false, le-ltb _ _ end, ne_eqb (windows c.args.t.now) 0 some)
