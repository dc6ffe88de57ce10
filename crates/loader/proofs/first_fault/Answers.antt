use mathlib.Core.Path.{◌≡◌, ◌∙◌, sym}
use native.Mathlib.Omega.{arith}
use Rattle.model.specs.Tables.{records}
use Rattle.model.proofs.Searches.{first_more, first-stop, first-end}
use Rattle.loader.proofs.Faults.{is_faulty, is-faulty, is-faultless, faults-whole}
use Rattle.loader.proofs.first_fault.Goals as goal

pub loop-number-init : goal.loop-number-init
loop-number-init c = faults-whole _ _ c.records-number-end.ensures

pub returns-in-Some-clause-found : goal.returns-in-Some-clause-found
returns-in-Some-clause-found c =
    let t = c.args.tables.bytes.now in
    let r = c.loop-number.number in
    let which = c.record.ensures in
    let number = rw (which.tables, which.which) at c.in-Some.ensures in
    record {
      first = sym (c.loop-number.invariant ∙ first-stop (is_faulty t) _ r c.loop-number-test.true (is-faulty t r c.in-Some.fault number));
      within = omega arith;
      number = number;
    }

pub loop-number-preserved : goal.loop-number-preserved
loop-number-preserved c =
    let t = c.args.tables.bytes.now in
    let r = c.loop-number.number in
    let which = c.record.ensures in
    c.loop-number.invariant ∙ first_more (is_faulty t) _ r c.loop-number-test.true (is-faultless t r (rw (which.tables, which.which) at c.in_default.ensures))

pub returns-clause-none : goal.returns-clause-none
returns-clause-none c =
    let ends = first-end (is_faulty c.args.tables.bytes.now) c.records-number-end.result c.loop-number.number c.loop-number-test.false in
    let last : c.loop-number.number ≡ records c.args.tables.bytes.now = omega arith in
    c.loop-number.invariant ∙ ends ∙ last
