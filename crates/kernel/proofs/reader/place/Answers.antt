-- `kernel::reader::place` meets its contract: the empty stretch, or where the message stands. Assumes nothing.
use Prim.Native.Nat.{◌/◌, ◌^◌, ◌<◌}
use mathlib.Core.Path.{◌≡◌, sym, ◌∙◌, ap}
use mathlib.Core.Bool.{true}
use native.Mathlib.Omega.{arith}
use lib.ListN.{length}
use Rattle.model.specs.Answers.{is_handed}
use Rattle.kernel.proofs.Laws
use borrow.Author.Rules.{rules}
use Rattle.kernel.proofs.reader.place.Goals as goal

pub returns-then-not-is_handed : goal.returns-then-not-is_handed
returns-then-not-is_handed c =
    let b = c.args.answers.now in
    let n = c.args.number in
    let e = Laws.none-handed b n (sym c.is_handed.ensures ∙ c.if-not-is_handed.true) in
    record { from = sym (ap (λ x. x.from) e); size = sym (ap (λ x. x.size) e) }

pub overflow_mul-result : goal.overflow_mul-result
overflow_mul-result c =
    let few_bytes : length c.args.answers.now < 2 ^ 64 = search rules in
    let inside : c.args.number < length c.args.answers.now / 80 = let is-there : is_handed c.args.answers.now c.args.number ≡ true = sym c.is_handed.ensures ∙ c.if-not-is_handed.false in
    Laws.handed-there _ _ is-there in
    record { fits = omega (arith, inside, few_bytes) }

pub overflow_add-result : goal.overflow_add-result
overflow_add-result c =
    let few_bytes : length c.args.answers.now < 2 ^ 64 = search rules in
    let inside : c.args.number < length c.args.answers.now / 80 = let is-there : is_handed c.args.answers.now c.args.number ≡ true = sym c.is_handed.ensures ∙ c.if-not-is_handed.false in
    Laws.handed-there _ _ is-there in
    record { fits = omega (arith, inside, few_bytes) }

pub overflow_mul-number : goal.overflow_mul-number
overflow_mul-number c =
    let few_bytes : length c.args.answers.now < 2 ^ 64 = search rules in
    let inside : c.args.number < length c.args.answers.now / 80 = let is-there : is_handed c.args.answers.now c.args.number ≡ true = sym c.is_handed.ensures ∙ c.if-not-is_handed.false in
    Laws.handed-there _ _ is-there in
    record { fits = omega (arith, inside, few_bytes) }

pub overflow_add-number : goal.overflow_add-number
overflow_add-number c =
    let few_bytes : length c.args.answers.now < 2 ^ 64 = search rules in
    let inside : c.args.number < length c.args.answers.now / 80 = let is-there : is_handed c.args.answers.now c.args.number ≡ true = sym c.is_handed.ensures ∙ c.if-not-is_handed.false in
    Laws.handed-there _ _ is-there in
    record { fits = omega (arith, inside, few_bytes) }

pub word32-requires : goal.word32-requires
word32-requires c =
    let inside : c.args.number < length c.args.answers.now / 80 = let is-there : is_handed c.args.answers.now c.args.number ≡ true = sym c.is_handed.ensures ∙ c.if-not-is_handed.false in
    Laws.handed-there _ _ is-there in
    omega (arith, inside)

pub returns : goal.returns
returns c =
    let is-there : is_handed c.args.answers.now c.args.number ≡ true = sym c.is_handed.ensures ∙ c.if-not-is_handed.false in
    let e = Laws.one-handed _ _ is-there in
    record { from = sym (ap (λ x. x.from) e); size = c.word32.ensures ∙ sym (ap (λ x. x.size) e) }
