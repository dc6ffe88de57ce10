-- `stores::Store::letter` meets its contract: the message is as many bytes as its length says, from its slot's start on. Assumes nothing.
use mathlib.Core.Path.{◌≡◌, sym, ap, ◌∙◌}
use Prim.Native.Nat.{◌+◌, ◌-◌, ◌*◌}
use native.Mathlib.Omega.{arith}
use borrow.Author.Rules.{rules}
use lib.ListN.{get_or, take, drop}
use Rattle.stores.specs.Ring.{slot_of, letter_of}
use Rattle.stores.proofs.Slots.{message-stood}
use Rattle.stores.proofs.Store.letter.Goals as goal

pub returns : goal.returns
returns c =
    let st = c.args.self.now in
    let at = c.slot-at.result in
    let size = get_or st.lengths at 0 in
    let cut : 64 * at + size - 64 * at ≡ size = omega arith in
    c.of.ensures
    ∙ ap (λ n. letter_of (take n (drop (64 * at) st.bytes))) cut
    ∙ ap (λ at. letter_of (take (get_or st.lengths at 0) (drop (64 * at) st.bytes))) c.slot-at.ensures
    ∙ sym (ap letter_of (message-stood st (search rules) (slot_of st c.args.i) (omega arith) c.requires.short))
