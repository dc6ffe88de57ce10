-- `state_buffer::lay_state` meets its contract: the five parts, one behind the other. Assumes nothing.
use mathlib.Core.Path.{◌≡◌, ◌∙◌, ap}
use lib.ListN.{length}
use Rattle.model.specs.Words.{bytes32}
use Rattle.stores.specs.Ring.{pasted}
use Rattle.state_buffer.specs.Layout.{bytes_of_all}
use Rattle.state_buffer.proofs.Laws.{state-laid}
use borrow.Author.Rules.{rules}
use Rattle.state_buffer.proofs.lay_state.Goals as goal

pub returns : goal.returns
returns c =
    let whole-modes : length c.args.state.modes ≡ 16 = search rules in
    let whole_numbers : length c.args.state.numbers ≡ 832 = search rules in
    let whole-bytes : length c.args.state.bytes ≡ 32768 = search rules in
    let st = c.args.state in
    c.lay-2.ensures
    ∙ ap (λ l. pasted l 3352 st.bytes) (c.lay_numbers.ensures
    ∙ ap (λ l. pasted l 24 (bytes_of_all st.numbers)) (c.lay.ensures
    ∙ ap (λ l. pasted l 8 st.modes) (c.lay_number-2.ensures ∙ ap (λ l. pasted l 4 (bytes32 st.time)) c.lay_number.ensures)))
    ∙ state-laid c.args.out.now st c.requires whole-modes whole_numbers whole-bytes
