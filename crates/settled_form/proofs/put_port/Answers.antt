-- `settled_form::put_port` meets its contract: the two parts of the row and the block are those of the settled store. Assumes nothing.
use Prim.Native.Nat.{◌+◌, ◌*◌}
use mathlib.Core.Path.{◌≡◌, ◌∙◌, ap}
use mathlib.Core.List.{[], ◌∷◌}
use native.Mathlib.Omega.{arith}
use Rattle.stores.specs.Ring.{pasted, lay_out, queue_of}
use Rattle.ports.specs.Held.{store_at}
use Rattle.settled_form.proofs.Parts.{pasted-behind, row_laid, block-laid}
use Rattle.settled_form.proofs.put_port.Goals as goal

pub returns : goal.returns
returns c =
    let numbers = c.args.numbers.now in
    let bytes = c.args.bytes.now in
    let k = c.args.k in
    let to = c.args.out_numbers.now in
    let st = c.settled-st.result in
    let settled : st ≡ lay_out (queue_of (store_at numbers bytes k)) = c.settled-st.ensures ∙ ap (λ held. lay_out (queue_of held)) c.take_store-held.ensures in
    let first = c.number.result ∷ c.number-2.result ∷ c.number-3.result ∷ st.oldest ∷ st.count ∷ [] in
    record {
      numbers_laid =
          c.lay-2.ensures
          ∙ ap (λ l. pasted l (13 * k + 5) st.lengths) c.lay.ensures
          ∙ pasted-behind to (13 * k) first st.lengths (omega (arith, c.requires.stored.few, c.requires.out_numbers_len.0))
          ∙ ap (pasted to (13 * k)) (row_laid numbers bytes k settled c.number.ensures c.number-2.ensures c.number-3.ensures);
      bytes_laid = c.lay-3.ensures ∙ ap (pasted c.args.out_bytes.now (512 * k)) (block-laid numbers bytes k settled);
    }
