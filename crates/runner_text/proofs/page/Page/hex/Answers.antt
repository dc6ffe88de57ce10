-- `runner_text::page::Page::hex` meets its contract: the kit's hexadecimal text is that of 01. Assumes nothing.
use Prim.Native.Nat.{◌*◌}
use mathlib.Core.Path.{◌≡◌, refl, sym, ap, ◌∙◌}
use native.Mathlib.Omega.{arith}
use lib.ListN.{length}
use Rattle.std.proofs.lemmas.Result.{IfOk-at_ok}
use Rattle.hex.specs.Hex.{IsBytes}
use Rattle.hex.proofs.HexLemmas.{length-encode_with}
use Rattle.runner_text.specs.Text.{hex}
use Rattle.runner_text.proofs.Laws
use Rattle.runner_text.proofs.Kit
use Rattle.runner_text.proofs.page.Page.hex.Goals as goal

pub returns : goal.returns
returns c =
    let bytes = c.args.bytes.now in
    let fits : IsBytes bytes = λ i. let f = c.type_inv.bytes i in omega arith in
    let long : length (hex bytes) ≡ 2 * length bytes = ap length (Kit.hex-kit bytes fits) ∙ length-encode_with _ bytes in
    let written = IfOk-at_ok _ c.unwrap.ensures c.encode_to_slice.ensures.written ∙ sym (Kit.hex-kit bytes fits) in
    record {
      same = refl;
      wrote = Laws.wrote_as (omega (arith, long)) refl (Laws.wrote-part _ _ _ _ _ (omega (arith, long)) (omega arith) written);
    }
