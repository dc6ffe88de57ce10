-- `ports::take_store` meets its contract: its parts are those of the port's row and block. Assumes nothing.
use Prim.Native.Nat.{◌+◌, ◌-◌, ◌*◌}
use mathlib.Core.Path.{◌≡◌, ◌∙◌, ap}
use native.Mathlib.Omega.{arith}
use lib.ListN.{take, drop}
use Rattle.ports.specs.Held.{row_of, block_of, store_at}
use Rattle.ports.proofs.Rows.{lengths-at}
use borrow.Author.Rules.{rules}
use Rattle.ports.proofs.take_store.Goals as goal

pub returns : goal.returns
unfolding store_at block_of
returns c =
    let numbers = c.args.numbers.now in
    let bytes = c.args.bytes.now in
    let k = c.args.k in
    let eight : 13 * k + 13 - (13 * k + 5) ≡ 8 = omega arith in
    let wide : 512 * k + 512 - 512 * k ≡ 512 = omega arith in
    let lengths : c.copy_from_slice.new.self ≡ drop 5 (row_of numbers k) =
    c.copy_from_slice.ensures.after ∙ ap (λ n. take n (drop (13 * k + 5) numbers)) eight ∙ lengths-at numbers k c.requires.0 c.requires.2
    in
    let block : c.copy_from_slice-2.new.self ≡ block_of bytes k = c.copy_from_slice-2.ensures.after ∙ ap (λ n. take n (drop (512 * k) bytes)) wide in
    rw (lengths, block, c.number.ensures, c.number-2.ensures)
