-- `events::answers::lay_head` meets its contract: the parts, byte by byte, are the head in front of the rest. Assumes nothing.
use Rattle.std.proofs.Common.{◌≡◌, ◌∙◌, length, arith, length-set, refl, slice_set}
use Rattle.model.specs.Words.{bytes16, bytes32}
use lib.Seq.{sets, sets-eq}
use Rattle.events.specs.Shown.{head_bytes}
use Rattle.events.proofs.Parts.{part-sets}
use Rattle.events.proofs.answers.lay_head.Goals as goal

pub returns : goal.returns
unfolding head_bytes
returns c =
    let a = c.args.a in
    let l0 = slice_set (slice_set c.args.out.now 0 a.code) 1 a.doer in
    let l1 = sets l0 2 (bytes16 a.id) in
    let l2 = sets l1 4 (bytes32 a.number) in
    let l3 = sets l2 8 (bytes32 a.size) in
    let l4 = slice_set (slice_set l3 12 a.validity) 13 a.direction in
    let len0 : length l0 ≡ 80 = simp length-set c.requires in
    let len1 : length l1 ≡ 80 = simp length-set c.requires in
    let len2 : length l2 ≡ 80 = simp length-set c.requires in
    let len4 : length l4 ≡ 80 = simp length-set c.requires in
    let id = part-sets 2 2 l0 c.copy_from_slice.new.self (bytes16 a.id) (rw (c.copy_from_slice.ensures.after, c.to_le_bytes.ensures) refl) refl (omega (arith, len0)) in
    let number = part-sets 4 4 l1 c.copy_from_slice-2.new.self (bytes32 a.number) (rw (c.copy_from_slice-2.ensures.after, c.to_le_bytes-2.ensures) refl) refl (omega (arith, len1)) in
    let size = part-sets 8 4 l2 c.copy_from_slice-3.new.self (bytes32 a.size) (rw (c.copy_from_slice-3.ensures.after, c.to_le_bytes-3.ensures) refl) refl (omega (arith, len2)) in
    let depth = part-sets 14 2 l4 c.copy_from_slice-4.new.self (bytes16 a.depth) (rw (c.copy_from_slice-4.ensures.after, c.to_le_bytes-4.ensures) refl) refl (omega (arith, len4)) in
    rw (id, number, size) (depth ∙ sets-eq (head_bytes a) c.args.out.now 0 (omega (arith, c.requires)))
