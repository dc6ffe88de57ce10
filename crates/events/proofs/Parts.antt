-- A part written into a list is its elements written one after another.
-- Assumes nothing.
use Rattle.std.proofs.Common.{◌≡◌, ℕ, ◌+◌, ◌≤◌, ◌++◌, List, length, take, drop, sym, ap, ◌∙◌, arith}
use Rattle.std.proofs.lemmas.List.{append_assoc}
use lib.Seq.{sets, sets-eq, drop-drop}
use borrow.Rule.Slice.PartMut.{put_mid}

pub part-sets : (at k : ℕ) (l ys vs : List ℕ) → ys ≡ vs → length vs ≡ k → at + k ≤ length l → put_mid at k l ys ≡ sets l at vs
part-sets at k l ys vs same whole fits =
    ap (put_mid at k l) same
    ∙ ap (λ t. take at l ++ (vs ++ t)) (drop-drop k at l ∙ ap (λ n. drop (at + n) l) (sym whole))
    ∙ sym (append_assoc (take at l) vs _)
    ∙ sym (sets-eq vs l at (omega (arith, whole, fits)))
