-- The code's constant table is the model's, row by row, and the cases of the decoder.
-- Assumes nothing.
use Rattle.std.proofs.Common.{◌≡◌, ℕ, zero, suc, ◌-◌, ◌<◌, true, List, [], ◌∷◌, map, length, get_or, refl, arith, eq-eqb, ne_eqb}
use Rattle.model.specs.Words.{byte, word16}
use Rattle.model.specs.Events.{known, need, decode, call, clock_step, move}
use Rattle.model.specs.Events as model
use Rattle.model.proofs.Tests.{between-low, between-high}
use Rattle.events.specs.declared.codes.CodeRow.{CodeRow}
use Rattle.events.specs.declared.codes.TheConstants.{CODES}
use Rattle.events.specs.Shown.{need_of}

-- a row of a table is shown by that row of the shown table, whatever stands past its end
row-shown : (rows : List CodeRow) (i : ℕ) (d : CodeRow) (d' : model.Need) → i < length rows → need_of (get_or rows i d) ≡ get_or (map need_of rows) i d'
row-shown [] i d d' h = absurd (omega arith)
row-shown (r ∷ rows) zero d d' h = refl
row-shown (r ∷ rows) (suc i) d d' h = row-shown rows i d d' (omega arith)

pub table_is : (code : ℕ) (d : CodeRow) → known code ≡ true → need_of (get_or CODES (code - 1) d) ≡ need code
table_is code d k = row-shown CODES (code - 1) d _ (omega (arith, between-low 1 14 code k, between-high 1 14 code k))

-- the cases of the decoder, from the tests of the code's row
module _ (e : model.Event) (k : known (byte e 0) ≡ true) where
  pub decode_call : (need (byte e 0)).caller ≡ 0 → decode e ≡ call (model.call_of e)
  unfolding decode
  decode_call c = simp (k, eq-eqb (need (byte e 0)).caller 0 c)

  pub decode-clock : (need (byte e 0)).caller ≡ 1 → decode e ≡ clock_step
  unfolding decode
  decode-clock c = simp (k, ne_eqb (need (byte e 0)).caller 0 (λ n. absurd (omega (arith, c, n))), eq-eqb (need (byte e 0)).caller 1 c)

  pub decode-move : ((need (byte e 0)).caller ≡ 0 → ⊥) → ((need (byte e 0)).caller ≡ 1 → ⊥) → decode e ≡ move (word16 e 2)
  unfolding decode
  decode-move n m = simp (k, ne_eqb (need (byte e 0)).caller 0 n, ne_eqb (need (byte e 0)).caller 1 m)
