-- Rows of one size laid one behind the other: one more laid behind the last, and each read back where it stands.
-- Assumes nothing.
use Prim.Native.Nat.{ℕ, zero, suc, ◌+◌, ◌*◌, ◌<◌}
use mathlib.Core.Path.{◌≡◌, sym, ◌∙◌, ap, ap₂}
use mathlib.Core.List.{List, [], ◌∷◌, ◌++◌, map, append-nil, append_assoc}
use native.Mathlib.Nat.{mul-zero, mul-suc}
use native.Mathlib.Numerals.{add-one}
use native.Mathlib.Omega.{arith}
use lib.ListN.{length, get_or, take, drop, length-append, get_or-append}
use lib.Seq.{ext_get_or, take_at, drop-append-add, drop-drop, get_or-append-add}
use Rattle.model.specs.Run.{joined}
use Rattle.model.specs.State.{Port, fresh}
use Rattle.stores.specs.Ring.{all_filled, pasted}
use Rattle.stores.proofs.Lists.{length-filled}
use Rattle.ports.specs.Held.{row_of, block_of}
use Rattle.ports.proofs.Rows.{row-at, row-length}
use Rattle.settled_form.specs.Settled.{port_numbers, port_bytes}

-- ---- rows of any one size

-- the rows of these ports, and behind them what was there before
abbrev pub laid : (Port → List ℕ) → ℕ → List Port → List ℕ → List ℕ
laid f size ps old = joined (map f ps) ++ drop (size * length ps) old

module _ (f : Port → List ℕ) (size : ℕ) (sized : (q : Port) → length (f q) ≡ size) where
  rows-length : (ps : List Port) → length (joined (map f ps)) ≡ size * length ps
  rows-length [] = sym (mul-zero size)
  rows-length (q ∷ ps) = length-append (f q) (joined (map f ps)) ∙ omega (arith, sized q, rows-length ps, mul-suc size (length ps))

  rows_last : (ps : List Port) (q : Port) → joined (map f (ps ++ q ∷ [])) ≡ joined (map f ps) ++ f q
  rows_last [] q = append-nil (f q)
  rows_last (p ∷ ps) q = ap (λ rest. f p ++ rest) (rows_last ps q) ∙ sym (append_assoc (f p) (joined (map f ps)) (f q))

  pub laid_none : (old : List ℕ) → laid f size [] old ≡ old
  laid_none old = ap (λ n. drop n old) (mul-zero size)

  pub laid_next : (ps : List Port) (q : Port) (old : List ℕ) → pasted (laid f size ps old) (size * length ps) (f q) ≡ laid f size (ps ++ q ∷ []) old
  laid_next ps q old =
      let rows : List ℕ = joined (map f ps) in
      let behind : List ℕ = drop (size * length ps) old in
      let long : length rows ≡ size * length ps = rows-length ps in
      let counted : size * length ps + size ≡ size * length (ps ++ q ∷ []) =
      sym (mul-suc size (length ps)) ∙ ap (λ n. size * n) (sym (length-append ps (q ∷ []) ∙ add-one (length ps)))
      in
      let rest : drop (size * length ps + length (f q)) (rows ++ behind) ≡ drop (size * length (ps ++ q ∷ [])) old =
      ap (λ n. drop (n + length (f q)) (rows ++ behind)) (sym long)
      ∙ drop-append-add rows behind (length (f q))
      ∙ drop-drop (length (f q)) (size * length ps) old
      ∙ ap (λ n. drop (size * length ps + n) old) (sized q)
      ∙ ap (λ n. drop n old) counted
      in
      ap₂ (λ before after. before ++ (f q ++ after)) (take_at rows behind (size * length ps) long) rest
      ∙ sym (append_assoc rows (f q) (drop (size * length (ps ++ q ∷ [])) old))
      ∙ ap (λ all. all ++ drop (size * length (ps ++ q ∷ [])) old) (sym (rows_last ps q))

-- ---- a port's numbers and its block, read back

pub numbers-length : (q : Port) → length (port_numbers q) ≡ 13
unfolding port_numbers
numbers-length q = omega (arith, length-filled 8 (map length q.queue))

pub bytes-length : (q : Port) → length (port_bytes q) ≡ 512
unfolding port_bytes
bytes-length q = length-filled 512 (all_filled q.queue)

row_first : (row rest : List ℕ) → length row ≡ 13 → row_of (row ++ rest) 0 ≡ row
row_first row rest l =
    ext_get_or 0 _ _ (row-length (row ++ rest) 0 ∙ sym l)
    (λ j h. at j (omega (arith, h, row-length (row ++ rest) 0)))
  where
    at : (j : ℕ) → j < 13 → get_or (row_of (row ++ rest) 0) j 0 ≡ get_or row j 0
    at j h =
        let place : 13 * 0 + j ≡ j = omega arith in
        row-at (row ++ rest) 0 j h ∙ ap (λ i. get_or (row ++ rest) i 0) place ∙ get_or-append row rest 0 j (omega arith)

row_next : (row rest : List ℕ) (k : ℕ) → length row ≡ 13 → row_of (row ++ rest) (suc k) ≡ row_of rest k
row_next row rest k l =
    ext_get_or 0 _ _ (row-length (row ++ rest) (suc k) ∙ sym (row-length rest k))
    (λ j h. at j (omega (arith, h, row-length (row ++ rest) (suc k))))
  where
    at : (j : ℕ) → j < 13 → get_or (row_of (row ++ rest) (suc k)) j 0 ≡ get_or (row_of rest k) j 0
    at j h =
        let place : 13 * suc k + j ≡ length row + (13 * k + j) = omega arith in
        row-at (row ++ rest) (suc k) j h
        ∙ ap (λ i. get_or (row ++ rest) i 0) place
        ∙ get_or-append-add row rest (13 * k + j) 0
        ∙ sym (row-at rest k j h)

block-first : (block rest : List ℕ) → length block ≡ 512 → block_of (block ++ rest) 0 ≡ block
unfolding block_of
block-first block rest l = take_at block rest 512 l

block-next : (block rest : List ℕ) (k : ℕ) → length block ≡ 512 → block_of (block ++ rest) (suc k) ≡ block_of rest k
unfolding block_of
block-next block rest k l =
    let place : 512 * suc k ≡ length block + 512 * k = omega arith in
    ap (λ n. take 512 (drop n (block ++ rest))) place ∙ ap (take 512) (drop-append-add block rest (512 * k))

pub row_back : (ps : List Port) (rest : List ℕ) (k : ℕ) → k < length ps → row_of (joined (map port_numbers ps) ++ rest) k ≡ port_numbers (get_or ps k fresh)
row_back [] rest k h = absurd (omega arith)
row_back (q ∷ ps) rest zero h =
    ap (λ l. row_of l 0) (append_assoc (port_numbers q) (joined (map port_numbers ps)) rest)
    ∙ row_first (port_numbers q) (joined (map port_numbers ps) ++ rest) (numbers-length q)
row_back (q ∷ ps) rest (suc k) h =
    ap (λ l. row_of l (suc k)) (append_assoc (port_numbers q) (joined (map port_numbers ps)) rest)
    ∙ row_next (port_numbers q) (joined (map port_numbers ps) ++ rest) k (numbers-length q)
    ∙ row_back ps rest k (omega arith)

pub block_back : (ps : List Port) (rest : List ℕ) (k : ℕ) → k < length ps → block_of (joined (map port_bytes ps) ++ rest) k ≡ port_bytes (get_or ps k fresh)
block_back [] rest k h = absurd (omega arith)
block_back (q ∷ ps) rest zero h =
    ap (λ l. block_of l 0) (append_assoc (port_bytes q) (joined (map port_bytes ps)) rest)
    ∙ block-first (port_bytes q) (joined (map port_bytes ps) ++ rest) (bytes-length q)
block_back (q ∷ ps) rest (suc k) h =
    ap (λ l. block_of l (suc k)) (append_assoc (port_bytes q) (joined (map port_bytes ps)) rest)
    ∙ block-next (port_bytes q) (joined (map port_bytes ps) ++ rest) k (bytes-length q)
    ∙ block_back ps rest k (omega arith)
