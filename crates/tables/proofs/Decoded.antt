-- Decoded rows: which case a mode gives; and of a row in its ranges nothing is lost, what the decoded row shows is the row.
-- Assumes nothing.
use Prim.Native.Nat.{ℕ}
use mathlib.Core.Path.{◌≡◌}
use mathlib.Core.Logic.{⊎_elim}
use borrow.Author.Tests.{eq-eqb, ne_eqb}
use Rattle.model.specs.Tables.{sampling, queuing, Row}
use Rattle.model.specs.Ranged.{RowRanges}
use Rattle.tables.specs.declared.Transfer.TheVariants.{Sampling, Queuing}
use Rattle.tables.specs.Shown.{row_of, transfer_of, decoded}

-- the case that a mode gives
module _ (mode depth refresh : ℕ) where
  pub of-sampling : mode ≡ sampling → transfer_of mode depth refresh ≡ Sampling refresh
  of-sampling e = rw (eq-eqb mode 0 e)

  pub of-queuing : (mode ≡ sampling → ⊥) → transfer_of mode depth refresh ≡ Queuing depth
  of-queuing h = rw (ne_eqb mode 0 h)

abbrev parts : ℕ → ℕ → ℕ → ℕ → ℕ → ℕ → Row
parts o m d l k p = record { owner = o; mode = m; direction = d; largest = l; depth = k; refresh = p }

sampled : (o m d l k p : ℕ) → m ≡ sampling → k ≡ 0 → row_of (decoded (parts o m d l k p)) ≡ parts o m d l k p
sampled o m d l k p e z = rw (e, z)

queued : (o m d l k p : ℕ) → m ≡ queuing → p ≡ 0 → row_of (decoded (parts o m d l k p)) ≡ parts o m d l k p
queued o m d l k p e z = rw (e, z)

pub shown : (row : Row) → RowRanges row → row_of (decoded row) ≡ row
shown row ranges =
    ⊎_elim
    (λ s. sampled _ _ _ _ _ _ s (ranges.no_depth s))
    (λ q. queued _ _ _ _ _ _ q (ranges.no_refresh q))
    ranges.moded
