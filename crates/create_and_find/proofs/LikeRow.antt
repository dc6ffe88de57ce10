-- Create: the row's number, and what each test of likeness decides alone.
-- Assumes nothing.
use Prim.Native.Nat.{ℕ}
use mathlib.Core.Path.{◌≡◌}
use mathlib.Core.Bool.{false}
use lib.Dec.{eqb}
use borrow.Author.Tests.{eq-eqb, ne_eqb}
use Rattle.model.specs.Tables.{Row}
use Rattle.model.specs.Events.{Call}
use Rattle.model.specs.Services.{like_row}
use Rattle.tables.specs.Shown as Shown
use Rattle.tables.specs.declared.PortRow.{PortRow}
use Rattle.tables.specs.declared.Transfer.TheVariants.{Sampling, Queuing}
use Rattle.create_and_find.specs.Period.{period_of}

pub period-sampling : (row : PortRow) (d : ℕ) → row.transfer ≡ Sampling d → period_of (Shown.row_of row) ≡ d
period-sampling row d e = rw e

pub period-queuing : (row : PortRow) (d : ℕ) → row.transfer ≡ Queuing d → period_of (Shown.row_of row) ≡ d
period-queuing row d e = rw e

module _ (r : Row) (f : Call) where
  pub unlike-size : (f.size ≡ r.largest → ⊥) → like_row r f ≡ false
  unfolding like_row
  unlike-size a = rw (ne_eqb f.size r.largest a)

  pub unlike-direction : f.size ≡ r.largest → (f.choice ≡ r.direction → ⊥) → like_row r f ≡ false
  unfolding like_row
  unlike-direction a b = rw (eq-eqb f.size r.largest a, ne_eqb f.choice r.direction b)

  pub like-number : f.size ≡ r.largest → f.choice ≡ r.direction → like_row r f ≡ eqb f.number (period_of r)
  unfolding like_row
  like-number a b = rw (eq-eqb f.size r.largest a, eq-eqb f.choice r.direction b)
