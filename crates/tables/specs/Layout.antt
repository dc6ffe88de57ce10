-- How tables are laid out: so many windows, then so many ports, then so many channels, which are all the records there are.
-- Assumes nothing.
use Rattle.std.specs.Prelude.{ℕ, ◌+◌, ◌≡◌}
use Rattle.model.specs.Tables.{Tables, records, windows, ports, channels}

pub record Laid (t : Tables) (w p c : ℕ) : Type 0 where
  pub windowed : w ≡ windows t
  pub ported : p ≡ ports t
  pub channelled : c ≡ channels t
  pub inside : w + p + c ≡ records t
