-- Where the records of each kind stand: the windows and the ports are runs of records of one kind.
-- Assumes nothing.
use Prim.Native.Nat.{ℕ, ◌+◌, ◌-◌, ◌≤◌}
use mathlib.Core.Path.{◌≡◌, refl}
use native.Mathlib.Nat.{sub-zero}
use native.Mathlib.Omega.{arith}
use Rattle.model.specs.Tables.{Tables, records, windows, ports_end, ports, channels}
use Rattle.model.proofs.Searches.{first-least, first-most}
use Rattle.tables.specs.Layout.{Laid}
use Rattle.tables.specs.Runs.{other_kind, run_end}

module _ (t : Tables) where
  run-within : (m k : ℕ) → k ≤ records t → run_end m t k ≤ records t
  run-within m k h = omega (arith, first-most (other_kind m t) (records t - k) k)

  -- the windows are the run of kind 1 from the first record on, the ports that of kind 2 from there on
  pub windows-run : windows t ≡ run_end 1 t 0
  unfolding windows
  windows-run = rw sub-zero

  pub ports-run : (w : ℕ) → w ≡ windows t → ports_end t ≡ run_end 2 t w
  unfolding ports_end
  ports-run w e = rw e

  -- the counts are in order
  pub windows-within : windows t ≤ records t
  windows-within = rw windows-run (run-within 1 0 (omega arith))

  pub ports-after : windows t ≤ ports_end t
  unfolding ports_end
  ports-after = first-least (other_kind 2 t) (records t - windows t) (windows t)

  pub ports-within : ports_end t ≤ records t
  ports-within = rw (ports-run _ refl) (run-within 2 (windows t) windows-within)

  -- counted once: the windows, the ports up to where they end, and the rest
  pub laid : (w e r : ℕ) → w ≡ windows t → e ≡ ports_end t → r ≡ records t → Laid t w (e - w) (r - e)
  unfolding ports channels
  laid w e r h g f =
      record {
        windowed = h;
        ported = cc;
        channelled = cc;
        inside = omega (arith, h, g, f, ports-after, ports-within);
      }

  -- the first channel's record
  pub first-channel : (w p c : ℕ) → Laid t w p c → w + p ≡ ports_end t
  unfolding ports
  first-channel w p c l = omega (arith, l.windowed, l.ported, ports-after)
