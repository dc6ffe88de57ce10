-- What holds of tables that a load accepts: the laws on which later proofs lean, with a name for each, proved once of the definition.
-- Assumes nothing.
use Prim.Native.Nat.{ℕ, ◌+◌, ◌≤◌, ◌<◌}
use mathlib.Core.Path.{◌≡◌}
use mathlib.Core.Bool.{true, false}
use mathlib.Core.Logic.{◌⊎◌}
use Rattle.model.specs.Tables.{Tables, records, windows, ports, ports_end, channels, mover, window_partition, window_length, row, name_start, same_name, port_record, source_port, destinations, destination_port}
use Rattle.model.specs.Load.{accepts}
use Rattle.model.proofs.Order.{some-window, ports-after, channels-after}
use Rattle.model.specs.Ranged.{RowRanges}
use Rattle.model.proofs.Rows.{few-windows, few-ports, window-partition, window-step, row_ok, names-distinct}
use Rattle.model.proofs.Ends.{SourceEnd, DestinationEnd, few-channels, source-end, destination-end, sources-distinct, destinations-distinct}

pub record Accepted (t : Tables) : Type 0 where
  pub windowed : 0 < windows t
  pub few_windows : windows t ≤ 64
  pub few_ports : ports t ≤ 64
  pub few_channels : channels t ≤ 32
  pub ports_after : windows t + ports t ≡ ports_end t
  pub channels_after : ports_end t + channels t ≡ records t
  pub window : (w : ℕ) → w < windows t → (window_partition t w < 16) ⊎ (window_partition t w ≡ mover)
  pub window_step : (w : ℕ) → w < windows t → window_length t w ≤ 10_000
  pub rows : (k : ℕ) → k < ports t → RowRanges (row t k)
  pub sources : (c : ℕ) → c < channels t → SourceEnd t c
  pub destination_ends : (c : ℕ) → c < channels t → (j : ℕ) → j < destinations t c → DestinationEnd t c j
  pub sources_distinct : (c d : ℕ) → c < channels t → d < channels t → source_port t c ≡ source_port t d → c ≡ d
  pub destinations_distinct :
      (c d : ℕ) → c < channels t → d < channels t → (i j : ℕ) → i < destinations t c → j < destinations t d
      → destination_port t c i ≡ destination_port t d j → (c ≡ d) × (i ≡ j)
  pub names_distinct :
      (k l : ℕ) → k < l → l < ports t → (row t k).owner ≡ (row t l).owner
      → same_name t (name_start (port_record t k)) t (name_start (port_record t l)) ≡ false

pub accepted : (t : Tables) → accepts t ≡ true → Accepted t
accepted t ok =
    record {
      windowed = some-window t ok;
      few_windows = few-windows t ok;
      few_ports = few-ports t ok;
      few_channels = few-channels t ok;
      ports_after = ports-after t ok;
      channels_after = channels-after t ok;
      window = window-partition t ok;
      window_step = window-step t ok;
      rows = row_ok t ok;
      sources = source-end t ok;
      destination_ends = destination-end t ok;
      sources_distinct = sources-distinct t ok;
      destinations_distinct = destinations-distinct t ok;
      names_distinct = names-distinct t ok;
    }
