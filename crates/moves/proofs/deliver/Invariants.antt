-- `moves::deliver` meets its contract. The loop's invariant: what is left to deliver, from the ports as they are, is what was to deliver at entry. Assumes nothing.
use Rattle.std.proofs.Common.{◌≡◌, ℕ, ◌-◌, List}
use Rattle.model.specs.Tables.{destinations}
use Rattle.model.specs.State.{Clock}
use Rattle.model.specs.Services.{delivered}
use Rattle.stores.specs.Ring.{written}
use Rattle.service_contracts.specs.Did.{Held, shown}
use Rattle.moves.proofs.deliver.Given as goal

abbrev pub invariant-loop-j : goal.invariant-loop-j
invariant-loop-j l =
    record {
      held : Held l.tables.bytes.now l.ports.numbers l.ports.bytes;
      left : (clock : Clock) (modes : List ℕ)
          → delivered l.tables.bytes.now (λ k. l.time) l.c (written l.letter) (destinations l.tables.bytes.now l.c - l.j) l.j (shown l.tables.bytes.now clock modes l.ports.numbers l.ports.bytes)
          ≡ delivered l.tables.bytes.now (λ k. l.time) l.c (written l.letter) (destinations l.tables.bytes.now l.c) 0 (shown l.tables.bytes.now clock modes l.initial.ports.numbers l.initial.ports.bytes);
    }
