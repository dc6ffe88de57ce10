-- The caller's ports unmade one after another, row by row.
-- Assumes nothing.
use Rattle.std.specs.Prelude.{if◌then◌else◌}
use Prim.Native.Nat.{ℕ, ◌<◌}
use mathlib.Core.Path.{◌≡◌, sym, ◌∙◌, ap}
use mathlib.Core.Bool.{◌&&◌}
use mathlib.Core.List.{List}
use native.Mathlib.Nat.{zero-add}
use native.Mathlib.Omega.{arith}
use lib.Dec.{ltb, eqb}
use lib.ListN.{get_or}
use lib.Seq.{ext_get_or}
use borrow.Author.Tests.{lt-ltb}
use Rattle.model.specs.Tables.{Tables, row}
use Rattle.model.specs.State.{fresh}
use Rattle.model.specs.Services.{unmade}
use Rattle.model.proofs.RangesKept.{unmade-at, unmade-length}
use Rattle.ports.specs.Held.{port_at, ports_of}
use Rattle.ports.proofs.PortAt.{ports-at, ports-length}

-- after the first k rows, the caller's ports among them are unmade and every other port is as it was
abbrev pub Swept : Tables → ℕ → ℕ → List ℕ → List ℕ → Type 0
Swept t p k before now =
    (bytes : List ℕ) (j : ℕ) → port_at now bytes j ≡ (if ltb j k && eqb (row t j).owner p then fresh else port_at before bytes j)

module _ (t : Tables) (p : ℕ) (before : List ℕ) where
  -- all rows swept is the model's mode change
  pub swept_all : (n : ℕ) (now : List ℕ) → Swept t p n before now → (bytes : List ℕ) → ports_of now bytes n ≡ unmade t p 0 (ports_of before bytes n)
  swept_all n now h bytes =
      ext_get_or fresh (ports_of now bytes n) (unmade t p 0 (ports_of before bytes n))
      (ports-length now bytes n ∙ sym (unmade-length t p 0 (ports_of before bytes n) ∙ ports-length before bytes n))
      (λ i l. at i (omega (arith, l, ports-length now bytes n)))
    where
      at : (i : ℕ) → i < n → get_or (ports_of now bytes n) i fresh ≡ get_or (unmade t p 0 (ports_of before bytes n)) i fresh
      at i l =
          ports-at now bytes n i l
          ∙ h bytes i
          ∙ (rw (lt-ltb i n l) (sym
          (unmade-at t p 0 (ports_of before bytes n) i (omega (arith, ports-length before bytes n))
          ∙ ap (λ j. if eqb (row t j).owner p then fresh else get_or (ports_of before bytes n) i fresh) (zero-add i)
          ∙ ap (λ q. if eqb (row t i).owner p then fresh else q) (ports-at before bytes n i l))))
