-- Create, at the port that was found: its mark and the likeness as the code reads them.
-- Assumes nothing.
use Prim.Native.Nat.{ℕ, ◌+◌}
use mathlib.Core.Path.{◌≡◌, sym, ◌∙◌}
use mathlib.Core.Bool.{Bool, true, false}
use mathlib.Core.List.{List}
use lib.Dec.{eqb}
use lib.ListN.{get_or}
use borrow.Author.Tests.{eq-eqb, ne_eqb}
use Rattle.model.specs.Tables.{Row}
use Rattle.model.specs.Events.{Call}
use Rattle.model.specs.Services.{refuses, serves, like_row, made}
use Rattle.model.specs.Answers.{told_id}
use Rattle.ports.specs.Held.{row_of, port_at}
use Rattle.service_contracts.proofs.Contents.{created-is}

module _ (numbers bytes : List ℕ) (k mode : ℕ) (r : Row) (f : Call) {x : ℕ} (marked : x ≡ get_or (row_of numbers k) 0 0) where
  pub made_again : x ≡ 1 → made (k + 1) mode r f (port_at numbers bytes k) ≡ refuses 1
  unfolding made
  made_again a = rw (eq-eqb (port_at numbers bytes k).created 1 (created-is numbers bytes k ∙ sym marked ∙ a))

  module _ (new : x ≡ 1 → ⊥) {like : Bool} (alike : like ≡ like_row r f) where
    uncreated : eqb (port_at numbers bytes k).created 1 ≡ false
    uncreated = ne_eqb (port_at numbers bytes k).created 1 (λ e. new (marked ∙ sym (created-is numbers bytes k) ∙ e))

    pub made-unlike : like ≡ false → made (k + 1) mode r f (port_at numbers bytes k) ≡ refuses 4
    unfolding made
    made-unlike b = rw (uncreated, sym alike ∙ b)

    pub made-normal : like ≡ true → mode ≡ 3 → made (k + 1) mode r f (port_at numbers bytes k) ≡ refuses 5
    unfolding made
    made-normal b m = rw (uncreated, sym alike ∙ b, eq-eqb mode 3 m)

    pub made-done : like ≡ true → (mode ≡ 3 → ⊥)
        → made (k + 1) mode r f (port_at numbers bytes k)
        ≡ serves (told_id (k + 1)) (record { created = 1; arrival = (port_at numbers bytes k).arrival; validity = (port_at numbers bytes k).validity; queue = (port_at numbers bytes k).queue })
    unfolding made
    made-done b m = rw (uncreated, sym alike ∙ b, ne_eqb mode 3 m)
