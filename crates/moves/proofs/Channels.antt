-- What the proofs of the mover lean on, of a channel: its destinations in their turn, its source, and the whole move.
-- Assumes nothing.
use Prim.Native.Nat.{ℕ, suc, ◌+◌, ◌-◌, ◌≤◌, ◌<◌}
use mathlib.Core.Path.{◌≡◌, refl, sym, ◌∙◌, ap, ap₂, subst}
use mathlib.Core.Bool.{true}
use mathlib.Core.List.{List, [], ◌∷◌}
use native.Mathlib.Numerals.{add-one}
use native.Mathlib.Omega.{arith}
use lib.ListN.{length, get_or}
use Rattle.model.specs.Words.{all_in}
use Rattle.model.specs.Tables.{Tables, Row, row, source_port, destinations, destination_port}
use Rattle.model.specs.Tables.{ports as port_count, channels as channel_count}
use Rattle.model.specs.State.{Message, Clock, Port, State, port, with_port, with_queue}
use Rattle.model.specs.Answers.{nothing_told}
use Rattle.model.specs.Services.{Reply, arrived, delivered, transmit_oldest, transmit}
use Rattle.model.proofs.Tests.{both_left, between-low, between-high, is-between}
use Rattle.model.specs.State.{fits}
use Rattle.model.specs.Ranged.{PortRanged}
use Rattle.model.proofs.RangesKept.{arrived-ranged}
use Rattle.model.proofs.Ends.{DestinationEnd}
use Rattle.model.proofs.Accepted.{Accepted, accepted}
use Rattle.tables.specs.Shown.{row_of, decoded}
use Rattle.tables.specs.declared.PortRow.{PortRow}
use Rattle.events.specs.declared.answers.Answer.{Answer}
use Rattle.events.specs.Shown.{refused_as, told_as}
use Rattle.stores.specs.declared.Letter.{Letter}
use Rattle.stores.specs.Ring.{Sized, written, letter_of}
use Rattle.stores.proofs.Laws.{written-letter}
use Rattle.ports.specs.Held
use Rattle.ports.specs.Held.{store_at, port_at, PortPut}
use Rattle.service_contracts.specs.Served.{Fits, TakesOldest}
use Rattle.service_contracts.specs.Did
use Rattle.service_contracts.specs.Did.{shown, Does}
use Rattle.service_contracts.proofs.Contents.{none-held, some-held, oldest-held}
use Rattle.service_contracts.proofs.Holding.{shown-port, shown-put, row_read, fits-of, sized-at}
use Rattle.moves.specs.Moved.{Arrived, Carried, Delivered, Moved}
use Rattle.moves.proofs.Laws.{left-ranged, held-put}

-- channel c of tables whose ports the numbers and bytes hold
module _ {t : Tables} {numbers bytes : List ℕ} (h : Did.Held t numbers bytes) (c : ℕ) (there : c < channel_count t) where
  laws : Accepted t
  laws = accepted t h.accepted

  -- the doer fits its byte
  pub few-channels : c < 32
  few-channels = omega (arith, laws.few_channels)

  pub source-there : source_port t c < port_count t
  source-there = (laws.sources c there).there

  pub few-destinations : destinations t c ≤ 8
  few-destinations = (laws.sources c there).few_ends

  -- destination j, whose number the reader has found, with its row as the reader decodes it
  module _ (j : ℕ) (few : j < destinations t c) where
    end : DestinationEnd t c j
    end = laws.destination_ends c there j few

    pub destination-there : {k : ℕ} → k ≡ destination_port t c j → k < port_count t
    destination-there e = omega (arith, e, end.there)

    pub destination-fits : {k : ℕ} {r : PortRow} → k ≡ destination_port t c j → r ≡ decoded (row t k) → Fits numbers bytes k r
    destination-fits {k} {r} e read = fits-of h k (destination-there e) r read

    pub handed : {numbers' bytes' : List ℕ} {k : ℕ} {r : PortRow} (time : ℕ) (m : Message) → k ≡ destination_port t c j → r ≡ decoded (row t k)
        → Arrived time (row_of r) m k numbers bytes numbers' bytes'
        → Arrived time (row t (destination_port t c j)) m (destination_port t c j) numbers bytes numbers' bytes'
    handed {numbers'} {bytes'} {k} {r} time m e read p =
        subst (λ (x : ℕ). Arrived time (row t x) m x numbers bytes numbers' bytes') e
        (subst (λ (x : Row). Arrived time x m k numbers bytes numbers' bytes') (row_read t laws k (destination-there e) read) p)

    -- what it has got is in range
    pub held_on : {numbers' bytes' : List ℕ} (time : ℕ) (m : Message) → Carried t c m
        → Arrived time (row t (destination_port t c j)) m (destination_port t c j) numbers bytes numbers' bytes' → Did.Held t numbers' bytes'
    held_on time m carried p =
        let r = row t (destination_port t c j) in
        let fit : fits r m ≡ true = is-between 1 r.largest (length m) (between-low 1 _ (length m) carried) (omega (arith, between-high 1 _ (length m) carried, end.takes_all)) in
        held-put h p (arrived-ranged time r m _ fit (h.each (destination_port t c j) end.there))

    -- a turn of the loop: what is left to deliver is one less
    pub turn : {numbers' bytes' : List ℕ} (time : ℕ) (m : Message) → Arrived time (row t (destination_port t c j)) m (destination_port t c j) numbers bytes numbers' bytes'
        → (n : ℕ) → j < n → (clock : Clock) (modes : List ℕ)
        → delivered t (λ k. time) c m (n - (j + 1)) (j + 1) (shown t clock modes numbers' bytes')
        ≡ delivered t (λ k. time) c m (n - j) j (shown t clock modes numbers bytes)
    turn {numbers'} {bytes'} time m p n more clock modes =
        ap (λ i. delivered t (λ k. time) c m (n - (j + 1)) i (shown t clock modes numbers' bytes')) (add-one j)
        ∙ ap (delivered t (λ k. time) c m (n - (j + 1)) (suc j)) put
        ∙ ap (λ i. delivered t (λ k. time) c m i j s) (sym one_more)
      where
        s : State
        s = shown t clock modes numbers bytes

        d : ℕ
        d = destination_port t c j

        one_more : n - j ≡ suc (n - (j + 1))
        one_more = omega arith

        put : shown t clock modes numbers' bytes' ≡ with_port s d (arrived time (row t d) m (port s d))
        put =
            shown-put t clock modes end.there p
            ∙ ap (λ q. with_port s d (arrived time (row t d) m q)) (sym (shown-port t clock modes numbers bytes d end.there))

  -- the source, whose number the reader has found
  module _ {k : ℕ} (found : k ≡ source_port t c) where
    pub source-few : k < 64
    source-few = omega (arith, found, source-there, laws.few_ports)

    pub source-sized : Sized (store_at numbers bytes k)
    source-sized = sized-at h k (omega (arith, found, source-there))

    -- how many messages it holds
    module _ {w : ℕ} (counted : w ≡ get_or (Held.row_of numbers k) 4 0) where
      held : w ≡ get_or (Held.row_of numbers (source_port t c)) 4 0
      held = counted ∙ ap (λ x. get_or (Held.row_of numbers x) 4 0) found

      -- where it holds a message
      module _ (some : w ≡ 0 → ⊥) where
        pub source-some : (port_at numbers bytes k).queue ≡ [] → ⊥
        source-some = some-held numbers bytes k counted some

        abbrev source_row : Row
        source_row = row t (source_port t c)

        abbrev source : Port
        source = port_at numbers bytes (source_port t c)

        ranged : PortRanged source_row source
        ranged = h.each (source_port t c) source-there

        oldest : (m : Message) × (rest : List Message) × (source.queue ≡ m ∷ rest)
        oldest = oldest-held numbers bytes (source_port t c) held some

        -- the oldest fits its row
        fit : fits source_row oldest.0 ≡ true
        fit = both_left (fits source_row oldest.0) (all_in (fits source_row) oldest.1) (rw oldest.2 at ranged.sized)

        short : length oldest.0 ≤ 64
        short = omega (arith, between-high 1 source_row.largest (length oldest.0) fit, (laws.rows (source_port t c) source-there).few_bytes)

        module _ {numbers₁ : List ℕ} {l : Letter} (gone : TakesOldest numbers bytes numbers₁ k l) where
          taken : (l ≡ letter_of oldest.0) × PortPut numbers bytes numbers₁ bytes (source_port t c) (with_queue source oldest.1)
          taken = subst (λ (x : ℕ). TakesOldest numbers bytes numbers₁ x l) found gone oldest.0 oldest.1 oldest.2

          read : written l ≡ oldest.0
          read = ap written taken.0 ∙ written-letter oldest.0 short

          -- what is carried on fits, and what the source keeps is in range
          pub source-carried : Carried t c (written l)
          source-carried = rw read fit

          pub source-held : Did.Held t numbers₁ bytes
          source-held = held-put h taken.1 (left-ranged source_row source oldest.0 oldest.1 oldest.2 ranged)

          -- the whole move
          pub moved : {r : Answer} (time : ℕ) (numbers₂ bytes₂ : List ℕ) → Delivered t time c (written l) numbers₁ bytes numbers₂ bytes₂
              → r ≡ told_as (64 + c) nothing_told → Moved t time c r numbers bytes numbers₂ bytes₂
          unfolding transmit
          moved {r} time numbers₂ bytes₂ all answered clock modes =
              subst (λ (x : Reply). Does s x (64 + c) r (shown t clock modes numbers₂ bytes₂)) (sym asked)
              (record { answered = answered; left = all clock modes ∙ ap₂ (λ m x. delivered t (λ k. time) c m (destinations t c) 0 x) read left })
            where
              s : State
              s = shown t clock modes numbers bytes

              at : port s (source_port t c) ≡ source
              at = shown-port t clock modes numbers bytes (source_port t c) source-there

              asked : transmit t (λ k. time) s c ≡ transmit_oldest t (λ k. time) s c (oldest.0 ∷ oldest.1)
              asked = ap (transmit_oldest t (λ k. time) s c) (ap (λ q. q.queue) at ∙ oldest.2)

              left : shown t clock modes numbers₁ bytes ≡ with_port s (source_port t c) (with_queue (port s (source_port t c)) oldest.1)
              left = shown-put t clock modes source-there taken.1 ∙ ap (λ q. with_port s (source_port t c) (with_queue q oldest.1)) (sym at)

      -- and where there is none
      pub unmoved : {r : Answer} (time : ℕ) → w ≡ 0 → r ≡ refused_as 1 (64 + c) → Moved t time c r numbers bytes numbers bytes
      unfolding transmit
      unmoved {r} time none answered clock modes =
          subst (λ (x : Reply). Does s x (64 + c) r s) (sym asked) (record { answered = answered; left = refl })
        where
          s : State
          s = shown t clock modes numbers bytes

          asked : transmit t (λ k. time) s c ≡ transmit_oldest t (λ k. time) s c []
          asked =
              ap (transmit_oldest t (λ k. time) s c)
              (ap (λ q. q.queue) (shown-port t clock modes numbers bytes (source_port t c) source-there) ∙ none-held numbers bytes (source_port t c) held none)
