-- Demand 3's words over the model: what each doer holds, who may hand directly to whom, the walk, and a partition's answers.
-- Assumes nothing.
use Rattle.std.specs.Prelude.{if◌then◌else◌, ℕ, suc, ◌-◌, Bool, ◌&&◌, ◌||◌, List, [], ◌∷◌, leb, ltb, eqb}
use Rattle.model.specs.Words.{any}
use Rattle.model.specs.Tables.{Tables, channels, Row, row, destination, source_port, destinations, destination_port}
use Rattle.model.specs.State.{Message, Clock, Port, State, fresh, partitions, mode_of, port}
use Rattle.model.specs.Events.{Event}
use Rattle.model.specs.Step.{scheduler, first_channel, doer, after, answer}
use Rattle.model.specs.Walk.{final_set, mattering}

-- what a doer holds. The scheduler, window and time. A channel, the messages in its source port.
-- A partition, its mode, and of each port what is its own there
pub data Holding : Type 0 where
  clock_held : Clock → Holding
  queue_held : List Message → Holding
  part_held : ℕ → List Port → Holding
  nothing_held : Holding

-- its ports' created marks and last validities, and the messages and arrival times of its destination ports; of another's port nothing
unfoldable pub held_port : ℕ → Row → Port → Port
held_port p r q =
    if eqb r.owner p
    then (if eqb r.direction destination then q
    else record { created = q.created; arrival = 0; validity = q.validity; queue = [] })
    else fresh

abbrev pub held_ports : Tables → ℕ → ℕ → List Port → List Port
held_ports t p k [] = []
held_ports t p k (q ∷ qs) = held_port p (row t k) q ∷ held_ports t p (suc k) qs

abbrev pub is_partition : ℕ → Bool
is_partition d = ltb d partitions

abbrev pub is_channel : Tables → ℕ → Bool
is_channel t d = leb first_channel d && ltb (d - first_channel) (channels t)

unfoldable pub holds : Tables → State → ℕ → Holding
holds t s d =
    if eqb d scheduler then clock_held s.clock
    else if is_partition d then part_held (mode_of s d) (held_ports t d 0 s.ports)
    else if is_channel t d then queue_held (port s (source_port t (d - first_channel))).queue
    else nothing_held

-- may hand directly: the scheduler to all, a source port's owner to its channel, a channel to its destinations' owners
unfoldable pub hands : Tables → ℕ → ℕ → Bool
hands t d x =
    eqb d scheduler
    || is_channel t x && eqb (row t (source_port t (x - first_channel))).owner d
    || is_channel t d && any (λ j. eqb (row t (destination_port t (d - first_channel) j)).owner x) (destinations t (d - first_channel)) 0

-- at first the set is the partition and the schedulers
abbrev pub schedulers : List ℕ
schedulers = scheduler ∷ []

abbrev pub start_set : ℕ → List ℕ
start_set p = p ∷ schedulers

-- the set at the walk's end, and the events that matter to partition p
unfoldable pub set_of : Tables → ℕ → State → List Event → List ℕ
set_of t p s es = final_set (after t) (doer t) (hands t) (start_set p) s es

unfoldable pub mattering_to : Tables → ℕ → State → List Event → List Event
mattering_to t p s es = mattering (after t) (doer t) (hands t) (start_set p) s es

-- the answers to the partition's calls: the events whose doer it is
abbrev pub answers_to : Tables → ℕ → State → List Event → List (List ℕ)
answers_to t p s [] = []
answers_to t p s (e ∷ es) =
    let later = answers_to t p (after t s e) es in
    if eqb (doer t s e) p then answer t s e ∷ later else later
