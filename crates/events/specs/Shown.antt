-- The model's value for each case of the code's enums and structs: codes, needs, what an event asks for, and answers.
-- Assumes nothing.
use Rattle.std.specs.Prelude.{◌≡◌, ℕ, false, List, ◌∷◌, ◌++◌, ⊤, Result, MatchResult}
use Rattle.model.specs.Words.{bytes16, bytes32, zeros, filled}
use Rattle.model.specs.Events as model
use Rattle.model.specs.Answers.{Told, no_action, not_available, invalid_param, invalid_config, invalid_mode}
use Rattle.model.specs.Services.{Reply, refuse, done}
use Rattle.events.specs.declared.codes.Code.{Code}
use Rattle.events.specs.declared.codes.Code.TheVariants as code
use Rattle.events.specs.declared.codes.NoSuchCode.{NoSuchCode}
use Rattle.events.specs.declared.codes.Caller.{Caller}
use Rattle.events.specs.declared.codes.Caller.TheVariants.{Partition, Scheduler, Mover}
use Rattle.events.specs.declared.codes.CodeRow.{CodeRow}
use Rattle.events.specs.declared.calls.Call as fields
use Rattle.events.specs.declared.calls.Asked.{Asked}
use Rattle.events.specs.declared.calls.Asked.TheVariants.{Clock, Call, Move, Unknown}
use Rattle.events.specs.declared.return_codes.Refusal.{Refusal}
use Rattle.events.specs.declared.return_codes.Refusal.TheVariants as refused
use Rattle.events.specs.declared.answers.Answer.{Answer}

-- the byte that stands for a code
abbrev pub number_of : Code → ℕ
number_of code.CreateSamplingPort = model.create_sampling_port
number_of code.WriteSamplingMessage = model.write_sampling_message
number_of code.ReadSamplingMessage = model.read_sampling_message
number_of code.GetSamplingPortId = model.get_sampling_port_id
number_of code.GetSamplingPortStatus = model.get_sampling_port_status
number_of code.CreateQueuingPort = model.create_queuing_port
number_of code.SendQueuingMessage = model.send_queuing_message
number_of code.ReceiveQueuingMessage = model.receive_queuing_message
number_of code.GetQueuingPortId = model.get_queuing_port_id
number_of code.GetQueuingPortStatus = model.get_queuing_port_status
number_of code.ClearQueuingPort = model.clear_queuing_port
number_of code.SetPartitionMode = model.set_partition_mode
number_of code.Schedule = 13
number_of code.Transmit = 14

-- the code with this number, or an error with a number that no code has
abbrev pub Decodes : ℕ → Result Code NoSuchCode → Type 0
Decodes n r = MatchResult r (λ c. number_of c ≡ n) (λ e. (e.0 ≡ n) × (model.known n ≡ false))

abbrev pub caller_number : Caller → ℕ
caller_number Partition = model.by_partition
caller_number Scheduler = model.by_scheduler
caller_number Mover = model.by_mover

abbrev pub need_of : CodeRow → model.Need
need_of n = record { mode = n.mode; direction = n.direction; caller = caller_number n.caller }

abbrev pub call_of : fields.Call → model.Call
call_of f = record { code = number_of f.code; choice = f.choice; id = f.id; number = f.number; size = f.size }

abbrev pub asked_of : Asked → model.Asked
asked_of Clock = model.clock_step
asked_of (Call f) = model.call (call_of f)
asked_of (Move c) = model.move c
asked_of Unknown = model.unknown

-- the event of a call is this one
abbrev pub IsOf : List ℕ → Asked → Type 0
IsOf e Clock = ⊤
IsOf e (Call f) = f.event.now ≡ e
IsOf e (Move c) = ⊤
IsOf e Unknown = ⊤

-- the code of the answer that refuses
abbrev pub refusal_number : Refusal → ℕ
refusal_number refused.NoAction = no_action
refusal_number refused.NotAvailable = not_available
refusal_number refused.InvalidParam = invalid_param
refusal_number refused.InvalidConfig = invalid_config
refusal_number refused.InvalidMode = invalid_mode
refusal_number refused.CallerIdle = 15
refusal_number refused.CallInMoverWindow = 16
refusal_number refused.MoveInPartitionWindow = 17
refusal_number refused.NoChannel = 18
refusal_number refused.UnknownCode = 19

-- the answer that refuses, and the one that tells
unfoldable pub refused_as : ℕ → ℕ → Answer
refused_as code doer =
    record { code = code; doer = doer; id = 0; number = 0; size = 0; validity = 0; direction = 0; depth = 0; message = zeros 64 }

unfoldable pub told_as : ℕ → Told → Answer
told_as doer v =
    record {
      code = 0;
      doer = doer;
      id = v.id;
      number = v.number;
      size = v.size;
      validity = v.validity;
      direction = v.direction;
      depth = v.depth;
      message = filled 64 v.message;
    }

-- the answer to a reply
abbrev pub replied : ℕ → Reply → Answer
replied doer (refuse code) = refused_as code doer
replied doer (done v s) = told_as doer v

-- the 80 bytes of an answer: sixteen, and the message
unfoldable pub head_bytes : Answer → List ℕ
head_bytes a =
    a.code ∷ a.doer ∷ bytes16 a.id
    ++ (bytes32 a.number ++ (bytes32 a.size ++ (a.validity ∷ a.direction ∷ bytes16 a.depth)))

unfoldable pub answer_bytes : Answer → List ℕ
answer_bytes a = head_bytes a ++ a.message
