-- What a verdict of the code shows of the model.
-- Assumes nothing.
use Rattle.std.specs.Prelude.{ℕ, Option, None, Some, Result, Ok, Err}
use Rattle.model.specs.Load.{accepted, refused}
use Rattle.model.specs.Load as model
use Rattle.loader.specs.declared.refusal.Fault.{Fault}
use Rattle.loader.specs.declared.refusal.Fault.TheVariants.{Length, Kind, Count, Field, Name, End, NoWindow}
use Rattle.loader.specs.declared.refusal.Refused.{Refused}

-- the paper's number of a fault, and 0 for none
abbrev pub number_of : Fault → ℕ
number_of Length = 20
number_of Kind = 21
number_of Count = 22
number_of Field = 23
number_of Name = 24
number_of End = 25
number_of NoWindow = 26

abbrev pub code_of : Option Fault → ℕ
code_of None = 0
code_of (Some fault) = number_of fault

-- the paper's verdict for each outcome of a load, whatever an accepted one gives besides
abbrev pub verdict_of : {A : Type 0} → Result A Refused → model.Verdict
verdict_of (Ok _) = accepted
verdict_of (Err r) = refused (number_of r.fault) r.«record»
