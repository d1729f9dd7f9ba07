-- What a parser answered, and a fault that is told.
use Rattle.std.specs.Prelude.{◌≡◌, Result, Ok, Err}
use Rattle.gr_base.specs.declared.failure.Failure.{Failure}
use Rattle.gr_base.specs.declared.failure.Failure.TheVariants.{Refused, NoMemory}
use Rattle.gr_base.specs.declared.fault.Fault.{Fault}
use Rattle.gr_text.specs.Fault.{TextFault}
use Rattle.gr_text.specs.declared.fault.TextRefusal.{TextRefusal}

-- the answer of a parser that had memory
abbrev pub as_told : {T : Type 0} → Result T TextRefusal → Result T TextFault
as_told (Ok tree) = Ok tree
as_told (Err refusal) = Err (Refused refusal)

-- a call that wants a fault made tells it, or wants memory
abbrev pub Tells : Failure Fault → Fault → Type 0
Tells (Refused told) fault = told ≡ fault
Tells NoMemory fault = Unit {0}
