-- Parts as calls hand them on.
use Rattle.std.specs.Prelude.{◌≡◌}
use Rattle.gr_bind.specs.Inside.Told.{Tells}
use Rattle.gr_bind.specs.Typing.{Part}
use Rattle.gr_bind.specs.declared.part.TypedPart.{TypedPart}

-- what is handed on is this part: its place, and what it means or its fault
pub record IsPart (typed : TypedPart) (part : Part) : Type 0 where
  pub told : Tells typed.operand part.typed
  pub place : typed.at ≡ part.at
