-- The numbers that parameters write.
use Rattle.std.specs.Prelude.{ℕ, ℤ, Option, Some, None, Result, Ok, Err, List}
use Rattle.gr_base.specs.declared.fault.FaultKind.{FaultKind}
use Rattle.gr_values.specs.Keys.{text_key}
use Rattle.gr_values.specs.declared.data_type.DataType.{DataType}
use Rattle.gr_values.specs.declared.value.Key.{Key}

-- the number that a key is, where it is one
abbrev pub number_in : Result Key FaultKind → Option ℤ
number_in (Ok (Key.Number number)) = Some number
number_in (Ok (Key.Text text)) = None
number_in (Err kind) = None

-- the number that a text writes as a key of this type is written: decimal digits, with a minus before them or not
abbrev pub number_of : DataType → List ℕ → Option ℤ
number_of of text = number_in (text_key of text)
