-- What a cell holds before a value is given.
use Rattle.std.specs.Prelude.{pos, false, if◌then◌else◌, is_some, []}
use Rattle.gr_values.specs.declared.data_type.DataType.{DataType}
use Rattle.gr_values.specs.declared.data_type.Shape.{Shape}
use Rattle.gr_values.specs.declared.value.Cell.{Cell}
use Rattle.gr_values.specs.Types.{is_bool, range_of}

-- false, 0 or the empty text
abbrev pub plain_default : DataType → Cell
plain_default of = if is_bool of then Cell.Bool false else (if is_some (range_of of) then Cell.Int (pos 0) else Cell.Text [])

-- the empty list of the type
abbrev pub list_default : Shape → Cell
list_default shape =
    if shape.reference then Cell.RefList [] else (if is_some (range_of shape.of) then Cell.IntList [] else Cell.TextList [])

-- the reference to nothing is the record 0
abbrev pub default_of : Shape → Cell
default_of shape =
    if shape.list then list_default shape
    else (if shape.reference then Cell.Ref (record { 0 = 0 }) else plain_default shape.of)
