-- What the places of an array stand for.
use Rattle.std.specs.Prelude.{ℕ, ◌==◌, ◌&&◌, not, Bool, if◌then◌else◌, Option, Some, None, Result, Ok, Err, List, [], ◌∷◌, ◌++◌, filter, length, map, codes}
use Rattle.std.specs.List.{list_any, slice_split}
use Rattle.std.specs.Option.{ok_or, option_and_then, option_map}
use Rattle.std.specs.Str.{byte, bytes_eq}
use Rattle.serde_json.specs.Data.{Data, null, boolean, number, string, array, object, Items, no_items, item}
use Rattle.gr_base.specs.Failure.{result_then}
use Rattle.gr_base.specs.Fault.{fault_named}
use Rattle.gr_base.specs.Text.{is_blank}
use Rattle.gr_base.specs.declared.fault.Fault.{Fault}
use Rattle.gr_base.specs.declared.fault.FaultKind.TheVariants.{BadRow, NoSuchColumn}
use Rattle.gr_base.specs.declared.numbers.ColumnNo.{ColumnNo}
use Rattle.gr_db.specs.Db.{role_shape}
use Rattle.gr_schema.specs.Schema.{SchemaDef, column_in, column_named}
use Rattle.gr_schema.specs.declared.definition.TableDef.{TableDef}
use Rattle.gr_rows.specs.declared.slot.Slot.{Slot}

-- the name of the key
abbrev pub key_name : List ℕ
key_name = codes "_key"

-- whether a name is that of the key
abbrev pub is_key_name : List ℕ → Bool
is_key_name name = bytes_eq key_name name

-- a column as what a name stands for, where it holds data
abbrev pub column_slot : SchemaDef → TableDef → ColumnNo → Option Slot
column_slot schema home column =
    option_map (λ shape. Slot.Column column shape) (option_and_then (λ def. role_shape schema def.role) (column_in home column))

-- what a name stands for in a table: its key, or one of its data columns
abbrev pub slot_named : SchemaDef → TableDef → List ℕ → Option Slot
slot_named schema home name =
    if is_key_name name then Some Slot.Key else option_and_then (column_slot schema home) (column_named home name)

-- whether a name is among these
abbrev pub is_among : List (List ℕ) → List ℕ → Bool
is_among names name = list_any (λ other. bytes_eq other name) names

-- a name that stands for something, and does not stand here already
abbrev pub name_taken : SchemaDef → TableDef → List (List ℕ) → List ℕ → Result (List ℕ) Fault
name_taken schema home before name =
    result_then
    (λ slot. if is_among before name then Err (fault_named BadRow []) else Ok name)
    (ok_or (slot_named schema home name) (fault_named NoSuchColumn name))

-- the names that go on from these; an element that is no name is refused
abbrev pub names_after : SchemaDef → TableDef → List (List ℕ) → List (Option (List ℕ)) → Result (List (List ℕ)) Fault
names_after schema home before [] = Ok before
names_after schema home before (None ∷ elements) = Err (fault_named BadRow [])
names_after schema home before (Some name ∷ elements) =
    result_then (λ taken. names_after schema home (before ++ taken ∷ []) elements) (name_taken schema home before name)

-- the names of the places of an array, or the first fault among them
abbrev pub names_of : SchemaDef → TableDef → List (Option (List ℕ)) → Result (List (List ℕ)) Fault
names_of schema home elements = names_after schema home [] elements

-- the name that an element of a header is
abbrev pub header_name : Data → Option (List ℕ)
header_name null = None
header_name (boolean b) = None
header_name (number n) = None
header_name (string name) = Some name
header_name (array ds) = None
header_name (object ms) = None

-- the names in a header
abbrev pub header_names : Items → List (Option (List ℕ))
header_names no_items = []
header_names (item d ds) = header_name d ∷ header_names ds

-- a text from its first byte that is no blank
abbrev pub from_first : List ℕ → List ℕ
from_first [] = []
from_first (c ∷ cs) = if is_blank c then from_first cs else c ∷ cs

-- a byte in front of others, unless it is a blank and nothing else is there
abbrev pub in_front : ℕ → List ℕ → List ℕ
in_front c cs = if is_blank c && length cs == 0 then [] else c ∷ cs

-- a text up to its last byte that is no blank
abbrev pub up_to_last : List ℕ → List ℕ
up_to_last [] = []
up_to_last (c ∷ cs) = in_front c (up_to_last cs)

-- a text without the blanks at its ends
abbrev pub trimmed : List ℕ → List ℕ
trimmed text = from_first (up_to_last text)

-- whether a byte stands between two names
abbrev pub is_comma : ℕ → Bool
is_comma c = c == byte ","

-- the names that a text lists
abbrev pub listed_names : List ℕ → List (List ℕ)
listed_names text = filter (λ name. not (length name == 0)) (map trimmed (slice_split is_comma text))
