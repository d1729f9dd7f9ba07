-- Which keys a list of names asks for.
use Rattle.std.specs.Prelude.{◌≡◌, ℕ, ◌==◌, ◌||◌, Bool, false, if◌then◌else◌, Result, Ok, Err, List, [], ◌∷◌}
use Rattle.std.specs.Option.{ok_or}
use Rattle.std.specs.Str.{byte, bytes_eq}
use Rattle.gr_base.specs.Failure.{result_map, result_then}
use Rattle.gr_base.specs.Fault.{fault_named}
use Rattle.gr_base.specs.declared.fault.Fault.{Fault}
use Rattle.gr_base.specs.declared.fault.FaultKind.TheVariants.{BadSortKey, NoSuchColumn}
use Rattle.gr_base.specs.declared.numbers.TableNo.{TableNo}
use Rattle.gr_expr.specs.Tables.{Records}
use Rattle.gr_print.specs.Columns.{listed, score_name}
use Rattle.gr_print.specs.Fits.{FitsItem}
use Rattle.gr_print.specs.declared.out_column.OutItem.{OutItem}
use Rattle.gr_print.specs.declared.out_column.OutItem.TheVariants.{At, Score}
use Rattle.gr_schema.specs.Paths.{path_of}
use Rattle.gr_schema.specs.Schema.{SchemaDef}
use Rattle.gr_values.specs.declared.path.Path.{Path}
use Rattle.gr_sort.specs.declared.keys.SortKey.{SortKey}

-- whether a byte is a sign
abbrev pub is_sign : ℕ → Bool
is_sign c = c == byte "-" || c == byte "+"

-- what follows the sign of a key, where it has one
abbrev pub unsigned : List ℕ → List ℕ
unsigned [] = []
unsigned (c ∷ cs) = if is_sign c then cs else c ∷ cs

-- whether a key has the sign that turns its order round
abbrev pub is_descending : List ℕ → Bool
is_descending [] = false
is_descending (c ∷ cs) = c == byte "-"

-- a path to one value is taken; lists have no order
abbrev pub path_item : List ℕ → Path → Result OutItem Fault
path_item name path = if path.shape.list then Err (fault_named BadSortKey name) else Ok (At path)

-- the path to one value that a name writes
abbrev pub path_named : SchemaDef → TableNo → List ℕ → Result OutItem Fault
path_named schema table name = result_then (path_item name) (ok_or (path_of schema table name) (fault_named NoSuchColumn name))

-- what a name stands for: the score, or what stands at a path
abbrev pub item_named : SchemaDef → TableNo → List ℕ → Result OutItem Fault
item_named schema table name = if bytes_eq score_name name then Ok Score else path_named schema table name

-- a key that goes by this
abbrev pub key_by : Bool → OutItem → SortKey
key_by descending by = record { item = by; descending = descending }

-- the key that a text writes
abbrev pub key_of : SchemaDef → TableNo → List ℕ → Result SortKey Fault
key_of schema table text = result_map (key_by (is_descending text)) (item_named schema table (unsigned text))

-- the keys that texts write, in their order, or the first fault
abbrev pub keys_of : SchemaDef → TableNo → List (List ℕ) → Result (List SortKey) Fault
keys_of schema table [] = Ok []
keys_of schema table (text ∷ texts) =
    result_then (λ key. result_map (λ others. key ∷ others) (keys_of schema table texts)) (key_of schema table text)

-- the keys that a list asks for, or the first fault
abbrev pub order : SchemaDef → TableNo → List ℕ → Result (List SortKey) Fault
order schema table text = keys_of schema table (listed text)

-- one value stands there
abbrev pub IsSingle : OutItem → Type 0
IsSingle (At path) = path.shape.list ≡ false
IsSingle Score = Unit {0}

-- a key fits the rows, and has one value at each
pub record IsSortable (tables : List Records) (key : SortKey) : Type 0 where
  pub fits : FitsItem tables key.item
  pub single : IsSingle key.item
