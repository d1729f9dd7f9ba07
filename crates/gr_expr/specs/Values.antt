-- What a term is worth at a record: a whole number, a text or a truth, or no value.
use Rattle.std.specs.Prelude.{ℤ, pos, neg_ℤ, ◌+ℤ◌, ◌-ℤ◌, ◌*ℤ◌, int_le, int_div, int_rem, ◌&&◌, if◌then◌else◌, is_some, List, [], ◌∷◌, Option, Some, None}
use Rattle.std.specs.Ordering.{int_eq}
use Rattle.std.specs.Option.{option_and_then, option_map_or}
use Rattle.gr_ast.specs.declared.operators.Arith.{Arith}
use Rattle.gr_ast.specs.declared.operators.Arith.TheVariants.{Add, Sub, Mul, Div, Rem}
use Rattle.gr_base.specs.declared.numbers.RecordId.{RecordId}
use Rattle.gr_base.specs.declared.numbers.TableNo.{TableNo}
use Rattle.gr_values.specs.declared.data_type.DataType.{DataType}
use Rattle.gr_values.specs.declared.path.Field.{Field}
use Rattle.gr_values.specs.declared.path.Path.{Path}
use Rattle.gr_values.specs.declared.value.Cell.{Cell}
use Rattle.gr_values.specs.declared.value.Key.{Key}
use Rattle.gr_values.specs.Types.{text_limit}
use Rattle.gr_expr.specs.declared.typed.Literal.{Literal}
use Rattle.gr_expr.specs.declared.calc.TheConstants.{LEAST_WHOLE, MOST_WHOLE}
use Rattle.gr_expr.specs.Tables.{Records, key_at}
use Rattle.gr_expr.specs.Paths.{cell_of_end, end_of, key_of_end, referred_by}

-- what a literal would be that is worth the same, or no value
abbrev pub Worth : Type 0
Worth = Option Literal

-- a key as a value
abbrev pub key_worth : Key → Literal
key_worth (Key.Number number) = Literal.Number number
key_worth (Key.Text text) = Literal.Text text

-- what stands for a key that is not there: the empty text, and no value where the keys are numbers
abbrev pub no_key : DataType → Worth
no_key of = if is_some (text_limit of) then Some (Literal.Text []) else None

-- a key, where it is there
abbrev pub key_or_none : DataType → Option Key → Worth
key_or_none of key = option_map_or (λ found. Some (key_worth found)) key (no_key of)

-- the key of the record that a cell of a path refers to, where there is one
abbrev pub referred_key : List Records → Option TableNo → Cell → Option Key
referred_key tables to cell = option_and_then (λ table. option_and_then (key_at tables table) (referred_by tables table cell)) to

-- a cell: a reference has the value of its key; a list has none
abbrev pub cell_worth : List Records → Path → Cell → Worth
cell_worth tables path (Cell.Bool truth) = Some (Literal.Truth truth)
cell_worth tables path (Cell.Int number) = Some (Literal.Number number)
cell_worth tables path (Cell.Text text) = Some (Literal.Text text)
cell_worth tables path (Cell.Ref id) = key_or_none path.shape.of (referred_key tables path.to (Cell.Ref id))
cell_worth tables path (Cell.RefList ids) = None
cell_worth tables path (Cell.IntList numbers) = None
cell_worth tables path (Cell.TextList texts) = None

-- an id as a number
abbrev pub id_number : RecordId → ℤ
id_number id = pos id.0

-- a field at the end of a path; through an empty or dead reference the id is 0
abbrev pub field_worth : List Records → RecordId → Path → Field → Worth
field_worth tables id path Field.Id = Some (Literal.Number (option_map_or id_number (end_of tables id path) (pos 0)))
field_worth tables id path Field.Key = key_or_none path.shape.of (key_of_end tables id path)
field_worth tables id path (Field.Column column) = cell_worth tables path (cell_of_end tables id path column)

-- the value at a path
abbrev pub path_worth : List Records → RecordId → Path → Worth
path_worth tables id path = field_worth tables id path path.last

-- a whole number from the least to the greatest; one outside is no value
abbrev pub whole : ℤ → Worth
whole number = if int_le LEAST_WHOLE number && int_le number MOST_WHOLE then Some (Literal.Number number) else None

-- a division by zero has no value
abbrev pub unless_zero : ℤ → ℤ → Worth
unless_zero divisor number = if int_eq divisor (pos 0) then None else whole number

-- two whole numbers combined: `/` cuts towards zero, and `%` has the sign of the left one
abbrev pub calculated : Arith → ℤ → ℤ → Worth
calculated Add left right = whole (left +ℤ right)
calculated Sub left right = whole (left -ℤ right)
calculated Mul left right = whole (left *ℤ right)
calculated Div left right = unless_zero right (int_div left right)
calculated Rem left right = unless_zero right (int_rem left right)

-- two values combined; an operand that is no number gives no value
abbrev pub combined : Arith → Worth → Worth → Worth
combined arith (Some (Literal.Number left)) (Some (Literal.Number right)) = calculated arith left right
combined arith _ _ = None

-- values combined from left to right
abbrev pub calc_worth : Worth → List (Arith × Worth) → Worth
calc_worth first [] = first
calc_worth first (next ∷ rest) = calc_worth (combined next.0 first next.1) rest

-- the unary `-`
abbrev pub minus_worth : Worth → Worth
minus_worth (Some (Literal.Number number)) = whole (neg_ℤ number)
minus_worth _ = None
