-- What is shown of a record: the text of what stands at a path.
use Rattle.std.specs.Prelude.{ℕ, Option, Some, List}
use Rattle.std.specs.Fmt.{decimal}
use Rattle.std.specs.List.{filter_map}
use Rattle.std.specs.Option.{option_and_then, option_map_or}
use Rattle.gr_base.specs.declared.numbers.RecordId.{RecordId}
use Rattle.gr_base.specs.declared.numbers.TableNo.{TableNo}
use Rattle.gr_expr.specs.Paths.{cell_of_end, end_of, key_of_end}
use Rattle.gr_expr.specs.Tables.{Records, key_at}
use Rattle.gr_values.specs.Shown.{empty_reference, given_text, key_text}
use Rattle.gr_values.specs.declared.path.Field.{Field}
use Rattle.gr_values.specs.declared.path.Path.{Path}
use Rattle.gr_values.specs.declared.value.Cell.{Cell}
use Rattle.gr_values.specs.declared.value.Given.{Given}
use Rattle.gr_values.specs.declared.value.Key.{Key}

-- the key of the record of a table that is referred to; an empty or dead reference has none
abbrev pub key_referred : List Records → Option TableNo → RecordId → Option Key
key_referred tables to id = option_and_then (λ table. key_at tables table id) to

-- a cell as a value is given: references by their keys, and in a list without those that are dead
abbrev pub given_of : List Records → Option TableNo → Cell → Given
given_of tables to (Cell.Bool truth) = Given.Bool truth
given_of tables to (Cell.Int number) = Given.Int number
given_of tables to (Cell.Text text) = Given.Text text
given_of tables to (Cell.Ref id) = Given.Ref (key_referred tables to id)
given_of tables to (Cell.RefList ids) = Given.RefList (filter_map (key_referred tables to) ids)
given_of tables to (Cell.IntList numbers) = Given.IntList numbers
given_of tables to (Cell.TextList texts) = Given.TextList texts

-- a field at the end of a path; through an empty or dead reference the id is 0, the key is none, and a column has its default
abbrev pub field_text : List Records → RecordId → Path → Field → List ℕ
field_text tables id path Field.Id = decimal (option_map_or (λ end. end.0) (end_of tables id path) 0)
field_text tables id path Field.Key = option_map_or key_text (key_of_end tables id path) (empty_reference (Some path.shape.of))
field_text tables id path (Field.Column column) = given_text (Some path.shape.of) (given_of tables path.to (cell_of_end tables id path column))

-- what stands at a path
abbrev pub path_text : List Records → RecordId → Path → List ℕ
path_text tables id path = field_text tables id path path.last
