-- What is read at a path that fits is UTF-8, where it is a text.
use Rattle.std.proofs.Common.{◌≡◌, ℕ, Bool, true, false, List, [], Option, Some, None, refl, rules}
use Rattle.std.specs.Prelude.{is_some, if◌then◌else◌, IsUtf8, MatchOption}
use Rattle.std.specs.Option.{option_and_then, option_flatten, option_map_or}
use Rattle.std.specs.List.{slice_get}
use Rattle.gr_base.specs.declared.numbers.ColumnNo.{ColumnNo}
use Rattle.gr_base.specs.declared.numbers.RecordId.{RecordId}
use Rattle.gr_base.specs.declared.numbers.TableNo.{TableNo}
use Rattle.gr_values.specs.declared.data_type.DataType.{DataType}
use Rattle.gr_values.specs.declared.path.Field.{Field}
use Rattle.gr_values.specs.declared.path.Path.{Path}
use Rattle.gr_values.specs.declared.value.Cell.{Cell}
use Rattle.gr_values.specs.declared.value.Key.{Key}
use Rattle.gr_values.specs.Defaults.{default_of, plain_default}
use Rattle.gr_values.specs.Fits.{IsCellOf, IsKeyOf, IsTextWithin}
use Rattle.gr_values.specs.Types.{is_bool, range_of, text_limit}
use Rattle.gr_expr.specs.declared.typed.Literal.{Literal}
use Rattle.gr_expr.specs.Fits.{EachCell, EachKey, FitsField, FitsPath, FitsTarget, IsWritten}
use Rattle.gr_expr.specs.Paths.{end_of, end_table, referred}
use Rattle.gr_expr.specs.Tables.{Record, Records, cell_at, key_at, record_at}
use Rattle.gr_expr.specs.Values.{Worth, cell_worth, field_worth, key_or_none, no_key, path_worth, referred_key}

-- a value that is UTF-8, where it is a text
abbrev pub IsWrittenWorth : Worth → Type 0
IsWrittenWorth None = Unit {0}
IsWrittenWorth (Some literal) = IsWritten literal

-- what holds of both holds of the one that is chosen
chosen : {X : Type 0} (P : X → Type 0) (b : Bool) (x y : X) → P x → P y → P (if b then x else y)
chosen P true x y p q = p
chosen P false x y p q = q

empty_written : IsUtf8 []
empty_written = search rules

no_key_written : (of : DataType) → IsWrittenWorth (no_key of)
no_key_written of = chosen IsWrittenWorth (is_some (text_limit of)) (Some (Literal.Text [])) None empty_written tt

key_written : (of : DataType) (key : Option Key) → MatchOption key ⊥ (IsKeyOf of) → IsWrittenWorth (key_or_none of key)
key_written of None h = absurd h
key_written of (Some (Key.Number number)) h = tt
key_written of (Some (Key.Text text)) h = h.utf8

-- the key of a record that is there or not
record_written : (of : DataType) (found : Option Record) → (is_some found ≡ true → MatchOption (option_and_then (λ found. found.key) found) ⊥ (IsKeyOf of)) → IsWrittenWorth (key_or_none of (option_and_then (λ found. found.key) found))
record_written of None h = no_key_written of
record_written of (Some found) h = key_written of found.key (h refl)

-- the key of the record at an end that is there or not
end_written : (tables : List Records) (table : TableNo) (of : DataType) (end : Option RecordId) → EachKey tables table (IsKeyOf of) → IsWrittenWorth (key_or_none of (option_and_then (key_at tables table) end))
end_written tables table of None h = no_key_written of
end_written tables table of (Some id) h = record_written of (record_at tables table id) (h id)

-- a text within a limit
text_written : (limit : Option ℕ) (text : List ℕ) → MatchOption limit ⊥ (λ limit. IsTextWithin limit text) → IsUtf8 text
text_written None text h = absurd h
text_written (Some limit) text h = h.utf8

module _ (tables : List Records) (path : Path) (target : FitsTarget tables path.shape path.to) where
  abbrev IsGood : Cell → Type 0
  IsGood cell = IsWrittenWorth (cell_worth tables path cell)

  shape_ref : (to : Option TableNo) (id : RecordId) → FitsTarget tables path.shape to → IsWrittenWorth (key_or_none path.shape.of (referred_key tables to (Cell.Ref id)))
  shape_ref None id h = no_key_written path.shape.of
  shape_ref (Some table) id h = end_written tables table path.shape.of (referred tables table id) h

  cell_written : (cell : Cell) → IsCellOf path.shape cell → IsGood cell
  cell_written (Cell.Bool truth) h = tt
  cell_written (Cell.Int number) h = tt
  cell_written (Cell.Text text) h = text_written (text_limit path.shape.of) text h.1
  cell_written (Cell.Ref id) h = shape_ref path.to id target
  cell_written (Cell.RefList ids) h = tt
  cell_written (Cell.IntList numbers) h = tt
  cell_written (Cell.TextList texts) h = tt

  plain_written : IsGood (plain_default path.shape.of)
  plain_written = chosen IsGood (is_bool path.shape.of) _ _ tt (chosen IsGood (is_some (range_of path.shape.of)) _ _ tt empty_written)

  default_written : IsGood (default_of path.shape)
  default_written =
      chosen IsGood path.shape.list _ _
      (chosen IsGood path.shape.reference _ _ tt (chosen IsGood (is_some (range_of path.shape.of)) _ _ tt tt))
      (chosen IsGood path.shape.reference _ _ (shape_ref path.to (record { 0 = 0 }) target) plain_written)

  kept_written : (kept : Option Cell) → MatchOption kept ⊥ (IsCellOf path.shape) → IsGood (option_map_or (λ cell. cell) kept (default_of path.shape))
  kept_written None h = absurd h
  kept_written (Some cell) h = cell_written cell h

  found_written : (column : ColumnNo) (found : Option Record) → (is_some found ≡ true → MatchOption (option_and_then (λ found. option_flatten (slice_get found.cells column.0)) found) ⊥ (IsCellOf path.shape)) → IsGood (option_map_or (λ cell. cell) (option_and_then (λ found. option_flatten (slice_get found.cells column.0)) found) (default_of path.shape))
  found_written column None h = default_written
  found_written column (Some found) h = kept_written (option_flatten (slice_get found.cells column.0)) (h refl)

  there_written : (column : ColumnNo) (table : TableNo) (end : Option RecordId) → EachCell tables table column (IsCellOf path.shape) → IsGood (option_map_or (λ cell. cell) (option_and_then (λ end. cell_at tables table end column) end) (default_of path.shape))
  there_written column table None h = default_written
  there_written column table (Some id) h = found_written column (record_at tables table id) (h id)

  field_written : (id : RecordId) (field : Field) → FitsField tables (end_table path) path.shape field → IsWrittenWorth (field_worth tables id path field)
  field_written id Field.Id h = tt
  field_written id Field.Key h = end_written tables (end_table path) path.shape.of (end_of tables id path) h
  field_written id (Field.Column column) h = there_written column (end_table path) (end_of tables id path) h

-- the value at a path that fits
pub path_written : (tables : List Records) (id : RecordId) (path : Path) → FitsPath tables path → IsWrittenWorth (path_worth tables id path)
path_written tables id path fits = field_written tables path fits.target id path.last fits.field
