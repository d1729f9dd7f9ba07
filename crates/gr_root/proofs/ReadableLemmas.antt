-- The texts of a table's records are UTF-8.
use Rattle.std.proofs.Common.{◌≡◌, ℕ, ◌<◌, ◌≤◌, zero, suc, Option, Some, None, List, [], ◌∷◌, get_or, length, slice_get, refl, ap, sym, ◌∙◌, arith, subst}
use Rattle.std.proofs.lemmas.Option.{slice_get-get_or, slice_get_within}
use Rattle.std.specs.Option.{option_and_then, option_flatten, option_map_or}
use Rattle.std.specs.Prelude.{IsUtf8, MatchOption}
use Rattle.gr_base.specs.declared.numbers.ColumnNo.{ColumnNo}
use Rattle.gr_base.specs.declared.numbers.RecordId.{RecordId}
use Rattle.gr_base.specs.declared.numbers.TableNo.{TableNo}
use Rattle.gr_db.specs.Entry.{AreReadable}
use Rattle.gr_db.specs.Wants.{text_in, text_of_cell, text_of_key}
use Rattle.gr_expr.specs.Tables.{Record, Records, record_at, record_in, records_of}
use Rattle.gr_root.specs.Inside.Sound.{records_in}
use Rattle.gr_root.proofs.TablesLemmas.{records-at}
use Rattle.gr_table.specs.Sound.{IsCellIn, IsRecord, IsTable}
use Rattle.gr_table.specs.Table.{IsKeyIn, TableOf}
use Rattle.gr_values.specs.Fits.{IsCellOf, IsKeyOf, IsTextWithin}
use Rattle.gr_values.specs.Types.{text_limit}
use Rattle.gr_values.specs.declared.data_type.DataType.{DataType}
use Rattle.gr_values.specs.declared.data_type.Shape.{Shape}
use Rattle.gr_values.specs.declared.path.Field.{Field}
use Rattle.gr_values.specs.declared.value.Cell.{Cell}
use Rattle.gr_values.specs.declared.value.Key.{Key}

-- the text of a key of a type
key-text : (of : Option DataType) (key : Option Key) (text : List ℕ) → IsKeyIn of key → option_and_then text_of_key key ≡ Some text → IsUtf8 text
key-text of None text keyed is = absurd cc
key-text of (Some (Key.Number number)) text keyed is = absurd cc
key-text None (Some (Key.Text own)) text keyed is = absurd keyed
key-text (Some type) (Some (Key.Text own)) text keyed is =
    let same : own ≡ text = cc is in
    subst IsUtf8 same keyed.utf8

text-within : (limit : Option ℕ) (text : List ℕ) → MatchOption limit ⊥ (λ most. IsTextWithin most text) → IsUtf8 text
text-within None text fits = absurd fits
text-within (Some most) text fits = fits.utf8

-- the text of a cell of a shape
cell-text : (shape : Option Shape) (cell : Option Cell) (text : List ℕ) → IsCellIn shape cell → option_and_then text_of_cell cell ≡ Some text → IsUtf8 text
cell-text shape None text fits is = absurd cc
cell-text None (Some cell) text fits is = absurd cc
cell-text (Some shape) (Some (Cell.Bool truth)) text fits is = absurd cc
cell-text (Some shape) (Some (Cell.Int number)) text fits is = absurd cc
cell-text (Some shape) (Some (Cell.Text own)) text fits is =
    let same : own ≡ text = cc is in
    subst IsUtf8 same (text-within (text_limit shape.of) own fits.1)
cell-text (Some shape) (Some (Cell.Ref id)) text fits is = absurd cc
cell-text (Some shape) (Some (Cell.RefList ids)) text fits is = absurd cc
cell-text (Some shape) (Some (Cell.IntList numbers)) text fits is = absurd cc
cell-text (Some shape) (Some (Cell.TextList texts)) text fits is = absurd cc

-- the text of a record's cell
column-text : (table : TableOf) (found : Record) (n : ℕ) (text : List ℕ) (o : Option (Option Cell)) → IsRecord table found → slice_get found.cells n ≡ o → option_and_then text_of_cell (option_flatten o) ≡ Some text → IsUtf8 text
column-text table found n text None sound there is = absurd cc
column-text table found n text (Some cell) sound there is =
    let here : n < length found.cells = slice_get_within found.cells n cell there in
    let wide : length found.cells ≡ length table.shapes = sound.wide in
    let shape : slice_get table.shapes n ≡ Some (get_or table.shapes n None) = slice_get-get_or table.shapes n None (omega arith) in
    cell-text (get_or table.shapes n None) cell text (sound.cells n (get_or table.shapes n None) cell shape there) is

-- the text of a record's field
field-text : (table : TableOf) (found : Record) (field : Field) (text : List ℕ) → IsRecord table found → text_in found field ≡ Some text → IsUtf8 text
field-text table found Field.Id text sound is = absurd cc
field-text table found Field.Key text sound is = key-text table.key found.key text sound.keyed is
field-text table found (Field.Column column) text sound is = column-text table found column.0 text (slice_get found.cells column.0) sound refl is

record-text : (table : TableOf) (id : RecordId) (field : Field) (text : List ℕ) (o : Option Record) → IsTable table → record_in table.records id.0 ≡ o → option_and_then (λ found. text_in found field) o ≡ Some text → IsUtf8 text
record-text table id field text None sound there is = absurd cc
record-text table id field text (Some found) sound there is = field-text table found field text (sound.records id.0 found there) is

-- the texts of a table that is there
pub table-readable : (tables : List TableOf) (target : TableNo) (table : TableOf) → slice_get tables target.0 ≡ Some table → IsTable table → AreReadable (records_in tables) target
table-readable tables target table there sound = λ id field text is.
    record-text table id field text (record_in table.records id.0) sound refl
    (ap (λ (records : Records). option_and_then (λ found. text_in found field) (record_in records id.0)) (sym (records-at tables target table there)) ∙ is)

none-text : (id : ℕ) (field : Field) (text : List ℕ) → option_and_then (λ found. text_in found field) (record_in [] id) ≡ Some text → IsUtf8 text
none-text zero field text is = absurd cc
none-text (suc n) field text is = absurd cc

-- a table that is not there has no texts
pub none-readable : (tables : List TableOf) (target : TableNo) → slice_get tables target.0 ≡ None → AreReadable (records_in tables) target
none-readable tables target none = λ id field text is.
    none-text id.0 field text (ap (λ (records : Records). option_and_then (λ found. text_in found field) (record_in records id.0)) (sym (none-of tables target.0 none)) ∙ is)
  where
    none-of : (ones : List TableOf) (n : ℕ) → slice_get ones n ≡ None → option_map_or (λ records. records) (slice_get (records_in ones) n) [] ≡ []
    none-of [] n missing = refl
    none-of (one ∷ ones) zero missing = absurd cc
    none-of (one ∷ ones) (suc n) missing = none-of ones n missing
