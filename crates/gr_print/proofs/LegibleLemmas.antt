-- What fits the rows can be shown.
use Rattle.std.proofs.Common.{◌≡◌, ℕ, true, List, [], ◌∷◌, Option, Some, None, is_some, MatchOption, refl, subst}
use Rattle.std.specs.List.{AllByRecursion}
use Rattle.std.specs.Option.{option_and_then, option_flatten}
use Rattle.std.specs.Prelude.{IfSome, IsUtf8, slice_get}
use Rattle.gr_base.specs.declared.numbers.ColumnNo.{ColumnNo}
use Rattle.gr_base.specs.declared.numbers.RecordId.{RecordId}
use Rattle.gr_base.specs.declared.numbers.TableNo.{TableNo}
use Rattle.gr_expr.specs.Fits.{EachCell, EachKey, FitsField, FitsPath, FitsTarget}
use Rattle.gr_expr.specs.Paths.{end_table}
use Rattle.gr_expr.specs.Tables.{Record, Records, cell_at, key_at, record_at}
use Rattle.gr_print.specs.Fits.{IsPrintable}
use Rattle.gr_print.specs.Inside.Legible.{AreKeysLegible, HasText, IsLegible}
use Rattle.gr_print.specs.declared.out_column.OutColumn.{OutColumn}
use Rattle.gr_values.specs.Fits.{IsCellOf, IsKeyOf, IsTextOf, IsTextWithin}
use Rattle.gr_values.specs.Shown.{IsKeyText}
use Rattle.gr_values.specs.Types.{text_limit}
use Rattle.gr_values.specs.declared.data_type.DataType.{DataType}
use Rattle.gr_values.specs.declared.data_type.Shape.{Shape}
use Rattle.gr_values.specs.declared.path.Field.TheVariants.{Column, Key as KeyField}
use Rattle.gr_values.specs.declared.path.Path.{Path}
use Rattle.gr_values.specs.declared.value.Cell.{Cell}
use Rattle.gr_values.specs.declared.value.Key.{Key}

IsKeyText-key : (of : DataType) (key : Key) → IsKeyOf of key → IsKeyText key
IsKeyText-key of (Key.Number z) h = tt
IsKeyText-key of (Key.Text s) h = h.utf8

utf8-within : (s : List ℕ) (limit : Option ℕ) → MatchOption limit ⊥ (λ limit. IsTextWithin limit s) → IsUtf8 s
utf8-within s None h = absurd h
utf8-within s (Some limit) h = h.utf8

utf8-each : (of : DataType) (texts : List (List ℕ)) → AllByRecursion (IsTextOf of) texts → AllByRecursion IsUtf8 texts
utf8-each of [] all = tt
utf8-each of (text ∷ texts) all = (utf8-within text (text_limit of) all.0, utf8-each of texts all.1)

pub IsLegible-cell : (shape : Shape) (cell : Cell) → IsCellOf shape cell → IsLegible cell
IsLegible-cell shape (Cell.Bool truth) h = tt
IsLegible-cell shape (Cell.Int number) h = tt
IsLegible-cell shape (Cell.Text text) h = utf8-within text (text_limit shape.of) h.1
IsLegible-cell shape (Cell.Ref id) h = tt
IsLegible-cell shape (Cell.RefList ids) h = tt
IsLegible-cell shape (Cell.IntList numbers) h = tt
IsLegible-cell shape (Cell.TextList texts) h = utf8-each shape.of texts h.2.each

-- what each record has
each_there : {X : Type 0} (P Q : X → Type 0) (read : Record → Option X) (found : Option Record) → ((x : X) → P x → Q x)
    → (is_some found ≡ true → MatchOption (option_and_then read found) ⊥ P) → IfSome (option_and_then read found) Q
each_there P Q read None weaker h = tt
each_there {X} P Q read (Some found) weaker h = go (read found) (h refl)
  where
    go : (o : Option X) → MatchOption o ⊥ P → IfSome o Q
    go None h = absurd h
    go (Some x) h = weaker x h

-- the keys of what is referred to
AreKeysLegible-target : (tables : List Records) (shape : Shape) (to : Option TableNo) → FitsTarget tables shape to → AreKeysLegible tables to
AreKeysLegible-target tables shape None fits id = tt
AreKeysLegible-target tables shape (Some table) fits id =
    each_there (IsKeyOf shape.of) IsKeyText (λ found. found.key) (record_at tables table id) (IsKeyText-key shape.of) (fits id)

pub AreKeysLegible-path : (tables : List Records) (path : Path) → FitsPath tables path → AreKeysLegible tables path.to
AreKeysLegible-path tables path fits = AreKeysLegible-target tables path.shape path.to fits.target

-- the key at which a path ends
pub key-legible : (tables : List Records) (path : Path) (end : Option RecordId) → FitsPath tables path → path.last ≡ KeyField
    → IfSome (option_and_then (key_at tables (end_table path)) end) IsKeyText
key-legible tables path None fits last = tt
key-legible tables path (Some end) fits last =
    let each : EachKey tables (end_table path) (IsKeyOf path.shape.of) = subst (FitsField tables (end_table path) path.shape) last fits.field in
    each_there (IsKeyOf path.shape.of) IsKeyText (λ found. found.key) (record_at tables (end_table path) end) (IsKeyText-key path.shape.of) (each end)

-- the cell at which it ends
pub cell-legible : (tables : List Records) (path : Path) (end : Option RecordId) (column : ColumnNo) → FitsPath tables path → path.last ≡ Column column
    → IfSome (option_and_then (λ end. cell_at tables (end_table path) end column) end) IsLegible
cell-legible tables path None column fits last = tt
cell-legible tables path (Some end) column fits last =
    let each : EachCell tables (end_table path) column (IsCellOf path.shape) = subst (FitsField tables (end_table path) path.shape) last fits.field in
    each_there (IsCellOf path.shape) IsLegible (λ found. option_flatten (slice_get found.cells column.0)) (record_at tables (end_table path) end) (IsLegible-cell path.shape) (each end)

-- the names of columns that can be printed
pub names-legible : (tables : List Records) (columns : List OutColumn) → AllByRecursion (IsPrintable tables) columns → AllByRecursion HasText columns
names-legible tables [] all = tt
names-legible tables (column ∷ columns) all = (all.0.name, names-legible tables columns all.1)
