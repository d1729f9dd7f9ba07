-- The block that a select prints, and the window of rows that it shows.
use Rattle.std.specs.Prelude.{ℕ, ◌+◌, ◌-◌, ℤ, pos, negsuc, min, List, [], ◌∷◌, drop, map, take, codes}
use Rattle.std.specs.Fmt.{decimal}
use Rattle.std.specs.Option.{option_map_or}
use Rattle.json.specs.Print.{quoted}
use Rattle.gr_base.specs.declared.numbers.RecordId.{RecordId}
use Rattle.gr_expr.specs.Tables.{Records}
use Rattle.gr_schema.specs.Schema.{SchemaDef, table_at}
use Rattle.gr_values.specs.Shown.{bracketed}
use Rattle.gr_values.specs.declared.data_type.DataType.{DataType}
use Rattle.gr_values.specs.declared.data_type.DataType.TheVariants.{Bool, Int8, Int16, Int32, Int64, UInt8, UInt16, UInt32, UInt64, ShortText, Text, LongText}
use Rattle.gr_values.specs.declared.path.Path.{Path}
use Rattle.gr_print.specs.Shown.{path_text}
use Rattle.gr_print.specs.declared.out_column.OutColumn.{OutColumn}
use Rattle.gr_print.specs.declared.out_column.OutItem.{OutItem}
use Rattle.gr_print.specs.declared.out_column.OutItem.TheVariants.{At, Score}
use Rattle.gr_print.specs.declared.span.Span.{Span}

-- a record that was found, and its score
abbrev pub Hit : Type 0
Hit = RecordId × ℕ

-- the name of a type
abbrev pub type_text : DataType → List ℕ
type_text Bool = codes "Bool"
type_text Int8 = codes "Int8"
type_text Int16 = codes "Int16"
type_text Int32 = codes "Int32"
type_text Int64 = codes "Int64"
type_text UInt8 = codes "UInt8"
type_text UInt16 = codes "UInt16"
type_text UInt32 = codes "UInt32"
type_text UInt64 = codes "UInt64"
type_text ShortText = codes "ShortText"
type_text Text = codes "Text"
type_text LongText = codes "LongText"

-- the type that a column tells: the table that it refers to, or the type of its values
abbrev pub path_type : SchemaDef → Path → List ℕ
path_type schema path = option_map_or (λ to. option_map_or (λ def. def.name) (table_at schema to) []) path.to (type_text path.shape.of)

-- the type of what a column shows
abbrev pub item_type : SchemaDef → OutItem → List ℕ
item_type schema (At path) = path_type schema path
item_type schema Score = codes "Int32"

-- a column's name and type
abbrev pub column_text : SchemaDef → OutColumn → List ℕ
column_text schema column = bracketed (quoted column.name ∷ quoted (item_type schema column.item) ∷ [])

-- what a column shows of a hit
abbrev pub item_text : List Records → Hit → OutItem → List ℕ
item_text tables hit (At path) = path_text tables hit.0 path
item_text tables hit Score = decimal hit.1

-- a row: what each column shows of a hit
abbrev pub row_text : List Records → List OutColumn → Hit → List ℕ
row_text tables columns hit = bracketed (map (λ column. item_text tables hit column.item) columns)

-- how many were found, the columns, and the rows that are shown
abbrev pub block : SchemaDef → List Records → List OutColumn → ℕ → List Hit → List ℕ
block schema tables columns found shown =
    bracketed
    (bracketed (decimal found ∷ [])
    ∷ bracketed (map (column_text schema) columns)
    ∷ map (row_text tables columns) shown)

-- the hits of a window
abbrev pub hits_within : Span → List Hit → List Hit
hits_within span hits = take span.count (drop span.first hits)

-- a number that is counted from an end where it is negative, and then is no less than 0
abbrev pub counted_from : ℕ → ℤ → ℕ
counted_from end (pos n) = n
counted_from end (negsuc n) = end - (n + 1)

-- the window of an offset and a limit over so many hits: a negative offset counts from behind the last hit, and a negative limit leaves out one less than it says
abbrev pub window : ℕ → ℤ → ℤ → Span
window found offset limit =
    let first = min (counted_from found offset) found in
    record { first = first; count = min (counted_from (found + 1) limit) (found - first) }
