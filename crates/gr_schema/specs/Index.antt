-- Which index is on a field, and how the field's texts are read.
use Rattle.std.specs.Prelude.{ℕ, Bool, true, false, ◌==◌, ◌&&◌, if◌then◌else◌, Option, List, [], find}
use Rattle.std.specs.List.{list_any, position}
use Rattle.std.specs.Option.{option_and_then, option_map, option_map_or}
use Rattle.gr_base.specs.declared.numbers.ColumnNo.{ColumnNo}
use Rattle.gr_base.specs.declared.numbers.TableNo.{TableNo}
use Rattle.gr_tokens.specs.declared.phrase.How.{How}
use Rattle.gr_tokens.specs.declared.phrase.How.TheVariants.{Chars, Words}
use Rattle.gr_tokens.specs.declared.tokenizer.Tokenizer.{Tokenizer}
use Rattle.gr_tokens.specs.declared.tokenizer.Tokenizer.TheVariants.{Delimit, Bigram}
use Rattle.gr_values.specs.declared.path.Field.{Field}
use Rattle.gr_schema.specs.Fields.{is_same_field}
use Rattle.gr_schema.specs.Schema.{SchemaDef, column_at, table_at}
use Rattle.gr_schema.specs.declared.definition.Role.{Role}
use Rattle.gr_schema.specs.declared.definition.Role.TheVariants.{Scalar, Vector, Index}

-- the fields of this table that a column is an index on
abbrev pub fields_read : TableNo → Role → List Field
fields_read table (Scalar kind) = []
fields_read table (Vector kind) = []
fields_read table (Index target sources position section) = if target.0 == table.0 then sources else []

-- the fields of this table that an index reads, in order
abbrev pub index_fields : SchemaDef → TableNo → TableNo × ColumnNo → List Field
index_fields schema table index =
    option_map_or (λ column. fields_read table column.role) (column_at schema index.0 index.1) []

-- whether an index is on a field: the field is among those that it reads
abbrev pub is_on : SchemaDef → TableNo → Field → TableNo × ColumnNo → Bool
is_on schema table field index = list_any (is_same_field field) (index_fields schema table index)

-- the index made first on a field
abbrev pub first_index : SchemaDef → TableNo → Field → Option (TableNo × ColumnNo)
first_index schema table field = find (is_on schema table field) schema.indexes

-- whether a tokenizer's index reads texts so
abbrev pub reads : How → Tokenizer → Bool
reads Words Delimit = true
reads Words Bigram = false
reads Chars Delimit = false
reads Chars Bigram = true

-- whether an index belongs to a lexicon that reads texts so
abbrev pub is_read : SchemaDef → How → TableNo × ColumnNo → Bool
is_read schema how index =
    option_map_or
    (λ home. option_map_or (reads how) home.tokenizer false)
    (table_at schema index.0)
    false

-- the index made first on a field of a lexicon that reads texts so, with the field's place among those that it reads
abbrev pub index_by : SchemaDef → TableNo → Field → How → Option ((TableNo × ColumnNo) × ℕ)
index_by schema table field how =
    option_and_then
    (λ index. option_map (λ place. (index, place)) (position (is_same_field field) (index_fields schema table index)))
    (find (λ index. is_on schema table field index && is_read schema how index) schema.indexes)

-- how a text field is read: by words where the index made first on it belongs to a lexicon of words, and by characters otherwise
abbrev pub how : SchemaDef → TableNo → Field → How
how schema table field =
    if option_map_or (is_read schema Words) (first_index schema table field) false then Words else Chars
