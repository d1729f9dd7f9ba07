-- The parts of a dump that go table by table.
use Rattle.std.specs.Prelude.{ℕ, List}
use Rattle.gr_base.specs.declared.numbers.TableNo.{TableNo}
use Rattle.gr_dump.specs.Dump.{data_lines, lexicon_line, table_line}
use Rattle.gr_dump.specs.Loads.{keyless_load, reference_load, value_load}
use Rattle.gr_dump.specs.declared.parts.Part.{Part}
use Rattle.gr_dump.specs.declared.parts.Part.TheVariants.{Tables, Columns, Values, References, Keyless, Lexicons}
use Rattle.gr_expr.specs.Tables.{Records}
use Rattle.gr_schema.specs.Schema.{SchemaDef}
use Rattle.gr_schema.specs.declared.definition.TableDef.{TableDef}

-- what a part has of a table
abbrev pub part_of : SchemaDef → List Records → Part → TableNo → TableDef → List ℕ
part_of schema tables Tables = λ table home. table_line home
part_of schema tables Columns = λ table home. data_lines schema home
part_of schema tables Values = value_load schema tables
part_of schema tables References = reference_load schema tables
part_of schema tables Keyless = keyless_load schema tables
part_of schema tables Lexicons = λ table home. lexicon_line home
