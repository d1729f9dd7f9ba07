-- Which puts load data ask for, and the first fault among them.
use Rattle.std.specs.Prelude.{ℕ, ◌+◌, if◌then◌else◌, Option, Some, None, Result, Ok, Err, List, [], ◌∷◌, map}
use Rattle.serde_json.specs.Data.{Items, no_items, item}
use Rattle.serde_json.specs.Find.{as_array}
use Rattle.gr_base.specs.Fault.{fault_named}
use Rattle.gr_base.specs.declared.fault.Fault.{Fault}
use Rattle.gr_base.specs.declared.fault.FaultKind.TheVariants.{BadJson, LexiconReadOnly}
use Rattle.gr_schema.specs.Schema.{SchemaDef, is_lexicon}
use Rattle.gr_schema.specs.declared.definition.TableDef.{TableDef}
use Rattle.gr_rows.specs.Members.{row_put}
use Rattle.gr_rows.specs.Names.{header_names, listed_names, names_of}
use Rattle.gr_rows.specs.Text.{array_of}
use Rattle.gr_rows.specs.declared.load.LoadRows.{LoadRows}
use Rattle.gr_rows.specs.declared.put.Put.{Put}

-- load data that are refused before their first row
abbrev pub refused : Fault → LoadRows
refused fault = record { puts = []; fault = Some fault }

-- a row's put before those that follow, or its fault in their place
abbrev pub row_before : Result Put Fault → LoadRows → LoadRows
row_before (Ok put) others = record { puts = put ∷ others.puts; fault = others.fault }
row_before (Err fault) others = refused fault

-- what rows ask for, counted on from this one
abbrev pub rows_from : SchemaDef → TableDef → Option (List (List ℕ)) → ℕ → Items → LoadRows
rows_from schema home names row no_items = record { puts = []; fault = None }
rows_from schema home names row (item value values) =
    row_before (row_put schema home names row value) (rows_from schema home names (row + 1) values)

-- what rows ask for whose arrays have these names, where no name is refused
abbrev pub rows_named : SchemaDef → TableDef → Result (List (List ℕ)) Fault → Items → LoadRows
rows_named schema home (Ok names) values = rows_from schema home (Some names) 1 values
rows_named schema home (Err fault) values = refused fault

-- the header, where the first element is one
abbrev pub header_of : Items → Option Items
header_of no_items = None
header_of (item value values) = as_array value

-- the elements after the first
abbrev pub after_first : Items → Items
after_first no_items = no_items
after_first (item value values) = values

-- what elements ask for of which the first may be a header, which is no row
abbrev pub rows_headed : SchemaDef → TableDef → Option Items → Items → LoadRows
rows_headed schema home None values = rows_from schema home None 1 values
rows_headed schema home (Some header) values = rows_named schema home (names_of schema home (header_names header)) (after_first values)

-- what elements ask for, with the names that `columns` lists where it is given, or those of a header
abbrev pub rows_in : SchemaDef → TableDef → Option (List ℕ) → Items → LoadRows
rows_in schema home None values = rows_headed schema home (header_of values) values
rows_in schema home (Some columns) values = rows_named schema home (names_of schema home (map Some (listed_names columns))) values

-- what load data ask for that are an array; others are refused
abbrev pub rows_read : SchemaDef → TableDef → Option (List ℕ) → Option Items → LoadRows
rows_read schema home columns None = refused (fault_named BadJson [])
rows_read schema home columns (Some values) = rows_in schema home columns values

-- what load data ask of a table; a lexicon takes none
abbrev pub rows_of : SchemaDef → TableDef → Option (List ℕ) → List ℕ → LoadRows
rows_of schema home columns text =
    if is_lexicon home then refused (fault_named LexiconReadOnly home.name) else rows_read schema home columns (array_of text)
