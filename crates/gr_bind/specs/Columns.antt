-- What match columns mean for a table, or their first fault.
use Rattle.std.specs.Prelude.{ℕ, Bool, false, ◌==◌, ◌&&◌, not, if◌then◌else◌, Option, Some, None, Result, Ok, Err, List, [], ◌∷◌, ◌++◌}
use Rattle.std.specs.List.{filter_map, slice_split}
use Rattle.std.specs.Option.{ok_or, option_and_then, option_map}
use Rattle.gr_ast.specs.declared.columns.MatchColumn.{MatchColumn}
use Rattle.gr_ast.specs.declared.operators.Seek.TheVariants.{Match}
use Rattle.gr_base.specs.Failure.{result_map, result_then}
use Rattle.gr_base.specs.Fault.{fault_named}
use Rattle.gr_base.specs.declared.fault.Fault.{Fault}
use Rattle.gr_base.specs.declared.fault.FaultKind.{FaultKind}
use Rattle.gr_base.specs.declared.fault.FaultKind.TheVariants.{NoSuchColumn, TypeMismatch}
use Rattle.gr_base.specs.declared.numbers.TableNo.{TableNo}
use Rattle.gr_bind.specs.declared.column.Column.{Column}
use Rattle.gr_bind.specs.Kinds.{has_wholes, is_sought, is_text_field, path_kind}
use Rattle.gr_expr.specs.declared.typed.By.{By}
use Rattle.gr_expr.specs.declared.typed.By.TheVariants.{Chars, Words, Element}
use Rattle.gr_schema.specs.Index.{how}
use Rattle.gr_schema.specs.Paths.{End, is_dot, path_from, path_of, plain_end, role_end}
use Rattle.gr_schema.specs.Schema.{SchemaDef, column_in, column_named, table_at, table_named}
use Rattle.gr_schema.specs.declared.definition.Role.{Role}
use Rattle.gr_schema.specs.declared.definition.Role.TheVariants.{Scalar, Vector, Index}
use Rattle.gr_schema.specs.declared.definition.TableDef.{TableDef}
use Rattle.gr_tokens.specs.declared.phrase.How.{How}
use Rattle.gr_tokens.specs.declared.phrase.How.TheVariants as read
use Rattle.gr_tokens.specs.declared.tokenizer.Tokenizer.{Tokenizer}
use Rattle.gr_tokens.specs.declared.tokenizer.Tokenizer.TheVariants.{Delimit, Bigram}
use Rattle.gr_values.specs.declared.path.Field.{Field}
use Rattle.gr_values.specs.declared.path.Hop.{Hop}
use Rattle.gr_values.specs.declared.path.Path.{Path}

-- a fault at a byte place of a text; whose text it is is told by who reads it
abbrev pub fault_at : FaultKind → ℕ → Fault
fault_at kind at = record { kind = kind; row = None; at = Some at; name = [] }

-- the table of the record at which a path's field is read
abbrev pub table_behind : TableNo → List Hop → TableNo
table_behind table [] = table
table_behind table (hop ∷ hops) = table_behind hop.to hops

-- how a text is read, as a search has it
abbrev pub by_how : How → By
by_how read.Chars = Chars
by_how read.Words = Words

-- what a search in a field compares: the characters or words of a text, and the elements of a list or a reference
abbrev pub by_path : SchemaDef → Path → By
by_path schema path = if is_text_field path then by_how (how schema (table_behind path.table path.through) path.last) else Element

-- whether `@` takes a path with a text
abbrev pub takes_text : Path → Bool
takes_text path = is_sought Match path && not (has_wholes (path_kind path))

-- a match column that is a path
abbrev pub path_columns : SchemaDef → MatchColumn → Path → Result (List Column) Fault
path_columns schema of path =
    if takes_text path then Ok (record { weight = of.weight; path = path; by = by_path schema path } ∷ [])
    else Err (fault_at TypeMismatch of.at)

-- how a lexicon reads texts
abbrev pub by_tokenizer : Tokenizer → By
by_tokenizer Delimit = Words
by_tokenizer Bigram = Chars

-- a field of a table, with what it holds
abbrev pub end_at : SchemaDef → TableDef → Field → Option End
end_at schema home Field.Id = None
end_at schema home Field.Key = option_map (plain_end Field.Key false) home.key
end_at schema home (Field.Column column) = option_and_then (λ def. role_end schema (Field.Column column) def.role) (column_in home column)

-- the path to a field of a table itself
abbrev pub field_path : SchemaDef → TableNo → Field → Option Path
field_path schema table field =
    option_map
    (λ end. path_from table (record { through = []; end = end }))
    (option_and_then (λ home. end_at schema home field) (table_at schema table))

-- a source of an index as a field that words are sought in
abbrev pub source_column : SchemaDef → TableNo → ℕ → Tokenizer → Field → Option Column
source_column schema table weight tokenizer field =
    option_map (λ path. record { weight = weight; path = path; by = by_tokenizer tokenizer }) (field_path schema table field)

-- the sources of an index that a lexicon has on this table, in their order
abbrev pub sources_on : TableNo → Role → Option (List Field)
sources_on table (Scalar kind) = None
sources_on table (Vector kind) = None
sources_on table (Index target sources position section) = if target.0 == table.0 then Some sources else None

-- the lexicon of this name, and how it cuts texts
abbrev pub lexicon_named : SchemaDef → List ℕ → Option (TableDef × Tokenizer)
lexicon_named schema name =
    option_and_then
    (λ number. option_and_then (λ def. option_map (λ tokenizer. (def, tokenizer)) def.tokenizer) (table_at schema number))
    (table_named schema name)

-- the sources of the index that two names tell: a lexicon's, and that of a column of it on this table
abbrev pub index_named : SchemaDef → TableNo → List (List ℕ) → Option (Tokenizer × List Field)
index_named schema table (lexicon ∷ column ∷ []) =
    option_and_then
    (λ found. option_map (λ sources. (found.1, sources))
    (option_and_then (λ def. sources_on table def.role) (option_and_then (column_in found.0) (column_named found.0 column))))
    (lexicon_named schema lexicon)
index_named schema table _ = None

-- a match column that is no path may be an index, which stands for its sources, each with the weight
abbrev pub index_columns : SchemaDef → TableNo → MatchColumn → Result (List Column) Fault
index_columns schema table of =
    ok_or
    (option_map
    (λ index. filter_map (source_column schema table of.weight index.0) index.1)
    (index_named schema table (slice_split is_dot of.path)))
    (fault_named NoSuchColumn of.path)

-- what a match column means, by the path that its text writes, if it writes one
abbrev pub column_by : SchemaDef → TableNo → MatchColumn → Option Path → Result (List Column) Fault
column_by schema table of None = index_columns schema table of
column_by schema table of (Some path) = path_columns schema of path

-- what a match column means
abbrev pub column_typed : SchemaDef → TableNo → MatchColumn → Result (List Column) Fault
column_typed schema table of = column_by schema table of (path_of schema table of.path)

-- what match columns mean, in their order, or the first fault
abbrev pub columns_typed : SchemaDef → TableNo → List MatchColumn → Result (List Column) Fault
columns_typed schema table [] = Ok []
columns_typed schema table (of ∷ ofs) =
    result_then
    (λ first. result_map (λ others. first ++ others) (columns_typed schema table ofs))
    (column_typed schema table of)

-- that match columns mean something, or their first fault
abbrev pub columns_checked : SchemaDef → TableNo → List MatchColumn → Result (Unit {0}) Fault
columns_checked schema table columns = result_map (λ all. tt) (columns_typed schema table columns)
