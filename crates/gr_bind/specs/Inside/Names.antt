-- Indexes by two names, and paths without references.
use Rattle.std.specs.Prelude.{ℕ, Option, Some, None, List, [], ◌∷◌}
use Rattle.std.specs.Option.{option_and_then, option_map}
use Rattle.gr_base.specs.declared.numbers.TableNo.{TableNo}
use Rattle.gr_bind.specs.Columns.{lexicon_named, sources_on}
use Rattle.gr_schema.specs.Paths.{End, path_from}
use Rattle.gr_schema.specs.Schema.{SchemaDef, column_in, column_named}
use Rattle.gr_tokens.specs.declared.tokenizer.Tokenizer.{Tokenizer}
use Rattle.gr_values.specs.declared.path.Field.{Field}
use Rattle.gr_values.specs.declared.path.Path.{Path}

-- two names, where there are no more and no fewer
abbrev pub two_of : List (List ℕ) → Option (List ℕ × List ℕ)
two_of (first ∷ second ∷ []) = Some (first, second)
two_of _ = None

-- the sources of the index that a lexicon's name and a column's tell
abbrev pub index_by_names : SchemaDef → TableNo → List ℕ × List ℕ → Option (Tokenizer × List Field)
index_by_names schema table names =
    option_and_then
    (λ found. option_map (λ sources. (found.1, sources))
    (option_and_then (λ def. sources_on table def.role) (option_and_then (column_in found.0) (column_named found.0 names.1))))
    (lexicon_named schema names.0)

-- the path to a field of a table itself
abbrev pub path_to : TableNo → End → Path
path_to table end = path_from table (record { through = []; end = end })
