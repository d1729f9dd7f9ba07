-- A load while it is written: which columns it shows, and what stands before each row.
use Rattle.std.specs.Prelude.{ℕ, Bool, true, not, if◌then◌else◌, List, [], ◌∷◌, ◌++◌, map, codes}
use Rattle.json.specs.Print.{quoted}
use Rattle.gr_dump.specs.Loads.{is_reference}
use Rattle.gr_dump.specs.Words.{line, words_line}
use Rattle.gr_print.specs.declared.out_column.OutColumn.{OutColumn}
use Rattle.gr_schema.specs.declared.definition.TableDef.{TableDef}
use Rattle.gr_values.specs.Shown.{bracketed}

-- whether a column is kept where references are, or where all else is
abbrev pub is_kept : Bool → OutColumn → Bool
is_kept references column = if references then is_reference column else not (is_reference column)

-- what stands before the rows of a load
abbrev pub head : TableDef → List OutColumn → List ℕ
head home columns =
    words_line (codes "load" ∷ codes "--table" ∷ home.name ∷ [])
    ++ line (codes "[")
    ++ line (bracketed (map (λ column. quoted column.name) columns) ++ codes ",")

-- what stands before a row: the end of the row before it, where there is one
abbrev pub lead : TableDef → List OutColumn → Bool → List ℕ
lead home columns later = if later then codes ",\n" else head home columns

-- whether a row stands before what follows these rows
abbrev pub is_later : Bool → List (List ℕ) → Bool
is_later later [] = later
is_later later (row ∷ rows) = true

-- rows, with what stands before each
abbrev pub led : TableDef → List OutColumn → Bool → List (List ℕ) → List ℕ
led home columns later [] = []
led home columns later (row ∷ rows) = (lead home columns later ++ row) ++ led home columns true rows
