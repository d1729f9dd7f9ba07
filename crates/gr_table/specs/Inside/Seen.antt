-- The records that columns, keys and marks of life by id stand for.
use Rattle.std.specs.Prelude.{ℕ, zero, suc, Bool, if◌then◌else◌, Option, Some, None, List, [], ◌∷◌, map}
use Rattle.std.specs.Option.{option_map}
use Rattle.gr_columns.specs.Cells.{ColumnOf, cell_at}
use Rattle.gr_columns.specs.Places.{value_at}
use Rattle.gr_expr.specs.Tables.{Record, Records, record_id}
use Rattle.gr_values.specs.declared.data_type.Shape.{Shape}
use Rattle.gr_values.specs.declared.value.Cell.{Cell}
use Rattle.gr_values.specs.declared.value.Key.{Key}

-- what a function gives at the first numbers
abbrev pub first : {X : Type 0} → ℕ → (ℕ → X) → List X
first zero f = []
first (suc n) f = f zero ∷ first n (λ i. f (suc i))

-- the shapes of columns
abbrev pub shapes_in : List (Option ColumnOf) → List (Option Shape)
shapes_in columns = map (option_map (λ column. column.shape)) columns

-- the cells of an id in each column
abbrev pub cells_in : List (Option ColumnOf) → ℕ → List (Option Cell)
cells_in columns n = map (option_map (λ column. cell_at column (record_id n))) columns

-- the record of an id, where it is alive
abbrev pub seen : Bool × List Bool → Option Key × List (Option Key) → List (Option ColumnOf) → ℕ → Option Record
seen alive keys columns n = if value_at alive n then Some (record { key = value_at keys n; cells = cells_in columns n }) else None

-- the records of the ids that were given
abbrev pub records_seen : ℕ → Bool × List Bool → Option Key × List (Option Key) → List (Option ColumnOf) → Records
records_seen given alive keys columns = first given (λ i. seen alive keys columns (suc i))
