-- The sources of an index, read from the left.
use Rattle.std.specs.Prelude.{ℕ, ◌||◌, nat_le, if◌then◌else◌, Option, Some, None, List, [], ◌∷◌, ◌++◌, length}
use Rattle.std.specs.List.{list_any}
use Rattle.std.specs.Option.{option_and_then}
use Rattle.gr_values.specs.declared.path.Field.{Field}
use Rattle.gr_schema.specs.Fields.{is_same_field}
use Rattle.gr_schema.specs.Wishes.{Home, source_named}
use Rattle.gr_schema.specs.declared.definition.TableDef.{TableDef}

-- the fields and one more, where it is none of them and they are not too many
abbrev pub field_added : ℕ → List Field → Field → Option (List Field)
field_added most fields field =
    if list_any (is_same_field field) fields || nat_le most (length fields) then None else Some (fields ++ field ∷ [])

-- the fields and the one of this name
abbrev pub source_added : Home → TableDef → ℕ → List Field → List ℕ → Option (List Field)
source_added home target most fields name = option_and_then (field_added most fields) (source_named home target name)

-- the fields and those of these names
abbrev pub sources_added : Home → TableDef → ℕ → List Field → List (List ℕ) → Option (List Field)
sources_added home target most fields [] = Some fields
sources_added home target most fields (name ∷ names) =
    option_and_then (λ more. sources_added home target most more names) (source_added home target most fields name)
