-- Which keys a table's records have.
use Rattle.std.specs.Prelude.{◌≡◌, Option, Some, None, MatchOption}
use Rattle.gr_schema.specs.declared.definition.TableDef.{TableDef}
use Rattle.gr_values.specs.Fits.{IsKeyOf}
use Rattle.gr_values.specs.declared.value.Key.{Key}

-- a key exactly where the table is keyed, and then of its type
abbrev pub IsKeyFor : TableDef → Option Key → Type 0
IsKeyFor home None = home.key ≡ None
IsKeyFor home (Some key) = MatchOption home.key ⊥ (λ type. IsKeyOf type key)
