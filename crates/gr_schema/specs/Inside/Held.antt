-- What a schema keeps beside its lists.
use Rattle.std.specs.Prelude.{◌≡◌, ◌≤◌, ◌^◌, ℕ, Option, Some, None, List, [], length}
use Rattle.std.specs.Arc.{arc_value}
use Rattle.std.specs.declared.sync.Arc.{Arc}
use Rattle.std.specs.declared.vec.Vec.{Vec}
use Rattle.gr_base.specs.Keys.{KeyMap}
use Rattle.gr_base.specs.declared.numbers.ColumnNo.{ColumnNo}
use Rattle.gr_base.specs.declared.numbers.TableNo.{TableNo}
use Rattle.gr_schema.specs.Inside.Names.{IsNumbered}
use Rattle.gr_schema.specs.Schema.{SchemaDef}
use Rattle.gr_schema.specs.Sound.{IsSound}

-- the names of tables lead to their numbers, and the schema is sound
pub record IsHeld (names : KeyMap) (schema : SchemaDef) : Type 0 where
  pub named : IsNumbered (λ table. table.name) names schema.tables
  pub few : length schema.tables ≤ 2 ^ 31
  pub sound : IsSound schema

-- the list that is shared, or an empty one where there is none
abbrev pub list_of : {Y Z : Type 0} → Option (Arc (Vec (TableNo × ColumnNo) Z) Y) → List (TableNo × ColumnNo)
list_of None = []
list_of (Some shared) = (arc_value shared).items
