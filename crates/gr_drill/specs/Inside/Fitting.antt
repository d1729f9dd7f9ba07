-- What fits every database that fits a schema.
use Rattle.std.specs.Prelude.{◌≡◌}
use Rattle.gr_db.specs.Db.{Db}
use Rattle.gr_db.specs.Fitting.{IsFitting}
use Rattle.gr_drill.specs.Fits.{FitsItem, IsShowable, IsShown}
use Rattle.gr_drill.specs.declared.drilldown.Drilldown.{Drilldown}
use Rattle.gr_drill.specs.declared.drilldown.GroupColumn.{GroupColumn}
use Rattle.gr_drill.specs.declared.drilldown.GroupItem.{GroupItem}
use Rattle.gr_schema.specs.Schema.{SchemaDef}

-- what is shown of a group
abbrev pub FitsFor : SchemaDef → GroupItem → Type 0
FitsFor schema item = (db : Db) → db.schema ≡ schema → IsFitting db → FitsItem db.tables item

-- a column
abbrev pub IsShownFor : SchemaDef → GroupColumn → Type 0
IsShownFor schema column = (db : Db) → db.schema ≡ schema → IsFitting db → IsShown db.tables column

-- a drilldown
abbrev pub IsShowableFor : SchemaDef → Drilldown → Type 0
IsShowableFor schema drilldown = (db : Db) → db.schema ≡ schema → IsFitting db → IsShowable db.tables drilldown
