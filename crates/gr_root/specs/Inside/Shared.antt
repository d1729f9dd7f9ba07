-- A schema that states share.
use Rattle.std.specs.Prelude.{Option, Some, None}
use Rattle.std.specs.Arc.{arc_value}
use Rattle.std.specs.Global.{Global}
use Rattle.std.specs.declared.sync.Arc.{Arc}
use Rattle.gr_schema.specs.Schema.{SchemaDef, no_tables}

-- the schema that is shared; where none is, the one without tables
abbrev pub schema_of : Option (Arc SchemaDef Global) → SchemaDef
schema_of None = no_tables
schema_of (Some shared) = arc_value shared
