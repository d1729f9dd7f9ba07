-- Which conditions fit a schema.
use Rattle.gr_db.specs.Db.{Db}
use Rattle.gr_db.specs.Fitting.{IsFitting}
use Rattle.gr_expr.specs.Fits.{Fits}
use Rattle.gr_expr.specs.declared.typed.Expr.{Expr}
use Rattle.gr_schema.specs.Schema.{Extends, SchemaDef}

-- a condition fits each database that fits the schema, or one that goes on from it
abbrev pub IsConditionFor : SchemaDef → Expr → Type 0
IsConditionFor schema condition = (db : Db) → Extends db.schema schema → IsFitting db → Fits db.tables condition
