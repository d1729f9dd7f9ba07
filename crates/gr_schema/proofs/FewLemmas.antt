-- An index has few sources.
use Rattle.std.proofs.Common.{ℕ, ◌≡◌, ◌==◌, ◌≤◌, Bool, true, false, cond, List, [], length, arith, refl, sym, ap, subst, ◌∙◌}
use Rattle.std.specs.Prelude.{None, Some, Option}
use Rattle.gr_base.specs.declared.limits.TheConstants.{MOST_SOURCES}
use Rattle.gr_base.specs.declared.numbers.ColumnNo.{ColumnNo}
use Rattle.gr_base.specs.declared.numbers.TableNo.{TableNo}
use Rattle.gr_values.specs.declared.path.Field.{Field}
use Rattle.gr_schema.specs.Index.{fields_read}
use Rattle.gr_schema.specs.Schema.{SchemaDef, column_at}
use Rattle.gr_schema.specs.Sound.{IsRole, IsSound}
use Rattle.gr_schema.specs.declared.definition.ColumnDef.{ColumnDef}
use Rattle.gr_schema.specs.declared.definition.Role.{Role}
use Rattle.gr_schema.specs.declared.definition.Role.TheVariants.{Scalar, Vector, Index}
use Rattle.gr_schema.specs.declared.definition.TableDef.{TableDef}
use Rattle.gr_schema.proofs.SoundLemmas.{column_there}

few_of : (schema : SchemaDef) (number : TableNo) (home : TableDef) (table : TableNo) (role : Role) → IsRole schema number home role → length (fields_read table role) ≤ MOST_SOURCES
few_of schema number home table (Scalar kind) is = omega arith
few_of schema number home table (Vector kind) is = omega arith
few_of schema number home table (Index target sources position section) is = go (target.0 == table.0)
  where
    go : (b : Bool) → length (cond b sources []) ≤ MOST_SOURCES
    go true = is.few
    go false = omega arith

-- the fields that a column of a sound schema reads
pub few_read : (schema : SchemaDef) (table home : TableNo) (column : ColumnNo) (def : ColumnDef) → IsSound schema → column_at schema home column ≡ Some def → length (fields_read table def.role) ≤ MOST_SOURCES
few_read schema table home column def sound at =
    let parts = column_there schema (home, column) def at in
    few_of schema home parts.0 table def.role ((sound.tables home.0 parts.0 parts.1).columns column.0 def parts.2).role
