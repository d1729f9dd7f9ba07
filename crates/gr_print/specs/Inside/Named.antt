-- Columns that names ask for, as they are taken one after the other.
use Rattle.std.specs.Prelude.{◌≡◌, ℕ, Result, List, ◌++◌}
use Rattle.std.specs.List.{AllByRecursion}
use Rattle.gr_base.specs.Failure.{Answers, result_map}
use Rattle.gr_base.specs.declared.failure.Failure.{Failure}
use Rattle.gr_base.specs.declared.fault.Fault.{Fault}
use Rattle.gr_base.specs.declared.numbers.TableNo.{TableNo}
use Rattle.gr_db.specs.Db.{Db}
use Rattle.gr_db.specs.Fitting.{IsFitting}
use Rattle.gr_print.specs.Columns.{columns_of}
use Rattle.gr_print.specs.Fits.{IsPrintable}
use Rattle.gr_print.specs.declared.out_column.OutColumn.{OutColumn}
use Rattle.gr_schema.specs.Schema.{SchemaDef}

-- the columns can be printed of every database with this schema that fits it
abbrev pub ArePrintable : SchemaDef → List OutColumn → Type 0
ArePrintable schema columns = (db : Db) → db.schema ≡ schema → IsFitting db → AllByRecursion (IsPrintable db.tables) columns

-- to the columns so far are added those of these names
abbrev pub Adds : SchemaDef → TableNo → List OutColumn → List (List ℕ) → Result (List OutColumn) (Failure Fault) → Type 0
Adds schema table before names result = Answers result (result_map (λ more. before ++ more) (columns_of schema table names))
