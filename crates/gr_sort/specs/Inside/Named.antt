-- Keys that a list asks for, as they are taken one after the other.
use Rattle.std.specs.Prelude.{◌≡◌, ℕ, Result, List, ◌++◌}
use Rattle.std.specs.List.{AllByRecursion}
use Rattle.gr_base.specs.Failure.{Answers, result_map}
use Rattle.gr_base.specs.declared.failure.Failure.{Failure}
use Rattle.gr_base.specs.declared.fault.Fault.{Fault}
use Rattle.gr_base.specs.declared.numbers.TableNo.{TableNo}
use Rattle.gr_db.specs.Db.{Db}
use Rattle.gr_db.specs.Fitting.{IsFitting}
use Rattle.gr_print.specs.Fits.{FitsItem}
use Rattle.gr_print.specs.declared.out_column.OutItem.{OutItem}
use Rattle.gr_schema.specs.Schema.{SchemaDef}
use Rattle.gr_sort.specs.Keys.{IsSingle, IsSortable, keys_of}
use Rattle.gr_sort.specs.declared.keys.SortKey.{SortKey}

-- it fits every database with this schema that fits it, and one value stands there
pub record IsSortableItem (schema : SchemaDef) (item : OutItem) : Type 0 where
  pub fits : (db : Db) → db.schema ≡ schema → IsFitting db → FitsItem db.tables item
  pub single : IsSingle item

-- the keys can sort the rows of every database with this schema that fits it
abbrev pub AreSortable : SchemaDef → List SortKey → Type 0
AreSortable schema keys = (db : Db) → db.schema ≡ schema → IsFitting db → AllByRecursion (IsSortable db.tables) keys

-- to the keys so far are added those that these texts write
abbrev pub Adds : SchemaDef → TableNo → List SortKey → List (List ℕ) → Result (List SortKey) (Failure Fault) → Type 0
Adds schema table before texts result = Answers result (result_map (λ more. before ++ more) (keys_of schema table texts))
