-- What load data ask for, as a call answers it.
use Rattle.std.specs.Prelude.{◌≡◌, Result, Ok, Err, IfSome, IsUtf8}
use Rattle.std.specs.List.{AllByRecursion}
use Rattle.gr_base.specs.declared.failure.Failure.{Failure}
use Rattle.gr_base.specs.declared.failure.Failure.TheVariants.{Refused}
use Rattle.gr_base.specs.declared.fault.Fault.{Fault}
use Rattle.gr_base.specs.declared.numbers.TableNo.{TableNo}
use Rattle.gr_db.specs.Entry.{IsPut}
use Rattle.gr_schema.specs.Schema.{SchemaDef}
use Rattle.gr_rows.specs.Rows.{refused}
use Rattle.gr_rows.specs.declared.load.LoadRows.{LoadRows}

-- the answer is what is meant, or the fault for which all is refused, whose name is a text
pub record Loads (result : Result LoadRows (Failure Fault)) (meant : LoadRows) : Type 0 where
  pub found : (rows : LoadRows) → result ≡ Ok rows → rows ≡ meant
  pub refused_for : (why : Fault) → result ≡ Err (Refused why) → meant ≡ refused why
  pub utf8 : (why : Fault) → result ≡ Err (Refused why) → IsUtf8 why.name

-- each put fits the table, and the fault's name is a text
pub record IsLoad (schema : SchemaDef) (table : TableNo) (rows : LoadRows) : Type 0 where
  pub puts : AllByRecursion (λ put. IsPut schema table put.key put.settings) rows.puts
  pub utf8 : IfSome rows.fault (λ fault. IsUtf8 fault.name)
