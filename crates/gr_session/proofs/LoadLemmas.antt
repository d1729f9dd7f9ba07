-- What a load asks for, as it is read.
use Rattle.std.proofs.Common.{◌≡◌, List, [], ◌∷◌, length, reverse, subst}
use Rattle.std.specs.List.{AllByRecursion}
use Rattle.std.specs.Fmt.{decimal}
use Rattle.gr_base.specs.declared.numbers.TableNo.{TableNo}
use Rattle.gr_db.specs.Db.{Db}
use Rattle.gr_db.specs.Entry.{IsPut}
use Rattle.gr_rows.specs.declared.load.LoadRows.{LoadRows}
use Rattle.gr_rows.specs.declared.put.Put.{Put}
use Rattle.gr_schema.specs.Schema.{SchemaDef}
use Rattle.gr_session.specs.Inside.Kept.{Asks, Fits}
use Rattle.gr_session.specs.Load.{changes_of, load_of_rows, rows_line}
use Rattle.gr_session.specs.declared.asked.Asked.{Asked}

-- puts that fit a schema can be published as changes
pub fit : (db : Db) (table : TableNo) (puts : List Put) → AllByRecursion (λ put. IsPut db.schema table put.key put.settings) puts → AllByRecursion (Fits db) (changes_of table puts)
fit db table [] all = tt
fit db table (put ∷ puts) all = (record { valid = all.0; text = tt }, fit db table puts all.1)

made : (db : Db) (table : TableNo) (rows : LoadRows) (asked : Asked) → AllByRecursion (λ put. IsPut db.schema table put.key put.settings) rows.puts
    → reverse asked.changes.items ≡ changes_of table rows.puts → asked.answer ≡ rows_line (decimal (length rows.puts)) rows.fault
    → Asks db (load_of_rows table rows) asked
made db table rows asked valid changes answer = record { changes = changes; answer = answer; fit = fit db table rows.puts valid }

-- a load whose table is there asks for the puts of its rows, and answers how many they are
pub Asks-load : (db : Db) (schema : SchemaDef) (table : TableNo) (rows meant : LoadRows) (asked : Asked)
    → db.schema ≡ schema → rows ≡ meant → AllByRecursion (λ put. IsPut schema table put.key put.settings) rows.puts
    → reverse asked.changes.items ≡ changes_of table rows.puts → asked.answer ≡ rows_line (decimal (length rows.puts)) rows.fault
    → Asks db (load_of_rows table meant) asked
Asks-load db schema table rows meant asked same is valid changes answer =
    subst (λ (rows : LoadRows). Asks db (load_of_rows table rows) asked) is (made db table rows asked (rw same valid) changes answer)
