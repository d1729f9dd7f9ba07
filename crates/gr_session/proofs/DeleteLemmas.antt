-- What a delete asks for, by the record that it names.
use Rattle.std.proofs.Common.{◌≡◌, ℕ, Bool, true, false, if◌then◌else◌, Option, Some, None, Result, Ok, Err, List, [], ◌∷◌, map, refl, subst}
use Rattle.std.specs.List.{AllByRecursion}
use Rattle.std.specs.Result.{IfOk}
use Rattle.gr_base.specs.Fault.{fault_named}
use Rattle.gr_base.specs.declared.fault.Fault.{Fault}
use Rattle.gr_base.specs.declared.fault.FaultKind.TheVariants.{LexiconReadOnly}
use Rattle.gr_base.specs.declared.memory.NoMemory.{NoMemory}
use Rattle.gr_base.specs.declared.numbers.RecordId.{RecordId}
use Rattle.gr_base.specs.declared.numbers.TableNo.{TableNo}
use Rattle.gr_cmdline.specs.Arguments.{value_of}
use Rattle.gr_cmdline.specs.declared.command.Command.{Command}
use Rattle.gr_cmdline.specs.declared.param.Param.TheVariants.{Id, Key}
use Rattle.gr_db.specs.Condition.{IsConditionFor}
use Rattle.gr_db.specs.Db.{Db}
use Rattle.gr_db.specs.Entry.{IsHome, IsWhich}
use Rattle.gr_db.specs.declared.entry.Change.TheVariants.{Delete, DeleteIf}
use Rattle.gr_db.specs.declared.entry.Which.{Which}
use Rattle.gr_expr.specs.declared.typed.Expr.{Expr}
use Rattle.gr_plan.specs.Scan.{scan}
use Rattle.gr_schema.specs.Schema.{SchemaDef, is_lexicon, table_at}
use Rattle.gr_schema.specs.declared.definition.TableDef.{TableDef}
use Rattle.gr_session.specs.Checks.{text_of}
use Rattle.gr_session.specs.Delete.{delete_found, deletions, found_unless, lexicon_fault, which_in, which_of}
use Rattle.gr_session.specs.Inside.Kept.{Asks, Fits}
use Rattle.gr_session.specs.Meaning.{refused_in}
use Rattle.gr_session.specs.declared.asked.Asked.{Asked}
use Rattle.gr_session.specs.declared.form.Form.{Form}

-- a table without that fault is no lexicon
plain : (home : TableDef) → lexicon_fault home ≡ None → is_lexicon home ≡ false
plain home none = go (is_lexicon home) refl none
  where
    go : (lexicon : Bool) → is_lexicon home ≡ lexicon → (if lexicon then Some (fault_named LexiconReadOnly home.name) else None) ≡ None → is_lexicon home ≡ false
    go true is none = absurd (cc)
    go false is none = is

-- a table that is there, and no lexicon
pub home_plain : (schema : SchemaDef) (table : TableNo) (home : TableDef) → table_at schema table ≡ Some home → lexicon_fault home ≡ None → IsHome schema table home
home_plain schema table home at none = record { there = at; plain = plain home none }

-- no record of a lexicon is named
no_fault : (home : TableDef) (command : Command) (by : Which) → which_in home command ≡ Ok by → lexicon_fault home ≡ None
no_fault home command by found = go (lexicon_fault home) refl found
  where
    go : (fault : Option Fault) → lexicon_fault home ≡ fault → found_unless fault (which_of home (value_of command.args.given Key) (text_of command Id)) ≡ Ok by → lexicon_fault home ≡ None
    go (Some fault) is found = absurd (cc)
    go None is found = is

-- a deletion of the record that is named can be published
pub Fits-delete : (db : Db) (table : TableNo) (home : TableDef) (command : Command) (by : Which) → table_at db.schema table ≡ Some home → which_in home command ≡ Ok by → IsWhich home by → Fits db (Delete table by)
Fits-delete db table home command by at found fits = record {
  valid = record { home = home; there = home_plain db.schema table home at (no_fault home command by found); which = fits };
  text = tt;
}

-- deletions of what a condition finds can be published
fit_all : (db : Db) (table : TableNo) (home : TableDef) (condition : Expr) → IsHome db.schema table home → IsConditionFor db.schema condition → (hits : List (RecordId × ℕ))
    → AllByRecursion (Fits db) (map (λ hit. DeleteIf table hit.0 condition) hits)
fit_all db table home condition there fits [] = tt
fit_all db table home condition there fits (hit ∷ hits) = (record { valid = record { home = home; there = there; fits = fits }; text = tt }, fit_all db table home condition there fits hits)

pub Fits-deletions : (db : Db) (table : TableNo) (home : TableDef) (condition : Expr) → IsHome db.schema table home → IsConditionFor db.schema condition
    → AllByRecursion (Fits db) (deletions db table condition)
Fits-deletions db table home condition there fits = fit_all db table home condition there fits (scan db.tables table condition)

-- the fault of a condition is told
pub condition-refused : (form : Form) (db : Db) (table : TableNo) (found : Result Expr Fault) (fault : Fault) (result : Result Asked NoMemory) → found ≡ Err fault
    → IfOk result (λ asked. Asks db (refused_in form fault) asked) → IfOk result (λ asked. Asks db (delete_found form db table found) asked)
condition-refused form db table (Ok condition) fault result is asks = absurd (cc)
condition-refused form db table (Err why) fault result is asks = let same : fault ≡ why = cc in subst (λ (fault : Fault). IfOk result (λ asked. Asks db (refused_in form fault) asked)) same asks
