-- What a change makes of a database.
use Rattle.std.specs.Prelude.{ℕ, ◌≡◌, ◌≤◌, ⊤, Option, Some, None, Result, Ok, Err, IsUtf8, List}
use Rattle.gr_base.specs.declared.failure.Failure.{Failure}
use Rattle.gr_base.specs.declared.failure.Failure.TheVariants.{Refused, NoMemory}
use Rattle.gr_base.specs.declared.fault.Fault.{Fault}
use Rattle.gr_base.specs.declared.numbers.Limits.{Limits}
use Rattle.gr_db.specs.Apply.{apply, change_fault}
use Rattle.gr_db.specs.Changed.{Place, touched}
use Rattle.gr_db.specs.declared.entry.Change.{Change}
use Rattle.gr_root.specs.Inside.Sound.{AreFormed, AreWithin}
use Rattle.gr_root.specs.Inside.Walk.{db_of}
use Rattle.gr_root.specs.declared.make.Made.{Made}
use Rattle.gr_schema.specs.Schema.{SchemaDef}
use Rattle.gr_schema.specs.Sound.{IsSound}
use Rattle.gr_table.specs.Table.{TableOf}

-- a schema, and tables that have its forms and no more ids given than the limit
pub record IsBase (limit : ℕ) (schema : SchemaDef) (tables : List TableOf) : Type 0 where
  pub sound : IsSound schema
  pub formed : AreFormed schema tables
  pub within : AreWithin limit tables

-- the change has no fault, and schema, tables and touched records are those that it makes
pub record IsMade (limits : Limits) (schema : SchemaDef) (tables : List TableOf) (change : Change) (made : Made) : Type 0 where
  pub faultless : change_fault limits (db_of schema tables) change ≡ None
  pub is : db_of made.schema made.tables ≡ apply (db_of schema tables) change
  pub touched : made.touched ≡ touched (db_of schema tables) change
  pub formed : AreFormed made.schema made.tables
  pub within : AreWithin limits.records made.tables

-- the change is refused with its first fault
pub record IsUnmade (limits : Limits) (schema : SchemaDef) (tables : List TableOf) (change : Change) (fault : Fault) : Type 0 where
  pub first : change_fault limits (db_of schema tables) change ≡ Some fault
  pub text : IsUtf8 fault.name

-- a change is made, or refused; for want of memory nothing is said
abbrev pub Makes : Limits → SchemaDef → List TableOf → Change → Result Made (Failure Fault) → Type 0
Makes limits schema tables change (Ok made) = IsMade limits schema tables change made
Makes limits schema tables change (Err (Refused fault)) = IsUnmade limits schema tables change fault
Makes limits schema tables change (Err NoMemory) = ⊤
