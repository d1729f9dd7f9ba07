-- Tables in which cells of a record were set, and in which a put was done.
use Rattle.std.specs.Prelude.{ℕ, ◌≡◌, Option, None, Result, Ok, Err, List, [], ◌∷◌, fold}
use Rattle.gr_base.specs.declared.failure.Failure.{Failure}
use Rattle.gr_base.specs.declared.fault.Fault.{Fault}
use Rattle.gr_base.specs.declared.numbers.RecordId.{RecordId}
use Rattle.gr_base.specs.declared.numbers.TableNo.{TableNo}
use Rattle.gr_db.specs.Apply.{put, with_setting}
use Rattle.gr_db.specs.Changed.{Place, touched}
use Rattle.gr_db.specs.Wants.{Setting, first_full, put_wants}
use Rattle.gr_db.specs.declared.entry.Change.TheVariants.{Put}
use Rattle.gr_root.specs.Inside.Sound.{AreFormed, AreWithin}
use Rattle.gr_root.specs.Inside.Walk.{IsEnded, db_of}
use Rattle.gr_schema.specs.Schema.{SchemaDef}
use Rattle.gr_table.specs.Table.{TableOf}
use Rattle.gr_values.specs.declared.value.Key.{Key}

-- one cell was set, and the tables keep their forms and the limit
pub record IsSet (schema : SchemaDef) (old new : List TableOf) (table : TableNo) (id : RecordId) (setting : Setting) : Type 0 where
  pub is : db_of schema new ≡ with_setting table id (db_of schema old) setting
  pub formed : AreFormed schema new
  pub within : (limit : ℕ) → AreWithin limit old → AreWithin limit new

-- cells were set, and the tables keep their forms and the limit
pub record IsSetAll (schema : SchemaDef) (old new : List TableOf) (table : TableNo) (id : RecordId) (settings : List Setting) : Type 0 where
  pub is : db_of schema new ≡ fold (with_setting table id) (db_of schema old) settings
  pub formed : AreFormed schema new
  pub within : (limit : ℕ) → AreWithin limit old → AreWithin limit new

-- the put's own record, where cells of it are set
abbrev pub own_at : TableNo → RecordId → List Setting → List Place
own_at table id [] = []
own_at table id (setting ∷ settings) = (table, id) ∷ []

-- no table was full, the tables are those after the put, with the forms and the limit kept, and its records are told
pub record IsPutIn (limit : ℕ) (schema : SchemaDef) (old new : List TableOf) (table : TableNo) (key : Option Key) (settings : List Setting) (places : List Place) : Type 0 where
  pub room : first_full limit (db_of schema old) (put_wants (db_of schema old) table key settings) ≡ None
  pub is : db_of schema new ≡ put (db_of schema old) table key settings
  pub touched : places ≡ touched (db_of schema old) (Put table key settings)
  pub formed : AreFormed schema new
  pub within : AreWithin limit new

-- a put was done in tables, or a table is full; for want of memory nothing is said
abbrev pub PutsIn : ℕ → SchemaDef → List TableOf → List TableOf → TableNo → Option Key → List Setting → Result (List Place) (Failure Fault) → Type 0
PutsIn limit schema old new table key settings (Ok places) = IsPutIn limit schema old new table key settings places
PutsIn limit schema old new table key settings (Err failure) = IsEnded limit schema old (put_wants (db_of schema old) table key settings) failure
