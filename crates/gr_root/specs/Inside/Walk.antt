-- Wants, one after the other, and what they leave to be wanted.
use Rattle.std.specs.Prelude.{ℕ, ◌≡◌, ◌≤◌, ⊤, Option, Some, None, Result, Ok, Err, IsUtf8, MatchOption, List, [], ◌∷◌, ◌++◌, length, slice_get, slice_set}
use Rattle.std.specs.Option.{option_map_or}
use Rattle.gr_base.specs.Fault.{fault_named}
use Rattle.gr_base.specs.declared.failure.Failure.{Failure}
use Rattle.gr_base.specs.declared.failure.Failure.TheVariants.{Refused, NoMemory}
use Rattle.gr_base.specs.declared.fault.Fault.{Fault}
use Rattle.gr_base.specs.declared.fault.FaultKind.TheVariants.{TableFull}
use Rattle.gr_base.specs.declared.numbers.TableNo.{TableNo}
use Rattle.gr_db.specs.Db.{Db}
use Rattle.gr_db.specs.Keys.{IsKeyFor}
use Rattle.gr_db.specs.Wants.{all_added, all_wanted, first_full, wanted}
use Rattle.gr_db.specs.declared.want.Added.{Added}
use Rattle.gr_db.specs.declared.want.Want.{Want}
use Rattle.gr_root.specs.Inside.Sound.{AreFormed, AreWithin, records_in}
use Rattle.gr_schema.specs.Schema.{SchemaDef, table_at}
use Rattle.gr_table.specs.Table.{AnswersWant, IsKeyIn, TableOf}
use Rattle.gr_table.specs.declared.wanted.Wanted.{Wanted}

-- the database of a schema and tables
abbrev pub db_of : SchemaDef → List TableOf → Db
db_of schema tables = record { schema = schema; tables = records_in tables }

-- a wanted record's table is there, and its key is one of the table
abbrev pub IsWantFor : SchemaDef → Want → Type 0
IsWantFor schema want = MatchOption (table_at schema want.table) ⊥ (λ home. IsKeyFor home want.key)

-- a wanted record's table is there, with no more ids given than the limit, and its key is one of the table
pub record IsPlace (limit : ℕ) (tables : List TableOf) (want : Want) : Type 0 where
  pub table : TableOf
  pub there : slice_get tables want.table.0 ≡ Some table
  pub within : length table.records ≤ limit
  pub keyed : IsKeyIn table.key want.key

-- one table answers a want, and the others stay
pub record AnswersAt (limit : ℕ) (old new : List TableOf) (want : Want) (answer : Wanted) : Type 0 where
  pub before : TableOf
  pub after : TableOf
  pub there : slice_get old want.table.0 ≡ Some before
  pub answers : AnswersWant {E = Unit {0}} limit before after want.key (Ok answer)
  pub others : new ≡ slice_set old want.table.0 after

-- a want is answered by its table; for want of memory nothing is said
abbrev pub AnswersWantIn : {E : Type 0} → ℕ → List TableOf → List TableOf → Want → Result Wanted E → Type 0
AnswersWantIn limit old new want (Ok answer) = AnswersAt limit old new want answer
AnswersWantIn limit old new want (Err _) = ⊤

-- what is first full and what is added from here on is what was before this want, and the tables are those after it
pub record IsStep (limit : ℕ) (schema : SchemaDef) (old new : List TableOf) (want : Want) (before after : List Added) : Type 0 where
  pub full : (rest : List Want) → first_full limit (db_of schema old) (want ∷ rest) ≡ first_full limit (db_of schema new) rest
  pub added : (rest : List Want) → before ++ all_added (db_of schema old) (want ∷ rest) ≡ after ++ all_added (db_of schema new) rest
  pub wanted : wanted (db_of schema old) want ≡ db_of schema new
  pub formed : AreFormed schema new
  pub within : AreWithin limit new

-- a table's name is told as that of a full one
pub record IsFullFault (schema : SchemaDef) (table : TableNo) (fault : Fault) : Type 0 where
  pub is : fault ≡ fault_named TableFull (option_map_or (λ def. def.name) (table_at schema table) [])
  pub text : IsUtf8 fault.name

-- the want's table is the first that is full, whatever is wanted after it
pub record IsStop (limit : ℕ) (schema : SchemaDef) (old : List TableOf) (want : Want) (fault : Fault) : Type 0 where
  pub full : (rest : List Want) → first_full limit (db_of schema old) (want ∷ rest) ≡ Some want.table
  pub told : IsFullFault schema want.table fault

-- one want is answered, or its table is full
abbrev pub Steps : ℕ → SchemaDef → List TableOf → List TableOf → Want → List Added → List Added → Result (Unit {0}) (Failure Fault) → Type 0
Steps limit schema old new want before after (Ok _) = IsStep limit schema old new want before after
Steps limit schema old new want before after (Err (Refused fault)) = IsStop limit schema old want fault
Steps limit schema old new want before after (Err NoMemory) = ⊤

-- no table was full, and the tables are those after the wants
pub record IsWalked (limit : ℕ) (schema : SchemaDef) (old new : List TableOf) (wants : List Want) (news : List Added) : Type 0 where
  pub room : first_full limit (db_of schema old) wants ≡ None
  pub added : news ≡ all_added (db_of schema old) wants
  pub wanted : all_wanted (db_of schema old) wants ≡ db_of schema new
  pub formed : AreFormed schema new
  pub within : AreWithin limit new

-- a table is full, and its fault is told
pub record IsStopped (limit : ℕ) (schema : SchemaDef) (old : List TableOf) (wants : List Want) (fault : Fault) : Type 0 where
  pub table : TableNo
  pub full : first_full limit (db_of schema old) wants ≡ Some table
  pub told : IsFullFault schema table fault

-- the wants ended at a full table; for want of memory nothing is said
abbrev pub IsEnded : ℕ → SchemaDef → List TableOf → List Want → Failure Fault → Type 0
IsEnded limit schema old wants (Refused fault) = IsStopped limit schema old wants fault
IsEnded limit schema old wants NoMemory = ⊤

-- what is left to be wanted comes to what all wants come to
pub record IsOnTheWay (limit : ℕ) (schema : SchemaDef) (old new : List TableOf) (wants rest : List Want) (news : List Added) : Type 0 where
  pub full : first_full limit (db_of schema old) wants ≡ first_full limit (db_of schema new) rest
  pub added : all_added (db_of schema old) wants ≡ news ++ all_added (db_of schema new) rest
  pub all : all_wanted (db_of schema old) wants ≡ all_wanted (db_of schema new) rest
  pub formed : AreFormed schema new
  pub within : AreWithin limit new
