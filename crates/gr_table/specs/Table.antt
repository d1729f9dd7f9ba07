-- What the records of one table are seen as, and what is answered where a record is wanted.
use Rattle.std.specs.Prelude.{ℕ, ◌≡◌, ◌<◌, ◌+◌, ⊤, MatchOption, Option, Some, None, Result, Ok, Err, List, [], length}
use Rattle.std.specs.Option.{option_and_then}
use Rattle.gr_base.specs.declared.numbers.RecordId.{RecordId}
use Rattle.gr_db.specs.Db.{with_record}
use Rattle.gr_expr.specs.Tables.{Records, id_in, record_id}
use Rattle.gr_table.specs.declared.wanted.Wanted.{Wanted}
use Rattle.gr_table.specs.declared.wanted.Wanted.TheVariants.{Found, Added, Full}
use Rattle.gr_values.specs.Fits.{IsKeyOf}
use Rattle.gr_values.specs.declared.data_type.DataType.{DataType}
use Rattle.gr_values.specs.declared.data_type.Shape.{Shape}
use Rattle.gr_values.specs.declared.value.Key.{Key}

-- a table's records: the type of their keys, the shapes of their columns, and the records by their ids
pub record TableOf : Type 0 where
  pub key : Option DataType
  pub shapes : List (Option Shape)
  pub records : Records

-- a table without columns and records
abbrev pub no_records : Option DataType → TableOf
no_records key = record { key = key; shapes = []; records = [] }

-- the id of the record that has this key, where a key is given
abbrev pub id_found : TableOf → Option Key → Option RecordId
id_found table key = option_and_then (id_in table.records) key

-- the record is there, and nothing changes
pub record IsFound (old new : TableOf) (key : Option Key) (id : RecordId) : Type 0 where
  pub there : id_found old key ≡ Some id
  pub same : new ≡ old

-- the record was not there, and goes last with the next id
pub record IsAdded (limit : ℕ) (old new : TableOf) (key : Option Key) (id : RecordId) : Type 0 where
  pub missing : id_found old key ≡ None
  pub room : length old.records < limit
  pub next : id ≡ record_id (length old.records + 1)
  pub last : new ≡ record old { records = with_record old.shapes key old.records }

-- the record is not there, and the limit gives no further id
pub record IsFull (limit : ℕ) (old new : TableOf) (key : Option Key) : Type 0 where
  pub missing : id_found old key ≡ None
  pub full : length old.records ≡ limit
  pub same : new ≡ old

-- a wanted record is found, or it is added, or the table is full; for want of memory nothing is said
abbrev pub AnswersWant : {E : Type 0} → ℕ → TableOf → TableOf → Option Key → Result Wanted E → Type 0
AnswersWant limit old new key (Ok (Found id)) = IsFound old new key id
AnswersWant limit old new key (Ok (Added id)) = IsAdded limit old new key id
AnswersWant limit old new key (Ok Full) = IsFull limit old new key
AnswersWant limit old new key (Err _) = ⊤

-- a key exactly where the table has keys, and then of its type
abbrev pub IsKeyIn : Option DataType → Option Key → Type 0
IsKeyIn of None = of ≡ None
IsKeyIn of (Some key) = MatchOption of ⊥ (λ type. IsKeyOf type key)
