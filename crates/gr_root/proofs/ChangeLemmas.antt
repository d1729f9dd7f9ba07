-- Tables of which the records of one are changed, as a database.
use Rattle.std.proofs.Common.{◌≡◌, ℕ, ◌+◌, ◌≤◌, zero, suc, Bool, true, false, ◌&&◌, nat_lt, Option, Some, None, is_some, List, [], ◌∷◌, get_or, length, map, slice_get, slice_set, refl, ap, sym, ◌∙◌, arith, subst}
use Rattle.std.proofs.lemmas.List.Quantifiers.{position-Some}
use Rattle.std.proofs.lemmas.Option.{cond_some, slice_get-get_or}
use Rattle.std.specs.List.{position}
use Rattle.std.specs.Option.{option_flatten, option_map, option_map_or, option_to_list}
use Rattle.gr_base.specs.declared.numbers.Limits.{Limits}
use Rattle.gr_base.specs.declared.numbers.RecordId.{RecordId}
use Rattle.gr_base.specs.declared.numbers.TableNo.{TableNo}
use Rattle.gr_db.specs.Apply.{apply, change_fault, id_if, id_which, missing_fault, removed}
use Rattle.gr_db.specs.Changed.{Place, touched}
use Rattle.gr_db.specs.Db.{Db, changed_table, without}
use Rattle.gr_db.specs.declared.entry.Change.{Change}
use Rattle.gr_db.specs.declared.entry.Change.TheVariants.{Delete, DeleteIf}
use Rattle.gr_db.specs.declared.entry.Which.{Which}
use Rattle.gr_db.specs.declared.entry.Which.TheVariants.{Id, Key as ByKey}
use Rattle.gr_expr.specs.Score.{score_of}
use Rattle.gr_expr.specs.Tables.{Record, Records, has_key, id_in, record_at, record_id, record_in, records_of}
use Rattle.gr_expr.specs.declared.typed.Expr.{Expr}
use Rattle.gr_root.specs.Inside.Change.{IsChangedAt, IsRemoved, IsUnchanged}
use Rattle.gr_root.specs.Inside.Make.{IsMade}
use Rattle.gr_root.specs.Inside.Sound.{AreFormed, AreWithin, records_in}
use Rattle.gr_root.specs.Inside.Walk.{db_of}
use Rattle.gr_root.specs.declared.make.Made.{Made}
use Rattle.gr_root.proofs.TablesLemmas.{forms-set, records-set, within-at, within-set}
use Rattle.gr_schema.specs.Schema.{SchemaDef, changed_at}
use Rattle.gr_table.specs.Table.{TableOf}
use Rattle.gr_values.specs.declared.value.Key.{Key}

-- the database of tables of which one was changed
pub changed-db : (schema : SchemaDef) (old new : List TableOf) (table : TableNo) (change : Records → Records) → IsChangedAt old new table change → db_of schema new ≡ changed_table table change (db_of schema old)
changed-db schema old new table change at =
    let after : TableOf = record at.before { records = change at.before.records } in
    let records : records_in (slice_set old table.0 after) ≡ changed_at table.0 change (records_in old) = records-set old table.0 at.before after change at.there refl in
    ap (λ (rs : List Records). let db : Db = record { schema = schema; tables = rs } in db) (ap records_in at.is ∙ records)

-- its tables keep their forms
pub changed-formed : (schema : SchemaDef) (old new : List TableOf) (table : TableNo) (change : Records → Records) → IsChangedAt old new table change → AreFormed schema old → AreFormed schema new
changed-formed schema old new table change at formed =
    let after : TableOf = record at.before { records = change at.before.records } in
    subst (AreFormed schema) (sym at.is) (forms-set old table.0 at.before after at.there refl ∙ formed)

-- where the change gives no id, they keep the limit
pub changed-within : (limit : ℕ) (old new : List TableOf) (table : TableNo) (change : Records → Records) → ((records : Records) → length (change records) ≡ length records) → IsChangedAt old new table change → AreWithin limit old → AreWithin limit new
changed-within limit old new table change keeps at within =
    let after : TableOf = record at.before { records = change at.before.records } in
    let few : length at.before.records ≤ limit = within-at limit old table.0 at.before at.there within in
    let long : length after.records ≡ length at.before.records = keeps at.before.records in
    subst (AreWithin limit) (sym at.is) (within-set limit old table.0 after (omega arith) within)

pub length-changed_at : {X : Type 0} (change : X → X) (n : ℕ) (xs : List X) → length (changed_at n change xs) ≡ length xs
length-changed_at change n [] = refl
length-changed_at change zero (x ∷ xs) = refl
length-changed_at change (suc n) (x ∷ xs) = ap suc (length-changed_at change n xs)

pub length-without : (id : ℕ) (records : Records) → length (without id records) ≡ length records
length-without zero records = refl
length-without (suc n) records = length-changed_at (λ old. None) n records

-- a record of a key is there
has-some : (key : Key) (one : Option Record) → has_key key one ≡ true → is_some one ≡ true
has-some key None has = has
has-some key (Some found) has = refl

position-some : (key : Key) (records : Records) (n : ℕ) → position (has_key key) records ≡ Some n → is_some (record_in records (suc n)) ≡ true
position-some key records n is =
    let place = position-Some (has_key key) records n None is in
    let here : slice_get records n ≡ Some (get_or records n None) = slice_get-get_or records n None place.0 in
    ap (λ (o : Option (Option Record)). is_some (option_flatten o)) here ∙ has-some key (get_or records n None) place.1

which-by : (schema : SchemaDef) (tables : List TableOf) (table : TableNo) (key : Key) (id : RecordId) (o : Option ℕ) → position (has_key key) (records_of (records_in tables) table) ≡ o
    → option_map (λ n. record_id (n + 1)) o ≡ Some id → is_some (record_at (records_in tables) table id) ≡ true
which-by schema tables table key id None at is = absurd cc
which-by schema tables table key id (Some n) at is =
    let same : record_id (n + 1) ≡ id = cc in
    let next : n + 1 ≡ suc n = omega arith in
    let there : is_some (record_in (records_of (records_in tables) table) (suc n)) ≡ true = position-some key (records_of (records_in tables) table) n at in
    ap (λ (i : RecordId). is_some (record_at (records_in tables) table i)) (sym same) ∙ ap (λ (m : ℕ). is_some (record_in (records_of (records_in tables) table) m)) next ∙ there

-- a record that is named is there
pub which-alive : (schema : SchemaDef) (tables : List TableOf) (table : TableNo) (by : Which) (id : RecordId) → id_which (db_of schema tables) table by ≡ Some id → is_some (record_at (records_in tables) table id) ≡ true
which-alive schema tables table (Id one) id is =
    let both = cond_some (is_some (record_at (records_in tables) table one)) one id is in
    ap (λ (i : RecordId). is_some (record_at (records_in tables) table i)) (sym both.1) ∙ both.0
which-alive schema tables table (ByKey key) id is = which-by schema tables table key id (position (has_key key) (records_of (records_in tables) table)) refl is

and-first : (a b : Bool) → (a && b) ≡ true → a ≡ true
and-first true b is = refl
and-first false b is = is

-- a record that a condition finds is there
pub found-alive : (schema : SchemaDef) (tables : List TableOf) (table : TableNo) (one : RecordId) (condition : Expr) (id : RecordId) → id_if (db_of schema tables) table one condition ≡ Some id
    → is_some (record_at (records_in tables) table id) ≡ true
found-alive schema tables table one condition id is =
    let there = is_some (record_at (records_in tables) table one) in
    let scores = nat_lt 0 (score_of (records_in tables) one condition) in
    let both = cond_some (there && scores) one id is in
    ap (λ (i : RecordId). is_some (record_at (records_in tables) table i)) (sym both.1) ∙ and-first there scores both.0

-- what stands without a record is what a change makes that removes it
made-removed : (limits : Limits) (schema : SchemaDef) (old : List TableOf) (table : TableNo) (change : Change) (found : Option RecordId) (id : RecordId) (made : Made)
    → found ≡ Some id → change_fault limits (db_of schema old) change ≡ None → apply (db_of schema old) change ≡ removed table found (db_of schema old)
    → touched (db_of schema old) change ≡ option_to_list (option_map (λ i. let place : Place = (table, i) in place) found)
    → IsRemoved schema old table id made → AreFormed schema old → AreWithin limits.records old → IsMade limits schema old change made
made-removed limits schema old table change found id made is faultless applies touches gone formed within = record {
  faultless = faultless;
  is = ap (λ (s : SchemaDef). db_of s made.tables) gone.schema_same ∙ changed-db schema old made.tables table (without id.0) gone.tables
      ∙ ap (λ (o : Option RecordId). removed table o (db_of schema old)) (sym is) ∙ sym applies;
  touched = gone.touched ∙ ap (λ (o : Option RecordId). option_to_list (option_map (λ i. let place : Place = (table, i) in place) o)) (sym is) ∙ sym touches;
  formed = subst (λ (s : SchemaDef). AreFormed s made.tables) (sym gone.schema_same) (changed-formed schema old made.tables table (without id.0) gone.tables formed);
  within = changed-within limits.records old made.tables table (without id.0) (length-without id.0) gone.tables within;
}

-- the record that is named was removed
pub made-deleted : (limits : Limits) (schema : SchemaDef) (old : List TableOf) (table : TableNo) (by : Which) (id : RecordId) (made : Made)
    → id_which (db_of schema old) table by ≡ Some id → IsRemoved schema old table id made → AreFormed schema old → AreWithin limits.records old → IsMade limits schema old (Delete table by) made
made-deleted limits schema old table by id made which =
    made-removed limits schema old table (Delete table by) (id_which (db_of schema old) table by) id made which (ap missing_fault which) refl refl

-- the record that a condition finds was removed
pub made-deleted-if : (limits : Limits) (schema : SchemaDef) (old : List TableOf) (table : TableNo) (one : RecordId) (condition : Expr) (id : RecordId) (made : Made)
    → id_if (db_of schema old) table one condition ≡ Some id → IsRemoved schema old table id made → AreFormed schema old → AreWithin limits.records old
    → IsMade limits schema old (DeleteIf table one condition) made
made-deleted-if limits schema old table one condition id made found =
    made-removed limits schema old table (DeleteIf table one condition) (id_if (db_of schema old) table one condition) id made found refl refl refl

-- where a condition finds none, nothing changes
pub made-unchanged : (limits : Limits) (schema : SchemaDef) (old : List TableOf) (table : TableNo) (one : RecordId) (condition : Expr) (made : Made)
    → id_if (db_of schema old) table one condition ≡ None → IsUnchanged schema old made → AreFormed schema old → AreWithin limits.records old
    → IsMade limits schema old (DeleteIf table one condition) made
made-unchanged limits schema old table one condition made none same formed within = record {
  faultless = refl;
  is = ap (λ (s : SchemaDef). db_of s made.tables) same.schema_same ∙ ap (db_of schema) same.tables_same ∙ ap (λ (o : Option RecordId). removed table o (db_of schema old)) (sym none);
  touched = same.touched ∙ ap (λ (o : Option RecordId). option_to_list (option_map (λ i. let place : Place = (table, i) in place) o)) (sym none);
  formed = subst (λ (s : SchemaDef). AreFormed s made.tables) (sym same.schema_same) (subst (AreFormed schema) (sym same.tables_same) formed);
  within = subst (AreWithin limits.records) (sym same.tables_same) within;
}
