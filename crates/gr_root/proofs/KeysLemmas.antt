-- Tables with the same keys: the same records are wanted, found, added and full in both.
use Rattle.std.proofs.Common.{◌≡◌, ℕ, ◌+◌, ◌==◌, zero, suc, Bool, true, false, cond, not, Option, Some, None, is_some, List, [], ◌∷◌, ◌++◌, fold, length, map, nat_lt, slice_get, refl, ap, sym, ◌∙◌, arith}
use Rattle.std.proofs.lemmas.Option.{slice_get-map}
use Rattle.std.proofs.lemmas.List.{length-map, map-append}
use Rattle.std.specs.List.{position, position_or_len}
use Rattle.std.specs.Prelude.{unwrap_or}
use Rattle.std.specs.Option.{option_map, option_map_or}
use Rattle.gr_base.specs.declared.numbers.ColumnNo.{ColumnNo}
use Rattle.gr_base.specs.declared.numbers.RecordId.{RecordId}
use Rattle.gr_base.specs.declared.numbers.TableNo.{TableNo}
use Rattle.gr_db.specs.Apply.{id_of_key, kept, own_id, with_setting}
use Rattle.gr_db.specs.Db.{Db, changed_in, changed_table, new_record, shapes_at, with_cell, with_record}
use Rattle.gr_db.specs.Wants.{Setting, added, all_added, all_wanted, column_target, first_full, given_in, is_there, wanted}
use Rattle.gr_db.specs.declared.want.Added.{Added}
use Rattle.gr_db.specs.declared.want.Want.{Want}
use Rattle.gr_expr.specs.Tables.{Record, Records, has_key, id_in, record_id, records_of}
use Rattle.gr_schema.specs.Schema.{SchemaDef, changed_at}
use Rattle.gr_values.specs.Same.{is_same_key}
use Rattle.gr_values.specs.declared.data_type.Shape.{Shape}
use Rattle.gr_values.specs.declared.value.Cell.{Cell}
use Rattle.gr_values.specs.declared.value.Key.{Key}

-- a record without its cells
abbrev bare : Option Record → Option (Option Key)
bare one = option_map (λ found. found.key) one

-- the keys of records by their ids
abbrev keys_of : Records → List (Option (Option Key))
keys_of records = map bare records

-- two databases of one schema whose records have the same keys
pub record AreAlike (one other : Db) : Type 0 where
  pub schema : one.schema ≡ other.schema
  pub keys : map keys_of one.tables ≡ map keys_of other.tables

-- whether a bare record has this key
abbrev has_bare : Key → Option (Option Key) → Bool
has_bare key None = false
has_bare key (Some found) = option_map_or (is_same_key key) found false

has-bare : (key : Key) (one : Option Record) → has_key key one ≡ has_bare key (bare one)
has-bare key None = refl
has-bare key (Some found) = refl

position-bare : (key : Key) (records : Records) → position_or_len (has_key key) records ≡ position_or_len (has_bare key) (keys_of records)
position-bare key [] = refl
position-bare key (one ∷ records) =
    ap (λ b. cond (not b) (1 + position_or_len (has_key key) records) 0) (has-bare key one) ∙ ap (λ n. cond (not (has_bare key (bare one))) (1 + n) 0) (position-bare key records)

-- the id of a key, by the keys alone
abbrev id_bare : List (Option (Option Key)) → Key → Option RecordId
id_bare keys key = option_map (λ n. record_id (n + 1)) (position (has_bare key) keys)

id-bare : (records : Records) (key : Key) → id_in records key ≡ id_bare (keys_of records) key
id-bare records key =
    let at = position-bare key records in
    let long : length records ≡ length (keys_of records) = sym (length-map records bare) in
    ap (λ (n : ℕ). option_map (λ m. record_id (m + 1)) (cond (nat_lt n (length records)) (Some n) None)) at
    ∙ ap (λ (l : ℕ). option_map (λ m. record_id (m + 1)) (cond (nat_lt (position_or_len (has_bare key) (keys_of records)) l) (Some (position_or_len (has_bare key) (keys_of records))) None)) long

-- the keys of a table by its number
abbrev keys_at : List (List (Option (Option Key))) → TableNo → List (Option (Option Key))
keys_at keys table = option_map_or (λ ks. ks) (slice_get keys table.0) []

or-nothing : (o : Option Records) → keys_of (option_map_or (λ records. records) o []) ≡ option_map_or (λ ks. ks) (option_map keys_of o) []
or-nothing None = refl
or-nothing (Some records) = refl

keys-at : (tables : List Records) (table : TableNo) → keys_of (records_of tables table) ≡ keys_at (map keys_of tables) table
keys-at tables table = or-nothing (slice_get tables table.0) ∙ ap (λ (o : Option (List (Option (Option Key)))). option_map_or (λ ks. ks) o []) (sym (slice_get-map keys_of tables table.0))

keys-alike : (one other : Db) (table : TableNo) → AreAlike one other → keys_of (records_of one.tables table) ≡ keys_of (records_of other.tables table)
keys-alike one other table alike = keys-at one.tables table ∙ ap (λ ks. keys_at ks table) alike.keys ∙ sym (keys-at other.tables table)

pub id-alike : (one other : Db) (table : TableNo) (key : Key) → AreAlike one other → id_in (records_of one.tables table) key ≡ id_in (records_of other.tables table) key
id-alike one other table key alike = id-bare (records_of one.tables table) key ∙ ap (λ ks. id_bare ks key) (keys-alike one other table alike) ∙ sym (id-bare (records_of other.tables table) key)

pub given-alike : (one other : Db) (table : TableNo) → AreAlike one other → given_in one table ≡ given_in other table
given-alike one other table alike =
    sym (length-map (records_of one.tables table) bare) ∙ ap length (keys-alike one other table alike) ∙ length-map (records_of other.tables table) bare

there-key : (one other : Db) (table : TableNo) (key : Option Key) → AreAlike one other
    → option_map_or (λ k. is_some (id_in (records_of one.tables table) k)) key false ≡ option_map_or (λ k. is_some (id_in (records_of other.tables table) k)) key false
there-key one other table None alike = refl
there-key one other table (Some key) alike = ap is_some (id-alike one other table key alike)

there-alike : (one other : Db) (want : Want) → AreAlike one other → is_there one want ≡ is_there other want
there-alike one other want alike = there-key one other want.table want.key alike

-- Databases that stay alike

keys-changed : (tables : List Records) (n : ℕ) (change : Records → Records) (more : List (Option (Option Key)) → List (Option (Option Key))) → ((records : Records) → keys_of (change records) ≡ more (keys_of records))
    → map keys_of (changed_at n change tables) ≡ changed_at n more (map keys_of tables)
keys-changed [] n change more is = refl
keys-changed (first ∷ tables) zero change more is = ap (λ ks. ks ∷ map keys_of tables) (is first)
keys-changed (first ∷ tables) (suc n) change more is = ap (λ ks. keys_of first ∷ ks) (keys-changed tables n change more is)

keys-added : (shapes : List (Option Shape)) (key : Option Key) (records : Records) → keys_of (with_record shapes key records) ≡ keys_of records ++ Some key ∷ []
keys-added shapes key records = map-append bare records (Some (new_record shapes key) ∷ [])

-- two alike databases with one record added to each
pub added-alike : (one other : Db) (want : Want) → AreAlike one other → AreAlike (added one want) (added other want)
added-alike one other want alike = record {
  schema = alike.schema;
  keys =
      keys-changed one.tables want.table.0 (with_record (shapes_at one.schema want.table) want.key) (λ ks. ks ++ Some want.key ∷ []) (keys-added (shapes_at one.schema want.table) want.key)
      ∙ ap (changed_at want.table.0 (λ ks. ks ++ Some want.key ∷ [])) alike.keys
      ∙ sym (keys-changed other.tables want.table.0 (with_record (shapes_at other.schema want.table) want.key) (λ ks. ks ++ Some want.key ∷ []) (keys-added (shapes_at other.schema want.table) want.key));
}

-- the same table is first full in both
pub full-alike : (limit : ℕ) (one other : Db) (wants : List Want) → AreAlike one other → first_full limit one wants ≡ first_full limit other wants
full-alike limit one other [] alike = refl
full-alike limit one other (want ∷ wants) alike =
    ap (λ b. cond b (first_full limit one wants) (cond (given_in one want.table == limit) (Some want.table) (first_full limit (added one want) wants))) (there-alike one other want alike)
    ∙ ap (λ o. cond (is_there other want) o (cond (given_in one want.table == limit) (Some want.table) (first_full limit (added one want) wants))) (full-alike limit one other wants alike)
    ∙ ap (λ n. cond (is_there other want) (first_full limit other wants) (cond (n == limit) (Some want.table) (first_full limit (added one want) wants))) (given-alike one other want.table alike)
    ∙ ap (λ o. cond (is_there other want) (first_full limit other wants) (cond (given_in other want.table == limit) (Some want.table) o)) (full-alike limit (added one want) (added other want) wants (added-alike one other want alike))

-- the same records are added to both
pub all-added-alike : (one other : Db) (wants : List Want) → AreAlike one other → all_added one wants ≡ all_added other wants
all-added-alike one other [] alike = refl
all-added-alike one other (want ∷ wants) alike =
    ap (λ b. cond b (all_added one wants) (record { want = want; id = record_id (given_in one want.table + 1) } ∷ all_added (added one want) wants)) (there-alike one other want alike)
    ∙ ap (λ o. cond (is_there other want) o (record { want = want; id = record_id (given_in one want.table + 1) } ∷ all_added (added one want) wants)) (all-added-alike one other wants alike)
    ∙ ap (λ n. cond (is_there other want) (all_added other wants) (record { want = want; id = record_id (n + 1) } ∷ all_added (added one want) wants)) (given-alike one other want.table alike)
    ∙ ap (λ o. cond (is_there other want) (all_added other wants) (record { want = want; id = record_id (given_in other want.table + 1) } ∷ o)) (all-added-alike (added one want) (added other want) wants (added-alike one other want alike))

-- Cells that are set

bare-cell : (column : ColumnNo) (cell : Cell) (one : Option Record) → bare (option_map (with_cell column cell) one) ≡ bare one
bare-cell column cell None = refl
bare-cell column cell (Some found) = refl

bare-at : (column : ColumnNo) (cell : Cell) (n : ℕ) (records : Records) → keys_of (changed_at n (option_map (with_cell column cell)) records) ≡ keys_of records
bare-at column cell n [] = refl
bare-at column cell zero (one ∷ records) = ap (λ k. k ∷ keys_of records) (bare-cell column cell one)
bare-at column cell (suc n) (one ∷ records) = ap (λ ks. bare one ∷ ks) (bare-at column cell n records)

bare-in : (column : ColumnNo) (cell : Cell) (id : ℕ) (records : Records) → keys_of (changed_in id (with_cell column cell) records) ≡ keys_of records
bare-in column cell zero records = refl
bare-in column cell (suc n) records = bare-at column cell n records

unchanged : (n : ℕ) (keys : List (List (Option (Option Key)))) → changed_at n (λ ks. ks) keys ≡ keys
unchanged n [] = refl
unchanged zero (ks ∷ keys) = refl
unchanged (suc n) (ks ∷ keys) = ap (λ rest. ks ∷ rest) (unchanged n keys)

-- a database with one cell set is like it was
pub setting-alike : (table : TableNo) (id : RecordId) (db : Db) (setting : Setting) → AreAlike (with_setting table id db setting) db
setting-alike table id db setting =
    let cell = kept db (column_target db.schema table setting.0) setting.1 in
    record {
      schema = refl;
      keys = keys-changed db.tables table.0 (changed_in id.0 (with_cell setting.0 cell)) (λ ks. ks) (bare-in setting.0 cell id.0) ∙ unchanged table.0 (map keys_of db.tables);
    }

pub alike-trans : (one other third : Db) → AreAlike one other → AreAlike other third → AreAlike one third
alike-trans one other third first second = record { schema = first.schema ∙ second.schema; keys = first.keys ∙ second.keys }

-- a database with cells set is like it was
pub settings-alike : (table : TableNo) (id : RecordId) (db : Db) (settings : List Setting) → AreAlike (fold (with_setting table id) db settings) db
settings-alike table id db [] = record { schema = refl; keys = refl }
settings-alike table id db (setting ∷ settings) =
    alike-trans (fold (with_setting table id) (with_setting table id db setting) settings) (with_setting table id db setting) db (settings-alike table id (with_setting table id db setting) settings) (setting-alike table id db setting)

own-key : (one other : Db) (table : TableNo) (key : Option Key) → AreAlike one other → own_id one table key ≡ own_id other table key
own-key one other table None alike = ap record_id (given-alike one other table alike)
own-key one other table (Some key) alike = ap (λ (o : Option RecordId). unwrap_or o (record_id 0)) (id-alike one other table key alike)

-- a put's own record is the same in both
pub own-alike : (one other : Db) (table : TableNo) (key : Option Key) → AreAlike one other → own_id one table key ≡ own_id other table key
own-alike one other table key alike = own-key one other table key alike

-- two databases that were alike are alike after the same wants
wanted-by : (one other : Db) (want : Want) (b c : Bool) → b ≡ c → AreAlike one other → AreAlike (cond b one (added one want)) (cond c other (added other want))
wanted-by one other want true true same alike = alike
wanted-by one other want true false same alike = absurd cc
wanted-by one other want false true same alike = absurd cc
wanted-by one other want false false same alike = added-alike one other want alike

wanted-alike : (one other : Db) (want : Want) → AreAlike one other → AreAlike (wanted one want) (wanted other want)
wanted-alike one other want alike = wanted-by one other want (is_there one want) (is_there other want) (there-alike one other want alike) alike

pub all-wanted-alike : (one other : Db) (wants : List Want) → AreAlike one other → AreAlike (all_wanted one wants) (all_wanted other wants)
all-wanted-alike one other [] alike = alike
all-wanted-alike one other (want ∷ wants) alike = all-wanted-alike (wanted one want) (wanted other want) wants (wanted-alike one other want alike)
