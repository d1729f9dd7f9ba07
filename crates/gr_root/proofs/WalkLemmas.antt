-- One want, and what it leaves to be wanted.
use Rattle.std.proofs.Common.{◌≡◌, ℕ, ◌+◌, ◌≤◌, ◌<◌, ◌==◌, zero, suc, Bool, true, false, cond, Option, Some, None, is_some, List, [], ◌∷◌, ◌++◌, get_or, length, map, slice_get, slice_set, refl, ap, sym, ◌∙◌, arith, subst, length-append}
use Rattle.std.proofs.lemmas.Bool.Decides.{nat_tests}
use Rattle.std.proofs.lemmas.List.{append-nil, append_assoc}
use Rattle.std.specs.List.{AllByRecursion}
use Rattle.std.specs.Option.{option_and_then, option_map_or}
use Rattle.std.specs.Prelude.{Err, MatchOption, IsUtf8}
use Rattle.gr_base.specs.declared.failure.Failure.{Failure}
use Rattle.gr_base.specs.declared.failure.Failure.TheVariants.{Refused, NoMemory}
use Rattle.gr_base.specs.Fault.{fault_named}
use Rattle.gr_base.specs.declared.fault.Fault.{Fault}
use Rattle.gr_base.specs.declared.fault.FaultKind.TheVariants.{TableFull}
use Rattle.gr_base.specs.declared.numbers.RecordId.{RecordId}
use Rattle.gr_base.specs.declared.numbers.TableNo.{TableNo}
use Rattle.gr_db.specs.Db.{Db, shapes_at, with_record}
use Rattle.gr_db.specs.Keys.{IsKeyFor}
use Rattle.gr_db.specs.Wants.{added, all_added, all_wanted, first_full, given_in, is_there, wanted}
use Rattle.gr_db.specs.declared.want.Added.{Added}
use Rattle.gr_db.specs.declared.want.Want.{Want}
use Rattle.gr_expr.specs.Tables.{Records, id_in, record_id, records_of}
use Rattle.gr_root.specs.Inside.Sound.{AreFormed, AreWithin, Form, form_of, records_in}
use Rattle.gr_root.specs.Inside.Walk.{AnswersAt, IsEnded, IsFullFault, IsOnTheWay, IsPlace, IsStep, IsStop, IsStopped, IsWalked, IsWantFor, Steps, db_of}
use Rattle.gr_root.proofs.TablesLemmas.{IsFormed, formed-at, forms-set, records-at, records-set, set-same, within-at, within-set}
use Rattle.gr_schema.specs.Schema.{SchemaDef, changed_at, table_at}
use Rattle.gr_schema.specs.Sound.{IsSound}
use Rattle.gr_schema.specs.declared.definition.TableDef.{TableDef}
use Rattle.gr_table.specs.Table.{IsAdded, IsFound, IsFull, IsKeyIn, TableOf, id_found}
use Rattle.gr_table.specs.declared.wanted.Wanted.{Wanted}
use Rattle.gr_table.specs.declared.wanted.Wanted.TheVariants.{Found, Added as AddedAs, Full}
use Rattle.gr_values.specs.declared.data_type.DataType.{DataType}
use Rattle.gr_values.specs.declared.value.Key.{Key}

-- the fault that a table is full, told by its name
pub told-full : (schema : SchemaDef) (table : TableNo) (def : TableDef) (name : List ℕ) (fault : Fault) → IsSound schema → table_at schema table ≡ Some def → name ≡ def.name → fault ≡ fault_named TableFull name → IsFullFault schema table fault
told-full schema table def name fault sound found named told =
    let same : fault ≡ fault_named TableFull def.name = told ∙ ap (fault_named TableFull) named in
    record {
      is = same ∙ ap (λ (o : Option TableDef). fault_named TableFull (option_map_or (λ def. def.name) o [])) (sym found);
      text = subst (λ (f : Fault). IsUtf8 f.name) (sym same) (sound.tables table.0 def found).utf8;
    }

keyed-in : (home : TableDef) (key : Option Key) (of : Option DataType) → of ≡ home.key → IsKeyFor home key → IsKeyIn of key
keyed-in home None of same keyed = same ∙ keyed
keyed-in home (Some key) of same keyed = rw same keyed

place-by : (limit : ℕ) (schema : SchemaDef) (tables : List TableOf) (want : Want) (o : Option TableDef) → table_at schema want.table ≡ o → MatchOption o ⊥ (λ home. IsKeyFor home want.key) → AreFormed schema tables → AreWithin limit tables → IsPlace limit tables want
place-by limit schema tables want None is fits formed within = absurd fits
place-by limit schema tables want (Some home) is fits formed within =
    let at : IsFormed schema tables want.table home = formed-at schema tables want.table home formed is in
    record {
      table = at.table;
      there = at.there;
      within = within-at limit tables want.table.0 at.table at.there within;
      keyed = keyed-in home want.key at.table.key at.key fits;
    }

-- a wanted record that fits has its place
pub place : (limit : ℕ) (schema : SchemaDef) (tables : List TableOf) (want : Want) → AreFormed schema tables → AreWithin limit tables → IsWantFor schema want → IsPlace limit tables want
place limit schema tables want formed within fits = place-by limit schema tables want (table_at schema want.table) refl fits formed within

home-by : (schema : SchemaDef) (want : Want) (o : Option TableDef) → table_at schema want.table ≡ o → MatchOption o ⊥ (λ home. IsKeyFor home want.key) → is_some (table_at schema want.table) ≡ true
home-by schema want None is fits = absurd fits
home-by schema want (Some home) is fits = ap is_some is

-- its table is there
pub home-there : (schema : SchemaDef) (want : Want) → IsWantFor schema want → is_some (table_at schema want.table) ≡ true
home-there schema want fits = home-by schema want (table_at schema want.table) refl fits

there-by : (schema : SchemaDef) (tables : List TableOf) (n : TableNo) (key : Option Key) (table : TableOf) → slice_get tables n.0 ≡ Some table
    → (let want : Want = record { table = n; key = key } in is_there (db_of schema tables) want ≡ is_some (id_found table key))
there-by schema tables n None table there = refl
there-by schema tables n (Some key) table there = ap (λ (rs : Records). is_some (id_in rs key)) (records-at tables n table there)

-- whether a wanted record is there
there-is : (schema : SchemaDef) (tables : List TableOf) (want : Want) (table : TableOf) → slice_get tables want.table.0 ≡ Some table → is_there (db_of schema tables) want ≡ is_some (id_found table want.key)
there-is schema tables want table there = there-by schema tables want.table want.key table there

-- a record that is there is found
pub step-found : (limit : ℕ) (schema : SchemaDef) (old new : List TableOf) (want : Want) (before after : TableOf) (id : RecordId) (news : List Added)
    → slice_get old want.table.0 ≡ Some before → new ≡ slice_set old want.table.0 after → IsFound before after want.key id → AreFormed schema old → AreWithin limit old
    → IsStep limit schema old new want news news
step-found limit schema old new want before after id news there others found formed within =
    let same : new ≡ old = others ∙ ap (slice_set old want.table.0) found.same ∙ set-same old want.table.0 before there in
    let is : is_there (db_of schema old) want ≡ true = there-is schema old want before there ∙ ap is_some found.there in
    record {
      full = λ rest. ap (λ b. cond b (first_full limit (db_of schema old) rest) (cond (given_in (db_of schema old) want.table == limit) (Some want.table) (first_full limit (added (db_of schema old) want) rest))) is
          ∙ ap (λ ts. first_full limit (db_of schema ts) rest) (sym same);
      added = λ rest. ap (λ b. news ++ cond b (all_added (db_of schema old) rest) (record { want = want; id = record_id (given_in (db_of schema old) want.table + 1) } ∷ all_added (added (db_of schema old) want) rest)) is
          ∙ ap (λ ts. news ++ all_added (db_of schema ts) rest) (sym same);
      wanted = ap (λ b. cond b (db_of schema old) (added (db_of schema old) want)) is ∙ ap (db_of schema) (sym same);
      formed = subst (AreFormed schema) (sym same) formed;
      within = subst (AreWithin limit) (sym same) within;
    }

room-by : (n limit : ℕ) → n < limit → (n == limit) ≡ false
room-by n limit below = grind (arith, nat_tests)

full-by : (n limit : ℕ) → n ≡ limit → (n == limit) ≡ true
full-by n limit same = grind (arith, nat_tests)

-- the tables after a record was added to one of them
added-set : (schema : SchemaDef) (old : List TableOf) (want : Want) (home : TableDef) (before after : TableOf) → slice_get old want.table.0 ≡ Some before → AreFormed schema old → table_at schema want.table ≡ Some home
    → after ≡ record before { records = with_record before.shapes want.key before.records } → added (db_of schema old) want ≡ db_of schema (slice_set old want.table.0 after)
added-set schema old want home before after there formed found last =
    let at : IsFormed schema old want.table home = formed-at schema old want.table home formed found in
    let same : at.table ≡ before = let both : Some at.table ≡ Some before = sym at.there ∙ there in cc in
    let shapes : before.shapes ≡ shapes_at schema want.table = ap (λ (t : TableOf). t.shapes) (sym same) ∙ at.shapes in
    let records : after.records ≡ with_record (shapes_at schema want.table) want.key before.records =
    ap (λ (t : TableOf). t.records) last ∙ ap (λ ss. with_record ss want.key before.records) shapes in
    ap (λ (rs : List Records). let db : Db = record { schema = schema; tables = rs } in db)
    (sym (records-set old want.table.0 before after (with_record (shapes_at schema want.table) want.key) there records))

home-found : (schema : SchemaDef) (want : Want) (o : Option TableDef) → table_at schema want.table ≡ o → MatchOption o ⊥ (λ home. IsKeyFor home want.key) → (home : TableDef) × (table_at schema want.table ≡ Some home)
home-found schema want None is fits = absurd fits
home-found schema want (Some home) is fits = (home, is)

home-of : (schema : SchemaDef) (want : Want) → IsWantFor schema want → (home : TableDef) × (table_at schema want.table ≡ Some home)
home-of schema want fits = home-found schema want (table_at schema want.table) refl fits

-- a record that is not there is added
pub step-added : (limit : ℕ) (schema : SchemaDef) (old new : List TableOf) (want : Want) (before after : TableOf) (id : RecordId) (news : List Added)
    → slice_get old want.table.0 ≡ Some before → new ≡ slice_set old want.table.0 after → IsAdded limit before after want.key id → IsWantFor schema want → AreFormed schema old → AreWithin limit old
    → (let one : Added = record { want = want; id = id } in IsStep limit schema old new want news (news ++ one ∷ []))
step-added limit schema old new want before after id news there others done fits formed within =
    let home = home-of schema want fits in
    let set : added (db_of schema old) want ≡ db_of schema new = added-set schema old want home.0 before after there formed home.1 done.last ∙ ap (db_of schema) (sym others) in
    let is : is_there (db_of schema old) want ≡ false = there-is schema old want before there ∙ ap is_some done.missing in
    let given : given_in (db_of schema old) want.table ≡ length before.records = ap length (records-at old want.table before there) in
    let room : (given_in (db_of schema old) want.table == limit) ≡ false = ap (λ n. n == limit) given ∙ room-by (length before.records) limit done.room in
    let next : id ≡ record_id (given_in (db_of schema old) want.table + 1) = done.next ∙ ap (λ n. record_id (n + 1)) (sym given) in
    let longer : length after.records ≤ limit =
    let long : length after.records ≡ length before.records + 1 = ap (λ (t : TableOf). length t.records) done.last ∙ length-append before.records (_ ∷ []) in
    let below : length before.records < limit = done.room in omega arith in
    let shape : form_of after ≡ form_of before = ap form_of done.last in
    record {
      full = λ rest. ap (λ b. cond b (first_full limit (db_of schema old) rest) (cond (given_in (db_of schema old) want.table == limit) (Some want.table) (first_full limit (added (db_of schema old) want) rest))) is
          ∙ ap (λ b. cond b (Some want.table) (first_full limit (added (db_of schema old) want) rest)) room
          ∙ ap (λ db. first_full limit db rest) set;
      added = λ rest.
          let one : Added = record { want = want; id = id } in
          ap (λ b. news ++ cond b (all_added (db_of schema old) rest) (record { want = want; id = record_id (given_in (db_of schema old) want.table + 1) } ∷ all_added (added (db_of schema old) want) rest)) is
          ∙ ap (λ (i : RecordId). let one : Added = record { want = want; id = i } in news ++ (one ∷ all_added (added (db_of schema old) want) rest)) (sym next)
          ∙ ap (λ db. news ++ (one ∷ all_added db rest)) set
          ∙ sym (append_assoc news (one ∷ []) (all_added (db_of schema new) rest));
      wanted = ap (λ b. cond b (db_of schema old) (added (db_of schema old) want)) is ∙ set;
      formed = subst (AreFormed schema) (sym others) (forms-set old want.table.0 before after there shape ∙ formed);
      within = subst (AreWithin limit) (sym others) (within-set limit old want.table.0 after longer within);
    }

-- a record that is not there in a full table
pub step-full : (limit : ℕ) (schema : SchemaDef) (old : List TableOf) (want : Want) (before after : TableOf) (fault : Fault)
    → slice_get old want.table.0 ≡ Some before → IsFull limit before after want.key → IsFullFault schema want.table fault → IsStop limit schema old want fault
step-full limit schema old want before after fault there done told =
    let is : is_there (db_of schema old) want ≡ false = there-is schema old want before there ∙ ap is_some done.missing in
    let given : given_in (db_of schema old) want.table ≡ length before.records = ap length (records-at old want.table before there) in
    let no_room : (given_in (db_of schema old) want.table == limit) ≡ true = ap (λ n. n == limit) given ∙ full-by (length before.records) limit done.full in
    record {
      full = λ rest. ap (λ b. cond b (first_full limit (db_of schema old) rest) (cond (given_in (db_of schema old) want.table == limit) (Some want.table) (first_full limit (added (db_of schema old) want) rest))) is
          ∙ ap (λ b. cond b (Some want.table) (first_full limit (added (db_of schema old) want) rest)) no_room;
      told = told;
    }

-- a want whose record was found
pub answered-found : (limit : ℕ) (schema : SchemaDef) (old new : List TableOf) (want : Want) (id : RecordId) (news : List Added)
    → AnswersAt limit old new want (Found id) → AreFormed schema old → AreWithin limit old → IsStep limit schema old new want news news
answered-found limit schema old new want id news at formed within = step-found limit schema old new want at.before at.after id news at.there at.others at.answers formed within

-- a want whose record was added
pub answered-added : (limit : ℕ) (schema : SchemaDef) (old new : List TableOf) (want copy : Want) (id : RecordId) (news pushed : List Added)
    → AnswersAt limit old new want (AddedAs id) → copy ≡ want → (let one : Added = record { want = copy; id = id } in pushed ≡ news ++ one ∷ []) → IsWantFor schema want → AreFormed schema old → AreWithin limit old
    → IsStep limit schema old new want news pushed
answered-added limit schema old new want copy id news pushed at same push fits formed within =
    let is : (let one : Added = record { want = want; id = id } in pushed ≡ news ++ one ∷ []) = push ∙ ap (λ (w : Want). let one : Added = record { want = w; id = id } in news ++ one ∷ []) same in
    subst (λ ns. IsStep limit schema old new want news ns) (sym is) (step-added limit schema old new want at.before at.after id news at.there at.others at.answers fits formed within)

-- a want whose table is full
pub answered-full : (limit : ℕ) (schema : SchemaDef) (old new : List TableOf) (want : Want) (fault : Fault)
    → AnswersAt limit old new want Full → IsFullFault schema want.table fault → IsStop limit schema old want fault
answered-full limit schema old new want fault at told = step-full limit schema old want at.before at.after fault at.there at.answers told

-- All wants

-- before the first want
pub on-way-start : (limit : ℕ) (schema : SchemaDef) (old : List TableOf) (wants : List Want) (news : List Added) → news ≡ [] → AreFormed schema old → AreWithin limit old → IsOnTheWay limit schema old old wants wants news
on-way-start limit schema old wants news none formed within = record {
  full = refl;
  added = ap (λ ns. ns ++ all_added (db_of schema old) wants) (sym none);
  all = refl;
  formed = formed;
  within = within;
}

-- one want further
pub on-way-step : (limit : ℕ) (schema : SchemaDef) (old now new : List TableOf) (wants rest after : List Want) (want : Want) (news more : List Added)
    → IsOnTheWay limit schema old now wants rest news → rest ≡ want ∷ after → IsStep limit schema now new want news more → IsOnTheWay limit schema old new wants after more
on-way-step limit schema old now new wants rest after want news more way first step = record {
  full = way.full ∙ ap (first_full limit (db_of schema now)) first ∙ step.full after;
  added = way.added ∙ ap (λ ws. news ++ all_added (db_of schema now) ws) first ∙ step.added after;
  all = way.all ∙ ap (all_wanted (db_of schema now)) first ∙ ap (λ db. all_wanted db after) step.wanted;
  formed = step.formed;
  within = step.within;
}

-- at a full table
pub on-way-stop : (limit : ℕ) (schema : SchemaDef) (old now : List TableOf) (wants rest after : List Want) (want : Want) (news : List Added) (fault : Fault)
    → IsOnTheWay limit schema old now wants rest news → rest ≡ want ∷ after → IsStop limit schema now want fault → IsStopped limit schema old wants fault
on-way-stop limit schema old now wants rest after want news fault way first stop = record {
  table = want.table;
  full = way.full ∙ ap (first_full limit (db_of schema now)) first ∙ stop.full after;
  told = stop.told;
}

-- at the end
pub on-way-end : (limit : ℕ) (schema : SchemaDef) (old new : List TableOf) (wants rest : List Want) (news : List Added)
    → IsOnTheWay limit schema old new wants rest news → rest ≡ [] → IsWalked limit schema old new wants news
on-way-end limit schema old new wants rest news way none = record {
  room = way.full ∙ ap (first_full limit (db_of schema new)) none;
  added = sym (way.added ∙ ap (λ ws. news ++ all_added (db_of schema new) ws) none ∙ append-nil news);
  wanted = way.all ∙ ap (all_wanted (db_of schema new)) none;
  formed = way.formed;
  within = way.within;
}

-- what holds of each want holds of the one at a place
pub want-at : (schema : SchemaDef) (wants : List Want) (i : ℕ) (d : Want) → i < length wants → AllByRecursion (IsWantFor schema) wants → IsWantFor schema (get_or wants i d)
want-at schema [] i d within all = absurd (omega arith)
want-at schema (want ∷ wants) zero d within all = all.0
want-at schema (want ∷ wants) (suc i) d within all = want-at schema wants i d (omega arith) all.1

-- where a want failed, the wants ended
pub on-way-ended : (limit : ℕ) (schema : SchemaDef) (old now new : List TableOf) (wants rest after : List Want) (want : Want) (news more : List Added) (failure : Failure Fault)
    → IsOnTheWay limit schema old now wants rest news → rest ≡ want ∷ after → Steps limit schema now new want news more (Err failure) → IsEnded limit schema old wants failure
on-way-ended limit schema old now new wants rest after want news more (Refused fault) way first stop = on-way-stop limit schema old now wants rest after want news fault way first stop
on-way-ended limit schema old now new wants rest after want news more NoMemory way first stop = tt
