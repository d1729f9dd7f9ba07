-- A put: records are found or added, cells are set, and tokens are found or added.
use Rattle.std.proofs.Common.{◌≡◌, ℕ, ◌+◌, ◌==◌, Bool, true, false, cond, Option, Some, None, List, [], ◌∷◌, ◌++◌, fold, length, map, refl, ap, sym, ◌∙◌, arith, subst}
use Rattle.std.proofs.lemmas.List.{map-append}
use Rattle.std.specs.Option.{option_map, option_map_or}
use Rattle.std.specs.Prelude.{Err}
use Rattle.gr_base.specs.Fault.{fault_named}
use Rattle.gr_base.specs.declared.failure.Failure.{Failure}
use Rattle.gr_base.specs.declared.failure.Failure.TheVariants.{Refused, NoMemory}
use Rattle.gr_base.specs.declared.fault.Fault.{Fault}
use Rattle.gr_base.specs.declared.fault.FaultKind.TheVariants.{TableFull}
use Rattle.gr_base.specs.declared.numbers.Limits.{Limits}
use Rattle.gr_base.specs.declared.numbers.RecordId.{RecordId}
use Rattle.gr_base.specs.declared.numbers.TableNo.{TableNo}
use Rattle.gr_db.specs.Apply.{own_id, with_setting}
use Rattle.gr_db.specs.Changed.{Place, own_place, place_of}
use Rattle.gr_db.specs.Db.{Db}
use Rattle.gr_db.specs.Wants.{Setting, added, all_added, all_wanted, first_full, given_in, is_there, put_wants, record_wants, token_wants, wanted}
use Rattle.gr_db.specs.declared.entry.Change.TheVariants.{Put}
use Rattle.gr_db.specs.declared.want.Added.{Added}
use Rattle.gr_db.specs.declared.want.Want.{Want}
use Rattle.gr_expr.specs.Tables.{record_id}
use Rattle.gr_root.specs.Inside.Make.{IsMade, Makes}
use Rattle.gr_root.specs.Inside.Put.{IsPutIn, IsSetAll, own_at}
use Rattle.gr_root.specs.Inside.Sound.{AreFormed, AreWithin}
use Rattle.gr_root.specs.Inside.Walk.{IsEnded, IsWalked, db_of}
use Rattle.gr_root.specs.declared.make.Made.{Made}
use Rattle.gr_root.proofs.KeysLemmas.{AreAlike, all-added-alike, all-wanted-alike, full-alike, own-alike, settings-alike}
use Rattle.gr_schema.specs.Schema.{SchemaDef, table_at}
use Rattle.gr_table.specs.Table.{TableOf}
use Rattle.gr_values.specs.declared.value.Key.{Key}

-- Wants, and more of them

-- where the first have room, the first full table is that of the others after them
room-step : (limit : ℕ) (db : Db) (want : Want) (first others : List Want) (b c : Bool)
    → (first_full limit db first ≡ None → first_full limit db (first ++ others) ≡ first_full limit (all_wanted db first) others)
    → (first_full limit (added db want) first ≡ None → first_full limit (added db want) (first ++ others) ≡ first_full limit (all_wanted (added db want) first) others)
    → cond b (first_full limit db first) (cond c (Some want.table) (first_full limit (added db want) first)) ≡ None
    → cond b (first_full limit db (first ++ others)) (cond c (Some want.table) (first_full limit (added db want) (first ++ others))) ≡ first_full limit (all_wanted (cond b db (added db want)) first) others
room-step limit db want first others true c found grown room = found room
room-step limit db want first others false true found grown room = absurd cc
room-step limit db want first others false false found grown room = grown room

pub full-after : (limit : ℕ) (db : Db) (first others : List Want) → first_full limit db first ≡ None → first_full limit db (first ++ others) ≡ first_full limit (all_wanted db first) others
full-after limit db [] others room = refl
full-after limit db (want ∷ first) others room =
    room-step limit db want first others (is_there db want) (given_in db want.table == limit) (full-after limit db first others) (full-after limit (added db want) first others) room

-- where a table is full among the first, it is the first full one
full-step : (limit : ℕ) (db : Db) (want : Want) (first others : List Want) (table : TableNo) (b c : Bool)
    → (first_full limit db first ≡ Some table → first_full limit db (first ++ others) ≡ Some table)
    → (first_full limit (added db want) first ≡ Some table → first_full limit (added db want) (first ++ others) ≡ Some table)
    → cond b (first_full limit db first) (cond c (Some want.table) (first_full limit (added db want) first)) ≡ Some table
    → cond b (first_full limit db (first ++ others)) (cond c (Some want.table) (first_full limit (added db want) (first ++ others))) ≡ Some table
full-step limit db want first others table true c found grown full = found full
full-step limit db want first others table false true found grown full = full
full-step limit db want first others table false false found grown full = grown full

pub full-before : (limit : ℕ) (db : Db) (first others : List Want) (table : TableNo) → first_full limit db first ≡ Some table → first_full limit db (first ++ others) ≡ Some table
full-before limit db [] others table full = absurd cc
full-before limit db (want ∷ first) others table full =
    full-step limit db want first others table (is_there db want) (given_in db want.table == limit) (full-before limit db first others table) (full-before limit (added db want) first others table) full

-- the records that the first add, and then those that the others add after them
added-step : (db : Db) (want : Want) (first others : List Want) (one : Added) (b : Bool)
    → all_added db (first ++ others) ≡ all_added db first ++ all_added (all_wanted db first) others
    → all_added (added db want) (first ++ others) ≡ all_added (added db want) first ++ all_added (all_wanted (added db want) first) others
    → cond b (all_added db (first ++ others)) (one ∷ all_added (added db want) (first ++ others)) ≡ cond b (all_added db first) (one ∷ all_added (added db want) first) ++ all_added (all_wanted (cond b db (added db want)) first) others
added-step db want first others one true found grown = found
added-step db want first others one false found grown = ap (λ (news : List Added). one ∷ news) grown

pub added-after : (db : Db) (first others : List Want) → all_added db (first ++ others) ≡ all_added db first ++ all_added (all_wanted db first) others
added-after db [] others = refl
added-after db (want ∷ first) others =
    added-step db want first others (record { want = want; id = record_id (given_in db want.table + 1) }) (is_there db want) (added-after db first others) (added-after (added db want) first others)

pub wanted-after : (db : Db) (first others : List Want) → all_wanted db (first ++ others) ≡ all_wanted (all_wanted db first) others
wanted-after db [] others = refl
wanted-after db (want ∷ first) others = wanted-after (wanted db want) first others

-- Places

pub own-none : (table : TableNo) (id : RecordId) (settings : List Setting) → length settings ≡ 0 → own_at table id settings ≡ []
own-none table id [] none = refl
own-none table id (setting ∷ settings) none = absurd (omega arith)

pub own-some : (table : TableNo) (id : RecordId) (settings : List Setting) → ¬ (length settings ≡ 0) → (let place : Place = (table, id) in own_at table id settings ≡ place ∷ [])
own-some table id [] some = absurd (some refl)
own-some table id (setting ∷ settings) some = refl

own-place : (after : Db) (table : TableNo) (key : Option Key) (settings : List Setting) → own_at table (own_id after table key) settings ≡ own_place after table key settings
own-place after table key [] = refl
own-place after table key (setting ∷ settings) = refl

-- The parts of a put

set-alike : (schema : SchemaDef) (found set : List TableOf) (table : TableNo) (id : RecordId) (settings : List Setting) → IsSetAll schema found set table id settings → AreAlike (db_of schema set) (db_of schema found)
set-alike schema found set table id settings done = subst (λ (db : Db). AreAlike db (db_of schema found)) (sym done.is) (settings-alike table id (db_of schema found) settings)

-- what is first full among all wants, once there was room for the records
full-tokens : (limit : ℕ) (schema : SchemaDef) (old found set : List TableOf) (table : TableNo) (key : Option Key) (settings : List Setting) (id : RecordId) (news : List Added)
    → IsWalked limit schema old found (record_wants schema table key settings) news → IsSetAll schema found set table id settings
    → first_full limit (db_of schema old) (put_wants (db_of schema old) table key settings) ≡ first_full limit (db_of schema set) (token_wants schema table settings news)
full-tokens limit schema old found set table key settings id news walked done =
    let records = record_wants schema table key settings in
    let tokens = token_wants schema table settings (all_added (db_of schema old) records) in
    full-after limit (db_of schema old) records tokens walked.room
    ∙ ap (λ (db : Db). first_full limit db tokens) walked.wanted
    ∙ sym (full-alike limit (db_of schema set) (db_of schema found) tokens (set-alike schema found set table id settings done))
    ∙ ap (λ (ns : List Added). first_full limit (db_of schema set) (token_wants schema table settings ns)) (sym walked.added)

-- a table is full for the records
pub ended-records : (limit : ℕ) (schema : SchemaDef) (old : List TableOf) (table : TableNo) (key : Option Key) (settings : List Setting) (failure : Failure Fault)
    → IsEnded limit schema old (record_wants schema table key settings) failure → IsEnded limit schema old (put_wants (db_of schema old) table key settings) failure
ended-records limit schema old table key settings (Refused fault) stopped =
    let records = record_wants schema table key settings in
    record {
      table = stopped.table;
      full = full-before limit (db_of schema old) records (token_wants schema table settings (all_added (db_of schema old) records)) stopped.table stopped.full;
      told = stopped.told;
    }
ended-records limit schema old table key settings NoMemory stopped = tt

-- a lexicon is full for the tokens
pub ended-tokens : (limit : ℕ) (schema : SchemaDef) (old found set : List TableOf) (table : TableNo) (key : Option Key) (settings : List Setting) (id : RecordId) (news : List Added) (failure : Failure Fault)
    → IsWalked limit schema old found (record_wants schema table key settings) news → IsSetAll schema found set table id settings
    → IsEnded limit schema set (token_wants schema table settings news) failure → IsEnded limit schema old (put_wants (db_of schema old) table key settings) failure
ended-tokens limit schema old found set table key settings id news (Refused fault) walked done stopped = record {
  table = stopped.table;
  full = full-tokens limit schema old found set table key settings id news walked done ∙ stopped.full;
  told = stopped.told;
}
ended-tokens limit schema old found set table key settings id news NoMemory walked done stopped = tt

-- the put is done
pub put-done : (limit : ℕ) (schema : SchemaDef) (old found set new : List TableOf) (table : TableNo) (key : Option Key) (settings : List Setting) (id again : RecordId) (news more : List Added) (places : List Place)
    → IsWalked limit schema old found (record_wants schema table key settings) news → id ≡ own_id (db_of schema found) table key → IsSetAll schema found set table id settings
    → IsWalked limit schema set new (token_wants schema table settings news) more → again ≡ own_id (db_of schema new) table key
    → places ≡ (map place_of news ++ map place_of more) ++ own_at table again settings → IsPutIn limit schema old new table key settings places
put-done limit schema old found set new table key settings id again news more places first own done last own_again told =
    let before = db_of schema old in
    let records = record_wants schema table key settings in
    let tokens = token_wants schema table settings (all_added before records) in
    let wants = put_wants before table key settings in
    let alike = set-alike schema found set table id settings done in
    let same_tokens : token_wants schema table settings news ≡ tokens = ap (token_wants schema table settings) first.added in
    let after : db_of schema new ≡ all_wanted (db_of schema set) tokens = sym last.wanted ∙ ap (all_wanted (db_of schema set)) same_tokens in
    let cells : db_of schema set ≡ fold (with_setting table (own_id (all_wanted before records) table key)) (all_wanted before records) settings =
    done.is
    ∙ ap (λ (i : RecordId). fold (with_setting table i) (db_of schema found) settings) own
    ∙ ap (λ (db : Db). fold (with_setting table (own_id db table key)) db settings) (sym first.wanted) in
    let all : all_wanted before wants ≡ all_wanted (db_of schema found) tokens = wanted-after before records tokens ∙ ap (λ (db : Db). all_wanted db tokens) first.wanted in
    let same_id : again ≡ own_id (all_wanted before wants) table key =
    own_again
    ∙ ap (λ (db : Db). own_id db table key) after
    ∙ own-alike (all_wanted (db_of schema set) tokens) (all_wanted (db_of schema found) tokens) table key (all-wanted-alike (db_of schema set) (db_of schema found) tokens alike)
    ∙ ap (λ (db : Db). own_id db table key) (sym all) in
    let tokens_added : more ≡ all_added (all_wanted before records) tokens =
    last.added
    ∙ ap (all_added (db_of schema set)) same_tokens
    ∙ all-added-alike (db_of schema set) (db_of schema found) tokens alike
    ∙ ap (λ (db : Db). all_added db tokens) (sym first.wanted) in
    let all_news : news ++ more ≡ all_added before wants =
    ap (λ (ns : List Added). ns ++ more) first.added
    ∙ ap (λ (ns : List Added). all_added before records ++ ns) tokens_added
    ∙ sym (added-after before records tokens) in
    record {
      room = full-tokens limit schema old found set table key settings id news first done ∙ last.room;
      is = after ∙ ap (λ (db : Db). all_wanted db tokens) cells;
      touched = told
          ∙ ap (λ (ps : List Place). ps ++ own_at table again settings) (sym (map-append place_of news more) ∙ ap (map place_of) all_news)
          ∙ ap (λ (i : RecordId). map place_of (all_added before wants) ++ own_at table i settings) same_id
          ∙ ap (λ (ps : List Place). map place_of (all_added before wants) ++ ps) (own-place (all_wanted before wants) table key settings);
      formed = last.formed;
      within = last.within;
    }

-- What a put makes

pub made-put : (limits : Limits) (schema : SchemaDef) (old new : List TableOf) (table : TableNo) (key : Option Key) (settings : List Setting) (made : Made)
    → IsPutIn limits.records schema old new table key settings made.touched → made.schema ≡ schema → made.tables ≡ new → IsMade limits schema old (Put table key settings) made
made-put limits schema old new table key settings made done same_schema same_tables = record {
  faultless = ap (λ (o : Option TableNo). option_map (λ t. fault_named TableFull (option_map_or (λ def. def.name) (table_at schema t) [])) o) done.room;
  is = ap (λ (s : SchemaDef). db_of s made.tables) same_schema ∙ ap (db_of schema) same_tables ∙ done.is;
  touched = done.touched;
  formed = subst (λ (s : SchemaDef). AreFormed s made.tables) (sym same_schema) (subst (AreFormed schema) (sym same_tables) done.formed);
  within = subst (AreWithin limits.records) (sym same_tables) done.within;
}

pub unmade-put : (limits : Limits) (schema : SchemaDef) (old : List TableOf) (table : TableNo) (key : Option Key) (settings : List Setting) (failure : Failure Fault)
    → IsEnded limits.records schema old (put_wants (db_of schema old) table key settings) failure → Makes limits schema old (Put table key settings) (Err failure)
unmade-put limits schema old table key settings (Refused fault) stopped = record {
  first = ap (λ (o : Option TableNo). option_map (λ t. fault_named TableFull (option_map_or (λ def. def.name) (table_at schema t) [])) o) stopped.full ∙ ap Some (sym stopped.told.is);
  text = stopped.told.text;
}
unmade-put limits schema old table key settings NoMemory stopped = tt
