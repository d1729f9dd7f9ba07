-- Creations: what a new table and a new column come to.
use Rattle.std.proofs.Common.{◌≡◌, ℕ, ◌+◌, ◌<◌, ◌≤◌, ◌==◌, zero, suc, Bool, true, false, cond, Option, Some, None, is_some, List, [], ◌∷◌, ◌++◌, get_or, length, map, slice_get, slice_set, take, refl, ap, sym, ◌∙◌, arith, subst}
use Rattle.std.proofs.lemmas.List.{length-map, take_more}
use Rattle.std.proofs.lemmas.Option.{slice_get_within}
use Rattle.std.specs.List.{AllByRecursion}
use Rattle.std.specs.Option.{option_and_then, option_map, option_map_or, option_or}
use Rattle.std.specs.Prelude.{Err, IfSome, IsUtf8, Ok, Result}
use Rattle.gr_base.specs.Fault.{fault_named}
use Rattle.gr_base.specs.declared.failure.Failure.{Failure}
use Rattle.gr_base.specs.declared.failure.Failure.TheVariants.{Refused, NoMemory}
use Rattle.gr_base.specs.declared.fault.Fault.{Fault}
use Rattle.gr_base.specs.declared.fault.FaultKind.TheVariants.{TableFull}
use Rattle.gr_base.specs.declared.numbers.ColumnNo.{ColumnNo}
use Rattle.gr_base.specs.declared.numbers.Limits.{Limits}
use Rattle.gr_base.specs.declared.numbers.TableNo.{TableNo}
use Rattle.gr_db.specs.Apply.{column_made, column_wants, full_fault, index_fault, with_blank_column}
use Rattle.gr_db.specs.Changed.{Place, place_of}
use Rattle.gr_db.specs.Db.{Db, role_shape, with_column_of}
use Rattle.gr_db.specs.Wants.{all_added, all_wanted, first_full, new_index_wants}
use Rattle.gr_db.specs.declared.entry.Change.TheVariants.{CreateColumn, CreateTable}
use Rattle.gr_db.specs.declared.want.Added.{Added}
use Rattle.gr_db.specs.declared.want.Want.{Want}
use Rattle.gr_expr.specs.Tables.{Records}
use Rattle.gr_root.specs.Inside.Create.{HasBlank, IsColumnMade, IsColumnUnmade, IsTableMade, MakesColumn, column_added, table_with_blank}
use Rattle.gr_root.specs.Inside.Make.{IsBase, IsMade, IsUnmade, Makes}
use Rattle.gr_root.specs.Inside.Sound.{AreFormed, AreWithin, Form, form_in, form_of, records_in}
use Rattle.gr_root.specs.Inside.Walk.{IsEnded, IsFullFault, IsStopped, IsWalked, IsWantFor, db_of}
use Rattle.gr_root.specs.Inside.Working.{IsTaken}
use Rattle.gr_root.specs.declared.make.Made.{Made}
use Rattle.gr_root.proofs.ShapesLemmas.{append-map, formed-column, formed-table, get-changed, get-end, role-is-shape, role-shape-column}
use Rattle.gr_root.proofs.TablesLemmas.{IsFormed, formed-at, records-set, within-at, within-set}
use Rattle.gr_schema.specs.Schema.{SchemaDef, changed_at, column_at, column_count, column_no, is_keyed, table_at, table_no, table_with, with_column, with_table}
use Rattle.gr_schema.specs.Sound.{IsColumn, IsSound, IsTable, has_keys}
use Rattle.gr_schema.specs.Wishes.{Home, IsAnswer, IsColumnFor, IsTold, column_fault, column_of, home_named, home_of, role_of, table_fault, table_of}
use Rattle.gr_schema.specs.declared.definition.ColumnDef.{ColumnDef}
use Rattle.gr_schema.specs.declared.definition.Role.{Role}
use Rattle.gr_schema.specs.declared.definition.TableDef.{TableDef}
use Rattle.gr_schema.specs.declared.wish.ColumnWish.{ColumnWish}
use Rattle.gr_schema.specs.declared.wish.TableWish.{TableWish}
use Rattle.gr_table.specs.Table.{TableOf, no_records}
use Rattle.gr_values.specs.Defaults.{default_of}
use Rattle.gr_values.specs.Types.{IsShape, is_key_type}
use Rattle.gr_values.specs.declared.data_type.Shape.{Shape}
use Rattle.gr_values.specs.declared.value.Cell.{Cell}

-- Tables

-- there are as many tables as definitions
pub as-many : (schema : SchemaDef) (tables : List TableOf) → AreFormed schema tables → length tables ≡ length schema.tables
as-many schema tables formed = sym (length-map tables form_of) ∙ ap length formed ∙ length-map schema.tables (form_in schema)

-- the table that goes last is sound
pub last-table : (schema : SchemaDef) (def : TableDef) → IsSound (with_table schema def) → IsTable (with_table schema def) (length schema.tables) def
last-table schema def sound = sound.tables (length schema.tables) def (get-end schema.tables def)

within-end : (limit : ℕ) (tables : List TableOf) (table : TableOf) → length table.records ≤ limit → AreWithin limit tables → AreWithin limit (tables ++ table ∷ [])
within-end limit [] table few within = (few, tt)
within-end limit (first ∷ tables) table few within = (within.0, within-end limit tables table few within.1)

-- a table that may be made was made
pub made-table : (limits : Limits) (schema : SchemaDef) (tables : List TableOf) (wish : TableWish) (def : TableDef) (made : Made)
    → IsBase limits.records schema tables → table_fault schema wish ≡ None → Some (table_of wish) ≡ Some def → IsTableMade schema tables def made → IsMade limits schema tables (CreateTable wish) made
made-table limits schema tables wish def made base faultless meant done =
    let same : table_of wish ≡ def = cc meant in
    let added : TableOf = no_records def.key in
    let form : form_of added ≡ form_in (with_table schema def) def = subst (λ (d : TableDef). form_of (no_records d.key) ≡ form_in (with_table schema d) d) same refl in
    let new : SchemaDef = with_table schema def in
    record {
      faultless = faultless;
      is = ap (λ (s : SchemaDef). db_of s made.tables) done.schema ∙ ap (db_of new) done.tables
          ∙ ap (λ (rs : List Records). let db : Db = record { schema = new; tables = rs } in db) (append-map (λ (t : TableOf). t.records) tables (added ∷ []))
          ∙ ap (λ (d : TableDef). let db : Db = record { schema = with_table schema d; tables = records_in tables ++ [] ∷ [] } in db) (sym same);
      touched = done.touched;
      formed = subst (λ (s : SchemaDef). AreFormed s made.tables) (sym done.schema) (subst (AreFormed new) (sym done.tables) (formed-table schema tables def added base.sound base.formed form));
      within = subst (AreWithin limits.records) (sym done.tables) (within-end limits.records tables added (omega arith) base.within);
    }

-- a table that may not be made is refused
pub unmade-table : (limits : Limits) (schema : SchemaDef) (tables : List TableOf) (wish : TableWish) (failure : Failure Fault)
    → IsAnswer (table_fault schema wish) (Some (table_of wish)) (Err failure) → IsTold failure → Makes limits schema tables (CreateTable wish) (Err failure)
unmade-table limits schema tables wish (Refused fault) answer told = record { first = answer; text = told }
unmade-table limits schema tables wish NoMemory answer told = tt

-- Columns

-- the fault of a wish for a column that has none of its own is that of its index
fault-is : (limits : Limits) (schema : SchemaDef) (tables : List TableOf) (wish : ColumnWish) (table : TableNo) (def : ColumnDef) → column_fault schema wish ≡ None
    → (let pair : TableNo × ColumnDef = (table, def) in column_of schema wish ≡ Some pair)
    → option_or (column_fault schema wish) (option_and_then (λ made. index_fault limits (db_of schema tables) made.0 made.1) (column_of schema wish)) ≡ index_fault limits (db_of schema tables) table def
fault-is limits schema tables wish table def faultless meant =
    ap (λ (o : Option Fault). option_or o (option_and_then (λ made. index_fault limits (db_of schema tables) made.0 made.1) (column_of schema wish))) faultless
    ∙ ap (λ (o : Option (TableNo × ColumnDef)). option_and_then (λ made. index_fault limits (db_of schema tables) made.0 made.1) o) meant

-- what a column that is meant comes to is what the wish comes to
pub made-column : (limits : Limits) (schema : SchemaDef) (tables : List TableOf) (wish : ColumnWish) (table : TableNo) (def : ColumnDef) (result : Result Made (Failure Fault)) → column_fault schema wish ≡ None
    → (let pair : TableNo × ColumnDef = (table, def) in column_of schema wish ≡ Some pair) → MakesColumn limits schema tables table def result → Makes limits schema tables (CreateColumn wish) result
made-column limits schema tables wish table def (Ok made) faultless meant done = record {
  faultless = fault-is limits schema tables wish table def faultless meant ∙ done.faultless;
  is = done.is ∙ sym (ap (λ (o : Option (TableNo × ColumnDef)). option_map_or (λ made. column_made (db_of schema tables) made.0 made.1) o (db_of schema tables)) meant);
  touched = done.touched ∙ sym (ap (λ (o : Option (TableNo × ColumnDef)). option_map_or (λ made. column_added (db_of schema tables) made.0 made.1) o []) meant);
  formed = done.formed;
  within = done.within;
}
made-column limits schema tables wish table def (Err (Refused fault)) faultless meant done = record {
  first = fault-is limits schema tables wish table def faultless meant ∙ done.first;
  text = done.text;
}
made-column limits schema tables wish table def (Err NoMemory) faultless meant done = tt

-- a column that may not be made is refused
pub unmade-column : (limits : Limits) (schema : SchemaDef) (tables : List TableOf) (wish : ColumnWish) (failure : Failure Fault)
    → IsAnswer (column_fault schema wish) (column_of schema wish) (Err failure) → IsTold failure → Makes limits schema tables (CreateColumn wish) (Err failure)
unmade-column limits schema tables wish (Refused fault) answer told = record {
  first = ap (λ (o : Option Fault). option_or o (option_and_then (λ made. index_fault limits (db_of schema tables) made.0 made.1) (column_of schema wish))) answer;
  text = told;
}
unmade-column limits schema tables wish NoMemory answer told = tt

-- Where the new column stands

home-by : (schema : SchemaDef) (name : List ℕ) (o : Option TableNo) (home : Home) → option_and_then (λ number. option_map (home_of number) (table_at schema number)) o ≡ Some home → table_at schema home.number ≡ Some home.def
home-by schema name None home is = absurd cc
home-by schema name (Some number) home is = at (table_at schema number) refl is
  where
    at : (o : Option TableDef) → table_at schema number ≡ o → option_map (home_of number) o ≡ Some home → table_at schema home.number ≡ Some home.def
    at None there named = absurd cc
    at (Some def) there named =
        let same : home_of number def ≡ home = cc named in
        ap (λ (h : Home). table_at schema h.number) (sym same) ∙ there ∙ ap (λ (h : Home). Some h.def) same

named-home : (schema : SchemaDef) (wish : ColumnWish) (table : TableNo) (def : ColumnDef) (o : Option Home) → home_named schema wish.table ≡ o
    → (let pair : TableNo × ColumnDef = (table, def) in option_and_then (λ home. option_map (λ role. let made : TableNo × ColumnDef = (home.number, record { name = wish.name; role = role }) in made) (role_of schema home wish)) o ≡ Some pair)
    → (home : TableDef) × (table_at schema table ≡ Some home)
named-home schema wish table def None is meant = absurd cc
named-home schema wish table def (Some home) is meant = at (role_of schema home wish) meant
  where
    at : (o : Option Role) → (let pair : TableNo × ColumnDef = (table, def) in option_map (λ role. let made : TableNo × ColumnDef = (home.number, record { name = wish.name; role = role }) in made) o ≡ Some pair)
        → (one : TableDef) × (table_at schema table ≡ Some one)
    at None meant = absurd cc
    at (Some role) meant =
        let pair : TableNo × ColumnDef = (table, def) in
        let made : TableNo × ColumnDef = (home.number, record { name = wish.name; role = role }) in
        let same : made ≡ pair = cc meant in
        (home.def, ap (λ (p : TableNo × ColumnDef). table_at schema p.0) (sym same) ∙ home-by schema wish.table _ home is)

-- the table of a column that may be made is there
pub column-home : (schema : SchemaDef) (table : TableNo) (def : ColumnDef) → IsColumnFor schema table def → (home : TableDef) × (table_at schema table ≡ Some home)
column-home schema table def wished = named-home schema wished.wish table def (home_named schema wished.wish.table) refl wished.meant

-- its place
pub column-place : (schema : SchemaDef) (tables : List TableOf) (table : TableNo) (def : ColumnDef) → IsColumnFor schema table def → AreFormed schema tables → table.0 < length tables
column-place schema tables table def wished formed =
    let home = column-home schema table def wished in
    let within : table.0 < length schema.tables = slice_get_within schema.tables table.0 home.0 home.1 in
    let many : length tables ≡ length schema.tables = as-many schema tables formed in
    omega arith

home-grown : (schema : SchemaDef) (table : TableNo) (def : ColumnDef) (home : TableDef) → table_at schema table ≡ Some home → table_at (with_column schema table def) table ≡ Some (table_with def home)
home-grown schema table def home there = get-changed table.0 (table_with def) schema.tables ∙ ap (option_map (table_with def)) there

column-in : (home : TableDef) (def : ColumnDef) (n : ℕ) → n ≡ length home.columns → slice_get (home.columns ++ def ∷ []) n ≡ Some def
column-in home def n is = ap (slice_get (home.columns ++ def ∷ [])) is ∙ get-end home.columns def

count-is : (schema : SchemaDef) (table : TableNo) (home : TableDef) → table_at schema table ≡ Some home → column_count schema table ≡ length home.columns
count-is schema table home there = ap (λ (o : Option TableDef). option_map_or (λ one. length one.columns) o 0) there

-- the new column goes last in its table
pub column-last : (schema : SchemaDef) (table : TableNo) (def : ColumnDef) → IsColumnFor schema table def → column_at (with_column schema table def) table (column_no (column_count schema table)) ≡ Some def
column-last schema table def wished =
    let home = column-home schema table def wished in
    ap (option_and_then (λ (one : TableDef). slice_get one.columns (column_count schema table))) (home-grown schema table def home.0 home.1)
    ∙ column-in home.0 def (column_count schema table) (count-is schema table home.0 home.1)

-- it has a shape that cells can have, where it holds data
pub column-shape : (schema : SchemaDef) (table : TableNo) (def : ColumnDef) → IsColumnFor schema table def → IsSound (with_column schema table def) → IfSome (role_shape schema def.role) IsShape
column-shape schema table def wished sound =
    let home = column-home schema table def wished in
    let new : SchemaDef = with_column schema table def in
    let is : IsColumn new table (table_with def home.0) (length home.0.columns) def =
    (sound.tables table.0 (table_with def home.0) (home-grown schema table def home.0 home.1)).columns (length home.0.columns) def (get-end home.0.columns def) in
    subst (λ (o : Option Shape). IfSome o IsShape) (role-shape-column schema table def def.role) (role-is-shape new table (table_with def home.0) def.role sound is.role)

-- The tables with the new column

-- the table that was taken and put back has one more column
pub blank-put : (old middle new : List TableOf) (table : TableNo) (shape : Option Shape) (found after : TableOf) → IsTaken old middle table.0 found → new ≡ slice_set middle table.0 after → after ≡ table_with_blank shape found → HasBlank old new table shape
blank-put old middle new table shape found after taken put is = record {
  before = found;
  there = taken.was;
  is = put ∙ taken.others after ∙ ap (slice_set old table.0) is;
}

-- tables with the new column, and their schema
pub record IsBlank (schema new : SchemaDef) (tables working : List TableOf) (table : TableNo) (def : ColumnDef) : Type 0 where
  pub wished : IsColumnFor schema table def
  pub grown : new ≡ with_column schema table def
  pub blank : HasBlank tables working table (role_shape schema def.role)

-- the database of these
pub blank-db : (schema new : SchemaDef) (tables working : List TableOf) (table : TableNo) (def : ColumnDef) → IsBlank schema new tables working table def → db_of new working ≡ with_blank_column (db_of schema tables) table def
blank-db schema new tables working table def is =
    let shape : Option Shape = role_shape schema def.role in
    let after : TableOf = table_with_blank shape is.blank.before in
    let put : records_in (slice_set tables table.0 after) ≡ changed_at table.0 (with_column_of (option_map default_of shape)) (records_in tables) =
    records-set tables table.0 is.blank.before after (with_column_of (option_map default_of shape)) is.blank.there refl in
    ap (λ (s : SchemaDef). db_of s working) is.grown
    ∙ ap (λ (rs : List Records). let db : Db = record { schema = with_column schema table def; tables = rs } in db)
    (ap records_in is.blank.is ∙ put ∙ ap (λ (o : Option Shape). changed_at table.0 (with_column_of (option_map default_of o)) (records_in tables)) (sym (role-shape-column schema table def def.role)))

-- they have the forms of their schema
pub blank-formed : (schema new : SchemaDef) (tables working : List TableOf) (table : TableNo) (def : ColumnDef) → IsBlank schema new tables working table def → AreFormed schema tables → AreFormed new working
blank-formed schema new tables working table def is formed =
    let shape : Option Shape = role_shape schema def.role in
    let before : TableOf = is.blank.before in
    subst (λ (s : SchemaDef). AreFormed s working) (sym is.grown) (subst (AreFormed (with_column schema table def)) (sym is.blank.is)
    (formed-column schema tables table def before (table_with_blank shape before) formed is.blank.there
    (ap (λ (o : Option Shape). let form : Form = (before.key, before.shapes ++ o ∷ []) in form) (sym (role-shape-column schema table def def.role)))))

-- they have as many ids given
pub blank-within : (limit : ℕ) (schema new : SchemaDef) (tables working : List TableOf) (table : TableNo) (def : ColumnDef) → IsBlank schema new tables working table def → AreWithin limit tables → AreWithin limit working
blank-within limit schema new tables working table def is within =
    let before : TableOf = is.blank.before in
    let after : TableOf = table_with_blank (role_shape schema def.role) before in
    let few : length before.records ≤ limit = within-at limit tables table.0 before is.blank.there within in
    let long : length after.records ≡ length before.records = length-map before.records _ in
    subst (AreWithin limit) (sym is.blank.is) (within-set limit tables table.0 after (omega arith) within)

-- What the new column wants

pub wants-are : (schema new : SchemaDef) (tables working : List TableOf) (table : TableNo) (def : ColumnDef) (column : ColumnNo) (wants : List Want) → IsBlank schema new tables working table def → column.0 ≡ column_count schema table
    → (let index : TableNo × ColumnNo = (table, column) in wants ≡ option_map_or (λ one. new_index_wants (db_of new working) index one.role) (column_at new table column) [])
    → wants ≡ column_wants (db_of schema tables) (db_of new working) table def
wants-are schema new tables working table def column wants is numbered wanted =
    let number : column ≡ column_no (column_count schema table) = ap column_no numbered in
    let there : column_at new table column ≡ Some def =
    ap (λ (s : SchemaDef). column_at s table column) is.grown ∙ ap (column_at (with_column schema table def) table) number ∙ column-last schema table def is.wished in
    wanted
    ∙ ap (λ (o : Option ColumnDef). option_map_or (λ one. let index : TableNo × ColumnNo = (table, column) in new_index_wants (db_of new working) index one.role) o []) there
    ∙ ap (λ (c : ColumnNo). let index : TableNo × ColumnNo = (table, c) in new_index_wants (db_of new working) index def.role) number

-- what is said of the wants of these tables is said of those of the new column
by-blank : {X : Type 0} (f : Db → List Want → X) (schema new : SchemaDef) (tables working : List TableOf) (table : TableNo) (def : ColumnDef) (wants : List Want) → IsBlank schema new tables working table def
    → wants ≡ column_wants (db_of schema tables) (db_of new working) table def
    → (let grown = with_blank_column (db_of schema tables) table def in f (db_of new working) wants ≡ f grown (column_wants (db_of schema tables) grown table def))
by-blank f schema new tables working table def wants is are =
    ap (f (db_of new working)) are ∙ ap (λ (db : Db). f db (column_wants (db_of schema tables) db table def)) (blank-db schema new tables working table def is)

-- the wants were walked
pub made-walked : (limits : Limits) (schema new : SchemaDef) (tables working after : List TableOf) (table : TableNo) (def : ColumnDef) (wants : List Want) (news : List Added) (made : Made)
    → IsBlank schema new tables working table def → wants ≡ column_wants (db_of schema tables) (db_of new working) table def → IsWalked limits.records new working after wants news
    → made.schema ≡ new → made.tables ≡ after → made.touched ≡ map place_of news → IsColumnMade limits schema tables table def made
made-walked limits schema new tables working after table def wants news made is are walked schema_is tables_are places =
    record {
      faultless = sym (by-blank (full_fault limits) schema new tables working table def wants is are)
          ∙ ap (option_map (λ (t : TableNo). fault_named TableFull (option_map_or (λ one. one.name) (table_at new t) []))) walked.room;
      is = ap (λ (s : SchemaDef). db_of s made.tables) schema_is ∙ ap (db_of new) tables_are ∙ sym walked.wanted ∙ by-blank all_wanted schema new tables working table def wants is are;
      touched = places ∙ ap (map place_of) walked.added ∙ by-blank (λ db ws. map place_of (all_added db ws)) schema new tables working table def wants is are;
      formed = subst (λ (s : SchemaDef). AreFormed s made.tables) (sym schema_is) (subst (AreFormed new) (sym tables_are) walked.formed);
      within = subst (AreWithin limits.records) (sym tables_are) walked.within;
    }

-- the wants ended at a full table
pub made-ended : (limits : Limits) (schema new : SchemaDef) (tables working : List TableOf) (table : TableNo) (def : ColumnDef) (wants : List Want) (failure : Failure Fault)
    → IsBlank schema new tables working table def → wants ≡ column_wants (db_of schema tables) (db_of new working) table def → IsEnded limits.records new working wants failure
    → MakesColumn limits schema tables table def (Err failure)
made-ended limits schema new tables working table def wants (Refused fault) is are ended = record {
  first = sym (by-blank (full_fault limits) schema new tables working table def wants is are)
      ∙ ap (option_map (λ (t : TableNo). fault_named TableFull (option_map_or (λ one. one.name) (table_at new t) []))) ended.full
      ∙ ap Some (sym ended.told.is);
  text = ended.told.text;
}
made-ended limits schema new tables working table def wants NoMemory is are ended = tt
