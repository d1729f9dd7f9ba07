-- The records of a database keep to the forms of their tables, whatever a change makes.
use Rattle.std.proofs.Common.{ℕ, zero, suc, ◌≡◌, ◌≤◌, Bool, true, false, cond, Option, Some, None, is_some, List, [], ◌∷◌, ◌++◌, fold, length, map, slice_get, refl, sym, ap, subst, ◌∙◌, arith}
use Rattle.std.proofs.lemmas.List.{length-map}
use Rattle.std.proofs.lemmas.Option.{none-some, same_Some, slice_get-map}
use Rattle.std.specs.List.{AllByRecursion}
use Rattle.std.specs.Option.{option_and_then, option_flatten, option_map, option_map_or, option_or}
use Rattle.std.specs.Prelude.{IfSome, IsUtf8, MatchOption}
use Rattle.gr_base.specs.declared.fault.Fault.{Fault}
use Rattle.gr_base.specs.declared.numbers.ColumnNo.{ColumnNo}
use Rattle.gr_base.specs.declared.numbers.Limits.{Limits}
use Rattle.gr_base.specs.declared.numbers.RecordId.{RecordId}
use Rattle.gr_base.specs.declared.numbers.TableNo.{TableNo}
use Rattle.gr_db.specs.Apply.{apply, change_fault, column_made, column_wants, id_if, id_which, index_fault, kept, own_id, put, with_blank_column, with_setting}
use Rattle.gr_db.specs.Db.{Db, blank, changed_in, changed_table, new_record, role_shape, shapes_at, shapes_of, with_cell, with_column_of, with_one_more, with_record, without}
use Rattle.gr_db.specs.Entry.{AreReadable, IsPut, IsReadableTarget, IsSetting, IsValid}
use Rattle.gr_db.specs.Keys.{IsKeyFor}
use Rattle.gr_db.specs.Fitting.{FitsTable, IsFitting}
use Rattle.gr_db.specs.Wants.{Setting, added, all_added, all_wanted, column_target, is_there, record_wants, text_in, text_of_cell, text_of_key, token_wants, wanted}
use Rattle.gr_db.specs.declared.entry.Change.{Change}
use Rattle.gr_db.specs.declared.entry.Change.TheVariants.{CreateTable, CreateColumn, Put, Delete, DeleteIf, Merge}
use Rattle.gr_db.specs.declared.want.Want.{Want}
use Rattle.gr_db.proofs.Grows.{all-wanted-schema, extends-column, extends-table, made-schema, table-stays}
use Rattle.gr_expr.specs.Tables.{Record, Records, record_at, record_in, records_of}
use Rattle.gr_root.specs.Inside.Sound.{AreCells, AreGood, AreGoodIn, Form, IsGood, IsGoodDb, IsOfForm, form_in, forms_in}
use Rattle.gr_root.specs.Inside.Walk.{IsWantFor}
use Rattle.gr_root.proofs.CreateLemmas.{column-home, column-shape}
use Rattle.gr_root.proofs.FitLemmas.{added-readable, record-fits, settings-readable}
use Rattle.gr_root.proofs.SetLemmas.{set-fits}
use Rattle.gr_root.proofs.ShapesLemmas.{append-map, get-changed, get-end, map-alike, role-is-shape, role-shape-column}
use Rattle.gr_root.proofs.TokenLemmas.{new-index-fits, token-fits}
use Rattle.gr_schema.specs.Paths.{key_type}
use Rattle.gr_schema.specs.Schema.{Extends, SchemaDef, changed_at, column_count, column_in, column_no, table_at, table_no, table_with, with_column, with_table}
use Rattle.gr_schema.specs.Sound.{IsKind, IsRole, IsSound}
use Rattle.gr_schema.specs.Wishes.{IsColumnFor, column_fault, column_of, table_of}
use Rattle.gr_schema.specs.declared.definition.ColumnDef.{ColumnDef}
use Rattle.gr_schema.specs.declared.definition.Role.{Role}
use Rattle.gr_schema.specs.declared.definition.Role.TheVariants.{Scalar, Vector, Index}
use Rattle.gr_schema.specs.declared.definition.TableDef.{TableDef}
use Rattle.gr_schema.specs.declared.wish.ColumnWish.{ColumnWish}
use Rattle.gr_table.specs.Sound.{IsCellIn}
use Rattle.gr_table.specs.Table.{IsKeyIn}
use Rattle.gr_table.proofs.Defaults.{default_fits}
use Rattle.gr_values.specs.Defaults.{default_of}
use Rattle.gr_values.specs.Fits.{IsCellOf, IsKeyOf, IsTextWithin}
use Rattle.gr_values.specs.Types.{IsShape, text_limit}
use Rattle.gr_values.specs.declared.data_type.DataType.{DataType}
use Rattle.gr_values.specs.declared.data_type.Kind.{Kind}
use Rattle.gr_values.specs.declared.data_type.Kind.TheVariants.{Plain, Reference}
use Rattle.gr_values.specs.declared.data_type.Shape.{Shape}
use Rattle.gr_values.specs.declared.path.Field.{Field}
use Rattle.gr_values.specs.declared.value.Cell.{Cell}
use Rattle.gr_values.specs.declared.value.Key.{Key}

-- Cells of a record

-- shapes that cells can have
abbrev AreShapes : List (Option Shape) → Type 0
AreShapes shapes = AllByRecursion (λ shape. IfSome shape IsShape) shapes

default-in : (shape : Option Shape) → IfSome shape IsShape → IsCellIn shape (option_map default_of shape)
default-in None is = refl
default-in (Some shape) is = default_fits shape is

blank-cells : (shapes : List (Option Shape)) → AreShapes shapes → AreCells shapes (blank shapes)
blank-cells [] all = tt
blank-cells (shape ∷ shapes) all = (default-in shape all.0, blank-cells shapes all.1)

more-cells : (shapes : List (Option Shape)) (cells : List (Option Cell)) (shape : Option Shape) (cell : Option Cell) → AreCells shapes cells → IsCellIn shape cell → AreCells (shapes ++ shape ∷ []) (cells ++ cell ∷ [])
more-cells [] [] shape cell are is = (is, tt)
more-cells [] (other ∷ cells) shape cell are is = absurd are
more-cells (one ∷ shapes) [] shape cell are is = absurd are
more-cells (one ∷ shapes) (other ∷ cells) shape cell are is = (are.0, more-cells shapes cells shape cell are.1 is)

cell-in : (shape : Option Shape) (cell : Cell) → MatchOption shape ⊥ (λ s. IsCellOf s cell) → IsCellIn shape (Some cell)
cell-in None cell fits = absurd fits
cell-in (Some shape) cell fits = fits

set-cells : (shapes : List (Option Shape)) (cells : List (Option Cell)) (n : ℕ) (cell : Cell) → AreCells shapes cells → MatchOption (option_flatten (slice_get shapes n)) ⊥ (λ s. IsCellOf s cell)
    → AreCells shapes (changed_at n (λ old. Some cell) cells)
set-cells [] [] n cell are fits = tt
set-cells [] (other ∷ cells) n cell are fits = absurd are
set-cells (shape ∷ shapes) [] n cell are fits = absurd are
set-cells (shape ∷ shapes) (other ∷ cells) zero cell are fits = (cell-in shape cell fits, are.1)
set-cells (shape ∷ shapes) (other ∷ cells) (suc n) cell are fits = (are.0, set-cells shapes cells n cell are.1 fits)

-- what stands in a data column
cell-at : (shapes : List (Option Shape)) (cells : List (Option Cell)) (n : ℕ) (shape : Shape) → AreCells shapes cells → slice_get shapes n ≡ Some (Some shape) → MatchOption (option_flatten (slice_get cells n)) ⊥ (IsCellOf shape)
cell-at [] [] n shape are is = absurd (none-some (Some shape) is)
cell-at [] (cell ∷ cells) n shape are is = absurd are
cell-at (other ∷ shapes) [] n shape are is = absurd are
cell-at (other ∷ shapes) (cell ∷ cells) zero shape are is = shaped other cell (same_Some other (Some shape) is) are.0
  where
    shaped : (o : Option Shape) (c : Option Cell) → o ≡ Some shape → IsCellIn o c → MatchOption c ⊥ (IsCellOf shape)
    shaped None c same fits = absurd (none-some shape same)
    shaped (Some s) None same fits = absurd fits
    shaped (Some s) (Some c) same fits = subst (λ one. IsCellOf one c) (same_Some s shape same) fits
cell-at (other ∷ shapes) (cell ∷ cells) (suc n) shape are is = cell-at shapes cells n shape are.1 is

-- Records of a table

-- a record or none stays one where it is changed
good-map : (one other : Form) (change : Record → Record) (records : Records) → ((found : Record) → IsOfForm one found → IsOfForm other (change found)) → AreGood one records → AreGood other (map (option_map change) records)
good-map one other change [] step all = tt
good-map one other change (None ∷ records) step all = (tt, good-map one other change records step all.1)
good-map one other change (Some found ∷ records) step all = (step found all.0, good-map one other change records step all.1)

good-at : (form : Form) (change : Option Record → Option Record) (n : ℕ) (records : Records) → ((o : Option Record) → IsGood form o → IsGood form (change o)) → AreGood form records → AreGood form (changed_at n change records)
good-at form change n [] step all = tt
good-at form change zero (one ∷ records) step all = (step one all.0, all.1)
good-at form change (suc n) (one ∷ records) step all = (all.0, good-at form change n records step all.1)

good-option : (form : Form) (change : Record → Record) → ((found : Record) → IsOfForm form found → IsOfForm form (change found)) → (o : Option Record) → IsGood form o → IsGood form (option_map change o)
good-option form change step None is = tt
good-option form change step (Some found) is = step found is

good-in : (form : Form) (change : Record → Record) (id : ℕ) (records : Records) → ((found : Record) → IsOfForm form found → IsOfForm form (change found)) → AreGood form records → AreGood form (changed_in id change records)
good-in form change zero records step all = all
good-in form change (suc n) records step all = good-at form (option_map change) n records (good-option form change step) all

good-without : (form : Form) (id : ℕ) (records : Records) → AreGood form records → AreGood form (without id records)
good-without form zero records all = all
good-without form (suc n) records all = good-at form (λ old. None) n records (λ o is. tt) all

good-push : (form : Form) (records : Records) (one : Option Record) → AreGood form records → IsGood form one → AreGood form (records ++ one ∷ [])
good-push form [] one all is = (is, tt)
good-push form (other ∷ records) one all is = (all.0, good-push form records one all.1 is)

good-get : (form : Form) (records : Records) (n : ℕ) (found : Record) → AreGood form records → option_flatten (slice_get records n) ≡ Some found → IsOfForm form found
good-get form [] n found all is = absurd (none-some found is)
good-get form (None ∷ records) zero found all is = absurd (none-some found is)
good-get form (Some one ∷ records) zero found all is = subst (IsOfForm form) (same_Some one found is) all.0
good-get form (one ∷ records) (suc n) found all is = good-get form records n found all.1 is

good-record : (form : Form) (records : Records) (id : ℕ) (found : Record) → AreGood form records → record_in records id ≡ Some found → IsOfForm form found
good-record form records zero found all is = absurd (none-some found is)
good-record form records (suc n) found all is = good-get form records n found all is

-- Tables

good-changed : (n : ℕ) (change : Records → Records) (forms : List Form) (tables : List Records) → ((form : Form) (records : Records) → slice_get forms n ≡ Some form → AreGood form records → AreGood form (change records))
    → AreGoodIn forms tables → AreGoodIn forms (changed_at n change tables)
good-changed n change [] [] step all = tt
good-changed n change [] (records ∷ tables) step all = absurd all
good-changed n change (form ∷ forms) [] step all = absurd all
good-changed zero change (form ∷ forms) (records ∷ tables) step all = (step form records refl all.0, all.1)
good-changed (suc n) change (form ∷ forms) (records ∷ tables) step all = (all.0, good-changed n change forms tables step all.1)

good-both : (n : ℕ) (widen : Form → Form) (change : Records → Records) (forms : List Form) (tables : List Records) → ((form : Form) (records : Records) → AreGood form records → AreGood (widen form) (change records))
    → AreGoodIn forms tables → AreGoodIn (changed_at n widen forms) (changed_at n change tables)
good-both n widen change [] [] step all = tt
good-both n widen change [] (records ∷ tables) step all = absurd all
good-both n widen change (form ∷ forms) [] step all = absurd all
good-both zero widen change (form ∷ forms) (records ∷ tables) step all = (step form records all.0, all.1)
good-both (suc n) widen change (form ∷ forms) (records ∷ tables) step all = (all.0, good-both n widen change forms tables step all.1)

good-more : (forms : List Form) (tables : List Records) (form : Form) (records : Records) → AreGoodIn forms tables → AreGood form records → AreGoodIn (forms ++ form ∷ []) (tables ++ records ∷ [])
good-more [] [] form records all is = (is, tt)
good-more [] (other ∷ tables) form records all is = absurd all
good-more (one ∷ forms) [] form records all is = absurd all
good-more (one ∷ forms) (other ∷ tables) form records all is = (all.0, good-more forms tables form records all.1 is)

good-length : (forms : List Form) (tables : List Records) → AreGoodIn forms tables → length tables ≡ length forms
good-length [] [] all = refl
good-length [] (records ∷ tables) all = absurd all
good-length (form ∷ forms) [] all = absurd all
good-length (form ∷ forms) (records ∷ tables) all = ap suc (good-length forms tables all.1)

good-table : (forms : List Form) (tables : List Records) (n : ℕ) (form : Form) → AreGoodIn forms tables → slice_get forms n ≡ Some form → AreGood form (option_map_or (λ records. records) (slice_get tables n) [])
good-table [] [] n form all is = absurd (none-some form is)
good-table [] (records ∷ tables) n form all is = absurd all
good-table (one ∷ forms) [] n form all is = absurd all
good-table (one ∷ forms) (records ∷ tables) zero form all is = subst (λ f. AreGood f records) (same_Some one form is) all.0
good-table (one ∷ forms) (records ∷ tables) (suc n) form all is = good-table forms tables n form all.1 is

-- the form of a table that is there
form-at : (schema : SchemaDef) (n : ℕ) (form : Form) → slice_get (forms_in schema) n ≡ Some form → (home : TableDef) × (slice_get schema.tables n ≡ Some home) × (form_in schema home ≡ form)
form-at schema n form is = found (slice_get schema.tables n) refl (sym (slice_get-map (form_in schema) schema.tables n) ∙ is)
  where
    found : (o : Option TableDef) → slice_get schema.tables n ≡ o → option_map (form_in schema) o ≡ Some form → (home : TableDef) × (slice_get schema.tables n ≡ Some home) × (form_in schema home ≡ form)
    found None there same = absurd (none-some form same)
    found (Some home) there same = (home, there, same_Some (form_in schema home) form same)

-- a table's records
home-good : (db : Db) (table : TableNo) (home : TableDef) → IsGoodDb db → table_at db.schema table ≡ Some home → AreGood (form_in db.schema home) (records_of db.tables table)
home-good db table home good there =
    good-table (forms_in db.schema) db.tables table.0 (form_in db.schema home) good (slice_get-map (form_in db.schema) db.schema.tables table.0 ∙ ap (option_map (form_in db.schema)) there)

-- Wants

-- shapes of a sound table are such that cells can have
sound-shapes : (schema : SchemaDef) (number : TableNo) (home : TableDef) (columns : List ColumnDef) → IsSound schema → ((c : ℕ) (column : ColumnDef) → slice_get columns c ≡ Some column → IsRole schema number home column.role)
    → AreShapes (map (λ (column : ColumnDef). role_shape schema column.role) columns)
sound-shapes schema number home [] sound roles = tt
sound-shapes schema number home (column ∷ columns) sound roles =
    (role-is-shape schema number home column.role sound (roles zero column refl), sound-shapes schema number home columns sound (λ c. roles (suc c)))

home-shapes : (schema : SchemaDef) (n : ℕ) (home : TableDef) → IsSound schema → slice_get schema.tables n ≡ Some home → AreShapes (shapes_of schema home)
home-shapes schema n home sound there =
    sound-shapes schema (table_no n) home home.columns sound (λ c column at. ((sound.tables n home there).columns c column at).role)

key-in : (home : TableDef) (key : Option Key) → IsKeyFor home key → IsKeyIn home.key key
key-in home None is = is
key-in home (Some key) is = is

key-for : (home : TableDef) (key : Option Key) → IsKeyIn home.key key → IsKeyFor home key
key-for home None is = is
key-for home (Some key) is = is

want-home : (schema : SchemaDef) (want : Want) (home : TableDef) → table_at schema want.table ≡ Some home → IsWantFor schema want → IsKeyFor home want.key
want-home schema want home there fits = subst (λ (o : Option TableDef). MatchOption o ⊥ (λ one. IsKeyFor one want.key)) there fits

added-good : (db : Db) (want : Want) → IsSound db.schema → IsGoodDb db → IsWantFor db.schema want → IsGoodDb (added db want)
added-good db want sound good fits =
    good-changed want.table.0 (with_record (shapes_at db.schema want.table) want.key) (forms_in db.schema) db.tables step good
  where
    step : (form : Form) (records : Records) → slice_get (forms_in db.schema) want.table.0 ≡ Some form → AreGood form records → AreGood form (with_record (shapes_at db.schema want.table) want.key records)
    step form records is all =
        let home = form-at db.schema want.table.0 form is in
        let shapes : shapes_at db.schema want.table ≡ shapes_of db.schema home.0 = ap (λ (o : Option TableDef). option_map_or (shapes_of db.schema) o []) home.1 in
        let new : IsOfForm (form_in db.schema home.0) (new_record (shapes_of db.schema home.0) want.key) = record {
          keyed = key-in home.0 want.key (want-home db.schema want home.0 home.1 fits);
          cells = blank-cells (shapes_of db.schema home.0) (home-shapes db.schema want.table.0 home.0 sound home.1);
        } in
        good-push form records (Some (new_record (shapes_at db.schema want.table) want.key)) all
        (subst (λ (ss : List (Option Shape)). IsOfForm form (new_record ss want.key)) (sym shapes) (subst (λ (f : Form). IsOfForm f (new_record (shapes_of db.schema home.0) want.key)) home.2 new))

wanted-good : (db : Db) (want : Want) → IsSound db.schema → IsGoodDb db → IsWantFor db.schema want → IsGoodDb (wanted db want)
wanted-good db want sound good fits = elim (is_there db want) as (λ b. IsGoodDb (cond b db (added db want))) [
  | true ↦ good
  | false ↦ added-good db want sound good fits
]

wanted-same : (db : Db) (want : Want) → (wanted db want).schema ≡ db.schema
wanted-same db want = all-wanted-schema db (want ∷ [])

all-good : (schema : SchemaDef) (db : Db) (wants : List Want) → db.schema ≡ schema → IsSound schema → IsGoodDb db → AllByRecursion (IsWantFor schema) wants → IsGoodDb (all_wanted db wants)
all-good schema db [] same sound good all = good
all-good schema db (want ∷ wants) same sound good all =
    all-good schema (wanted db want) wants (wanted-same db want ∙ same) sound
    (wanted-good db want (subst IsSound (sym same) sound) good (subst (λ (s : SchemaDef). IsWantFor s want) (sym same) all.0))
    all.1

-- Settings

setting-good : (table : TableNo) (id : RecordId) (db : Db) (setting : Setting) → IsGoodDb db → IsSetting db.schema table setting → IsGoodDb (with_setting table id db setting)
setting-good table id db setting good fits =
    good-changed table.0 (changed_in id.0 (with_cell setting.0 cell)) (forms_in db.schema) db.tables step good
  where
    cell : Cell
    cell = kept db (column_target db.schema table setting.0) setting.1

    step : (form : Form) (records : Records) → slice_get (forms_in db.schema) table.0 ≡ Some form → AreGood form records → AreGood form (changed_in id.0 (with_cell setting.0 cell) records)
    step form records is all =
        let home = form-at db.schema table.0 form is in
        let shapes : form.1 ≡ shapes_at db.schema table = ap (λ (f : Form). f.1) (sym home.2) ∙ ap (λ (o : Option TableDef). option_map_or (shapes_of db.schema) o []) (sym home.1) in
        good-in form (with_cell setting.0 cell) id.0 records
        (λ found is. record { keyed = is.keyed; cells = set-cells form.1 found.cells setting.0.0 cell is.cells (set-fits db (column_target db.schema table setting.0) db.schema table setting form.1 cell shapes refl fits) })
        all

settings-good : (table : TableNo) (id : RecordId) (db : Db) (settings : List Setting) → IsGoodDb db → AllByRecursion (IsSetting db.schema table) settings → IsGoodDb (fold (with_setting table id) db settings)
settings-good table id db [] good all = good
settings-good table id db (setting ∷ settings) good all = settings-good table id (with_setting table id db setting) settings (setting-good table id db setting good all.0) all.1

settings-same : (table : TableNo) (id : RecordId) (db : Db) (settings : List Setting) → (fold (with_setting table id) db settings).schema ≡ db.schema
settings-same table id db [] = refl
settings-same table id db (setting ∷ settings) = settings-same table id (with_setting table id db setting) settings

-- Texts

within-utf8 : (text : List ℕ) (o : Option ℕ) → MatchOption o ⊥ (λ limit. IsTextWithin limit text) → IsUtf8 text
within-utf8 text None fits = absurd fits
within-utf8 text (Some limit) fits = fits.utf8

cell-utf8 : (shape : Option Shape) (cell : Cell) (text : List ℕ) → IsCellIn shape (Some cell) → text_of_cell cell ≡ Some text → IsUtf8 text
cell-utf8 None cell text fits is = absurd cc
cell-utf8 (Some shape) (Cell.Bool truth) text fits is = absurd cc
cell-utf8 (Some shape) (Cell.Int number) text fits is = absurd cc
cell-utf8 (Some shape) (Cell.Text own) text fits is = subst IsUtf8 (same_Some own text is) (within-utf8 own (text_limit shape.of) fits.1)
cell-utf8 (Some shape) (Cell.Ref id) text fits is = absurd cc
cell-utf8 (Some shape) (Cell.RefList ids) text fits is = absurd cc
cell-utf8 (Some shape) (Cell.IntList numbers) text fits is = absurd cc
cell-utf8 (Some shape) (Cell.TextList texts) text fits is = absurd cc

cells-utf8 : (shapes : List (Option Shape)) (cells : List (Option Cell)) (n : ℕ) (text : List ℕ) → AreCells shapes cells → option_and_then text_of_cell (option_flatten (slice_get cells n)) ≡ Some text → IsUtf8 text
cells-utf8 [] [] n text are is = absurd cc
cells-utf8 [] (cell ∷ cells) n text are is = absurd are
cells-utf8 (shape ∷ shapes) [] n text are is = absurd are
cells-utf8 (shape ∷ shapes) (None ∷ cells) zero text are is = absurd cc
cells-utf8 (shape ∷ shapes) (Some cell ∷ cells) zero text are is = cell-utf8 shape cell text are.0 is
cells-utf8 (shape ∷ shapes) (cell ∷ cells) (suc n) text are is = cells-utf8 shapes cells n text are.1 is

key-utf8 : (of : Option DataType) (key : Option Key) (text : List ℕ) → IsKeyIn of key → option_and_then text_of_key key ≡ Some text → IsUtf8 text
key-utf8 of None text keyed is = absurd cc
key-utf8 of (Some (Key.Number number)) text keyed is = absurd cc
key-utf8 None (Some (Key.Text own)) text keyed is = absurd keyed
key-utf8 (Some type) (Some (Key.Text own)) text keyed is = subst IsUtf8 (same_Some own text is) keyed.utf8

record-utf8 : (form : Form) (found : Record) (field : Field) (text : List ℕ) → IsOfForm form found → text_in found field ≡ Some text → IsUtf8 text
record-utf8 form found Field.Id text good is = absurd cc
record-utf8 form found Field.Key text good is = key-utf8 form.0 found.key text good.keyed is
record-utf8 form found (Field.Column column) text good is = cells-utf8 form.1 found.cells column.0 text good.cells is

-- the texts of a table that is there are UTF-8
good-readable : (db : Db) (table : TableNo) (home : TableDef) → IsGoodDb db → table_at db.schema table ≡ Some home → AreReadable db.tables table
good-readable db table home good there id field text is = found (record_at db.tables table id) refl is
  where
    found : (o : Option Record) → record_at db.tables table id ≡ o → option_and_then (λ one. text_in one field) o ≡ Some text → IsUtf8 text
    found None at is = absurd cc
    found (Some one) at is = record-utf8 (form_in db.schema home) one field text (good-record (form_in db.schema home) (records_of db.tables table) id.0 one (home-good db table home good there) at) is

role-readable : (db : Db) (number : TableNo) (home : TableDef) (role : Role) → IsGoodDb db → IsRole db.schema number home role → IsReadableTarget db.tables role
role-readable db number home (Scalar kind) good is = tt
role-readable db number home (Vector kind) good is = tt
role-readable db number home (Index target sources position section) good is = good-readable db target is.def good is.target_there

-- Forms of a schema that grows

kind-key : (new old : SchemaDef) (to : TableNo) (def : TableDef) → Extends new old → table_at old to ≡ Some def → key_type new to ≡ key_type old to
kind-key new old to def grown there =
    ap (λ (o : Option TableDef). option_and_then (λ (one : TableDef). one.key) o) (table-stays new old grown to def there).1
    ∙ sym (ap (λ (o : Option TableDef). option_and_then (λ (one : TableDef). one.key) o) there)

role-same : (new old : SchemaDef) (number : TableNo) (home : TableDef) (role : Role) → Extends new old → IsRole old number home role → role_shape new role ≡ role_shape old role
role-same new old number home (Scalar (Plain type)) grown is = refl
role-same new old number home (Scalar (Reference to)) grown is =
    ap (option_map (λ (key : DataType). let shape : Shape = record { list = false; of = key; reference = true } in shape)) (kind-key new old to is.1.0 grown is.1.1)
role-same new old number home (Vector (Plain type)) grown is = refl
role-same new old number home (Vector (Reference to)) grown is =
    ap (option_map (λ (key : DataType). let shape : Shape = record { list = true; of = key; reference = true } in shape)) (kind-key new old to is.2.0 grown is.2.1)
role-same new old number home (Index target sources position section) grown is = refl

-- the form of a sound table stays
form-same : (new old : SchemaDef) (n : ℕ) (def : TableDef) → Extends new old → IsSound old → slice_get old.tables n ≡ Some def → form_in new def ≡ form_in old def
form-same new old n def grown sound there =
    ap (λ (shapes : List (Option Shape)). let form : Form = (def.key, shapes) in form)
    (map-alike (λ (one : ColumnDef). role_shape new one.role) (λ one. role_shape old one.role) def.columns
    (λ c one at. role-same new old (table_no n) def one.role grown ((sound.tables n def there).columns c one at).role))

-- A new table

table-good : (db : Db) (def : TableDef) → length def.columns ≡ 0 → IsSound db.schema → IsGoodDb db → IsGoodDb (record { schema = with_table db.schema def; tables = db.tables ++ [] ∷ [] })
table-good db def none sound good =
    let new = with_table db.schema def in
    let forms : forms_in new ≡ forms_in db.schema ++ form_in new def ∷ [] =
    append-map (form_in new) db.schema.tables (def ∷ [])
    ∙ ap (λ (fs : List Form). fs ++ form_in new def ∷ [])
    (map-alike (form_in new) (form_in db.schema) db.schema.tables (λ n one there. form-same new db.schema n one (extends-table db.schema def) sound there)) in
    subst (λ (fs : List Form). AreGoodIn fs (db.tables ++ [] ∷ [])) (sym forms) (good-more (forms_in db.schema) db.tables (form_in new def) [] good tt)

-- A new column

-- a form with one more column
abbrev widened : Option Shape → Form → Form
widened shape form = (form.0, form.1 ++ shape ∷ [])

widen-records : (shape : Option Shape) (form : Form) (records : Records) → IfSome shape IsShape → AreGood form records → AreGood (widened shape form) (with_column_of (option_map default_of shape) records)
widen-records shape form records is all =
    good-map form (widened shape form) (with_one_more (option_map default_of shape)) records
    (λ found good. record { keyed = good.keyed; cells = more-cells form.1 found.cells shape (option_map default_of shape) good.cells (default-in shape is) })
    all

widen-forms : (new old : SchemaDef) (column : ColumnDef) (k : ℕ) (tables : List TableDef) → ((n : ℕ) (def : TableDef) → slice_get tables n ≡ Some def → form_in new def ≡ form_in old def)
    → map (form_in new) (changed_at k (table_with column) tables) ≡ changed_at k (widened (role_shape new column.role)) (map (form_in old) tables)
widen-forms new old column k [] same = refl
widen-forms new old column zero (def ∷ tables) same =
    let rest : map (form_in new) tables ≡ map (form_in old) tables = map-alike (form_in new) (form_in old) tables (λ n one there. same (suc n) one there) in
    let first : form_in new (table_with column def) ≡ widened (role_shape new column.role) (form_in old def) =
    ap (λ (shapes : List (Option Shape)). let form : Form = (def.key, shapes) in form) (append-map (λ (one : ColumnDef). role_shape new one.role) def.columns (column ∷ []))
    ∙ ap (widened (role_shape new column.role)) (same zero def refl) in
    ap (λ (f : Form). f ∷ map (form_in new) tables) first ∙ ap (λ (fs : List Form). widened (role_shape new column.role) (form_in old def) ∷ fs) rest
widen-forms new old column (suc k) (def ∷ tables) same =
    ap (λ (f : Form). f ∷ map (form_in new) (changed_at k (table_with column) tables)) (same zero def refl)
    ∙ ap (λ (fs : List Form). form_in old def ∷ fs) (widen-forms new old column k tables (λ n one there. same (suc n) one there))

blank-good : (db : Db) (table : TableNo) (column : ColumnDef) → IsSound db.schema → IfSome (role_shape (with_column db.schema table column) column.role) IsShape → IsGoodDb db → IsGoodDb (with_blank_column db table column)
blank-good db table column sound shaped good =
    let new = with_column db.schema table column in
    let shape = role_shape new column.role in
    subst (λ (fs : List Form). AreGoodIn fs (changed_at table.0 (with_column_of (option_map default_of shape)) db.tables))
    (sym (widen-forms new db.schema column table.0 db.schema.tables (λ n one there. form-same new db.schema n one (extends-column db.schema table column) sound there)))
    (good-both table.0 (widened shape) (with_column_of (option_map default_of shape)) (forms_in db.schema) db.tables (λ form records all. widen-records shape form records shaped all) good)

-- a new column has a sound role
new-role : (schema : SchemaDef) (table : TableNo) (column : ColumnDef) → IsColumnFor schema table column → IsSound (with_column schema table column)
    → (home : TableDef) × IsRole (with_column schema table column) table (table_with column home) column.role
new-role schema table column wished sound =
    let home = column-home schema table column wished in
    let there : slice_get (changed_at table.0 (table_with column) schema.tables) table.0 ≡ Some (table_with column home.0) =
    get-changed table.0 (table_with column) schema.tables ∙ ap (option_map (table_with column)) home.1 in
    (home.0, ((sound.tables table.0 (table_with column home.0) there).columns (length home.0.columns) column (get-end home.0.columns column)).role)

-- an index column of a sound schema reads texts that are UTF-8
column-readable : (db : Db) (table : TableNo) (column : ColumnDef) → IsSound (with_column db.schema table column) → IsColumnFor db.schema table column → IsGoodDb (with_blank_column db table column) → IsReadableTarget (with_blank_column db table column).tables column.role
column-readable db table column sound wished good =
    let role = new-role db.schema table column wished sound in
    role-readable (with_blank_column db table column) table (table_with column role.0) column.role good role.1

column-good : (db : Db) (table : TableNo) (column : ColumnDef) → IsSound db.schema → IsSound (with_column db.schema table column) → IsColumnFor db.schema table column → IsGoodDb db → IsGoodDb (column_made db table column)
column-good db table column sound grown wished good =
    let new = with_column db.schema table column in
    let shaped : IfSome (role_shape new column.role) IsShape =
    subst (λ (o : Option Shape). IfSome o IsShape) (sym (role-shape-column db.schema table column column.role)) (column-shape db.schema table column wished grown) in
    let blank_good = blank-good db table column sound shaped good in
    let index : TableNo × ColumnNo = (table, column_no (column_count db.schema table)) in
    all-good new (with_blank_column db table column) (column_wants db (with_blank_column db table column) table column) refl grown blank_good
    (new-index-fits new (with_blank_column db table column).tables index column.role grown (column-readable db table column grown wished blank_good))

-- All changes

or-none : (first other : Option Fault) → option_or first other ≡ None → first ≡ None
or-none None other is = refl
or-none (Some fault) other is = is

made-good : (db : Db) (wish : ColumnWish) (o : Option (TableNo × ColumnDef)) → column_fault db.schema wish ≡ None → column_of db.schema wish ≡ o → IsSound db.schema
    → IsSound (option_map_or (λ made. column_made db made.0 made.1) o db).schema → IsGoodDb db → IsGoodDb (option_map_or (λ made. column_made db made.0 made.1) o db)
made-good db wish None faultless is sound grown good = good
made-good db wish (Some made) faultless is sound grown good =
    column-good db made.0 made.1 sound (subst IsSound (made-schema db made.0 made.1) grown) (record { wish = wish; faultless = faultless; meant = is }) good

put-good : (db : Db) (table : TableNo) (key : Option Key) (settings : List Setting) → IsSound db.schema → IsGoodDb db → IsPut db.schema table key settings → IsGoodDb (put db table key settings)
put-good db table key settings sound good valid =
    let records = record_wants db.schema table key settings in
    let fit = record-fits db.schema table key settings valid in
    let found = all_wanted db records in
    let found_same : found.schema ≡ db.schema = all-wanted-schema db records in
    let found_good = all-good db.schema db records refl sound good fit in
    let id = own_id found table key in
    let set = fold (with_setting table id) found settings in
    let set_same : set.schema ≡ db.schema = settings-same table id found settings ∙ found_same in
    let set_good = settings-good table id found settings found_good (subst (λ (s : SchemaDef). AllByRecursion (IsSetting s table) settings) (sym found_same) valid.settings_fit) in
    all-good db.schema set (token_wants db.schema table settings (all_added db records)) set_same sound set_good
    (token-fits db.schema table settings (all_added db records) sound (settings-readable db.schema table settings valid.settings_fit) (added-readable db.schema db records fit))

delete-good : (db : Db) (table : TableNo) (o : Option RecordId) → IsGoodDb db → IsGoodDb (option_map_or (λ id. changed_table table (without id.0) db) o db)
delete-good db table None good = good
delete-good db table (Some id) good = good-changed table.0 (without id.0) (forms_in db.schema) db.tables (λ form records is all. good-without form id.0 records all) good

-- a change that was made leaves each record to its form
pub change-good : (limits : Limits) (db : Db) (change : Change) → IsSound db.schema → IsSound (apply db change).schema → IsGoodDb db → IsValid db.schema change → change_fault limits db change ≡ None → IsGoodDb (apply db change)
change-good limits db (CreateTable wish) sound grown good valid none = table-good db (table_of wish) refl sound good
change-good limits db (CreateColumn wish) sound grown good valid none =
    made-good db wish (column_of db.schema wish) (or-none (column_fault db.schema wish) (option_and_then (λ made. index_fault limits db made.0 made.1) (column_of db.schema wish)) none) refl sound grown good
change-good limits db (Put table key settings) sound grown good valid none = put-good db table key settings sound good valid
change-good limits db (Delete table by) sound grown good valid none = delete-good db table (id_which db table by) good
change-good limits db (DeleteIf table id condition) sound grown good valid none = delete-good db table (id_if db table id condition) good
change-good limits db (Merge table column from to) sound grown good valid none = good

-- What fits

-- a database whose records keep to the forms fits its schema
pub good-fitting : (db : Db) → IsSound db.schema → IsGoodDb db → IsFitting db
good-fitting db sound good = record {
  sound = sound;
  tables = good-length (forms_in db.schema) db.tables good ∙ length-map db.schema.tables (form_in db.schema);
  records = λ table home id found there at. fits table home found (good-record (form_in db.schema home) (records_of db.tables table) id.0 found (home-good db table home good there) at);
}
  where
    fits : (table : TableNo) (home : TableDef) (found : Record) → IsOfForm (form_in db.schema home) found → FitsTable db.schema home found
    fits table home found is = record {
      keyed = key-for home found.key is.keyed;
      cells = λ column def shape at shaped. cell-at (shapes_of db.schema home) found.cells column.0 shape is.cells
          (slice_get-map (λ (one : ColumnDef). role_shape db.schema one.role) home.columns column.0 ∙ ap (option_map (λ (one : ColumnDef). role_shape db.schema one.role)) at ∙ ap Some shaped);
    }
