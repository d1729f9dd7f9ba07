-- Tables of which one is changed: their records, their forms, and how many ids were given.
use Rattle.std.proofs.Common.{◌≡◌, ℕ, ◌+◌, ◌≤◌, ◌<◌, zero, suc, Option, Some, None, List, [], ◌∷◌, ◌++◌, length, map, slice_get, slice_set, refl, ap, sym, ◌∙◌, arith}
use Rattle.std.proofs.lemmas.Option.{slice_get-map}
use Rattle.std.specs.List.{AllByRecursion}
use Rattle.std.specs.Option.{option_and_then, option_map, option_map_or}
use Rattle.gr_base.specs.declared.numbers.TableNo.{TableNo}
use Rattle.gr_db.specs.Db.{shapes_at, shapes_of}
use Rattle.gr_expr.specs.Tables.{Records, records_of}
use Rattle.gr_root.specs.Inside.Sound.{AreFormed, AreWithin, Form, form_in, form_of, records_in}
use Rattle.gr_schema.specs.Paths.{key_type}
use Rattle.gr_schema.specs.Schema.{SchemaDef, changed_at, table_at}
use Rattle.gr_schema.specs.declared.definition.TableDef.{TableDef}
use Rattle.gr_table.specs.Table.{TableOf}
use Rattle.gr_values.specs.declared.data_type.DataType.{DataType}
use Rattle.gr_values.specs.declared.data_type.Shape.{Shape}

-- the records of a table that is there
pub records-at : (tables : List TableOf) (n : TableNo) (table : TableOf) → slice_get tables n.0 ≡ Some table → records_of (records_in tables) n ≡ table.records
records-at tables n table there =
    ap (λ (o : Option Records). option_map_or (λ records. records) o []) (slice_get-map (λ (t : TableOf). t.records) tables n.0 ∙ ap (option_map (λ (t : TableOf). t.records)) there)

-- a table put in its place
pub set-same : (tables : List TableOf) (n : ℕ) (table : TableOf) → slice_get tables n ≡ Some table → slice_set tables n table ≡ tables
set-same [] n table there = refl
set-same (first ∷ tables) zero table there = let same : first ≡ table = cc in ap (λ t. t ∷ tables) (sym same)
set-same (first ∷ tables) (suc n) table there = ap (λ ts. first ∷ ts) (set-same tables n table there)

-- the records of tables of which one has other records
pub records-set : (tables : List TableOf) (n : ℕ) (before after : TableOf) (change : Records → Records) → slice_get tables n ≡ Some before → after.records ≡ change before.records
    → records_in (slice_set tables n after) ≡ changed_at n change (records_in tables)
records-set [] n before after change there is = refl
records-set (first ∷ tables) zero before after change there is =
    let same : first ≡ before = cc in
    let changed : after.records ≡ change first.records = is ∙ ap (λ (t : TableOf). change t.records) (sym same) in
    ap (λ rs. rs ∷ records_in tables) changed
records-set (first ∷ tables) (suc n) before after change there is = ap (λ ts. first.records ∷ ts) (records-set tables n before after change there is)

-- the forms of tables of which one has another table of its form
pub forms-set : (tables : List TableOf) (n : ℕ) (before after : TableOf) → slice_get tables n ≡ Some before → form_of after ≡ form_of before → map form_of (slice_set tables n after) ≡ map form_of tables
forms-set [] n before after there is = refl
forms-set (first ∷ tables) zero before after there is =
    let same : first ≡ before = cc in
    ap (λ (f : Form). f ∷ map form_of tables) (is ∙ ap form_of (sym same))
forms-set (first ∷ tables) (suc n) before after there is = ap (λ fs. form_of first ∷ fs) (forms-set tables n before after there is)

-- tables of which one has another table within the limit
pub within-set : (limit : ℕ) (tables : List TableOf) (n : ℕ) (after : TableOf) → length after.records ≤ limit → AreWithin limit tables → AreWithin limit (slice_set tables n after)
within-set limit [] n after few within = tt
within-set limit (first ∷ tables) zero after few within = (few, within.1)
within-set limit (first ∷ tables) (suc n) after few within = (within.0, within-set limit tables n after few within.1)

pub within-at : (limit : ℕ) (tables : List TableOf) (n : ℕ) (table : TableOf) → slice_get tables n ≡ Some table → AreWithin limit tables → length table.records ≤ limit
within-at limit [] n table there within = absurd cc
within-at limit (first ∷ tables) zero table there within =
    let same : first ≡ table = cc in
    let few : length first.records ≤ limit = within.0 in
    let long : length first.records ≡ length table.records = ap (λ (t : TableOf). length t.records) same in
    omega arith
within-at limit (first ∷ tables) (suc n) table there within = within-at limit tables n table there within.1

-- the table of a definition, with its form
pub record IsFormed (schema : SchemaDef) (tables : List TableOf) (n : TableNo) (home : TableDef) : Type 0 where
  pub table : TableOf
  pub there : slice_get tables n.0 ≡ Some table
  pub key : table.key ≡ home.key
  pub shapes : table.shapes ≡ shapes_at schema n

formed-by : (schema : SchemaDef) (tables : List TableOf) (n : TableNo) (home : TableDef) (o : Option TableOf) → slice_get tables n.0 ≡ o → option_map form_of o ≡ Some (form_in schema home) → table_at schema n ≡ Some home → IsFormed schema tables n home
formed-by schema tables n home None is form found = absurd cc
formed-by schema tables n home (Some table) is form found =
    let same : form_of table ≡ form_in schema home = cc in
    record {
      table = table;
      there = is;
      key = ap (λ (f : Form). f.0) same;
      shapes = ap (λ (f : Form). f.1) same ∙ ap (λ (o : Option TableDef). option_map_or (shapes_of schema) o []) (sym found);
    }

pub formed-at : (schema : SchemaDef) (tables : List TableOf) (n : TableNo) (home : TableDef) → AreFormed schema tables → table_at schema n ≡ Some home → IsFormed schema tables n home
formed-at schema tables n home formed found =
    formed-by schema tables n home (slice_get tables n.0) refl
    (sym (slice_get-map form_of tables n.0) ∙ ap (λ (fs : List Form). slice_get fs n.0) formed ∙ slice_get-map (form_in schema) schema.tables n.0 ∙ ap (option_map (form_in schema)) found)
    found

-- the table of a number that has keys of a type
pub record IsKeyed (tables : List TableOf) (n : TableNo) (type : DataType) : Type 0 where
  pub table : TableOf
  pub there : slice_get tables n.0 ≡ Some table
  pub key : table.key ≡ Some type

keyed-by : (schema : SchemaDef) (tables : List TableOf) (n : TableNo) (type : DataType) (o : Option TableDef) → table_at schema n ≡ o → AreFormed schema tables → option_and_then (λ def. def.key) o ≡ Some type → IsKeyed tables n type
keyed-by schema tables n type None is formed keyed = absurd cc
keyed-by schema tables n type (Some home) is formed keyed =
    let at : IsFormed schema tables n home = formed-at schema tables n home formed is in
    record { table = at.table; there = at.there; key = at.key ∙ keyed }

pub keyed-at : (schema : SchemaDef) (tables : List TableOf) (n : TableNo) (type : DataType) → AreFormed schema tables → key_type schema n ≡ Some type → IsKeyed tables n type
keyed-at schema tables n type formed keyed = keyed-by schema tables n type (table_at schema n) refl formed keyed
