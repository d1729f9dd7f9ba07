-- The data columns of a table, and what their paths are.
use Rattle.std.proofs.Common.{◌≡◌, ℕ, zero, suc, ◌+◌, true, false, List, [], ◌∷◌, ◌++◌, Option, Some, None, Ok, slice_get, drop, append_assoc, refl, sym, ap, subst, ◌∙◌, arith}
use Rattle.std.proofs.lemmas.Option.{same_Some}
use Rattle.std.specs.List.{AllByRecursion}
use Rattle.std.specs.Option.{ok_or, option_map, option_map_or, option_to_list}
use Rattle.std.specs.Prelude.{IsUtf8}
use Rattle.std.specs.Str.{bytes_eq}
use Rattle.gr_base.specs.Failure.{Answers}
use Rattle.gr_base.specs.Fault.{fault_named}
use Rattle.gr_base.specs.declared.fault.FaultKind.TheVariants.{NoSuchColumn}
use Rattle.gr_base.specs.declared.numbers.TableNo.{TableNo}
use Rattle.gr_db.proofs.Fitting.{path_from-fits, path_of-fits, role_end-fits}
use Rattle.gr_db.proofs.Grows.{extends-itself}
use Rattle.gr_print.specs.Columns.{all_name, columns_named, data_column, data_columns, data_columns_from, path_column, score_name}
use Rattle.gr_print.specs.Fits.{IsPrintable}
use Rattle.gr_print.specs.Inside.Named.{ArePrintable}
use Rattle.gr_print.proofs.NamedLemmas.{ArePrintable-more, ArePrintable-none}
use Rattle.gr_print.specs.declared.out_column.OutColumn.{OutColumn}
use Rattle.gr_print.specs.declared.out_column.OutItem.TheVariants.{Score}
use Rattle.gr_schema.specs.Paths.{End, path_from, path_of, role_end}
use Rattle.gr_schema.specs.Schema.{SchemaDef, column_named, column_no, table_at, table_no}
use Rattle.gr_schema.specs.Sound.{IsColumn, IsSound}
use Rattle.gr_schema.specs.declared.definition.ColumnDef.{ColumnDef}
use Rattle.gr_schema.specs.declared.definition.TableDef.{TableDef}
use Rattle.gr_values.specs.declared.path.Field.{Field}
use Rattle.gr_values.specs.declared.path.Path.{Path}

-- it can be printed
pub data_column-fits : (schema : SchemaDef) (table : TableNo) (home : TableDef) (n : ℕ) (def : ColumnDef) → table_at schema table ≡ Some home → slice_get home.columns n ≡ Some def
    → IsUtf8 def.name → ArePrintable schema (option_to_list (data_column schema table n def))
data_column-fits schema table home n def there here utf8 db same fits =
    subst (λ s. AllByRecursion (IsPrintable db.tables) (option_to_list (data_column s table n def))) same
    (go (ap (λ s. table_at s table) same ∙ there) (role_end db.schema (Field.Column (column_no n)) def.role) refl)
  where
    go : table_at db.schema table ≡ Some home → (end : Option End) → role_end db.schema (Field.Column (column_no n)) def.role ≡ end
        → AllByRecursion (IsPrintable db.tables) (option_to_list (option_map (λ end. path_column def.name (path_from table (record { through = []; end = end }))) end))
    go there None e = tt
    go there (Some end) e = (
      record {
        name = utf8;
        item = path_from-fits db fits table (record { through = []; end = end }) (record { hops = tt; end = role_end-fits db fits db.schema (extends-itself db.schema) table home (column_no n) def def.role end there here refl e });
      },
      tt,
    )

-- a list of which some is left
left_at : {X : Type 0} (xs : List X) (n : ℕ) (x : X) (rest : List X) → drop n xs ≡ x ∷ rest → (slice_get xs n ≡ Some x) × (drop (n + 1) xs ≡ rest)
left_at [] zero x rest e = absurd (cc)
left_at [] (suc n) x rest e = absurd (cc)
left_at (y ∷ ys) zero x rest e = (cc, cc)
left_at (y ∷ ys) (suc n) x rest e =
    let more = left_at ys n x rest e in
    let count : suc n + 1 ≡ suc (n + 1) = omega arith in
    (more.0, ap (λ k. drop k (y ∷ ys)) count ∙ more.1)

-- the data columns among the first columns of a table are made, and the others are left
pub record AreMade (schema : SchemaDef) (table : TableNo) (n : ℕ) (made : List OutColumn) (others : List ColumnDef) : Type 0 where
  pub exact : made ++ data_columns_from schema table n others ≡ data_columns schema table
  pub left : (home : TableDef) → table_at schema table ≡ Some home → drop n home.columns ≡ others
  pub fit : ArePrintable schema made

-- none is made
pub AreMade-none : (schema : SchemaDef) (table : TableNo) (home : TableDef) (made : List OutColumn) (others : List ColumnDef) → table_at schema table ≡ Some home → made ≡ []
    → others ≡ home.columns → AreMade schema table 0 made others
AreMade-none schema table home made others there none all = record {
  exact =
      ap (λ xs. xs ++ data_columns_from schema table 0 others) none ∙ ap (data_columns_from schema table 0) all
      ∙ sym (ap (λ o. option_map_or (λ home. data_columns_from schema table 0 home.columns) o []) there);
  left = λ other same. ap (λ (home : TableDef). home.columns) (same_Some other home (sym same ∙ there)) ∙ sym all;
  fit = subst (ArePrintable schema) (sym none) (ArePrintable-none schema);
}

-- one more column is taken
module _ (schema : SchemaDef) (sound : IsSound schema) (table : TableNo) (home : TableDef) (there : table_at schema table ≡ Some home) (n : ℕ) (def : ColumnDef) (rest : List ColumnDef)
    (left : drop n home.columns ≡ def ∷ rest) where
  sound_column : IsColumn schema (table_no table.0) home n def
  sound_column = (sound.tables table.0 home there).columns n def (left_at home.columns n def rest left).0

  -- what is found of it
  pub found_is : (found : Option OutColumn)
      → (slice_get home.columns n ≡ Some def → column_named home def.name ≡ Some (column_no n) → found ≡ data_column schema table n def) → found ≡ data_column schema table n def
  found_is found is = is (left_at home.columns n def rest left).0 sound_column.first

  pub AreMade-more : (m : ℕ) (before after : List OutColumn) (others : List ColumnDef) (found : Option OutColumn) → m ≡ n + 1 → others ≡ def ∷ rest → found ≡ data_column schema table n def
      → after ≡ before ++ option_to_list found → AreMade schema table n before others → AreMade schema table m after rest
  AreMade-more m before after others found next here is same made =
      let one : ArePrintable schema (option_to_list found) =
      subst (λ o. ArePrintable schema (option_to_list o)) (sym is) (data_column-fits schema table home n def there (left_at home.columns n def rest left).0 sound_column.utf8) in
      record {
        exact =
            ap (λ xs. xs ++ data_columns_from schema table m rest) same
            ∙ ap (λ k. (before ++ option_to_list found) ++ data_columns_from schema table k rest) next
            ∙ append_assoc before (option_to_list found) (data_columns_from schema table (n + 1) rest)
            ∙ ap (λ o. before ++ (option_to_list o ++ data_columns_from schema table (n + 1) rest)) is
            ∙ ap (λ xs. before ++ data_columns_from schema table n xs) (sym here) ∙ made.exact;
        left = λ other is_other. ap (λ k. drop k other.columns) next ∙ (left_at other.columns n def rest (made.left other is_other ∙ here)).1;
        fit = subst (ArePrintable schema) (sym same) (ArePrintable-more schema before (option_to_list found) made.fit one);
      }

-- a path that is named can be printed
pub path-fits : (schema : SchemaDef) (table : TableNo) (name text : List ℕ) (path : Path) → path_of schema table text ≡ Some path → IsUtf8 name → ArePrintable schema (path_column name path ∷ [])
path-fits schema table name text path e utf8 db same fits =
    (record { name = utf8; item = path_of-fits db fits db.schema (extends-itself db.schema) table text path (ap (λ s. path_of s table text) same ∙ e) }, tt)

pub score-fits : (schema : SchemaDef) (name : List ℕ) → IsUtf8 name → ArePrintable schema (record { name = name; item = Score } ∷ [])
score-fits schema name utf8 db same fits = (record { name = utf8; item = tt }, tt)

-- what was found, or why nothing was
ok_or-ok : {T E : Type 0} (o : Option T) (why : E) (x : T) → ok_or o why ≡ Ok x → o ≡ Some x
ok_or-ok None why x e = absurd (cc)
ok_or-ok (Some y) why x e = cc

pub path_found : (schema : SchemaDef) (table : TableNo) (name : List ℕ) (path : Path)
    → Answers (Ok path) (ok_or (path_of schema table name) (fault_named NoSuchColumn name)) → path_of schema table name ≡ Some path
path_found schema table name path answers = ok_or-ok (path_of schema table name) (fault_named NoSuchColumn name) path (answers.found path refl)

module _ (schema : SchemaDef) (table : TableNo) (name : List ℕ) where
  -- `_score`
  pub named-score : bytes_eq all_name name ≡ false → bytes_eq score_name name ≡ true → columns_named schema table name ≡ Ok (record { name = name; item = Score } ∷ [])
  named-score other score = rw (other, score) refl

  -- a path
  pub named-path : (path : Path) → bytes_eq all_name name ≡ false → bytes_eq score_name name ≡ false → path_of schema table name ≡ Some path
      → columns_named schema table name ≡ Ok (path_column name path ∷ [])
  named-path path other no_score e = rw (other, no_score, e) refl
