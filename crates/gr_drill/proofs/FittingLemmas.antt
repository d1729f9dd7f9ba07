-- What names stand for fits the rows.
use Rattle.std.proofs.Common.{◌≡◌, ℕ, List, [], ◌∷◌, map, Option, Some, None, Ok, refl, ap, sym, subst, ◌∙◌}
use Rattle.std.proofs.lemmas.Option.{none-some}
use Rattle.std.specs.List.{AllByRecursion, slice_split}
use Rattle.std.specs.Option.{ok_or, option_and_then, option_map}
use Rattle.gr_base.specs.Failure.{Answers}
use Rattle.gr_base.specs.declared.fault.Fault.{Fault}
use Rattle.gr_base.specs.declared.numbers.TableNo.{TableNo}
use Rattle.gr_db.specs.Db.{Db}
use Rattle.gr_db.specs.Fitting.{IsFitting}
use Rattle.gr_db.proofs.Fitting.{path_of-fits}
use Rattle.gr_db.proofs.Grows.{extends-itself}
use Rattle.gr_drill.specs.Drilldowns.{column_at, path_at, shown_at}
use Rattle.gr_drill.specs.Fits.{FitsItem, IsShown}
use Rattle.gr_drill.specs.Inside.Fitting.{IsShownFor}
use Rattle.gr_drill.specs.declared.drilldown.GroupColumn.{GroupColumn}
use Rattle.gr_expr.specs.Fits.{FitsPath}
use Rattle.gr_expr.specs.Tables.{Records}
use Rattle.gr_print.specs.Fits.{IsPrintable}
use Rattle.gr_print.specs.Fits as printed
use Rattle.gr_print.specs.Inside.Named.{ArePrintable}
use Rattle.gr_print.specs.declared.out_column.OutColumn.{OutColumn}
use Rattle.gr_print.specs.declared.out_column.OutItem.{OutItem}
use Rattle.gr_print.specs.declared.out_column.OutItem.TheVariants.{At, Score}
use Rattle.gr_schema.specs.Paths.{field_end, hop_named, path_from, path_of, way_along, is_dot, after_hop, Way, End}
use Rattle.gr_schema.specs.Schema.{SchemaDef, table_at}
use Rattle.gr_values.specs.declared.path.Path.{Path}

-- a path that is found
pub path-found : (o : Option Path) (fault : Fault) (path : Path) → Answers (Ok path) (ok_or o fault) → o ≡ Some path
path-found None fault path answers = let e = answers.found path refl in absurd (cc)
path-found (Some other) fault path answers = let e = answers.found path refl in cc

-- no path begins at a table that is not there
pub path_of-nowhere : (schema : SchemaDef) (table : TableNo) (text : List ℕ) → table_at schema table ≡ None → path_of schema table text ≡ None
path_of-nowhere schema table text none = ap (option_map (path_from table)) (go (slice_split is_dot text))
  where
    go : (names : List (List ℕ)) → way_along schema table names ≡ None
    go [] = refl
    go (last ∷ []) = ap (λ o. option_map (λ end. let way : Way = record { through = []; end = end } in way) (option_and_then (λ home. field_end schema home last) o)) none
    go (name ∷ next ∷ names) = ap (λ o. option_and_then (λ hop. option_map (after_hop hop) (way_along schema hop.to (next ∷ names))) (option_and_then (λ home. hop_named home name) o)) none

-- a path of a schema fits
pub path-fits : (schema : SchemaDef) (table : TableNo) (text : List ℕ) (path : Path) → path_of schema table text ≡ Some path → (db : Db) → db.schema ≡ schema → IsFitting db → FitsPath db.tables path
path-fits schema table text path found db same fits = path_of-fits db fits db.schema (extends-itself db.schema) table text path (ap (λ s. path_of s table text) same ∙ found)

-- a path from the table that groups refer to
pub path_at-fits : (schema : SchemaDef) (to : Option TableNo) (text : List ℕ) (path : Path) → path_at schema to text ≡ Some path → (db : Db) → db.schema ≡ schema → IsFitting db → FitsPath db.tables path
path_at-fits schema None text path found = absurd (none-some path found)
path_at-fits schema (Some table) text path found = path-fits schema table text path found

item-fits : (tables : List Records) (item : OutItem) → printed.FitsItem tables item → FitsItem tables (shown_at item)
item-fits tables (At path) fits = fits
item-fits tables Score fits = tt

-- columns of records that can be printed can be shown of groups
pub columns-shown : (schema : SchemaDef) (columns : List OutColumn) → ArePrintable schema columns → AllByRecursion (IsShownFor schema) (map column_at columns)
columns-shown schema [] all = tt
columns-shown schema (column ∷ columns) all = (
  λ db same fits. let one = (all db same fits).0 in record { name = one.name; item = item-fits db.tables column.item one.item },
  columns-shown schema columns (λ db same fits. (all db same fits).1),
)

-- columns that fit each database of a schema fit one
pub columns-fit : (schema : SchemaDef) (db : Db) → db.schema ≡ schema → IsFitting db → (columns : List GroupColumn) → AllByRecursion (IsShownFor schema) columns → AllByRecursion (IsShown db.tables) columns
columns-fit schema db same fits [] all = tt
columns-fit schema db same fits (column ∷ columns) all = (all.0 db same fits, columns-fit schema db same fits columns all.1)
