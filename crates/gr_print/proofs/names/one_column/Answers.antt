use Rattle.std.proofs.Common.{◌≡◌, ◌∷◌, [], ℕ, true, false, List, Some, ap, sym, subst, ◌∙◌}
use Rattle.std.specs.Str.{bytes_eq}
use Rattle.gr_print.specs.Columns.{columns_named, score_name}
use Rattle.gr_print.specs.Inside.Named.{ArePrintable}
use Rattle.gr_print.specs.declared.out_column.OutColumn.{OutColumn}
use Rattle.gr_print.specs.declared.out_column.OutItem.{OutItem}
use Rattle.gr_print.specs.declared.out_column.OutItem.TheVariants.{At, Score}
use Rattle.gr_print.proofs.DataLemmas.{named-path, named-score, path-fits, path_found, score-fits}
use Rattle.gr_print.proofs.NamedLemmas.{Answers-found}
use Rattle.gr_schema.specs.Paths.{path_of}
use Rattle.gr_print.proofs.names.one_column.Goals.{then-eq, else-eq+in_ok-resolve}
use Rattle.gr_print.proofs.names.one_column.Goals as goal

abbrev column_of : List ℕ → OutItem → List OutColumn
column_of name item = record { name = name; item = item } ∷ []

-- the column that is made
made : (c : goal.After-from_vec) (item : OutItem) → c.if-eq.item ≡ item → c.from_vec.result ≡ column_of c.args.name.now item
made c item is =
    c.from_vec.ensures ∙ c.in_ok-vec.ensures.items ∙ ap (λ name. column_of name c.if-eq.item) (c.in_ok-name.ensures ∙ c.as_bytes-2.ensures.value)
    ∙ ap (column_of c.args.name.now) is

pub returns-clause-exact : goal.returns-clause-exact
returns-clause-exact c = λ other.
    let schema = c.args.schema.now in
    let table = c.args.table in
    let name = c.args.name.now in
    elim c.if-eq.branch [
      | then-eq w ↦
          let score : bytes_eq score_name name ≡ true = sym c.eq.ensures ∙ w.if-eq.true in
          Answers-found (columns_named schema table name) c.from_vec.result (column_of name Score) (named-score schema table name other score) (made c Score w.item-is)
      | else-eq+in_ok-resolve w ↦
          let path = w.in_ok-resolve.field-0 in
          let score : bytes_eq score_name name ≡ false = sym c.eq.ensures ∙ w.if-eq.false in
          let there : path_of schema table name ≡ Some path =
          ap (path_of schema table) (sym w.as_bytes.ensures.value) ∙ path_found schema table w.as_bytes.result.now path w.in_ok-resolve.ensures in
          Answers-found (columns_named schema table name) c.from_vec.result (column_of name (At path)) (named-path schema table name path other score there) (made c (At path) w.item-is)
    ]

pub returns-clause-fit : goal.returns-clause-fit
returns-clause-fit c =
    let schema = c.args.schema.now in
    let table = c.args.table in
    let name = c.args.name.now in
    let printable : ArePrintable schema c.from_vec.result =
    elim c.if-eq.branch [
      | then-eq w ↦ subst (ArePrintable schema) (sym (made c Score w.item-is)) (score-fits schema name c.utf8.name)
      | else-eq+in_ok-resolve w ↦
          let path = w.in_ok-resolve.field-0 in
          subst (ArePrintable schema) (sym (made c (At path) w.item-is))
          (path-fits schema table name w.as_bytes.result.now path (path_found schema table w.as_bytes.result.now path w.in_ok-resolve.ensures) c.utf8.name)
    ] in
    printable
