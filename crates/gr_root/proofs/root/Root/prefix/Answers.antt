use Rattle.std.proofs.Common.{◌≡◌, ◌∙◌, None, Some, ap, slice_get, subst, sym}
use Rattle.std.specs.Option.{option_copied}
use Rattle.std.specs.Prelude.{IfOk, List}
use Rattle.gr_db.specs.Apply.{replay}
use Rattle.gr_expr.specs.Tables.{Records, records_of}
use Rattle.gr_root.specs.Inside.Sound.{records_in}
use Rattle.gr_root.specs.Root.{Rooted}
use Rattle.gr_root.proofs.TablesLemmas.{IsKeyed, keyed-at, records-at}
use Rattle.gr_root.proofs.root.Root.prefix.Goals as goal
use Rattle.gr_schema.specs.Paths.{key_type}
use Rattle.gr_schema.specs.Schema.{SchemaDef}
use Rattle.gr_table.specs.Masks.{AreWithPrefix}
use Rattle.gr_table.specs.Table.{TableOf}
use Rattle.gr_values.specs.declared.data_type.DataType.TheVariants.{ShortText}

pub prefix-requires : goal.prefix-requires
prefix-requires c =
    let root = c.self.inside in
    let asked : key_type root.schema c.args.table ≡ Some ShortText =
    ap (λ (schema : SchemaDef). key_type schema c.args.table) c.self.invariant.schema ∙ ap (λ (seen : Rooted). key_type (replay seen.journal).schema c.args.table) c.self.view_is ∙ c.requires in
    let keyed : IsKeyed root.tables c.args.table ShortText = keyed-at root.schema root.tables c.args.table ShortText c.self.invariant.formed asked in
    let found : slice_get root.tables c.args.table.0 ≡ Some c.in-Some.found.now = sym c.get.ensures ∙ ap option_copied c.in-Some.is in
    let both : Some keyed.table ≡ Some c.in-Some.found.now = sym keyed.there ∙ found in
    let same : keyed.table ≡ c.in-Some.found.now = cc both in
    ap (λ (t : TableOf). t.key) (sym same) ∙ keyed.key

pub unreachable-requires : goal.unreachable-requires
unreachable-requires c =
    let root = c.self.inside in
    let asked : key_type root.schema c.args.table ≡ Some ShortText =
    ap (λ (schema : SchemaDef). key_type schema c.args.table) c.self.invariant.schema ∙ ap (λ (seen : Rooted). key_type (replay seen.journal).schema c.args.table) c.self.view_is ∙ c.requires in
    let keyed : IsKeyed root.tables c.args.table ShortText = keyed-at root.schema root.tables c.args.table ShortText c.self.invariant.formed asked in
    let none : slice_get root.tables c.args.table.0 ≡ None = sym c.get.ensures ∙ ap option_copied c.in-None.is in
    let both : Some keyed.table ≡ None = sym keyed.there ∙ none in
    cc both

pub returns : goal.returns
returns c =
    let root = c.self.inside in
    let found : slice_get root.tables c.args.table.0 ≡ Some c.in-Some.found.now = sym c.get.ensures ∙ ap option_copied c.in-Some.is in
    let records : c.in-Some.found.now.records ≡ records_of (replay c.args.self.now.journal).tables c.args.table =
    sym (records-at root.tables c.args.table c.in-Some.found.now found)
    ∙ ap (λ (ts : List Records). records_of ts c.args.table) c.self.invariant.tables
    ∙ ap (λ (seen : Rooted). records_of (replay seen.journal).tables c.args.table) c.self.view_is in
    subst (λ (rs : Records). IfOk c.prefix.result (λ ids. AreWithPrefix rs c.args.prefix.now ids)) records c.prefix.ensures
