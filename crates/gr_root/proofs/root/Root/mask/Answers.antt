use mir.Syntax.{w128}
use mir.Val.{of_z, to_z}
use Rattle.std.proofs.Common.{ℤ, ◌≡◌, ◌∙◌, None, Some, ap, false, slice_get, subst, sym}
use Rattle.std.proofs.lemmas.Int.{to_z-of_z}
use Rattle.std.specs.Option.{option_copied}
use Rattle.std.specs.Prelude.{IfSome}
use Rattle.gr_db.specs.Apply.{replay}
use Rattle.gr_db.specs.Db.{Db}
use Rattle.gr_root.specs.Inside.Walk.{db_of}
use Rattle.gr_root.specs.Readers.{table_of_db}
use Rattle.gr_root.specs.Root.{Rooted}
use Rattle.gr_root.proofs.ReadersLemmas.{db-is, none-seen, table-seen}
use Rattle.gr_root.proofs.root.Root.mask.Goals as goal
use Rattle.gr_table.specs.Masks.{IsRecordMask, is_whole_column}
use Rattle.gr_table.specs.Table.{TableOf}

pub returns-in-Some : goal.returns-in-Some
returns-in-Some c =
    let root = c.self.inside in
    let found : slice_get root.tables c.args.table.0 ≡ Some c.in-Some.found.now = sym c.get.ensures ∙ ap option_copied c.in-Some.is in
    let db : db_of root.schema root.tables ≡ replay c.args.self.now.journal =
    db-is root.schema root.tables (replay root.journal) c.self.invariant.schema c.self.invariant.tables ∙ ap (λ (seen : Rooted). replay seen.journal) c.self.view_is in
    let seen : c.in-Some.found.now ≡ table_of_db (replay c.args.self.now.journal) c.args.table =
    table-seen root.schema root.tables c.args.table c.in-Some.found.now found c.self.invariant.formed ∙ ap (λ (d : Db). table_of_db d c.args.table) db in
    record {
      whole = c.mask.ensures.whole ∙ ap (λ (t : TableOf). is_whole_column t.shapes c.args.column) seen;
      exact = subst (λ (z : ℤ). IfSome c.mask.result (IsRecordMask (table_of_db (replay c.args.self.now.journal) c.args.table) c.args.column c.args.block c.args.cmp z)) (to_z-of_z w128 c.args.against c.ranges.against)
          (subst (λ (t : TableOf). IfSome c.mask.result (IsRecordMask t c.args.column c.args.block c.args.cmp (to_z w128 (of_z w128 c.args.against)))) seen c.mask.ensures.exact);
    }

pub returns-in-None : goal.returns-in-None
returns-in-None c =
    let root = c.self.inside in
    let none : slice_get root.tables c.args.table.0 ≡ None = sym c.get.ensures ∙ ap option_copied c.in-None.is in
    let db : db_of root.schema root.tables ≡ replay c.args.self.now.journal =
    db-is root.schema root.tables (replay root.journal) c.self.invariant.schema c.self.invariant.tables ∙ ap (λ (seen : Rooted). replay seen.journal) c.self.view_is in
    record {
      whole = sym (sym (ap (λ (d : Db). is_whole_column (table_of_db d c.args.table).shapes c.args.column) db) ∙ none-seen root.schema root.tables c.args.table c.args.column none c.self.invariant.formed);
      exact = tt;
    }
