use Rattle.std.proofs.Common.{◌≡◌, ◌∙◌, ℕ, List, ap, drop, length, rules, subst, sym, take}
use Rattle.std.proofs.lemmas.Result.{IfOk-weaker}
use Rattle.std.specs.List.{AllByRecursion}
use Rattle.gr_drill.specs.Block.{Numbered, block, block_of, group_cmp, ordered, numbered_from, shown}
use Rattle.gr_drill.specs.Groups.{groups_of}
use Rattle.gr_drill.specs.Inside.Legible.{IsLegible}
use Rattle.gr_drill.proofs.LegibleLemmas.{all-drop, all-in_order, all-take, legible-groups}
use Rattle.gr_drill.proofs.OrderLemmas.{length-ordered}
use Rattle.gr_print.specs.Block.{window}
use Rattle.gr_print.specs.declared.span.Span.{Span}
use Rattle.gr_drill.proofs.block.group_block.Goals as goal

pub block-requires-clause-legible : goal.block-requires-clause-legible
block-requires-clause-legible g c =
    let tables = g.R.Rows.tables c.args.rows.now in
    let drilldown = c.args.drilldown.now in
    let numbers = numbered_from 1 (groups_of tables drilldown.key c.args.hits.now) in
    let P : Numbered → Type 0 = λ group. IsLegible tables group.1.key in
    let numbered : c.in_ok-groups-2.groups.items ≡ numbers = c.in_ok-groups-2.ensures ∙ ap (numbered_from 1) c.in_ok-groups.ensures in
    let sorted : c.sort.new.groups.items ≡ ordered tables drilldown.order numbers =
    c.in_ok-sort.ensures ∙ ap (λ keys. ordered tables keys c.in_ok-groups-2.groups.items) c.as_slice.ensures ∙ ap (ordered tables drilldown.order) numbered in
    let all : AllByRecursion P (ordered tables drilldown.order numbers) = all-in_order P (group_cmp tables drilldown.order) numbers (legible-groups tables drilldown.key c.requires.key c.args.hits.now) in
    let within : c.within-shown.result.now ≡ take c.window.result.count (drop c.window.result.first (ordered tables drilldown.order numbers)) =
    c.within-shown.ensures ∙ ap (λ groups. take c.window.result.count (drop c.window.result.first groups)) (c.deref.ensures.value ∙ sorted) in
    subst (AllByRecursion P) (sym within)
    (all-take P c.window.result.count (drop c.window.result.first (ordered tables drilldown.order numbers)) (all-drop P c.window.result.first (ordered tables drilldown.order numbers) all))

pub returns : goal.returns
returns g c =
    let schema = c.args.schema.now in
    let tables = g.R.Rows.tables c.args.rows.now in
    let drilldown = c.args.drilldown.now in
    let groups = groups_of tables drilldown.key c.args.hits.now in
    let order = ordered tables drilldown.order (numbered_from 1 groups) in
    let numbered : c.in_ok-groups-2.groups.items ≡ numbered_from 1 groups = c.in_ok-groups-2.ensures ∙ ap (numbered_from 1) c.in_ok-groups.ensures in
    let sorted : c.sort.new.groups.items ≡ order =
    c.in_ok-sort.ensures ∙ ap (λ keys. ordered tables keys c.in_ok-groups-2.groups.items) c.as_slice.ensures ∙ ap (ordered tables drilldown.order) numbered in
    let found : c.len-found.result ≡ length groups = c.len-found.ensures ∙ sym c.deref.ensures.len ∙ ap length (c.deref.ensures.value ∙ sorted) ∙ length-ordered tables drilldown.order groups in
    let asked : c.window.result ≡ window c.len-found.result c.args.offset c.args.limit = search rules in
    let span : c.window.result ≡ window (length groups) c.args.offset c.args.limit = asked ∙ ap (λ found. window found c.args.offset c.args.limit) found in
    let within : c.within-shown.result.now ≡ shown tables drilldown.order c.args.offset c.args.limit groups =
    c.within-shown.ensures ∙ ap (λ groups. take c.window.result.count (drop c.window.result.first groups)) (c.deref.ensures.value ∙ sorted)
    ∙ ap (λ (span : Span). take span.count (drop span.first order)) span in
    let columns : c.as_slice-columns.result.now ≡ drilldown.columns = c.as_slice-columns.ensures in
    let printed : (text : List ℕ) → text ≡ block schema tables drilldown.key.shape.of c.as_slice-columns.result.now c.len-found.result c.within-shown.result.now
    → text ≡ block_of schema tables drilldown c.args.offset c.args.limit groups =
    λ text is. is ∙ ap (λ columns. block schema tables drilldown.key.shape.of columns c.len-found.result c.within-shown.result.now) columns
    ∙ ap (λ found. block schema tables drilldown.key.shape.of drilldown.columns found c.within-shown.result.now) found
    ∙ ap (block schema tables drilldown.key.shape.of drilldown.columns (length groups)) within in
    IfOk-weaker c.block.result _ (λ text. text ≡ block_of schema tables drilldown c.args.offset c.args.limit groups) printed c.block.ensures
