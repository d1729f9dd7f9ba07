use Rattle.std.proofs.Common.{◌≡◌, ◌∙◌, List, ap, arith, length, map, subst, sym, take}
use Rattle.std.proofs.lemmas.List.{take_all}
use Rattle.std.specs.List.{AllByRecursion}
use Rattle.gr_drill.specs.Drilldowns.{column_at}
use Rattle.gr_drill.specs.Inside.Fitting.{IsShownFor}
use Rattle.gr_drill.specs.declared.drilldown.GroupColumn.{GroupColumn}
use Rattle.gr_drill.proofs.FittingLemmas.{columns-shown}
use Rattle.gr_drill.proofs.columns.columns_at.Goals as goal

pub returns-clause-fit : goal.returns-clause-fit
returns-clause-fit c =
    let made : c.from_vec.result ≡ map column_at c.args.columns.now = c.from_vec.ensures ∙ c.loop-column.invariant ∙ ap (map column_at) (take_all c.loop-column.column-index c.args.columns.now (omega (arith, c.loop-column-test.false, ap length c.as_slice-column-items.ensures))) in
    subst (λ (made : List GroupColumn). AllByRecursion (IsShownFor c.args.schema.now) made) (sym made) (columns-shown c.args.schema.now c.args.columns.now c.requires)
