use Rattle.std.proofs.lemmas.Result.{IfOk-weaker}
use Rattle.std.specs.List.{AllByRecursion}
use Rattle.gr_print.specs.Columns.{listed}
use Rattle.gr_sort.specs.Inside.Named.{AreSortable}
use Rattle.gr_sort.specs.Keys.{IsSortable}
use Rattle.gr_sort.proofs.KeyLemmas.{Adds-all}
use Rattle.gr_sort.proofs.keys.order.Goals as goal

pub returns-clause-exact : goal.returns-clause-exact
returns-clause-exact c = Adds-all c.args.schema.now c.args.table (listed c.args.text.now) c.listed_keys.result c.listed_keys.ensures.exact

pub returns-clause-fit : goal.returns-clause-fit
returns-clause-fit c = λ db same fits.
    IfOk-weaker c.listed_keys.result (AreSortable c.args.schema.now) (AllByRecursion (IsSortable db.tables)) (λ keys sortable. sortable db same fits) c.listed_keys.ensures.fit
