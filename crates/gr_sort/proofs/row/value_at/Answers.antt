use Rattle.std.proofs.Common.{◌∙◌, ap, drop, map, sym}
use Rattle.gr_sort.specs.Inside.Rows.{first_worth, worth}
use Rattle.gr_sort.proofs.RowLemmas.{first_worth-drop}
use Rattle.gr_sort.proofs.row.value_at.Goals as goal

pub returns-in-Some : goal.returns-in-Some
returns-in-Some c =
    let item = c.in-Some.ensures.lookup in
    sym (ap (λ xs. first_worth (drop c.args.at (map worth xs))) (sym c.deref.ensures.value) ∙ first_worth-drop c.deref.result.now c.args.at c.in-Some.value.now item.3.0 item.1)
