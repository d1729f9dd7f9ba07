use Rattle.std.proofs.Common.{◌∙◌, ◌-◌, ap, drop, map, sym, take, take_all}
use Rattle.std.proofs.lemmas.List.{drop-map, take-map}
use Rattle.gr_sort.specs.declared.row.Row.{Row}
use Rattle.gr_sort.proofs.sorting.hits_of.Goals as goal

pub returns : goal.returns
returns c =
    let hit = λ (row : Row). row.hit in
    let n = c.args.end - c.args.first in
    let rest = drop c.args.first c.args.rows.now in
    c.loop-row.invariant ∙ ap (map hit) (take_all c.loop-row.row-index (take n rest) c.loop-row-test.false)
    ∙ sym (take-map hit n rest) ∙ ap (take n) (sym (drop-map hit c.args.first c.args.rows.now))
