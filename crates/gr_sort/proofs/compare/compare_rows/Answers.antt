use Rattle.std.proofs.Common.{◌≡◌, ◌∙◌, ◌+◌, Equal, ap, sym, drop, map, get_or}
use Rattle.std.specs.Ordering.{ordering_then}
use Rattle.gr_sort.specs.Inside.Rows.{first_worth, values_cmp, worth}
use Rattle.gr_sort.specs.Order.{turned, worth_cmp}
use Rattle.gr_sort.proofs.RowLemmas.{values_cmp-drop}
use Rattle.gr_sort.proofs.compare.compare_rows.Goals as goal

pub loop-at-preserved : goal.loop-at-preserved
loop-at-preserved c =
    let keys = c.args.keys.now in
    let left = map worth c.args.left.now.values.items in
    let right = map worth c.args.right.now.values.items in
    let n = c.loop-at.at in
    let next = values_cmp-drop keys left right n c.index-keys-at.result c.loop-at-test.true in
    let same : turned (get_or keys n c.index-keys-at.result).descending (worth_cmp (first_worth (drop n left)) (first_worth (drop n right))) ≡ Equal = cc (c.in-Equal.ensures) in
    sym (next ∙ ap (λ o. ordering_then o (values_cmp (drop (n + 1) keys) (drop (n + 1) left) (drop (n + 1) right))) same) ∙ c.loop-at.invariant
