use Rattle.std.proofs.Common.{◌≡◌, List, IfOk, arith, length, subst, take}
use Rattle.std.proofs.lemmas.List.{take_all}
use Rattle.std.proofs.lemmas.List.Sorted.{length_permutation}
use Rattle.gr_print.specs.Block.{Hit}
use Rattle.gr_sort.specs.Order.{ordered}
use Rattle.gr_select.proofs.showing.all_sorted.Goals as goal

pub returns : goal.returns
returns g c =
    let hits = c.args.hits.now in
    let sorted = ordered (g.R.Rows.tables c.args.rows.now) c.args.keys.now hits in
    let long : length sorted ≡ length hits = length_permutation hits sorted (c.order_keeps_and_sorts.ensures.same (g.R.Rows.tables c.args.rows.now) c.args.keys.now hits) in
    let all : take (length hits) sorted ≡ sorted = take_all (length hits) sorted (omega (arith, long)) in
    subst (λ (shown : List Hit). IfOk c.sorted.result (λ made. made.items ≡ shown)) all c.sorted.ensures
