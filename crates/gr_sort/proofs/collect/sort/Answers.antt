use Rattle.std.proofs.Common.{◌∙◌, rules, is_lt, ap, map}
use Rattle.std.proofs.lemmas.Fn.{always_returns_same}
use Rattle.gr_sort.specs.Inside.Rows.{keyed_cmp, keyed_row}
use Rattle.gr_sort.specs.declared.row.Row.{Row}
use Rattle.gr_sort.proofs.OrderLemmas.{in_order-sorted, map-in_order}
use Rattle.gr_sort.proofs.TotalLemmas.{row_weak}
use Rattle.gr_sort.proofs.collect.sort.Goals as goal

pub returns : goal.returns
returns c =
    let keys = c.args.keys.now in
    let weak = row_weak keys in
    let sorted = c.in_ok-sort_by.ensures.sorted (λ (x y : Row). is_lt (keyed_cmp keys (keyed_row x) (keyed_row y))) weak (always_returns_same _ _ _ (λ a r f k. search rules)) in
    let stable = c.in_ok-sort_by.ensures.stable (λ (x y : Row). is_lt (keyed_cmp keys (keyed_row x) (keyed_row y))) weak (always_returns_same _ _ _ (λ a r f k. search rules)) in
    ap (map keyed_row) (in_order-sorted (λ (x y : Row). keyed_cmp keys (keyed_row x) (keyed_row y)) weak c.args.rows.now.items c.sort_by.new.self.items sorted stable)
    ∙ map-in_order (keyed_cmp keys) keyed_row c.args.rows.now.items
