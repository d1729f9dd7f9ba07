use Rattle.std.proofs.Common.{is_lt, rules}
use Rattle.std.proofs.lemmas.Fn.{always_returns_same}
use Rattle.gr_drill.specs.Block.{Numbered, group_cmp}
use Rattle.gr_drill.proofs.OrderLemmas.{group_weak}
use Rattle.gr_sort.proofs.OrderLemmas.{in_order-sorted}
use Rattle.gr_drill.proofs.worths.sort.Goals as goal

pub returns : goal.returns
returns g c =
    let cmp = group_cmp (g.R.Rows.tables c.args.rows.now) c.args.keys.now in
    let weak = group_weak (g.R.Rows.tables c.args.rows.now) c.args.keys.now in
    let sorted = c.in_ok-sort_by.ensures.sorted (λ (x y : Numbered). is_lt (cmp x y)) weak (always_returns_same _ _ _ (λ a r f k. search rules)) in
    let stable = c.in_ok-sort_by.ensures.stable (λ (x y : Numbered). is_lt (cmp x y)) weak (always_returns_same _ _ _ (λ a r f k. search rules)) in
    in_order-sorted cmp weak c.args.groups.now.items c.sort_by.new.self.items sorted stable
