use Rattle.std.proofs.Common.{◌≡◌, ◌∙◌, eqb}
use Rattle.std.specs.List.{dedup}
use Rattle.std.proofs.lemmas.List.Filters.{dedup_is}
use Rattle.std.proofs.lemmas.List.Sorted.{IsPermutation-sym}
use Rattle.gr_key_tree.proofs.Maps.{if_ok}
use Rattle.gr_key_tree.proofs.Maps.{in_order_by}
use Rattle.gr_key_tree.proofs.ids.in_order.Goals as goal

pub returns : goal.returns
returns c =
    let sorted = c.sort_unstable.new.self.items in
    let once : c.dedup.new.self.items ≡ dedup eqb sorted = dedup_is eqb sorted c.dedup.new.self.items c.dedup.ensures.filtered in
    if_ok c.ids_of.result
    (λ ids is. in_order_by c.args.numbers.items sorted ids c.sort_unstable.ensures.permutation (IsPermutation-sym _ _ c.sort_unstable.ensures.permutation) c.sort_unstable.ensures.sorted (is ∙ c.as_slice.ensures.value ∙ once))
    c.ids_of.ensures
