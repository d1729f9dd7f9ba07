use Rattle.std.proofs.Common.{◌≡◌, ◌∙◌, List, map, subst, rules}
use Rattle.std.proofs.lemmas.Iterator.{YieldsList-from_slice}
use Rattle.std.proofs.lemmas.Iterator.Consumers.{map_from_collect}
use Rattle.std.proofs.lemmas.List.Sorted.{IsNonDecreasingBy-from_sort_by_key, IsPermutation-map}
use Rattle.std.specs.List.Sorted.{IsPermutation}
use Rattle.std.specs.Prelude.{IfOk}
use Rattle.gr_db.specs.Wants.{Setting}
use Rattle.gr_db.proofs.ByColumnLemmas.{column_of, sorted-by_column, up-behind}
use Rattle.gr_db.proofs.sorted.by_column.Goals as goal

pub returns : goal.returns
returns c =
    let gathered : IfOk c.collect.result (λ v. map (λ s. s.now) v.items ≡ c.args.settings.now) = map_from_collect _ c.collect.ensures.ran (YieldsList-from_slice c.args.settings.now cc) in
    let same : map (λ s. s.now) c.in_ok-sorted.sorted.items ≡ c.args.settings.now = rw c.in_ok-sorted.was at gathered in
    let permuted = IsPermutation-map (λ s. s.now) c.in_ok-sorted.sorted.items c.sort_by_key.new.self.items c.in_ok-sort_by_key.ensures.permutation in
    sorted-by_column c.args.settings.now (map (λ s. s.now) c.sort_by_key.new.self.items) c.requires
    (rw same at permuted)
    (up-behind (λ s. s.now) c.sort_by_key.new.self.items (IsNonDecreasingBy-from_sort_by_key (λ s. column_of s.now) _ c.in_ok-sort_by_key.ensures.sorted (λ a r q k. search rules)))
