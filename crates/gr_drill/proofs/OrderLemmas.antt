-- The order of groups is total, and leaves none out.
use Rattle.std.proofs.Common.{◌≡◌, ℕ, ◌+◌, suc, List, [], ◌∷◌, is_lt, length, nat_cmp, refl, ap, ◌∙◌}
use Rattle.std.proofs.lemmas.List.Sorted.{length_permutation, ranks_by}
use Rattle.std.specs.Cmp.{IsStrictWeakOrder, IsTotalOrder, nat_cmp_total, on_total, then_total}
use Rattle.gr_drill.specs.Block.{Numbered, group_cmp, item_worth, numbered_from, ordered}
use Rattle.gr_drill.specs.declared.drilldown.GroupSortKey.{GroupSortKey}
use Rattle.gr_expr.specs.Tables.{Records}
use Rattle.gr_expr.specs.declared.groups.Group.{Group}
use Rattle.gr_sort.proofs.OrderLemmas.{IsPermutation-in_order}
use Rattle.gr_sort.proofs.TotalLemmas.{turned_total, worth_total}

group_total : (tables : List Records) (keys : List GroupSortKey) → IsTotalOrder (group_cmp tables keys)
group_total tables [] = on_total (λ (group : Numbered). group.0) nat_cmp_total
group_total tables (key ∷ keys) =
    then_total (turned_total key.descending (on_total (λ (group : Numbered). item_worth tables group key.item) worth_total)) (group_total tables keys)

-- so that a sort may go by it
pub group_weak : (tables : List Records) (keys : List GroupSortKey) → IsStrictWeakOrder (λ x y. is_lt (group_cmp tables keys x y))
group_weak tables keys = ranks_by (group_total tables keys) (λ (group : Numbered). group)

length-numbered : (n : ℕ) (groups : List Group) → length (numbered_from n groups) ≡ length groups
length-numbered n [] = refl
length-numbered n (group ∷ groups) = ap suc (length-numbered (n + 1) groups)

-- as many groups stand in order
pub length-ordered : (tables : List Records) (keys : List GroupSortKey) (groups : List Group) → length (ordered tables keys (numbered_from 1 groups)) ≡ length groups
length-ordered tables keys groups =
    length_permutation (numbered_from 1 groups) (ordered tables keys (numbered_from 1 groups)) (IsPermutation-in_order (group_cmp tables keys) (numbered_from 1 groups)) ∙ length-numbered 1 groups
