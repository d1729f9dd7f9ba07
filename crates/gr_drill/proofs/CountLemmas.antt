-- A table of lent keys, as groups.
use Rattle.std.proofs.Common.{◌≡◌, ℕ, ◌+◌, ◌<◌, Bool, true, false, List, [], ◌∷◌, Option, None, Some, refl, sym, ap, get_or, length, take}
use Rattle.std.proofs.lemmas.Grind.{take_at_read}
use Rattle.std.proofs.lemmas.List.Elements.{filter_map-append}
use Rattle.std.proofs.lemmas.List.Sums.{fold-append}
use Rattle.std.specs.List.{filter_map}
use Rattle.std.specs.Option.{option_to_list, unwrap_or}
use Rattle.std.specs.Map.{lookup, set_value}
use Rattle.indexmap.specs.IndexMap.{insert_entry}
use Rattle.gr_drill.specs.Inside.Lent.{is_same_lent, lent}
use Rattle.gr_drill.specs.Inside.Tally.{lent_group, lent_groups, one_more, with_all, with_one}
use Rattle.gr_expr.specs.declared.groups.Group.{Group}
use Rattle.gr_expr.specs.declared.groups.GroupKey.{GroupKey}
use Rattle.gr_drill.specs.declared.lent_key.LentKey.{LentKey}

-- one more of a key that was counted before
pub counted-before : (entries : List (LentKey × ℕ)) (key : LentKey) (count : ℕ) → lookup (is_same_lent key) entries ≡ Some count
    → lent_groups (set_value (is_same_lent key) entries (one_more count)) ≡ with_one (lent_groups entries) (lent key)
counted-before [] key count found = cc
counted-before (entry ∷ entries) key count found = by (is_same_lent key entry.0) refl (counted-before entries key count)
  where
    by : (same : Bool) → is_same_lent key entry.0 ≡ same
        → (lookup (is_same_lent key) entries ≡ Some count → lent_groups (set_value (is_same_lent key) entries (one_more count)) ≡ with_one (lent_groups entries) (lent key))
        → lent_groups (set_value (is_same_lent key) (entry ∷ entries) (one_more count)) ≡ with_one (lent_groups (entry ∷ entries)) (lent key)
    by true e rest =
        let is_count : Some entry.1 ≡ Some count = rw e at found in
        rw e (ap (λ n. record { key = lent entry.0; count = one_more n } ∷ lent_groups entries) (sym (ap (λ n. unwrap_or n 0) is_count)))
    by false e rest = rw e (ap (λ groups. lent_group entry ∷ groups) (rest (rw e at found)))

-- a key that is counted for the first time
pub counted-first : (entries : List (LentKey × ℕ)) (key : LentKey) → lookup (is_same_lent key) entries ≡ None
    → lent_groups (insert_entry is_same_lent entries key 1) ≡ with_one (lent_groups entries) (lent key)
counted-first [] key none = refl
counted-first (entry ∷ entries) key none = by (is_same_lent key entry.0) refl (counted-first entries key)
  where
    by : (same : Bool) → is_same_lent key entry.0 ≡ same
        → (lookup (is_same_lent key) entries ≡ None → lent_groups (insert_entry is_same_lent entries key 1) ≡ with_one (lent_groups entries) (lent key))
        → lent_groups (insert_entry is_same_lent (entry ∷ entries) key 1) ≡ with_one (lent_groups (entry ∷ entries)) (lent key)
    by true e rest = let some : Some entry.1 ≡ None = rw e at none in cc
    by false e rest = rw e (ap (λ groups. lent_group entry ∷ groups) (rest (rw e at none)))

-- what one element makes
one-made : {X : Type 0} (key_of : X → Option GroupKey) (x : X) → filter_map key_of (x ∷ []) ≡ option_to_list (key_of x)
one-made key_of x = by (key_of x) refl
  where
    by : (made : Option GroupKey) → key_of x ≡ made → filter_map key_of (x ∷ []) ≡ option_to_list (key_of x)
    by None e = rw e refl
    by (Some key) e = rw e refl

-- counting one element more
pub counted-next : {X : Type 0} (key_of : X → Option GroupKey) (groups : List Group) (xs : List X) (i : ℕ) (d : X) → i < length xs
    → with_all (with_all groups (filter_map key_of (take i xs))) (option_to_list (key_of (get_or xs i d))) ≡ with_all groups (filter_map key_of (take (i + 1) xs))
counted-next key_of groups xs i d inside =
    rw ((take_at_read xs i d inside).1, filter_map-append key_of (take i xs) (get_or xs i d ∷ []), one-made key_of (get_or xs i d))
    (sym (fold-append with_one groups (filter_map key_of (take i xs)) (option_to_list (key_of (get_or xs i d)))))
