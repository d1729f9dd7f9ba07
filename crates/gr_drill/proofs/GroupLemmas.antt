-- Keys that are counted one after the other make the groups.
use Rattle.std.proofs.Common.{◌≡◌, ℕ, ◌+◌, ◌≤◌, Bool, true, false, cond, List, [], ◌∷◌, ◌++◌, refl, sym, ap, ◌∙◌, length, map, filter, take, take_all, true≢false, append_assoc, append-nil, arith}
use Rattle.std.proofs.lemmas.List.Sums.{fold-append}
use Rattle.std.specs.Prelude.{not, if◌then◌else◌, count_by}
use Rattle.gr_base.specs.declared.numbers.RecordId.{RecordId}
use Rattle.gr_drill.specs.Groups.{count_of, counted, firsts, grouped, groups_of, is_same_group}
use Rattle.gr_drill.specs.Inside.Same.{group_equiv}
use Rattle.gr_drill.specs.Inside.Tally.{one_more, with_all, with_one}
use Rattle.gr_expr.specs.declared.groups.Group.{Group}
use Rattle.gr_expr.specs.declared.groups.GroupKey.{GroupKey}
use Rattle.gr_expr.specs.Tables.{Records}
use Rattle.gr_values.specs.declared.path.Path.{Path}

-- keys other than one
abbrev others : GroupKey → List GroupKey → List GroupKey
others key keys = filter (λ other. not (is_same_group key other)) keys

-- groups of other keys than one
abbrev apart : GroupKey → List Group → List Group
apart key groups = filter (λ group. not (is_same_group key group.key)) groups

-- keys with a count each
abbrev counted_as : (GroupKey → ℕ) → List GroupKey → List Group
counted_as count keys = map (λ key. record { key = key; count = count key }) keys

-- the counts after a key has one more
abbrev counts_with : (GroupKey → ℕ) → GroupKey → GroupKey → ℕ
counts_with count key other = if is_same_group key other then one_more (count other) else count other

-- a key is not among others
abbrev IsNew : GroupKey → List GroupKey → Type 0
IsNew key [] = Unit {0}
IsNew key (other ∷ keys) = (is_same_group key other ≡ false) × IsNew key keys

-- a key that is one with this one is none with those that this one is not
other_too : (one other key : GroupKey) → is_same_group one other ≡ true → is_same_group one key ≡ false → is_same_group other key ≡ false
other_too one other key same apart = sym (group_equiv.congr one other key same) ∙ apart

-- the order of two filters is free
filters-swap : (p q : GroupKey → Bool) (keys : List GroupKey) → filter p (filter q keys) ≡ filter q (filter p keys)
filters-swap p q [] = refl
filters-swap p q (key ∷ keys) = by (p key) (q key) refl refl (filters-swap p q keys)
  where
    by : (a b : Bool) → p key ≡ a → q key ≡ b → filter p (filter q keys) ≡ filter q (filter p keys) → filter p (filter q (key ∷ keys)) ≡ filter q (filter p (key ∷ keys))
    by true true e f rest = rw (e, f) (rw e (ap (λ left. key ∷ left) rest))
    by true false e f rest = rw (e, f) rest
    by false true e f rest = rw (e, f) (rw e rest)
    by false false e f rest = rw (e, f) rest

-- other keys with their counts are the groups of other keys
counted-others : (count : GroupKey → ℕ) (one : GroupKey) (keys : List GroupKey) → counted_as count (others one keys) ≡ apart one (counted_as count keys)
counted-others count one [] = refl
counted-others count one (key ∷ keys) = by (is_same_group one key) refl (counted-others count one keys)
  where
    by : (same : Bool) → is_same_group one key ≡ same → counted_as count (others one keys) ≡ apart one (counted_as count keys) → counted_as count (others one (key ∷ keys)) ≡ apart one (counted_as count (key ∷ keys))
    by true e rest = rw e rest
    by false e rest = rw e (ap (λ left. record { key = key; count = count key } ∷ left) rest)

-- one more of a key touches no group of another
with_one-apart : (one key : GroupKey) (groups : List Group) → is_same_group one key ≡ false → with_one (apart one groups) key ≡ apart one (with_one groups key)
with_one-apart one key [] new = rw new refl
with_one-apart one key (group ∷ groups) new = by (is_same_group one group.key) (is_same_group key group.key) refl refl (with_one-apart one key groups new)
  where
    by : (a b : Bool) → is_same_group one group.key ≡ a → is_same_group key group.key ≡ b → with_one (apart one groups) key ≡ apart one (with_one groups key) → with_one (apart one (group ∷ groups)) key ≡ apart one (with_one (group ∷ groups) key)
    by true true e f rest = absurd (true≢false (sym f ∙ group_equiv.symm key group.key ∙ other_too one group.key key e new))
    by true false e f rest = rw (e, f) (rw e rest)
    by false true e f rest = rw (e, f) (rw e refl)
    by false false e f rest = rw (e, f) (rw e (ap (λ left. group ∷ left) rest))

-- a key that comes once more adds no other key
firsts-others : (one key : GroupKey) (keys : List GroupKey) → is_same_group one key ≡ true → others one (firsts (keys ++ key ∷ [])) ≡ others one (firsts keys)
firsts-others one key [] same = rw same refl
firsts-others one key (next ∷ keys) same =
    let left : GroupKey → Bool = λ other. not (is_same_group next other) in
    let these : GroupKey → Bool = λ other. not (is_same_group one other) in
    ap (λ rest. if not (is_same_group one next) then next ∷ rest else rest)
    (filters-swap these left (firsts (keys ++ key ∷ []))
    ∙ ap (filter left) (firsts-others one key keys same)
    ∙ filters-swap left these (firsts keys))

-- one more of a key leaves the counts of others
others-keep : (count : GroupKey → ℕ) (one key : GroupKey) (keys : List GroupKey) → is_same_group one key ≡ true → counted_as (counts_with count key) (others one keys) ≡ counted_as count (others one keys)
others-keep count one key [] same = refl
others-keep count one key (next ∷ keys) same = by (is_same_group one next) refl (others-keep count one key keys same)
  where
    by : (a : Bool) → is_same_group one next ≡ a → counted_as (counts_with count key) (others one keys) ≡ counted_as count (others one keys) → counted_as (counts_with count key) (others one (next ∷ keys)) ≡ counted_as count (others one (next ∷ keys))
    by true e rest = rw e rest
    by false e rest = rw e (rw (other_too one key next same e) (ap (λ left. record { key = next; count = count next } ∷ left) rest))

-- counting a key once more is one more in its group, or a new group at the end
counted-more : (count : GroupKey → ℕ) (key : GroupKey) (keys : List GroupKey) → (IsNew key keys → count key ≡ 0) → with_one (counted_as count (firsts keys)) key ≡ counted_as (counts_with count key) (firsts (keys ++ key ∷ []))
counted-more count key [] none = rw (group_equiv.refl key, none tt) refl
counted-more count key (next ∷ keys) none = by (is_same_group key next) refl (λ e. counted-more count key keys (λ absent. none (e, absent)))
  where
    by : (a : Bool) → is_same_group key next ≡ a → (is_same_group key next ≡ false → with_one (counted_as count (firsts keys)) key ≡ counted_as (counts_with count key) (firsts (keys ++ key ∷ []))) → with_one (counted_as count (firsts (next ∷ keys))) key ≡ counted_as (counts_with count key) (firsts (next ∷ keys ++ key ∷ []))
    by true e rest =
        let same = group_equiv.symm next key ∙ e in
        rw (e, firsts-others next key keys same) (rw (others-keep count next key (firsts keys) same) refl)
    by false e rest =
        let new = group_equiv.symm next key ∙ e in
        rw e
        (ap (λ left. record { key = next; count = count next } ∷ left)
        (ap (λ groups. with_one groups key) (counted-others count next (firsts keys))
        ∙ with_one-apart next key (counted_as count (firsts keys)) new
        ∙ ap (apart next) (rest e)
        ∙ sym (counted-others (counts_with count key) next (firsts (keys ++ key ∷ [])))))

-- a new key was not counted
count-new : (key : GroupKey) (keys : List GroupKey) → IsNew key keys → count_by (is_same_group key) keys ≡ 0
count-new key [] new = refl
count-new key (next ∷ keys) new = rw new.0 (count-new key keys new.1)

-- the counts of keys and one more
count_of-push : (keys : List GroupKey) (key other : GroupKey) → counts_with (count_of keys) key other ≡ count_of (keys ++ key ∷ []) other
count_of-push keys key other = by (is_same_group other key) refl
  where
    by : (a : Bool) → is_same_group other key ≡ a → counts_with (count_of keys) key other ≡ count_of (keys ++ key ∷ []) other
    by true e = rw (group_equiv.symm key other, fold-append (λ n each. n + cond (is_same_group other each) 1 0) 0 keys (key ∷ []), e) (omega arith)
    by false e = rw (group_equiv.symm key other, fold-append (λ n each. n + cond (is_same_group other each) 1 0) 0 keys (key ∷ []), e) (omega arith)

-- the groups of keys and one more
grouped-push : (keys : List GroupKey) (key : GroupKey) → with_one (grouped keys) key ≡ grouped (keys ++ key ∷ [])
grouped-push keys key =
    counted-more (count_of keys) key keys (λ new. rw (count-new key keys new) refl)
    ∙ ap (λ count. counted_as count (firsts (keys ++ key ∷ []))) (λ i other. count_of-push keys key other i)

-- the groups of keys and more
grouped-from : (keys more : List GroupKey) → with_all (grouped keys) more ≡ grouped (keys ++ more)
grouped-from keys [] = ap grouped (sym (append-nil keys))
grouped-from keys (key ∷ more) =
    ap (λ groups. with_all groups more) (grouped-push keys key)
    ∙ grouped-from (keys ++ key ∷ []) more
    ∙ ap grouped (append_assoc keys (key ∷ []) more)

-- keys that are counted one after the other make their groups
grouped-all : (keys : List GroupKey) → with_all [] keys ≡ grouped keys
grouped-all keys = grouped-from [] keys

-- where all hits are counted, their groups are made
pub all-counted : (tables : List Records) (path : Path) (hits : List (RecordId × ℕ)) (i : ℕ) (groups : List Group) → length hits ≤ i → groups ≡ with_all [] (counted tables path (take i hits)) → groups ≡ groups_of tables path hits
all-counted tables path hits i groups past made =
    made ∙ ap (λ seen. with_all [] (counted tables path seen)) (take_all i hits past) ∙ grouped-all (counted tables path hits)
