-- Keys of one group are one key.
use Rattle.std.proofs.Common.{refl, sym, ap, subst, ◌∙◌, true≢false}
use Rattle.std.proofs.lemmas.Bool.Decides.{Decides-and, Decides-eqb, Decides-int_eq}
use Rattle.std.specs.Prelude.{◌≡◌, true, ◌==◌, IsTrue}
use Rattle.std.specs.Bool.{Decides}
use Rattle.std.specs.Cmp.{IsEquivalence, booleans_Decides, decided, on_equiv}
use Rattle.std.specs.Cmp.Lexicographic.{bytes_decides}
use Rattle.gr_base.specs.declared.numbers.RecordId.{RecordId}
use Rattle.gr_base.specs.declared.numbers.TableNo.{TableNo}
use Rattle.gr_drill.specs.Groups.{is_same_group}
use Rattle.gr_drill.specs.Inside.Lent.{hashed, is_same_lent, lent}
use Rattle.gr_drill.specs.declared.lent_key.LentKey.{LentKey}
use Rattle.gr_expr.specs.declared.groups.GroupKey.{GroupKey}

-- references with the same numbers are one
one_reference : (table other_table : TableNo) (id other : RecordId) → table.0 ≡ other_table.0 → id.0 ≡ other.0 → GroupKey.Ref table id ≡ GroupKey.Ref other_table other
one_reference table other_table id other same_table same_id =
    ap (λ n. GroupKey.Ref (record { 0 = n }) id) same_table ∙ ap (λ n. GroupKey.Ref other_table (record { 0 = n })) same_id

-- the test tells references by their numbers
same_numbers : (table other_table : TableNo) (id other : RecordId) → Decides (is_same_group (GroupKey.Ref table id) (GroupKey.Ref other_table other)) ((table.0 ≡ other_table.0) × (id.0 ≡ other.0))
same_numbers table other_table id other = Decides-and (table.0 == other_table.0) (id.0 == other.0) (Decides-eqb table.0 other_table.0) (Decides-eqb id.0 other.0)

-- keys of one group are one
told : (key other : GroupKey) → is_same_group key other ≡ true → key ≡ other
told (GroupKey.Ref table id) (GroupKey.Ref other_table other) same = let numbers = (same_numbers table other_table id other).0 same in one_reference table other_table id other numbers.0 numbers.1
told (GroupKey.Ref table id) (GroupKey.Number other) same = absurd (true≢false (sym same))
told (GroupKey.Ref table id) (GroupKey.Text other) same = absurd (true≢false (sym same))
told (GroupKey.Ref table id) (GroupKey.Truth other) same = absurd (true≢false (sym same))
told (GroupKey.Number number) (GroupKey.Ref other_table other) same = absurd (true≢false (sym same))
told (GroupKey.Number number) (GroupKey.Number other) same = ap GroupKey.Number ((Decides-int_eq number other).0 same)
told (GroupKey.Number number) (GroupKey.Text other) same = absurd (true≢false (sym same))
told (GroupKey.Number number) (GroupKey.Truth other) same = absurd (true≢false (sym same))
told (GroupKey.Text text) (GroupKey.Ref other_table other) same = absurd (true≢false (sym same))
told (GroupKey.Text text) (GroupKey.Number other) same = absurd (true≢false (sym same))
told (GroupKey.Text text) (GroupKey.Text other) same = ap GroupKey.Text ((bytes_decides text other).0 same)
told (GroupKey.Text text) (GroupKey.Truth other) same = absurd (true≢false (sym same))
told (GroupKey.Truth truth) (GroupKey.Ref other_table other) same = absurd (true≢false (sym same))
told (GroupKey.Truth truth) (GroupKey.Number other) same = absurd (true≢false (sym same))
told (GroupKey.Truth truth) (GroupKey.Text other) same = absurd (true≢false (sym same))
told (GroupKey.Truth truth) (GroupKey.Truth other) same = ap GroupKey.Truth ((booleans_Decides truth other).0 same)

-- each key is of its own group
itself : (key : GroupKey) → is_same_group key key ≡ true
itself (GroupKey.Ref table id) = (same_numbers table table id id).1 (refl, refl)
itself (GroupKey.Number number) = (Decides-int_eq number number).1 refl
itself (GroupKey.Text text) = (bytes_decides text text).1 refl
itself (GroupKey.Truth truth) = (booleans_Decides truth truth).1 refl

-- the test tells which keys are one
pub same_group : (key other : GroupKey) → Decides (is_same_group key other) (key ≡ other)
same_group key other = (told key other, λ one. subst (λ another. is_same_group key another ≡ true) one (itself key))

-- to be of one group is an equivalence
pub group_equiv : IsEquivalence is_same_group
group_equiv = decided is_same_group same_group

-- and so of lent keys
pub lent_equiv : IsEquivalence is_same_lent
lent_equiv = on_equiv lent group_equiv

-- keys of one group are hashed alike
pub lent_alike : (key other : LentKey) → IsTrue (is_same_lent key other) → hashed (lent key) ≡ hashed (lent other)
lent_alike key other same = ap hashed ((same_group (lent key) (lent other)).0 same)
