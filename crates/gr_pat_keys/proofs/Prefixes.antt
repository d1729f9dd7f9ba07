-- Texts that begin with a prefix stand between the prefix and the first text after it that does not.
use Rattle.std.proofs.Common.{ℕ, ◌≡◌, true, false, Bool, not, List, [], ◌∷◌, ◌++◌, length, drop, refl, sym, ap, ◌∙◌}
use Rattle.std.specs.Prelude.{◌==◌}
use Rattle.std.specs.List.{starts_with}
use Rattle.std.specs.Cmp.{nat_cmp_total, tied_itself, alike_right}
use Rattle.std.specs.Cmp.Lexicographic.{slice_cmp, nat_list_cmp_total}
use Rattle.std.specs.FinMap.{nat_cmp-IsAntisymmetric}
use Rattle.std.specs.Ordering.{nat_cmp, is_gt, is_lt, ordering_then, ordering_reverse}
use Rattle.std.specs.declared.cmp.Ordering.{Ordering}
use Rattle.std.specs.declared.cmp.Ordering.TheVariants.{Less, Equal, Greater}
use Rattle.std.proofs.lemmas.Bool.Decides.{Decides-eqb}
use Rattle.std.proofs.lemmas.Slice.Eq.{starts_is}
use Rattle.gr_key_tree.specs.Order.{key_cmp, IsNoneBefore, IsNoneFrom}

-- the order of keys with nothing beside them is that of their texts
text_cmp : (left right : List ℕ) → key_cmp (λ key. 0) left right ≡ slice_cmp nat_cmp left right
unfolding key_cmp
text_cmp left right = refl

begins_is : (key prefix : List ℕ) → starts_with ◌==◌ key prefix ≡ true → key ≡ prefix ++ drop (length prefix) key
begins_is key prefix begins = (starts_is Decides-eqb key prefix (starts_with ◌==◌ key prefix) refl).0 begins

is_begun : (key prefix rest : List ℕ) → key ≡ prefix ++ rest → starts_with ◌==◌ key prefix ≡ true
is_begun key prefix rest e = (starts_is Decides-eqb key prefix (starts_with ◌==◌ key prefix) refl).1 rest e

-- a prefix is not after what begins with it
prefix_first : (prefix rest : List ℕ) → is_gt (slice_cmp nat_cmp prefix (prefix ++ rest)) ≡ false
prefix_first [] [] = refl
prefix_first [] (x ∷ rest) = refl
prefix_first (x ∷ prefix) rest = ap (λ r. is_gt (ordering_then r (slice_cmp nat_cmp prefix (prefix ++ rest)))) (tied_itself nat_cmp_total x) ∙ prefix_first prefix rest

not_true : (b : Bool) → (b ≡ true → ⊥) → b ≡ false
not_true true no_way = absurd (no_way refl)
not_true false no_way = refl

lt_by : (a b c : List ℕ) (r : Ordering) → slice_cmp nat_cmp b c ≡ r → is_gt r ≡ false → slice_cmp nat_cmp a b ≡ Less → slice_cmp nat_cmp a c ≡ Less
lt_by a b c Less e h lt = nat_list_cmp_total.trans a b c lt e
lt_by a b c Equal e h lt = sym (alike_right nat_list_cmp_total b c a e) ∙ lt
lt_by a b c Greater e h lt = absurd (cc)

is_less : (r : Ordering) → is_lt r ≡ true → r ≡ Less
is_less Less e = refl
is_less Equal e = absurd (cc)
is_less Greater e = absurd (cc)

-- no text before the cut begins with the prefix, where the cut is not after the prefix
pub none_before_cut : (prefix cut : List ℕ) → is_gt (slice_cmp nat_cmp cut prefix) ≡ false → IsNoneBefore (λ key. 0) prefix cut
none_before_cut prefix cut le = record {
  none = λ key lt. not_true (starts_with ◌==◌ key prefix) (λ begins. go key (ap is_lt (sym (text_cmp key cut)) ∙ lt) (begins_is key prefix begins));
}
  where
    go : (key : List ℕ) → is_lt (slice_cmp nat_cmp key cut) ≡ true → key ≡ prefix ++ drop (length prefix) key → ⊥
    go key lt is =
        let less : slice_cmp nat_cmp key prefix ≡ Less = lt_by key cut prefix (slice_cmp nat_cmp cut prefix) refl le (is_less _ lt) in
        let first : is_gt (slice_cmp nat_cmp prefix key) ≡ false = ap (λ (k : List ℕ). is_gt (slice_cmp nat_cmp prefix k)) is ∙ prefix_first prefix (drop (length prefix) key) in
        let after : slice_cmp nat_cmp prefix key ≡ Greater = nat_list_cmp_total.antisymm prefix key ∙ ap ordering_reverse less in
        let f : is_gt Greater ≡ false = ap is_gt (sym after) ∙ first in cc

-- what stands between a prefix and a text that begins with it begins with it too
between : (prefix cut rest : List ℕ) → is_gt (slice_cmp nat_cmp prefix cut) ≡ false → is_gt (slice_cmp nat_cmp cut (prefix ++ rest)) ≡ false → (more : List ℕ) × (cut ≡ prefix ++ more)
between [] cut rest low high = (cut, refl)
between (x ∷ prefix) [] rest low high = absurd (cc)
between (x ∷ prefix) (y ∷ cut) rest low high = by_first (λ l h. between prefix cut rest l h) (nat_cmp x y) refl
  where
    by_first : (is_gt (slice_cmp nat_cmp prefix cut) ≡ false → is_gt (slice_cmp nat_cmp cut (prefix ++ rest)) ≡ false → (more : List ℕ) × (cut ≡ prefix ++ more)) → (r : Ordering) → nat_cmp x y ≡ r → (more : List ℕ) × (y ∷ cut ≡ (x ∷ prefix) ++ more)
    by_first on Less e =
        let back : nat_cmp y x ≡ Greater = nat_cmp_total.antisymm y x ∙ ap ordering_reverse e in
        let f : is_gt (ordering_then Greater (slice_cmp nat_cmp cut (prefix ++ rest))) ≡ false = ap (λ r. is_gt (ordering_then r (slice_cmp nat_cmp cut (prefix ++ rest)))) (sym back) ∙ high in absurd (cc)
    by_first on Equal e =
        let same : x ≡ y = nat_cmp-IsAntisymmetric x y e in
        let back : nat_cmp y x ≡ Equal = nat_cmp_total.antisymm y x ∙ ap ordering_reverse e in
        let more = on (ap (λ r. is_gt (ordering_then r (slice_cmp nat_cmp prefix cut))) (sym e) ∙ low) (ap (λ r. is_gt (ordering_then r (slice_cmp nat_cmp cut (prefix ++ rest)))) (sym back) ∙ high) in
        (more.0, (λ i. sym same i ∷ more.1 i))
    by_first on Greater e =
        let f : is_gt (ordering_then Greater (slice_cmp nat_cmp prefix cut)) ≡ false = ap (λ r. is_gt (ordering_then r (slice_cmp nat_cmp prefix cut))) (sym e) ∙ low in absurd (cc)

after_is : (r : Ordering) → is_gt r ≡ true → is_gt (ordering_reverse r) ≡ false
after_is Less e = absurd (cc)
after_is Equal e = absurd (cc)
after_is Greater e = refl

-- neither the cut nor a text after it begins with the prefix, where the cut is after the prefix and does not begin with it
pub none_from_cut : (prefix cut : List ℕ) → is_gt (slice_cmp nat_cmp cut prefix) ≡ true → starts_with ◌==◌ cut prefix ≡ false → IsNoneFrom (λ key. 0) prefix cut
none_from_cut prefix cut gt apart = record {
  none = λ key le. not_true (starts_with ◌==◌ key prefix) (λ begins. go key (ap is_gt (sym (text_cmp cut key)) ∙ le) (begins_is key prefix begins));
}
  where
    go : (key : List ℕ) → is_gt (slice_cmp nat_cmp cut key) ≡ false → key ≡ prefix ++ drop (length prefix) key → ⊥
    go key le is =
        let low : is_gt (slice_cmp nat_cmp prefix cut) ≡ false = ap is_gt (nat_list_cmp_total.antisymm prefix cut) ∙ after_is (slice_cmp nat_cmp cut prefix) gt in
        let high : is_gt (slice_cmp nat_cmp cut (prefix ++ drop (length prefix) key)) ≡ false = ap (λ (k : List ℕ). is_gt (slice_cmp nat_cmp cut k)) (sym is) ∙ le in
        let more = between prefix cut (drop (length prefix) key) low high in
        let begun = is_begun cut prefix more.0 more.1 in cc

pub not_is : (b : Bool) → not b ≡ true → b ≡ false
not_is true e = absurd (cc)
not_is false e = refl
