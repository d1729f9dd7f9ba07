-- A buffer of one posting, an empty chunk, and what a fold keeps.
use Rattle.std.proofs.Common.{◌≡◌, ℕ, ◌<◌, ◌≤◌, Bool, List, [], ◌∷◌, length, refl, sym, ap, subst, ◌∙◌, arith}
use Rattle.std.specs.List.{All, IsDistinct, filter}
use Rattle.std.specs.List.Sorted.{IsPermutation}
use Rattle.std.proofs.lemmas.List.Elements.{All-filter, All-from_recursion}
use Rattle.std.proofs.lemmas.List.Sorted.{All-permutation, length_permutation}
use Rattle.gr_postings.specs.Postings.{HaveOnePlace, has_same_place, has_same_record}
use Rattle.gr_postings.specs.declared.posting.Posting.{Posting}

pub one_place : (ps : List Posting) (p : Posting) → ps ≡ p ∷ [] → All (λ q. q.place ≡ p.place) ps
one_place ps p e = subst (All (λ q. q.place ≡ p.place)) (sym e) (All-from_recursion (λ q. q.place ≡ p.place) (p ∷ []) (refl, tt))

pub have_one_place : (ps : List Posting) (p : Posting) → ps ≡ p ∷ [] → HaveOnePlace ps
have_one_place ps p e = (p.place, one_place ps p e)

one_distinct : (p : Posting) → IsDistinct has_same_record (p ∷ [])
unfolding IsDistinct
one_distinct p = (tt, tt)

pub distinct : (ps : List Posting) (p : Posting) → ps ≡ p ∷ [] → IsDistinct has_same_record ps
distinct ps p e = subst (IsDistinct has_same_record) (sym e) (one_distinct p)

pub some : (ps buffer : List Posting) (p : Posting) → ps ≡ p ∷ [] → IsPermutation ps buffer → 0 < length buffer
some ps buffer p e h = let long = length_permutation ps buffer h in let one = ap length e in omega (arith, long, one)

pub places : (ps buffer : List Posting) (p : Posting) → ps ≡ p ∷ [] → IsPermutation ps buffer → All (λ q. q.place ≡ p.place) buffer
places ps buffer p e h = All-permutation (λ q. q.place ≡ p.place) ps buffer h (one_place ps p e)

none_distinct : IsDistinct has_same_place []
unfolding IsDistinct
none_distinct = tt

pub no_postings : (ps : List Posting) → ps ≡ [] → IsDistinct has_same_place ps
no_postings ps e = subst (IsDistinct has_same_place) (sym e) none_distinct

pub no_places : (from to : ℕ) (ps chunk : List Posting) → ps ≡ [] → IsPermutation ps chunk → All (λ p. (from ≤ p.place) × (p.place < to)) chunk
no_places from to ps chunk e h = let long = length_permutation ps chunk h in let none = ap length e in λ k d l. absurd (omega (arith, long, none, l))

pub kept_places : (keep : Posting → Bool) (from to : ℕ) (ps chunk : List Posting) → All (λ p. (from ≤ p.place) × (p.place < to)) ps → IsPermutation (filter keep ps) chunk → All (λ p. (from ≤ p.place) × (p.place < to)) chunk
kept_places keep from to ps chunk a h = All-permutation (λ p. (from ≤ p.place) × (p.place < to)) (filter keep ps) chunk h (All-filter keep (λ p. (from ≤ p.place) × (p.place < to)) ps a)
