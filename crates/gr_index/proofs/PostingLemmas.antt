-- The postings of segments: all of them, those of a term, and that no two have one term, record and place.
use Rattle.std.proofs.Common.{◌≡◌, ℕ, ◌<◌, ◌≤◌, Bool, true, false, ◌&&◌, eqb, List, [], ◌∷◌, ◌++◌, map, refl, sym, ap, ◌∙◌, arith}
use Rattle.std.specs.List.{AllByRecursion, IsDistinct, filter, flat_map}
use Rattle.std.proofs.lemmas.Bool.Decides.{nat_tests}
use Rattle.gr_postings.specs.Postings.{IsInOrder, has_same_place, has_same_record}
use Rattle.gr_postings.specs.declared.posting.Posting.{Posting}
use Rattle.gr_chunks.specs.Segments.{all_of, postings_of as segment_postings}
use Rattle.gr_chunks.specs.declared.segment.Segment.{Segment}
use Rattle.gr_index.specs.Levels.{HasPlaces, Part, Tile, end_of, postings_of}
use Rattle.gr_index.proofs.ListLemmas.{all_both, all_weaker}
use Rattle.gr_index.proofs.TileLemmas.{IsBetween, tile_between}

flat_map-map : {X Y : Type 0} (f : X → List Y) (xs : List X) → flat_map f xs ≡ flat_map (λ ys. ys) (map f xs)
flat_map-map f [] = refl
flat_map-map f (x ∷ xs) = ap (λ ys. f x ++ ys) (flat_map-map f xs)

-- the postings of segments are those of their parts
pub all_of-parts : (gs : List Segment) (ps : List Part) → map segment_postings gs ≡ map (λ p. p.postings) ps → all_of gs ≡ postings_of ps
all_of-parts gs ps e = flat_map-map segment_postings gs ∙ (ap (flat_map (λ ys. ys)) e ∙ sym (flat_map-map (λ (p : Part). p.postings) ps))

distinct_both : {X : Type 0} (e : X → X → Bool) (xs ys : List X) → IsDistinct e xs → IsDistinct e ys → AllByRecursion (λ x. AllByRecursion (λ y. e x y ≡ false) ys) xs → IsDistinct e (xs ++ ys)
unfolding IsDistinct
distinct_both e [] ys d f a = f
distinct_both e (x ∷ xs) ys d f a = (all_both (λ y. e x y ≡ false) xs ys d.0 a.0, distinct_both e xs ys d.1 f a.1)

distinct_none : {X : Type 0} (e : X → X → Bool) → IsDistinct e []
unfolding IsDistinct
distinct_none e = tt

all_flat : (P : Posting → Type 0) (ps : List Part) → AllByRecursion (λ p. AllByRecursion P p.postings) ps → AllByRecursion P (postings_of ps)
all_flat P [] a = tt
all_flat P (p ∷ ps) a = all_both P p.postings (postings_of ps) a.0 (all_flat P ps a.1)

and_false : (a b : Bool) → b ≡ false → (a && b) ≡ false
and_false true b h = h
and_false false b h = refl

lower_test : (a b : ℕ) → a < b → eqb a b ≡ false
lower_test a b l = grind (arith, nat_tests)

other_place : (p q : Posting) (m : ℕ) → p.place < m → m ≤ q.place → has_same_place p q ≡ false
other_place p q m l k = and_false (has_same_record p q) (eqb p.place q.place) (lower_test p.place q.place (omega (arith, l, k)))

-- all postings of ranges that tile have places in the whole range
pub all_places : (low high : ℕ) (ps : List Part) → AllByRecursion (IsBetween low high) ps → AllByRecursion HasPlaces ps → AllByRecursion (λ posting. (low ≤ posting.place) × (posting.place < high)) (postings_of ps)
all_places low high [] b h = tt
all_places low high (p ∷ ps) b h =
    let first = b.0.begins in
    let last = b.0.ends in
    all_both (λ posting. (low ≤ posting.place) × (posting.place < high)) p.postings (postings_of ps) (all_weaker (λ posting. (p.from ≤ posting.place) × (posting.place < p.to)) (λ posting. (low ≤ posting.place) × (posting.place < high)) (λ posting l. let i = l.0 in let j = l.1 in (omega (arith, i, first), omega (arith, j, last))) p.postings h.0) (all_places low high ps b.1 h.1)

-- no two postings of ranges that tile have one term, record and place
pub apart : ((ps : List Posting) → IsInOrder ps → IsDistinct has_same_place ps) → (place : ℕ) (ps : List Part) → Tile place ps → AllByRecursion HasPlaces ps → AllByRecursion (λ p. IsInOrder p.postings) ps → IsDistinct has_same_place (postings_of ps)
apart law place [] t h o = distinct_none has_same_place
apart law place (p ∷ ps) t h o =
    let later = all_places p.to (end_of p.to ps) ps (tile_between p.to p.to (end_of p.to ps) ps t.2 (omega arith) (omega arith)) h.1 in
    distinct_both has_same_place p.postings (postings_of ps) (law p.postings o.0) (apart law p.to ps t.2 h.1 o.1)
    (all_weaker (λ x. (p.from ≤ x.place) × (x.place < p.to)) (λ x. AllByRecursion (λ y. has_same_place x y ≡ false) (postings_of ps)) (λ x l. all_weaker (λ y. (p.to ≤ y.place) × (y.place < end_of p.to ps)) (λ y. has_same_place x y ≡ false) (λ y k. other_place x y p.to l.1 k.0) (postings_of ps) later) p.postings h.0)
