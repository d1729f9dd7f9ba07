-- The first postings in order, all that have the first one's term.
use Rattle.std.proofs.Common.{◌≡◌, ℕ, zero, suc, ◌<◌, ◌≤◌, true, false, leb, List, [], ◌∷◌, ◌++◌, map, length, get_or, take, drop, sym, ap, subst, ◌∙◌, arith}
use Rattle.std.specs.List.{AllByRecursion}
use Rattle.std.specs.List.Sorted.{IsStrictlySortedBy, IsPartitionPoint}
use Rattle.std.specs.Ordering.{nat_cmp, ordering_then}
use Rattle.std.specs.declared.cmp.Ordering.{Ordering}
use Rattle.std.specs.declared.cmp.Ordering.TheVariants.{Less}
use Rattle.std.proofs.lemmas.Bool.Decides.{nat_tests}
use Rattle.std.proofs.lemmas.List.{length-map, length-take-le}
use Rattle.std.proofs.lemmas.List.Elements.{All-from_recursion}
use Rattle.gr_base.specs.declared.numbers.RecordId.{RecordId}
use Rattle.gr_postings.specs.Postings.{posting_cmp, posting_of, IsInOrder}
use Rattle.gr_postings.specs.declared.posting.Posting.{Posting}
use Rattle.gr_postings.specs.declared.view.PostingView.{PostingView}
use Rattle.gr_chunks.specs.declared.chunk.Run.{Run}
use Rattle.gr_chunks.specs.Inside.Appends.{AppendsRun, AreOfRun, PushesRun}
use Rattle.gr_chunks.specs.Inside.Postings.{postings_after}
use Rattle.gr_chunks.proofs.ListLemmas.{all_map, all_take, all_two, all_unmap, all_weaker, back_all, front_all, map_take, sorted_take}

-- one that stands before has no higher term, and of one term no higher record
no_higher : (a b : ℕ) (o p : Ordering) → ordering_then (ordering_then (nat_cmp a b) o) p ≡ Less → a ≤ b
no_higher a b o p h = grind (arith, nat_tests)

no_higher_id : (a b i j : ℕ) (p : Ordering) → a ≡ b → ordering_then (ordering_then (nat_cmp a b) (nat_cmp i j)) p ≡ Less → i ≤ j
no_higher_id a b i j p e h = grind (arith, nat_tests)

-- terms do not fall
pub views_rise : (views : List PostingView) → IsInOrder (map posting_of views) → (i j : ℕ) (d : PostingView) → i ≤ j → j < length views → (get_or views i d).term.0 ≤ (get_or views j d).term.0
unfolding IsStrictlySortedBy
views_rise [] s i j d a b = absurd (omega arith)
views_rise (x ∷ xs) s zero zero d a b = omega arith
views_rise (x ∷ xs) s zero (suc j) d a b =
    let later = All-from_recursion (λ (v : PostingView). posting_cmp (posting_of x) (posting_of v) ≡ Less) xs (all_unmap posting_of (λ p. posting_cmp (posting_of x) p ≡ Less) xs s.0) j d (omega arith) in
    let v = get_or xs j d in
    no_higher x.term.0 v.term.0 (nat_cmp x.id.0 v.id.0) (nat_cmp x.place v.place) later
views_rise (x ∷ xs) s (suc i) zero d a b = absurd (omega arith)
views_rise (x ∷ xs) s (suc i) (suc j) d a b = views_rise xs s.1 i j d (omega arith) (omega arith)

-- the first has the lowest term
pub first_lowest : (views : List PostingView) (first : PostingView) → 0 < length views → first ≡ get_or views 0 first → IsInOrder (map posting_of views) → AllByRecursion (λ p. first.term.0 ≤ p.term.0) (map posting_of views)
unfolding IsStrictlySortedBy
first_lowest [] first l e s = absurd (omega arith)
first_lowest (x ∷ xs) first l e s =
    let same : first.term.0 ≡ x.term.0 = ap (λ (v : PostingView). v.term.0) e in (
      omega (arith, same),
      all_weaker (λ p. posting_cmp (posting_of x) p ≡ Less) (λ p. first.term.0 ≤ p.term.0) (λ p h. let low = no_higher x.term.0 p.term.0 (nat_cmp x.id.0 p.id.0) (nat_cmp x.place p.place) h in omega (arith, same, low)) (map posting_of xs) s.0,
    )

-- postings in order of one term are a run
of_run : (term : RecordId) (least before : ℕ) (ps : List Posting) → IsInOrder ps → AllByRecursion (λ p. p.term.0 ≡ term.0) ps → AllByRecursion (λ p. before ≤ p.id.0) ps → AllByRecursion (λ p. least ≤ p.place) ps → AreOfRun term least before ps
unfolding IsStrictlySortedBy
of_run term least before [] s t i l = tt
of_run term least before (p ∷ ps) s t i l =
    let rise = all_two (λ q. posting_cmp p q ≡ Less) (λ q. q.term.0 ≡ term.0) (λ q. p.id.0 ≤ q.id.0) (λ q h e. no_higher_id p.term.0 q.term.0 p.id.0 q.id.0 (nat_cmp p.place q.place) (t.0 ∙ sym e) h) ps s.0 t.1 in
    let same : p.term ≡ term = ap (λ (n : ℕ). let r : RecordId = record { 0 = n } in r) t.0 in
    (same, i.0, l.0, of_run term least p.id.0 ps s.1 t.1 rise l.1)

all_from_zero : (ps : List Posting) → AllByRecursion (λ p. 0 ≤ p.id.0) ps
all_from_zero [] = tt
all_from_zero (p ∷ ps) = (omega arith, all_from_zero ps)

no_higher_test : (a t : ℕ) → leb a t ≡ true → a ≤ t
no_higher_test a t h = grind (arith, nat_tests)

higher_test : (a t : ℕ) → leb a t ≡ false → t < a
higher_test a t h = grind (arith, nat_tests)

-- those up to the first one with a higher term are a run
pub front_is_run : (views : List PostingView) (first : PostingView) (least count : ℕ) → 0 < length views → first ≡ get_or views 0 first → IsInOrder (map posting_of views) → AllByRecursion (λ p. least ≤ p.place) (map posting_of views) → count ≤ length views → IsPartitionPoint (λ v. leb v.term.0 first.term.0 ≡ true) (λ v. leb v.term.0 first.term.0 ≡ false) views count → AreOfRun first.term least 0 (map posting_of (take count views))
front_is_run views first least count l e s places within cut =
    let parts = map_take posting_of count views in
    let low = subst (AllByRecursion (λ p. first.term.0 ≤ p.term.0)) (sym parts) (all_take (λ p. first.term.0 ≤ p.term.0) count (map posting_of views) (first_lowest views first l e s)) in
    let high = all_map posting_of (λ p. p.term.0 ≤ first.term.0) (take count views) (front_all (λ v. v.term.0 ≤ first.term.0) views count within (λ k d h. no_higher_test (get_or views k d).term.0 first.term.0 (cut.0 k d (omega arith) h))) in
    let same = all_two (λ p. first.term.0 ≤ p.term.0) (λ p. p.term.0 ≤ first.term.0) (λ p. p.term.0 ≡ first.term.0) (λ p a b. omega arith) (map posting_of (take count views)) low high in
    of_run first.term least 0 (map posting_of (take count views))
    (subst IsInOrder (sym parts) (sorted_take posting_cmp count (map posting_of views) s))
    same
    (all_from_zero (map posting_of (take count views)))
    (subst (AllByRecursion (λ p. least ≤ p.place)) (sym parts) (all_take (λ p. least ≤ p.place) count (map posting_of views) places))

some_front : (views : List PostingView) (first : PostingView) (count : ℕ) → 0 < length views → first ≡ get_or views 0 first → IsPartitionPoint (λ v. leb v.term.0 first.term.0 ≡ true) (λ v. leb v.term.0 first.term.0 ≡ false) views count → 0 < count
some_front views first (suc n) l e cut = omega arith
some_front views first zero l e cut =
    let other = higher_test (get_or views 0 first).term.0 first.term.0 (cut.1 0 first (omega arith) l) in
    let same : first.term.0 ≡ (get_or views 0 first).term.0 = ap (λ (v : PostingView). v.term.0) e in
    absurd (omega (arith, other, same))

limit_of_first : (views : List PostingView) (first : PostingView) (limit : ℕ) → 0 < length views → first ≡ get_or views 0 first → AllByRecursion (λ p. limit ≤ p.term.0) (map posting_of views) → limit ≤ first.term.0
limit_of_first [] first limit l e a = absurd (omega arith)
limit_of_first (x ∷ xs) first limit l e a =
    let same : first.term.0 ≡ x.term.0 = ap (λ (v : PostingView). v.term.0) e in
    omega (arith, same, a.0)

-- one run more
pub pushes_run : (least : ℕ) (old_runs new_runs : List Run) (old new : List ℕ) (views : List PostingView) (first : PostingView) (count start : ℕ) → 0 < length views → first ≡ get_or views 0 first → count ≤ length views → IsPartitionPoint (λ v. leb v.term.0 first.term.0 ≡ true) (λ v. leb v.term.0 first.term.0 ≡ false) views count → start ≡ length old → new_runs ≡ old_runs ++ record { term = first.term; start = start; count = count } ∷ [] → AppendsRun first.term least old new (map posting_of (take count views)) → PushesRun least old_runs new_runs old new views count
pushes_run least old_runs new_runs old new views first count start l e within cut s r a =
    let long : length (map posting_of (take count views)) ≡ count = length-map (take count views) posting_of ∙ length-take-le count views within in
    record {
      some = some_front views first count l e cut;
      within = within;
      run = record { term = first.term; start = start; count = count };
      runs = r;
      start = s;
      bytes = a.bytes;
      appended = a.appended;
      coded = λ rest. ap (λ n. postings_after first.term least 0 n (a.bytes ++ rest)) (sym long) ∙ a.coded rest;
      sound = a.sound;
      no_lower = λ limit h. limit_of_first views first limit l e h;
      higher = all_map posting_of (λ p. first.term.0 < p.term.0) (drop count views) (back_all (λ v. first.term.0 < v.term.0) views count (λ k d m h. higher_test (get_or views k d).term.0 first.term.0 (cut.1 k d m h)));
    }
