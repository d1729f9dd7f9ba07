-- Lists of hits that two lists make, from their ends on.
use Rattle.std.proofs.Common.{◌≡◌, ℕ, suc, ◌+◌, ◌<◌, ◌≤◌, ◌==◌, ◌||◌, inl, inr, Bool, true, false, cond, List, [], ◌∷◌, ◌++◌, length, get_or, drop, refl, sym, ap, subst, ◌∙◌, arith, append_assoc, length-append}
use Rattle.std.specs.List.{AllByRecursion}
use Rattle.std.proofs.lemmas.Bool.{cases_eq, eq-eqb, ne_eqb}
use Rattle.std.proofs.lemmas.List.{drop_more}
use Rattle.std.proofs.lemmas.List.Elements.{All-from_recursion}
use Rattle.gr_base.specs.declared.limits.TheConstants.{MOST_SCORE}
use Rattle.gr_base.specs.declared.numbers.RecordId.{RecordId}
use Rattle.gr_hits.specs.Hits.{Hit, IsScore, AreHits, score_of, both_score, sum, without_score}
use Rattle.gr_hits.specs.Inside.Parts.{kept, AreBelow, AreAbove, AreParts}
use Rattle.gr_hits.specs.Inside.Sums.{AreSums}
use Rattle.gr_hits.proofs.HitLemmas.{all_weaker, rise, hits-nil, hits-cons, hits-tail, hits-drop, score_of-here, score_of-other, score_of-before, score_of-most, above_from_scores}

-- hits that begin with a record's score, or lack it, and those after it
pub record IsFront (id : RecordId) (score : ℕ) (hits rest : List Hit) : Type 0 where
  pub here : score_of hits id ≡ score
  pub other : (q : RecordId) → (q.0 ≡ id.0 → ⊥) → score_of hits q ≡ score_of rest q
  pub above : AreAbove id rest

pub front-none : (id : RecordId) (hits : List Hit) → AreAbove id hits → IsFront id 0 hits hits
front-none id hits a = record { here = score_of-before id hits a id (omega arith); other = λ q n. refl; above = a }

pub front-some : (id : RecordId) (score : ℕ) (hits : List Hit) → AreAbove id hits → IsFront id score ((id, score) ∷ hits) hits
front-some id score hits a = record {
  here = score_of-here (id, score) hits id refl;
  other = λ q n. score_of-other (id, score) hits q (λ e. n (sym e));
  above = a;
}

pub kept-none : (id : RecordId) (score : ℕ) (hits : List Hit) → score ≡ 0 → kept id score hits ≡ hits
kept-none id score hits e = rw (eq-eqb score 0 e) refl

pub kept-some : (id : RecordId) (score : ℕ) (hits : List Hit) → (score ≡ 0 → ⊥) → kept id score hits ≡ (id, score) ∷ hits
kept-some id score hits n = rw (ne_eqb score 0 n) refl

front-kept : (id : RecordId) (score : ℕ) (hits : List Hit) → AreAbove id hits → IsFront id score (kept id score hits) hits
front-kept id score hits a = elim (cases_eq score 0) [
  | inl e ↦ rw (kept-none id score hits e) (rw e (front-none id hits a))
  | inr n ↦ rw (kept-some id score hits n) (front-some id score hits a)
]

hits-kept : (id : RecordId) (score : ℕ) (hits : List Hit) → score ≤ MOST_SCORE → AreAbove id hits → AreHits hits → AreHits (kept id score hits)
hits-kept id score hits m a h = elim (cases_eq score 0) [
  | inl e ↦ rw (kept-none id score hits e) h
  | inr n ↦ rw (kept-some id score hits n) (hits-cons (id, score) hits (record { some = omega arith; most = m }) a h)
]

same_record : (hits : List Hit) (q id : RecordId) → q.0 ≡ id.0 → score_of hits q ≡ score_of hits id
same_record hits q id e = rw e refl

module _ (f : ℕ → ℕ → ℕ) (none : f 0 0 ≡ 0) where
  -- one record at the front of both lists
  pub sums-front : (id : RecordId) (a b : ℕ) (l l' r r' tail : List Hit) → f a b ≤ MOST_SCORE → IsFront id a l l' → IsFront id b r r' → AreSums f l' r' tail → AreSums f l r (kept id (f a b) tail)
  sums-front id a b l l' r r' tail m left right s =
      let above : AreAbove id tail = above_from_scores id tail s.hits (λ q low. s.scores q ∙ (rw (score_of-before id l' left.above q low, score_of-before id r' right.above q low) none)) in
      let made : IsFront id (f a b) (kept id (f a b) tail) tail = front-kept id (f a b) tail above in
      record {
        hits = hits-kept id (f a b) tail m above s.hits;
        scores = λ q. elim (cases_eq q.0 id.0) [
          | inl e ↦ same_record _ q id e ∙ (made.here ∙ (rw (same_record l q id e, same_record r q id e, left.here, right.here) refl))
          | inr n ↦ made.other q n ∙ (s.scores q ∙ (rw (left.other q n, right.other q n) refl))
        ];
      }

  -- one more hit of the right list, at a record that the left one lacks
  sums-right : (id : RecordId) (score : ℕ) (l r tail : List Hit) → f 0 score ≤ MOST_SCORE → AreAbove id l → AreAbove id r → AreSums f l r tail → AreSums f l ((id, score) ∷ r) (kept id (f 0 score) tail)
  sums-right id score l r tail m la ra s = sums-front id 0 score l l ((id, score) ∷ r) r tail m (front-none id l la) (front-some id score r ra) s

  -- hits of the right list that come before the left one, where these leave nothing
  pub sums-drop : ((score : ℕ) → f 0 score ≡ 0) → (id : RecordId) (front l r tail : List Hit) → AreBelow id front → AllByRecursion (λ (hit : Hit). id.0 ≤ hit.0.0) l → AreHits (front ++ r) → AreSums f l r tail → AreSums f l (front ++ r) tail
  sums-drop z id [] l r tail b a h s = s
  sums-drop z id (hit ∷ front) l r tail b a h s =
      let low : hit.0.0 < id.0 = b.0 in
      let zero_score : f 0 hit.1 ≡ 0 = z hit.1 in
      let more : AreSums f l (hit ∷ (front ++ r)) (kept hit.0 (f 0 hit.1) tail) =
      sums-right hit.0 hit.1 l (front ++ r) tail (omega arith) (all_weaker (λ (other : Hit). id.0 ≤ other.0.0) (λ (other : Hit). hit.0.0 < other.0.0) (λ other o. omega arith) l a) (rise (hit ∷ (front ++ r)) h).0
      (sums-drop z id front l r tail b.1 a (hits-tail hit (front ++ r) h) s) in
      subst (AreSums f l (hit ∷ (front ++ r))) (kept-none hit.0 (f 0 hit.1) tail zero_score) more

  -- and where they stay as they are
  pub sums-pass : ((score : ℕ) → IsScore score → f 0 score ≡ score) → (id : RecordId) (front l r tail : List Hit) → AreBelow id front → AllByRecursion (λ (hit : Hit). id.0 ≤ hit.0.0) l → AreHits (front ++ r) → AreSums f l r tail → AreSums f l (front ++ r) (front ++ tail)
  sums-pass z id [] l r tail b a h s = s
  sums-pass z id (hit ∷ front) l r tail b a h s =
      let low : hit.0.0 < id.0 = b.0 in
      let own : IsScore hit.1 = h.scores.0 in
      let same : f 0 hit.1 ≡ hit.1 = z hit.1 own in
      let least : 1 ≤ hit.1 = own.some in
      let most : hit.1 ≤ MOST_SCORE = own.most in
      let more : AreSums f l (hit ∷ (front ++ r)) (kept hit.0 (f 0 hit.1) (front ++ tail)) =
      sums-right hit.0 hit.1 l (front ++ r) (front ++ tail) (omega arith) (all_weaker (λ (other : Hit). id.0 ≤ other.0.0) (λ (other : Hit). hit.0.0 < other.0.0) (λ other o. omega arith) l a) (rise (hit ∷ (front ++ r)) h).0
      (sums-pass z id front l r tail b.1 a (hits-tail hit (front ++ r) h) s) in
      subst (AreSums f l (hit ∷ (front ++ r))) (kept-some hit.0 (f 0 hit.1) (front ++ tail) (λ e. omega arith) ∙ ap (λ (n : ℕ). (hit.0, n) ∷ (front ++ tail)) same) more

  -- a hit of the left list, and the parts of the right one around it
  sums-parts : (hit : Hit) (l score r tail : _) → f hit.1 score ≤ MOST_SCORE → AreHits (hit ∷ l) → AreAbove hit.0 r → AreSums f l r tail → AreSums f (hit ∷ l) (kept hit.0 score r) (kept hit.0 (f hit.1 score) tail)
  sums-parts hit l score r tail m h a s = sums-front hit.0 hit.1 score (hit ∷ l) l (kept hit.0 score r) r tail m (front-some hit.0 hit.1 l (rise (hit ∷ l) h).0) (front-kept hit.0 score r a) s

pub kept-append : (id : RecordId) (score : ℕ) (tail : List Hit) → kept id score [] ++ tail ≡ kept id score tail
kept-append id score tail = elim (cases_eq score 0) [
  | inl e ↦ rw (kept-none id score [] e, kept-none id score tail e) refl
  | inr n ↦ rw (kept-some id score [] n, kept-some id score tail n) refl
]

-- what two lists make follows from what is left of them, once these hits were made
abbrev pub Continues : (ℕ → ℕ → ℕ) → List Hit → List Hit → List Hit → List Hit → List Hit → Type 0
Continues f walked searched left rest made = (tail : List Hit) → AreSums f left rest tail → AreSums f walked searched (made ++ tail)

-- a step of the walk over one list, where the hits between in the other one leave nothing, or stay as they are
module _ (f : ℕ → ℕ → ℕ) (none : f 0 0 ≡ 0) (walked searched : List Hit) (sound : AreHits walked) (i : ℕ) (d : Hit) (lt : i < length walked) where
  abbrev hit : Hit
  hit = get_or walked i d

  split : drop i walked ≡ hit ∷ drop (i + 1) walked
  split = drop_more walked i d lt

  left_sound : AreHits (hit ∷ drop (i + 1) walked)
  left_sound = subst AreHits split (hits-drop i walked sound)

  not_before : AllByRecursion (λ (other : Hit). hit.0.0 ≤ other.0.0) (hit ∷ drop (i + 1) walked)
  not_before = (omega arith, all_weaker (λ (other : Hit). hit.0.0 < other.0.0) (λ (other : Hit). hit.0.0 ≤ other.0.0) (λ other o. omega arith) (drop (i + 1) walked) (rise (hit ∷ drop (i + 1) walked) left_sound).0)

  pub walk-drop : ((score : ℕ) → f 0 score ≡ 0) → (rest front : List Hit) (score : ℕ) (above made : List Hit) → AreHits rest → AreParts rest hit.0 front score above → f hit.1 score ≤ MOST_SCORE
      → Continues f walked searched (drop i walked) rest made → Continues f walked searched (drop (i + 1) walked) above (made ++ kept hit.0 (f hit.1 score) [])
  walk-drop z rest front score above made h p m k tail s =
      let whole : AreHits (front ++ kept hit.0 score above) = subst AreHits p.whole h in
      let here = sums-parts f none hit (drop (i + 1) walked) score above tail m left_sound p.above s in
      let more = sums-drop f none z hit.0 front (hit ∷ drop (i + 1) walked) (kept hit.0 score above) (kept hit.0 (f hit.1 score) tail) p.below not_before whole here in
      rw (append_assoc, kept-append) (k (kept hit.0 (f hit.1 score) tail) (rw (split, p.whole) more))

  pub walk-pass : ((score : ℕ) → IsScore score → f 0 score ≡ score) → (rest front : List Hit) (score : ℕ) (above made : List Hit) → AreHits rest → AreParts rest hit.0 front score above → f hit.1 score ≤ MOST_SCORE
      → Continues f walked searched (drop i walked) rest made → Continues f walked searched (drop (i + 1) walked) above ((made ++ front) ++ kept hit.0 (f hit.1 score) [])
  walk-pass z rest front score above made h p m k tail s =
      let whole : AreHits (front ++ kept hit.0 score above) = subst AreHits p.whole h in
      let here = sums-parts f none hit (drop (i + 1) walked) score above tail m left_sound p.above s in
      let more = sums-pass f none z hit.0 front (hit ∷ drop (i + 1) walked) (kept hit.0 score above) (kept hit.0 (f hit.1 score) tail) p.below not_before whole here in
      rw (append_assoc, append_assoc, kept-append) (k (front ++ kept hit.0 (f hit.1 score) tail) (rw (split, p.whole) more))

-- the hits are walked to their end
pub sums-end : (f : ℕ → ℕ → ℕ) → ((score : ℕ) → f 0 score ≡ 0) → (left rest : List Hit) → left ≡ [] → AreSums f left rest []
sums-end f z left rest e = rw e (record { hits = hits-nil; scores = λ q. sym (z (score_of rest q)) })

-- and what is left of the other list stays as it is
pub sums-rest : (f : ℕ → ℕ → ℕ) → f 0 0 ≡ 0 → ((score : ℕ) → IsScore score → f 0 score ≡ score) → (left rest : List Hit) → left ≡ [] → AreHits rest → AreSums f left rest rest
sums-rest f none z left rest e h = rw e (record {
  hits = h;
  scores = λ q. elim (cases_eq (score_of rest q) 0) [
    | inl n ↦ (rw n (sym none))
    | inr s ↦ sym (z (score_of rest q) (record { some = omega arith; most = score_of-most rest h.scores q }))
  ];
})

pub score-at : (hits : List Hit) → AreHits hits → (i : ℕ) (d : Hit) → i < length hits → IsScore (get_or hits i d).1
score-at hits h i d lt = All-from_recursion (λ (hit : Hit). IsScore hit.1) hits h.scores i d lt

pub parts-length : (hits : List Hit) (id : RecordId) (front : List Hit) (score : ℕ) (rest : List Hit) → AreParts hits id front score rest → length front + length rest ≤ length hits
parts-length hits id front score rest p = elim (cases_eq score 0) [
  | inl e ↦
      let whole : length hits ≡ length front + length rest = ap length (p.whole ∙ ap (λ (hs : List Hit). front ++ hs) (kept-none id score rest e)) ∙ length-append front rest in
      omega arith
  | inr n ↦
      let whole : length hits ≡ length front + suc (length rest) = ap length (p.whole ∙ ap (λ (hs : List Hit). front ++ hs) (kept-some id score rest n)) ∙ length-append front ((id, score) ∷ rest) in
      omega arith
]

-- the value that a proof reads where there is no hit
abbrev pub no_hit : Hit
no_hit = (record { 0 = 0 }, 0)

cond_most : (b : Bool) (x y : ℕ) → x ≤ MOST_SCORE → y ≤ MOST_SCORE → cond b x y ≤ MOST_SCORE
cond_most true x y h k = h
cond_most false x y h k = k

same_either : (b : Bool) (n : ℕ) → cond b n n ≡ n
same_either true n = refl
same_either false n = refl

pub both-most : (left right : ℕ) → both_score left right ≤ MOST_SCORE
both-most left right = cond_most (left == 0 || right == 0) 0 (sum left right) (omega arith) (omega arith)

pub without-most : (left right : ℕ) → IsScore left → without_score left right ≤ MOST_SCORE
without-most left right s = cond_most (right == 0) left 0 s.most (omega arith)

pub without-none : (right : ℕ) → without_score 0 right ≡ 0
without-none right = same_either (right == 0) 0

pub without-found : (left right : ℕ) → IsScore right → without_score left right ≡ 0
without-found left right s = let least : 1 ≤ right = s.some in rw (ne_eqb right 0 (λ e. omega arith)) refl

pub sum-alone : (score : ℕ) → IsScore score → sum 0 score ≡ score
sum-alone score s = let most : score ≤ MOST_SCORE = s.most in omega arith

-- the same hits, with the lists the other way round
pub flipped : (f : ℕ → ℕ → ℕ) (left right made : List Hit) → AreSums (λ l r. f r l) right left made → AreSums f left right made
flipped f left right made s = record { hits = s.hits; scores = s.scores }
