-- Steps of a merge of two lists of hits.
use Rattle.std.proofs.Common.{◌≡◌, ℕ, ◌+◌, ◌<◌, ◌≤◌, ◌==◌, ◌||◌, ◌⊎◌, inl, inr, min, Bool, true, false, cond, eqb, leb, ltb, List, [], ◌∷◌, ◌++◌, length, get_or, set, take, drop, refl, sym, ap, subst, ◌∙◌, arith, append_assoc}
use Rattle.std.proofs.lemmas.Bool.{cases_order, eq-eqb, ne_eqb, le-leb, lt-leb, lt-ltb, le-ltb}
use Rattle.std.proofs.lemmas.Bool.Decides.{nat_tests}
use Rattle.std.proofs.lemmas.List.{append-nil, drop_more, take-set, take_more_set}
use Rattle.gr_base.specs.declared.limits.TheConstants.{MOST_SCORE}
use Rattle.gr_base.specs.declared.numbers.RecordId.{RecordId}
use Rattle.gr_hits.specs.Hits.{Hit, IsScore, AreHits, score_of, both_score, sum, without_score}
use Rattle.gr_hits.specs.Inside.Parts.{kept, AreAbove}
use Rattle.gr_hits.specs.Inside.Sums.{AreSums}
use Rattle.gr_hits.proofs.HitLemmas.{all_weaker, rise, hits-nil, hits-drop, score_of-most}
use Rattle.gr_hits.proofs.SumLemmas.{IsFront, front-none, front-some, kept-none, kept-some, kept-append, Continues, sums-front, score-at, without-found, without-none, sum-alone, sums-end, sums-rest}

module _ (f : ℕ → ℕ → ℕ) (none : f 0 0 ≡ 0) (left right : List Hit) (left_sound : AreHits left) (right_sound : AreHits right) (i j : ℕ) (d : Hit) (li : i < length left) (rj : j < length right) where
  abbrev one : Hit
  one = get_or left i d

  abbrev other : Hit
  other = get_or right j d

  split_left : drop i left ≡ one ∷ drop (i + 1) left
  split_left = drop_more left i d li

  split_right : drop j right ≡ other ∷ drop (j + 1) right
  split_right = drop_more right j d rj

  above_left : AreAbove one.0 (drop (i + 1) left)
  above_left = (rise _ (subst AreHits split_left (hits-drop i left left_sound))).0

  above_right : AreAbove other.0 (drop (j + 1) right)
  above_right = (rise _ (subst AreHits split_right (hits-drop j right right_sound))).0

  -- the left hit comes first
  pub merge-left : one.0.0 < other.0.0 → f one.1 0 ≤ MOST_SCORE → (made : List Hit) → Continues f left right (drop i left) (drop j right) made → Continues f left right (drop (i + 1) left) (drop j right) (made ++ kept one.0 (f one.1 0) [])
  merge-left lt m made k tail s =
      let later : AreAbove one.0 (other ∷ drop (j + 1) right) = (lt, all_weaker (λ (hit : Hit). other.0.0 < hit.0.0) (λ (hit : Hit). one.0.0 < hit.0.0) (λ hit o. omega arith) (drop (j + 1) right) above_right) in
      let here = sums-front f none one.0 one.1 0 (one ∷ drop (i + 1) left) (drop (i + 1) left) (drop j right) (drop j right) tail m (front-some one.0 one.1 (drop (i + 1) left) above_left) (front-none one.0 (drop j right) (subst (AreAbove one.0) (sym split_right) later)) s in
      rw (append_assoc, kept-append) (k (kept one.0 (f one.1 0) tail) (subst (λ (hits : List Hit). AreSums f hits (drop j right) (kept one.0 (f one.1 0) tail)) (sym split_left) here))

  -- the right one does
  pub merge-right : other.0.0 < one.0.0 → f 0 other.1 ≤ MOST_SCORE → (made : List Hit) → Continues f left right (drop i left) (drop j right) made → Continues f left right (drop i left) (drop (j + 1) right) (made ++ kept other.0 (f 0 other.1) [])
  merge-right lt m made k tail s =
      let later : AreAbove other.0 (one ∷ drop (i + 1) left) = (lt, all_weaker (λ (hit : Hit). one.0.0 < hit.0.0) (λ (hit : Hit). other.0.0 < hit.0.0) (λ hit o. omega arith) (drop (i + 1) left) above_left) in
      let here = sums-front f none other.0 0 other.1 (drop i left) (drop i left) (other ∷ drop (j + 1) right) (drop (j + 1) right) tail m (front-none other.0 (drop i left) (subst (AreAbove other.0) (sym split_left) later)) (front-some other.0 other.1 (drop (j + 1) right) above_right) s in
      rw (append_assoc, kept-append) (k (kept other.0 (f 0 other.1) tail) (subst (λ (hits : List Hit). AreSums f (drop i left) hits (kept other.0 (f 0 other.1) tail)) (sym split_right) here))

  -- both are of one record
  pub merge-same : one.0.0 ≡ other.0.0 → f one.1 other.1 ≤ MOST_SCORE → (made : List Hit) → Continues f left right (drop i left) (drop j right) made → Continues f left right (drop (i + 1) left) (drop (j + 1) right) (made ++ kept one.0 (f one.1 other.1) [])
  merge-same same m made k tail s =
      let id_is : other.0 ≡ one.0 = ap (λ (n : ℕ). let id : RecordId = record { 0 = n } in id) (sym same) in
      let front : IsFront one.0 other.1 (other ∷ drop (j + 1) right) (drop (j + 1) right) = subst (λ (id : RecordId). IsFront id other.1 (other ∷ drop (j + 1) right) (drop (j + 1) right)) id_is (front-some other.0 other.1 (drop (j + 1) right) above_right) in
      let here = sums-front f none one.0 one.1 other.1 (one ∷ drop (i + 1) left) (drop (i + 1) left) (other ∷ drop (j + 1) right) (drop (j + 1) right) tail m (front-some one.0 one.1 (drop (i + 1) left) above_left) front s in
      rw (append_assoc, kept-append) (k (kept one.0 (f one.1 other.1) tail) (rw (split_left, split_right) here))

-- a step that a test takes or leaves
moved : (n : ℕ) (b : Bool) → b ≡ true → n + cond b 1 0 ≡ n + 1
moved n b e = rw e refl

stayed : (n : ℕ) (b : Bool) → b ≡ false → n + cond b 1 0 ≡ n
stayed n b e = rw e (omega arith)

-- what was written, and was not counted
unwritten : (made : List Hit) (n : ℕ) (hit : Hit) → take n (set made n hit) ≡ take n made ++ []
unwritten made n hit = take-set made n hit ∙ sym (append-nil (take n made))

-- the hits made, where this piece was written
continued : (f : ℕ → ℕ → ℕ) (left right ls rs made now : List Hit) (piece made_piece : List Hit) → now ≡ made ++ piece → made_piece ≡ piece → Continues f left right ls rs (made ++ made_piece) → Continues f left right ls rs now
continued f left right ls rs made now piece made_piece e q k = subst (Continues f left right ls rs) (sym (e ∙ ap (λ (hits : List Hit). made ++ hits) (sym q))) k

abbrev hit_of : ℕ → ℕ → Hit
hit_of id score = (record { 0 = id }, score)

is_hit : (n s : ℕ) (id : RecordId) (score : ℕ) → n ≡ id.0 → s ≡ score → hit_of n s ≡ (id, score)
is_hit n s id score e q = ap (λ (m : ℕ). hit_of m s) e ∙ ap (λ (m : ℕ). hit_of id.0 m) q

both-found : (one other : ℕ) → IsScore one → IsScore other → both_score one other ≡ sum one other
both-found one other s t =
    let a : 1 ≤ one = s.some in
    let b : 1 ≤ other = t.some in
    rw (ne_eqb one 0 (λ e. omega arith), ne_eqb other 0 (λ e. omega arith)) refl

or_true : (b : Bool) → (b || true) ≡ true
or_true true = refl
or_true false = refl

both-alone : (one : ℕ) → both_score one 0 ≡ 0
both-alone one = rw (or_true (one == 0)) refl

module _ (left right : List Hit) (left_sound : AreHits left) (right_sound : AreHits right) (hits : List Hit) (made i j : ℕ) (d : Hit) (li : i < length left) (rj : j < length right) (room : made < length hits) where
  abbrev first : Hit
  first = get_or left i d

  abbrev second : Hit
  second = get_or right j d

  first_score : IsScore first.1
  first_score = score-at left left_sound i d li

  second_score : IsScore second.1
  second_score = score-at right right_sound j d rj

  pub both-step : Continues both_score left right (drop i left) (drop j right) (take made hits)
      → Continues both_score left right (drop (i + cond (leb first.0.0 second.0.0) 1 0) left) (drop (j + cond (leb second.0.0 first.0.0) 1 0) right) (take (made + cond (eqb first.0.0 second.0.0) 1 0) (set hits made (first.0, sum first.1 second.1)))
  both-step k = elim (cases_order first.0.0 second.0.0) [
    | inl e ↦
        rw (moved i _ (le-leb first.0.0 second.0.0 (omega arith)), moved j _ (le-leb second.0.0 first.0.0 (omega arith)), moved made _ (eq-eqb first.0.0 second.0.0 e))
        (let found = both-found first.1 second.1 first_score second_score in
        let some : 1 ≤ first.1 = first_score.some in
        continued both_score left right _ _ (take made hits) _ _ (kept first.0 (both_score first.1 second.1) []) (take_more_set hits made (first.0, sum first.1 second.1) room)
        (ap (λ (n : ℕ). kept first.0 n []) found ∙ kept-some first.0 (sum first.1 second.1) [] (λ z. omega arith))
        (merge-same both_score refl left right left_sound right_sound i j d li rj e (rw found (omega arith)) (take made hits) k))
    | inr o ↦ elim o [
      | inl l ↦
          rw (moved i _ (le-leb first.0.0 second.0.0 (omega arith)), stayed j _ (lt-leb second.0.0 first.0.0 l), stayed made _ (ne_eqb first.0.0 second.0.0 (λ e. omega arith)))
          (continued both_score left right _ _ (take made hits) _ [] (kept first.0 (both_score first.1 0) []) (unwritten hits made _)
          (kept-none first.0 (both_score first.1 0) [] (both-alone first.1))
          (merge-left both_score refl left right left_sound right_sound i j d li rj l (rw (both-alone first.1) (omega arith)) (take made hits) k))
      | inr l ↦
          rw (stayed i _ (lt-leb first.0.0 second.0.0 l), moved j _ (le-leb second.0.0 first.0.0 (omega arith)), stayed made _ (ne_eqb first.0.0 second.0.0 (λ e. omega arith)))
          (continued both_score left right _ _ (take made hits) _ [] (kept second.0 (both_score 0 second.1) []) (unwritten hits made _)
          refl
          (merge-right both_score refl left right left_sound right_sound i j d li rj l (omega arith) (take made hits) k))
    ]
  ]

  pub without-step : Continues without_score left right (drop i left) (drop j right) (take made hits)
      → Continues without_score left right (drop (i + cond (leb first.0.0 second.0.0) 1 0) left) (drop (j + cond (leb second.0.0 first.0.0) 1 0) right) (take (made + cond (ltb first.0.0 second.0.0) 1 0) (set hits made first))
  without-step k = elim (cases_order first.0.0 second.0.0) [
    | inl e ↦
        rw (moved i _ (le-leb first.0.0 second.0.0 (omega arith)), moved j _ (le-leb second.0.0 first.0.0 (omega arith)), stayed made _ (le-ltb first.0.0 second.0.0 (omega arith)))
        (let gone = without-found first.1 second.1 second_score in
        continued without_score left right _ _ (take made hits) _ [] (kept first.0 (without_score first.1 second.1) []) (unwritten hits made _)
        (kept-none first.0 (without_score first.1 second.1) [] gone)
        (merge-same without_score refl left right left_sound right_sound i j d li rj e (rw gone (omega arith)) (take made hits) k))
    | inr o ↦ elim o [
      | inl l ↦
          rw (moved i _ (le-leb first.0.0 second.0.0 (omega arith)), stayed j _ (lt-leb second.0.0 first.0.0 l), moved made _ (lt-ltb first.0.0 second.0.0 l))
          (let some : 1 ≤ first.1 = first_score.some in
          continued without_score left right _ _ (take made hits) _ (first ∷ []) (kept first.0 first.1 []) (take_more_set hits made first room)
          (kept-some first.0 first.1 [] (λ z. omega arith))
          (merge-left without_score refl left right left_sound right_sound i j d li rj l first_score.most (take made hits) k))
      | inr l ↦
          rw (stayed i _ (lt-leb first.0.0 second.0.0 l), moved j _ (le-leb second.0.0 first.0.0 (omega arith)), stayed made _ (le-ltb first.0.0 second.0.0 (omega arith)))
          (let gone = without-none second.1 in
          continued without_score left right _ _ (take made hits) _ [] (kept second.0 (without_score 0 second.1) []) (unwritten hits made _)
          (kept-none second.0 (without_score 0 second.1) [] gone)
          (merge-right without_score refl left right left_sound right_sound i j d li rj l (rw gone (omega arith)) (take made hits) k))
    ]
  ]

module _ (left right : List Hit) (left_sound : AreHits left) (right_sound : AreHits right) (i j : ℕ) (d : Hit) (li : i < length left) (rj : j < length right) where
  abbrev low : Hit
  low = get_or left i d

  abbrev high : Hit
  high = get_or right j d

  low_score : IsScore low.1
  low_score = score-at left left_sound i d li

  high_score : IsScore high.1
  high_score = score-at right right_sound j d rj

  -- the hit that a merge writes
  abbrev written : Hit
  written = hit_of (min low.0.0 high.0.0) (sum (cond (leb low.0.0 high.0.0) low.1 0) (cond (leb high.0.0 low.0.0) high.1 0))

  pub either-step : (before : List Hit) → Continues sum left right (drop i left) (drop j right) before
      → Continues sum left right (drop (i + cond (leb low.0.0 high.0.0) 1 0) left) (drop (j + cond (leb high.0.0 low.0.0) 1 0) right) (before ++ written ∷ [])
  either-step before k = elim (cases_order low.0.0 high.0.0) [
    | inl e ↦
        let up = le-leb low.0.0 high.0.0 (omega arith) in
        let down = le-leb high.0.0 low.0.0 (omega arith) in
        let is : written ≡ (low.0, sum low.1 high.1) = is_hit _ _ low.0 _ (omega arith) (rw (up, down) refl) in
        rw (moved i _ up, moved j _ down)
        (let some : 1 ≤ low.1 = low_score.some in
        continued sum left right _ _ before _ (written ∷ []) (kept low.0 (sum low.1 high.1) []) refl
        (kept-some low.0 (sum low.1 high.1) [] (λ z. omega arith) ∙ ap (λ (hit : Hit). hit ∷ []) (sym is))
        (merge-same sum refl left right left_sound right_sound i j d li rj e (omega arith) before k))
    | inr o ↦ elim o [
      | inl l ↦
          let up = le-leb low.0.0 high.0.0 (omega arith) in
          let down = lt-leb high.0.0 low.0.0 l in
          let is : written ≡ (low.0, sum low.1 0) = is_hit _ _ low.0 _ (omega arith) (rw (up, down) refl) in
          rw (moved i _ up, stayed j _ down)
          (let some : 1 ≤ low.1 = low_score.some in
          continued sum left right _ _ before _ (written ∷ []) (kept low.0 (sum low.1 0) []) refl
          (kept-some low.0 (sum low.1 0) [] (λ z. omega arith) ∙ ap (λ (hit : Hit). hit ∷ []) (sym is))
          (merge-left sum refl left right left_sound right_sound i j d li rj l (omega arith) before k))
      | inr l ↦
          let up = lt-leb low.0.0 high.0.0 l in
          let down = le-leb high.0.0 low.0.0 (omega arith) in
          let is : written ≡ (high.0, sum 0 high.1) = is_hit _ _ high.0 _ (omega arith) (rw (up, down) refl) in
          rw (stayed i _ up, moved j _ down)
          (let some : 1 ≤ high.1 = high_score.some in
          continued sum left right _ _ before _ (written ∷ []) (kept high.0 (sum 0 high.1) []) refl
          (kept-some high.0 (sum 0 high.1) [] (λ z. omega arith) ∙ ap (λ (hit : Hit). hit ∷ []) (sym is))
          (merge-right sum refl left right left_sound right_sound i j d li rj l (omega arith) before k))
    ]
  ]

-- one list is merged to its end
pub both-ended : (left right : List Hit) → (left ≡ []) ⊎ (right ≡ []) → AreSums both_score left right []
both-ended left right (inl e) = sums-end both_score (λ s. refl) left right e
both-ended left right (inr e) = rw e (record { hits = hits-nil; scores = λ q. sym (both-alone (score_of left q)) })

pub without-ended : (left right : List Hit) → AreHits left → (left ≡ []) ⊎ (right ≡ []) → AreSums without_score left right left
without-ended left right h (inl e) = rw e (sums-end without_score without-none [] right refl)
without-ended left right h (inr e) = rw e (record { hits = h; scores = λ q. refl })

pub either-ended : (left right : List Hit) → AreHits left → AreHits right → (left ≡ []) ⊎ (right ≡ []) → AreSums sum left right (left ++ right)
either-ended left right h k (inl e) = rw e (sums-rest sum refl sum-alone [] right refl k)
either-ended left right h k (inr e) = rw (e, append-nil) (record { hits = h; scores = λ q. whole (score_of left q) (score_of-most left h.scores q) })
  where
    whole : (score : ℕ) → score ≤ MOST_SCORE → score ≡ sum score 0
    whole score m = omega arith

-- how far the tests of a step go
pub step_most : (b : Bool) → cond b 1 0 ≤ 1
step_most true = omega arith
step_most false = omega arith

pub same_steps_left : (a b : ℕ) → cond (eqb a b) 1 0 ≤ cond (leb a b) 1 0
same_steps_left a b = grind (arith, nat_tests)

pub same_steps_right : (a b : ℕ) → cond (eqb a b) 1 0 ≤ cond (leb b a) 1 0
same_steps_right a b = grind (arith, nat_tests)

pub less_steps_left : (a b : ℕ) → cond (ltb a b) 1 0 ≤ cond (leb a b) 1 0
less_steps_left a b = grind (arith, nat_tests)

pub one_steps : (a b : ℕ) → 1 ≤ cond (leb a b) 1 0 + cond (leb b a) 1 0
one_steps a b = grind (arith, nat_tests)
