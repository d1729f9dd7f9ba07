-- Spans and what their segments hold, taken together.
use Rattle.std.proofs.Common.{◌≡◌, ℕ, zero, suc, ◌+◌, ◌-◌, ◌<◌, min, Bool, true, false, cond, List, [], ◌∷◌, ◌++◌, map, length, get_or, take, drop, refl, sym, ap, ◌∙◌, arith}
use Rattle.std.specs.List.{count_by, filter}
use Rattle.std.proofs.lemmas.List.Sums.{length-filter}
use Rattle.std.proofs.lemmas.List.{drop-map, length-append, length-drop, length-map, length-take, take-map}
use Rattle.gr_chunks.specs.Segments.{postings_of}
use Rattle.gr_chunks.specs.declared.segment.Segment.{Segment}
use Rattle.gr_index.specs.declared.parts.Span.{Span}
use Rattle.gr_index.specs.Levels.{Part}
use Rattle.gr_index.specs.Inside.Parts.{Held, held_of, part_of, parts_of, span_of}

pub length-parts_of : (ss : List Span) (hs : List Held) → length ss ≡ length hs → length (parts_of ss hs) ≡ length ss
length-parts_of [] hs e = refl
length-parts_of (s ∷ ss) [] e = omega arith
length-parts_of (s ∷ ss) (h ∷ hs) e = ap suc (length-parts_of ss hs (omega arith))

pub take-parts_of : (n : ℕ) (ss : List Span) (hs : List Held) → take n (parts_of ss hs) ≡ parts_of (take n ss) (take n hs)
take-parts_of zero ss hs = refl
take-parts_of (suc n) [] hs = refl
take-parts_of (suc n) (s ∷ ss) [] = refl
take-parts_of (suc n) (s ∷ ss) (h ∷ hs) = ap (λ ps. part_of s h ∷ ps) (take-parts_of n ss hs)

parts_of-nil : (ss : List Span) → parts_of ss [] ≡ []
parts_of-nil [] = refl
parts_of-nil (s ∷ ss) = refl

pub drop-parts_of : (n : ℕ) (ss : List Span) (hs : List Held) → drop n (parts_of ss hs) ≡ parts_of (drop n ss) (drop n hs)
drop-parts_of zero ss hs = refl
drop-parts_of (suc n) [] hs = refl
drop-parts_of (suc n) (s ∷ ss) [] = sym (parts_of-nil (drop n ss))
drop-parts_of (suc n) (s ∷ ss) (h ∷ hs) = drop-parts_of n ss hs

pub parts_of-append : (ss ts : List Span) (hs is : List Held) → length ss ≡ length hs → parts_of (ss ++ ts) (hs ++ is) ≡ parts_of ss hs ++ parts_of ts is
parts_of-append [] ts [] is e = refl
parts_of-append [] ts (h ∷ hs) is e = absurd (omega arith)
parts_of-append (s ∷ ss) ts [] is e = absurd (omega arith)
parts_of-append (s ∷ ss) ts (h ∷ hs) is e = ap (λ ps. part_of s h ∷ ps) (parts_of-append ss ts hs is (omega arith))

pub span_at : (ss : List Span) (hs : List Held) (i : ℕ) (d : Part) (e : Span) → i < length ss → length ss ≡ length hs → get_or ss i e ≡ span_of (get_or (parts_of ss hs) i d)
span_at [] hs i d e l m = absurd (omega arith)
span_at (s ∷ ss) [] i d e l m = absurd (omega arith)
span_at (s ∷ ss) (h ∷ hs) zero d e l m = refl
span_at (s ∷ ss) (h ∷ hs) (suc i) d e l m = span_at ss hs i d e (omega arith) (omega arith)

pub postings-parts_of : (ss : List Span) (hs : List Held) → length ss ≡ length hs → map (λ p. p.postings) (parts_of ss hs) ≡ map (λ h. h.postings) hs
postings-parts_of [] [] e = refl
postings-parts_of [] (h ∷ hs) e = absurd (omega arith)
postings-parts_of (s ∷ ss) [] e = absurd (omega arith)
postings-parts_of (s ∷ ss) (h ∷ hs) e = ap (λ ps. h.postings ∷ ps) (postings-parts_of ss hs (omega arith))

filtered : (p : Part → Bool) (q : Span → Bool) → ((s : Span) (h : Held) → q s ≡ p (part_of s h)) → (ss : List Span) (hs : List Held) → length ss ≡ length hs → length (filter q ss) ≡ length (filter p (parts_of ss hs))
filtered p q w [] hs e = refl
filtered p q w (s ∷ ss) [] e = absurd (omega arith)
filtered p q w (s ∷ ss) (h ∷ hs) e = kept (filtered p q w ss hs (omega arith)) (w s h)
  where
    kept_both : {X Y : Type 0} (x : X) (y : Y) (xs : List X) (ys : List Y) (t : Bool) → length xs ≡ length ys → length (cond t (x ∷ xs) xs) ≡ length (cond t (y ∷ ys) ys)
    kept_both x y xs ys true l = ap suc l
    kept_both x y xs ys false l = l

    kept : length (filter q ss) ≡ length (filter p (parts_of ss hs)) → q s ≡ p (part_of s h) → length (filter q (s ∷ ss)) ≡ length (filter p (parts_of (s ∷ ss) (h ∷ hs)))
    kept l m = ap (λ t. length (cond t (s ∷ filter q ss) (filter q ss))) m ∙ kept_both s (part_of s h) (filter q ss) (filter p (parts_of ss hs)) (p (part_of s h)) l

pub count-parts_of : (p : Part → Bool) (q : Span → Bool) → ((s : Span) (h : Held) → q s ≡ p (part_of s h)) → (ss : List Span) (hs : List Held) → length ss ≡ length hs → count_by q ss ≡ count_by p (parts_of ss hs)
count-parts_of p q w ss hs e = sym (length-filter q ss) ∙ (filtered p q w ss hs e ∙ length-filter p (parts_of ss hs))

pub held-postings : (gs : List Segment) → map postings_of gs ≡ map (λ h. h.postings) (map held_of gs)
held-postings [] = refl
held-postings (g ∷ gs) = ap (λ ps. postings_of g ∷ ps) (held-postings gs)

pub held_long : (ss : List Span) (gs : List Segment) → length ss ≡ length gs → length ss ≡ length (map held_of gs)
held_long ss gs e = e ∙ sym (length-map gs held_of)

-- as many parts as spans, and as segments
pub as_long : (ss : List Span) (gs : List Segment) (ps : List Part) → length ss ≡ length gs → parts_of ss (map held_of gs) ≡ ps → length ps ≡ length ss
as_long ss gs ps e is = sym (ap length is) ∙ length-parts_of ss (map held_of gs) (held_long ss gs e)

-- those from one up to another
part_between : (ss : List Span) (hs : List Held) (i n : ℕ) → take n (drop i (parts_of ss hs)) ≡ parts_of (take n (drop i ss)) (take n (drop i hs))
part_between ss hs i n = ap (take n) (drop-parts_of i ss hs) ∙ take-parts_of n (drop i ss) (drop i hs)

same_front : {X Y : Type 0} (n : ℕ) (xs : List X) (ys : List Y) → length xs ≡ length ys → length (take n xs) ≡ length (take n ys)
same_front n xs ys e = length-take n xs ∙ (ap (min n) e ∙ sym (length-take n ys))

same_back : {X Y : Type 0} (n : ℕ) (xs : List X) (ys : List Y) → length xs ≡ length ys → length (drop n xs) ≡ length (drop n ys)
same_back n xs ys e = length-drop n xs ∙ (ap (λ m. m - n) e ∙ sym (length-drop n ys))

same_between : {X Y : Type 0} (i n : ℕ) (xs : List X) (ys : List Y) → length xs ≡ length ys → length (take n (drop i xs)) ≡ length (take n (drop i ys))
same_between i n xs ys e = same_front n (drop i xs) (drop i ys) (same_back i xs ys e)

pub postings-between : (ss : List Span) (gs : List Segment) (ps : List Part) (i n : ℕ) → length ss ≡ length gs → parts_of ss (map held_of gs) ≡ ps → map postings_of (take n (drop i gs)) ≡ map (λ p. p.postings) (take n (drop i ps))
postings-between ss gs ps i n e is =
    let hs = map held_of gs in
    held-postings (take n (drop i gs))
    ∙ (ap (map (λ h. h.postings)) (sym (take-map held_of n (drop i gs)) ∙ ap (take n) (sym (drop-map held_of i gs)))
    ∙ (sym (postings-parts_of (take n (drop i ss)) (take n (drop i hs)) (same_between i n ss hs (held_long ss gs e)))
    ∙ ap (map (λ p. p.postings)) (sym (part_between ss hs i n) ∙ ap (λ qs. take n (drop i qs)) is)))

pub count-between : (p : Part → Bool) (q : Span → Bool) → ((s : Span) (h : Held) → q s ≡ p (part_of s h)) → (ss : List Span) (gs : List Segment) (ps : List Part) (i n : ℕ) → length ss ≡ length gs → parts_of ss (map held_of gs) ≡ ps → count_by q (take n (drop i ss)) ≡ count_by p (take n (drop i ps))
count-between p q w ss gs ps i n e is =
    let hs = map held_of gs in
    count-parts_of p q w (take n (drop i ss)) (take n (drop i hs)) (same_between i n ss hs (held_long ss gs e))
    ∙ ap (count_by p) (sym (part_between ss hs i n) ∙ ap (λ qs. take n (drop i qs)) is)

pub count-all : (p : Part → Bool) (q : Span → Bool) → ((s : Span) (h : Held) → q s ≡ p (part_of s h)) → (ss : List Span) (gs : List Segment) (ps : List Part) → length ss ≡ length gs → parts_of ss (map held_of gs) ≡ ps → count_by q ss ≡ count_by p ps
count-all p q w ss gs ps e is = count-parts_of p q w ss (map held_of gs) (held_long ss gs e) ∙ ap (count_by p) is

pub span-of : (ss : List Span) (gs : List Segment) (ps : List Part) (i : ℕ) (d : Part) (s : Span) → length ss ≡ length gs → parts_of ss (map held_of gs) ≡ ps → i < length ss → s ≡ get_or ss i s → s ≡ span_of (get_or ps i d)
span-of ss gs ps i d s e is l r = r ∙ (span_at ss (map held_of gs) i d s l (held_long ss gs e) ∙ ap (λ qs. span_of (get_or qs i d)) is)

-- one more, and one in place of several
pub parts-pushed : (ss : List Span) (gs : List Segment) (ps : List Part) (ts : List Span) (hs : List Held) (s : Span) (h : Held) → length ss ≡ length gs → parts_of ss (map held_of gs) ≡ ps → ts ≡ ss ++ s ∷ [] → hs ≡ map held_of gs ++ h ∷ [] → parts_of ts hs ≡ ps ++ part_of s h ∷ []
parts-pushed ss gs ps ts hs s h e is t k =
    ap (λ xs. parts_of xs hs) t ∙ (ap (parts_of (ss ++ s ∷ [])) k
    ∙ (parts_of-append ss (s ∷ []) (map held_of gs) (h ∷ []) (held_long ss gs e) ∙ ap (λ xs. xs ++ part_of s h ∷ []) is))

pub parts-replaced : (ss : List Span) (gs : List Segment) (ps : List Part) (ts : List Span) (hs : List Held) (s : Span) (h : Held) (i j : ℕ) → length ss ≡ length gs → parts_of ss (map held_of gs) ≡ ps → ts ≡ take i ss ++ s ∷ [] ++ drop j ss → hs ≡ take i (map held_of gs) ++ h ∷ [] ++ drop j (map held_of gs) → parts_of ts hs ≡ take i ps ++ part_of s h ∷ [] ++ drop j ps
parts-replaced ss gs ps ts hs s h i j e is t k =
    let ks = map held_of gs in
    let long = held_long ss gs e in
    let front = same_front i ss ks long in
    let one : length (take i ss ++ s ∷ []) ≡ length (take i ks ++ h ∷ []) = length-append (take i ss) (s ∷ []) ∙ (ap (λ n. n + 1) front ∙ sym (length-append (take i ks) (h ∷ []))) in
    ap (λ xs. parts_of xs hs) t ∙ (ap (parts_of (take i ss ++ s ∷ [] ++ drop j ss)) k
    ∙ (parts_of-append (take i ss ++ s ∷ []) (drop j ss) (take i ks ++ h ∷ []) (drop j ks) one
    ∙ (ap (λ xs. xs ++ parts_of (drop j ss) (drop j ks)) (parts_of-append (take i ss) (s ∷ []) (take i ks) (h ∷ []) front)
    ∙ (ap (λ xs. (xs ++ part_of s h ∷ []) ++ parts_of (drop j ss) (drop j ks)) (sym (take-parts_of i ss ks) ∙ ap (take i) is)
    ∙ ap (λ xs. (take i ps ++ part_of s h ∷ []) ++ xs) (sym (drop-parts_of j ss ks) ∙ ap (drop j) is)))))
