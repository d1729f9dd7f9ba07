-- The sixteen oldest of a level, folded into one chunk of the level above.
use Rattle.std.proofs.Common.{◌≡◌, ℕ, zero, suc, ◌+◌, ◌-◌, ◌^◌, ◌<◌, ◌≤◌, Bool, true, false, List, [], ◌∷◌, ◌++◌, length, map, take, drop, refl, sym, ap, subst, ◌∙◌, append_assoc, arith}
use Rattle.std.specs.List.{All, AllByRecursion, count_by, filter}
use Rattle.std.specs.List.Sorted.{IsPermutation}
use Rattle.std.proofs.lemmas.List.{length-drop, length-take-le}
use Rattle.std.proofs.lemmas.List.Elements.{All-from_recursion, All-filter, filter_passes, recursion_from_All}
use Rattle.std.proofs.lemmas.List.Sorted.{All-permutation}
use Rattle.gr_base.specs.declared.numbers.RecordId.{RecordId}
use Rattle.gr_chunks.specs.Segments.{all_of, living, postings_of as segment_postings}
use Rattle.gr_chunks.specs.declared.segment.Segment.{Segment}
use Rattle.gr_postings.specs.declared.posting.Posting.{Posting}
use Rattle.gr_index.specs.declared.limits.TheConstants.{FOLDED_SEGMENTS, MOST_SEGMENTS}
use Rattle.gr_index.specs.Added.{FoldsOldest}
use Rattle.gr_index.specs.Levels.{AreLevels, HasPlaces, Levels, Part, Tile, end_of, is_of_level, postings_of}
use Rattle.gr_index.specs.Ranges.{oldest}
use Rattle.gr_index.specs.Inside.Located.{IsOldest, IsSpanFor}
use Rattle.gr_index.specs.Inside.Room.{Folds}
use Rattle.gr_index.proofs.LevelLemmas.{count_higher, count_lower, count_same, of_level_is}
use Rattle.gr_index.proofs.ListLemmas.{all_drop, all_take, all_weaker, count-append, in_three}
use Rattle.gr_index.proofs.LocatedLemmas.{tile_cut}
use Rattle.gr_index.proofs.PostingLemmas.{all_of-parts, all_places}
use Rattle.gr_index.proofs.ReplacedLemmas.{count_around, count_in_three}
use Rattle.gr_index.proofs.TileLemmas.{end_of-append, tile_between}
use Rattle.gr_index.proofs.UpLemmas.{goes_up, span_fits}

-- the oldest of a level are of that level
oldest_same : (level : ℕ) (parts : List Part) → AllByRecursion (λ p. p.level ≡ level) (oldest level parts)
oldest_same level parts =
    all_take (λ p. p.level ≡ level) FOLDED_SEGMENTS (filter (is_of_level level) parts)
    (all_weaker (λ p. is_of_level level p ≡ true) (λ p. p.level ≡ level) (λ p h. of_level_is level p h) (filter (is_of_level level) parts) (recursion_from_All (λ p. is_of_level level p ≡ true) (filter (is_of_level level) parts) (filter_passes (is_of_level level) parts)))

same_within : (level : ℕ) (parts : List Part) (start stop : ℕ) → IsOldest level parts start stop → AllByRecursion (λ p. p.level ≡ level) (take (stop - start) (drop start parts))
same_within level parts start stop o = subst (AllByRecursion (λ p. p.level ≡ level)) o.oldest (oldest_same level parts)

long_within : (level : ℕ) (parts : List Part) (start stop : ℕ) → IsOldest level parts start stop → length (take (stop - start) (drop start parts)) ≡ FOLDED_SEGMENTS
long_within level parts start stop o =
    let size = o.size in
    let bound = o.bound in
    let back = length-drop start parts in
    let e : stop - start ≡ FOLDED_SEGMENTS = omega (arith, size) in
    length-take-le (stop - start) (drop start parts) (omega (arith, back, size, bound)) ∙ e

-- the span of the chunk
pub folded_span : (place level from to : ℕ) (parts : List Part) (start stop : ℕ) → AreLevels place parts → IsOldest level parts start stop → count_by (is_of_level (level + 1)) parts < MOST_SEGMENTS → from ≡ end_of place (take start parts) → to ≡ end_of place (take stop parts) → IsSpanFor place parts start stop (record { level = level + 1; from = from; to = to })
folded_span place level from to parts start stop a o room b e =
    let size = o.size in
    let xs = take start parts in
    let ys = take (stop - start) (drop start parts) in
    let zs = drop stop parts in
    let cut = in_three start stop parts (omega (arith, size)) in
    let long = long_within level parts start stop o in
    span_fits place from to (level + 1) parts start stop (omega (arith, size)) o.bound b e
    (goes_up place level xs ys zs (subst (AreLevels place) cut a) o.higher (same_within level parts start stop o) o.lower (omega (arith, long)) (subst (λ ps. count_by (is_of_level (level + 1)) ps < MOST_SEGMENTS) cut room))

-- the postings of the segments of a range have places in it, and so has what a fold keeps of them
pub range_places : (place from to : ℕ) (parts : List Part) (start stop : ℕ) (segments : List Segment) → AreLevels place parts → start ≤ stop → from ≡ end_of place (take start parts) → to ≡ end_of place (take stop parts) → map segment_postings segments ≡ map (λ p. p.postings) (take (stop - start) (drop start parts)) → All (λ p. (from ≤ p.place) × (p.place < to)) (all_of segments)
range_places place from to parts start stop segments a l b e is =
    let ys = take (stop - start) (drop start parts) in
    let three = tile_cut place from to parts start stop a.tile l b e in
    let end = three.ends in
    let P : Posting → Type 0 = λ p. (from ≤ p.place) × (p.place < to) in
    let all = all_places from to ys (tile_between from from to ys three.within (omega arith) (omega (arith, end))) (all_take HasPlaces (stop - start) (drop start parts) (all_drop HasPlaces start parts a.places)) in
    All-from_recursion P (all_of segments) (subst (AllByRecursion P) (sym (all_of-parts segments ys is)) all)

pub folded_places : (lives : RecordId → ℕ → Bool) (place from to : ℕ) (parts : List Part) (start stop : ℕ) (segments : List Segment) (chunk : List Posting) → AreLevels place parts → start ≤ stop → from ≡ end_of place (take start parts) → to ≡ end_of place (take stop parts) → map segment_postings segments ≡ map (λ p. p.postings) (take (stop - start) (drop start parts)) → IsPermutation (living lives (all_of segments)) chunk → All (λ p. (from ≤ p.place) × (p.place < to)) chunk
folded_places lives place from to parts start stop segments chunk a l b e is p =
    let P : Posting → Type 0 = λ p. (from ≤ p.place) × (p.place < to) in
    All-permutation P (living lives (all_of segments)) chunk p (All-filter (λ q. lives q.id q.place) P (all_of segments) (range_places place from to parts start stop segments a l b e is))

-- the ends stay
end_stays : (place from : ℕ) (parts xs ys zs : List Part) (p : Part) → parts ≡ xs ++ (ys ++ zs) → end_of place xs ≡ from → end_of from ys ≡ p.to → end_of place (xs ++ p ∷ [] ++ zs) ≡ end_of place parts
end_stays place from parts xs ys zs p cut begins ends =
    end_of-append place (xs ++ p ∷ []) zs
    ∙ (ap (λ n. end_of n zs) (end_of-append place xs (p ∷ []))
    ∙ sym (ap (end_of place) cut
    ∙ (end_of-append place xs (ys ++ zs)
    ∙ (end_of-append (end_of place xs) ys zs
    ∙ ap (λ n. end_of n zs) (ap (λ n. end_of n ys) begins ∙ ends)))))

-- sixteen fewer are of the level, and as many as before of each lower one
fewer_counted : (level start stop : ℕ) (parts made : List Part) (p : Part) → IsOldest level parts start stop → p.level ≡ level + 1 → made ≡ take start parts ++ p ∷ [] ++ drop stop parts → count_by (is_of_level level) made + FOLDED_SEGMENTS ≡ count_by (is_of_level level) parts
fewer_counted level start stop parts made p o l is =
    let size = o.size in
    let all = count_in_three (is_of_level level) start stop parts (omega (arith, size)) in
    let now = ap (count_by (is_of_level level)) is ∙ count_around level (take start parts) p (drop stop parts) in
    let none = count_higher level (p ∷ []) (omega (arith, l), tt) in
    let within = count_same level (take (stop - start) (drop start parts)) (same_within level parts start stop o) ∙ long_within level parts start stop o in
    omega (arith, all, now, none, within)

lower_counted : (level start stop : ℕ) (parts made : List Part) (p : Part) (low : ℕ) → IsOldest level parts start stop → p.level ≡ level + 1 → made ≡ take start parts ++ p ∷ [] ++ drop stop parts → low < level → count_by (is_of_level low) made ≡ count_by (is_of_level low) parts
lower_counted level start stop parts made p low o l is k =
    let size = o.size in
    let all = count_in_three (is_of_level low) start stop parts (omega (arith, size)) in
    let now = ap (count_by (is_of_level low)) is ∙ count_around low (take start parts) p (drop stop parts) in
    let none = count_higher low (p ∷ []) (omega (arith, l, k), tt) in
    let within = count_higher low (take (stop - start) (drop start parts)) (all_weaker (λ q. q.level ≡ level) (λ q. low < q.level) (λ q h. omega (arith, h, k)) (take (stop - start) (drop start parts)) (same_within level parts start stop o)) in
    omega (arith, all, now, none, within)

-- the index after the fold
pub folds : (lives : RecordId → ℕ → Bool) (level from to : ℕ) (old new : Levels) (start stop : ℕ) (segments : List Segment) (chunk : List Posting) → AreLevels old.place old.parts → IsOldest level old.parts start stop → from ≡ end_of old.place (take start old.parts) → to ≡ end_of old.place (take stop old.parts) → map segment_postings segments ≡ map (λ p. p.postings) (take (stop - start) (drop start old.parts)) → IsPermutation (living lives (all_of segments)) chunk → new ≡ record { place = old.place; parts = take start old.parts ++ record { level = level + 1; from = from; to = to; is_chunk = true; postings = chunk } ∷ [] ++ drop stop old.parts } → Folds lives level old new
folds lives level from to old new start stop segments chunk a o b e is perm made =
    let parts = old.parts in
    let xs = take start parts in
    let ys = take (stop - start) (drop start parts) in
    let zs = drop stop parts in
    let size = o.size in
    let before : start ≤ stop = omega (arith, size) in
    let cut = in_three start stop parts before in
    let three = tile_cut old.place from to parts start stop a.tile before b e in
    let p : Part = record { level = level + 1; from = from; to = to; is_chunk = true; postings = chunk } in
    let parts_made : new.parts ≡ xs ++ p ∷ [] ++ zs = ap (λ (v : Levels). v.parts) made in
    let ending : to ≡ end_of from (oldest level parts) = sym (ap (end_of from) o.oldest ∙ three.ends) in
    let one : ℕ → Part = λ n. record { level = level + 1; from = from; to = n; is_chunk = true; postings = chunk } in
    record {
      folds = record {
        older = xs;
        newer = zs;
        parts = cut ∙ (ap (λ ws. xs ++ (ws ++ zs)) (sym o.oldest) ∙ sym (append_assoc xs (oldest level parts) zs));
        from = from;
        postings = chunk;
        begins = λ q qs h. sym (subst (Tile from) (sym o.oldest ∙ h) three.within).0;
        exact = subst (λ ps. IsPermutation (living lives ps) chunk) (all_of-parts segments ys is ∙ ap postings_of (sym o.oldest)) perm;
        folded = parts_made ∙ ap (λ n. xs ++ one n ∷ [] ++ zs) ending;
      };
      same_place = ap (λ (v : Levels). v.place) made;
      same_end = ap (λ (v : Levels). end_of v.place v.parts) made ∙ end_stays old.place from parts xs ys zs p cut three.begins three.ends;
      fewer = fewer_counted level start stop parts new.parts p o refl parts_made;
      lower = λ low k. lower_counted level start stop parts new.parts p low o refl parts_made k;
    }
