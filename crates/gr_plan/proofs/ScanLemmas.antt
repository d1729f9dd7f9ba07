-- The records of a table, seen one by one.
use Rattle.std.proofs.Common.{◌≡◌, ℕ, zero, ◌+◌, ◌-◌, ◌<◌, ◌≤◌, true, false, Option, Some, None, is_some, suc, inl, inr, List, [], ◌∷◌, ◌++◌, length, take, get_or, refl, sym, ap, ap₂, subst, ◌∙◌, arith, add-one, append-nil, append_assoc}
use Rattle.std.proofs.lemmas.Bool.{cases_eq, cases_lt, eq-eqb, ne_eqb}
use Rattle.std.proofs.lemmas.List.{length-take, take_all, take_more}
use Rattle.std.proofs.lemmas.Option.{slice_get-get_or, slice_get_past}
use Rattle.std.specs.Prelude.{if◌then◌else◌}
use Rattle.std.specs.List.{AllByRecursion}
use Rattle.std.specs.Option.{option_flatten}
use Rattle.gr_base.specs.declared.numbers.RecordId.{RecordId}
use Rattle.gr_expr.specs.Score.{score_of}
use Rattle.gr_expr.specs.Tables.{Record, Records, record_id, record_in}
use Rattle.gr_expr.specs.declared.typed.Expr.{Expr}
use Rattle.gr_hits.specs.Hits.{Hit}
use Rattle.gr_plan.specs.declared.planes.Planes.{Planes}
use Rattle.gr_plan.specs.Inside.Planes.{hits_in, score_if_there, score_in}
use Rattle.gr_plan.specs.Scan.{hit_of, scan_from}

-- One record

hit_of-none : (id : RecordId) (score : ℕ) → score ≡ 0 → hit_of id score ≡ []
hit_of-none id score none = rw (eq-eqb score 0 none) refl

hit_of-some : (id : RecordId) (score : ℕ) → 0 < score → hit_of id score ≡ (id, score) ∷ []
hit_of-some id score some = rw (ne_eqb score 0 (λ none. omega (arith, none, some))) refl

-- a hit of a record below a bound is below it
all_below : (bound : ℕ) (id : RecordId) (score : ℕ) (hits : List Hit) → id.0 < bound → AllByRecursion (λ (hit : Hit). hit.0.0 < bound) hits → AllByRecursion (λ (hit : Hit). hit.0.0 < bound) (hit_of id score ++ hits)
all_below bound id score hits below all = elim (cases_eq score 0) [
  | inl none ↦ rw (hit_of-none id score none) all
  | inr some ↦ rw (hit_of-some id score (omega (arith, some))) (below, all)
]

record_in-is : (records : Records) (seen : ℕ) → seen < length records → record_in records (seen + 1) ≡ get_or records seen None
record_in-is records seen below = ap (record_in records) (add-one seen) ∙ ap option_flatten (slice_get-get_or records seen None below)

module _ (tables : List Records) (condition : Expr) where
  -- the score of the record of an id
  abbrev pub score_at : ℕ → ℕ
  score_at id = score_of tables (record_id id) condition

  -- a record as a hit, where there is one and it has a score
  abbrev hit_at : ℕ → Option Record → List Hit
  hit_at id None = []
  hit_at id (Some found) = hit_of (record_id id) (score_at id)

  hit_at-dead : (id : ℕ) (found : Option Record) → is_some found ≡ false → hit_at id found ≡ []
  hit_at-dead id None dead = refl
  hit_at-dead id (Some found) dead = absurd (cc)

  hit_at-alive : (id : ℕ) (found : Option Record) → is_some found ≡ true → hit_at id found ≡ hit_of (record_id id) (score_at id)
  hit_at-alive id None alive = absurd (cc)
  hit_at-alive id (Some found) alive = refl

  -- Records in a row

  scan_from-one : (id : ℕ) (found : Option Record) → scan_from tables condition id (found ∷ []) ≡ hit_at id found
  scan_from-one id None = refl
  scan_from-one id (Some found) = append-nil (hit_of (record_id id) (score_at id))

  scan_from-append : (id : ℕ) (records more : Records) → scan_from tables condition id (records ++ more) ≡ scan_from tables condition id records ++ scan_from tables condition (id + length records) more
  scan_from-append id [] more = let none : id + 0 ≡ id = omega arith in rw none refl
  scan_from-append id (None ∷ records) more =
      let further : id + 1 + length records ≡ id + suc (length records) = omega arith in
      scan_from-append (id + 1) records more ∙ ap (λ at. scan_from tables condition (id + 1) records ++ scan_from tables condition at more) further
  scan_from-append id (Some first ∷ records) more =
      let hit = hit_of (record_id id) (score_at id) in
      let further : id + 1 + length records ≡ id + suc (length records) = omega arith in
      ap (λ hits. hit ++ hits) (scan_from-append (id + 1) records more ∙ ap (λ at. scan_from tables condition (id + 1) records ++ scan_from tables condition at more) further)
      ∙ sym (append_assoc hit (scan_from tables condition (id + 1) records) (scan_from tables condition (id + suc (length records)) more))

  -- the hits of some first records and of the next one
  scan_from-next : (records : Records) (seen : ℕ) → seen < length records → scan_from tables condition 1 (take (seen + 1) records) ≡ scan_from tables condition 1 (take seen records) ++ hit_at (seen + 1) (record_in records (seen + 1))
  scan_from-next records seen below =
      let first = scan_from tables condition 1 (take seen records) in
      let next = get_or records seen None in
      let taken : 1 + length (take seen records) ≡ seen + 1 = omega (arith, length-take seen records, below) in
      ap (scan_from tables condition 1) (take_more records seen None below)
      ∙ scan_from-append 1 (take seen records) (next ∷ [])
      ∙ ap (λ id. first ++ scan_from tables condition id (next ∷ [])) taken
      ∙ ap (λ hit. first ++ hit) (scan_from-one (seen + 1) next)
      ∙ ap (λ found. first ++ hit_at (seen + 1) found) (sym (record_in-is records seen below))

  -- the hits of records are of these records
  scan_from-below : (id bound : ℕ) (records : Records) → id + length records ≤ bound → AllByRecursion (λ (hit : Hit). hit.0.0 < bound) (scan_from tables condition id records)
  scan_from-below id bound [] within = tt
  scan_from-below id bound (None ∷ records) within = scan_from-below (id + 1) bound records (omega (arith, within))
  scan_from-below id bound (Some found ∷ records) within =
      all_below bound (record_id id) (score_at id) (scan_from tables condition (id + 1) records) (omega (arith, within)) (scan_from-below (id + 1) bound records (omega (arith, within)))

-- Records that are seen

-- the hits of so many first records
pub record AreSeen (tables : List Records) (condition : Expr) (records : Records) (seen : ℕ) (hits : List Hit) : Type 0 where
  pub within : seen ≤ length records
  pub are : hits ≡ scan_from tables condition 1 (take seen records)

module _ (tables : List Records) (condition : Expr) (records : Records) where
  pub AreSeen-none : AreSeen tables condition records 0 []
  AreSeen-none = record { within = omega arith; are = refl }

  seen-here : (seen : ℕ) (hits : List Hit) → seen < length records → AreSeen tables condition records seen hits
      → scan_from tables condition 1 (take (seen + 1) records) ≡ hits ++ hit_at tables condition (seen + 1) (record_in records (seen + 1))
  seen-here seen hits below are =
      scan_from-next tables condition records seen below
      ∙ ap (λ hits. hits ++ hit_at tables condition (seen + 1) (record_in records (seen + 1))) (sym are.are)

  seen-alive : (seen : ℕ) (hits : List Hit) → seen < length records → is_some (record_in records (seen + 1)) ≡ true → AreSeen tables condition records seen hits
      → scan_from tables condition 1 (take (seen + 1) records) ≡ hits ++ hit_of (record_id (seen + 1)) (score_at tables condition (seen + 1))
  seen-alive seen hits below alive are =
      seen-here seen hits below are ∙ ap (λ hit. hits ++ hit) (hit_at-alive tables condition (seen + 1) (record_in records (seen + 1)) alive)

  -- an id that has no record
  pub AreSeen-dead : (seen : ℕ) (hits : List Hit) → seen < length records → is_some (record_in records (seen + 1)) ≡ false → AreSeen tables condition records seen hits → AreSeen tables condition records (seen + 1) hits
  AreSeen-dead seen hits below dead are = record {
    within = omega (arith, below);
    are = sym (seen-here seen hits below are ∙ ap (λ hit. hits ++ hit) (hit_at-dead tables condition (seen + 1) (record_in records (seen + 1)) dead) ∙ append-nil hits);
  }

  -- a record that has no score
  pub AreSeen-passed : (seen : ℕ) (hits : List Hit) → seen < length records → is_some (record_in records (seen + 1)) ≡ true → score_at tables condition (seen + 1) ≡ 0
      → AreSeen tables condition records seen hits → AreSeen tables condition records (seen + 1) hits
  AreSeen-passed seen hits below alive none are = record {
    within = omega (arith, below);
    are = sym (seen-alive seen hits below alive are ∙ ap (λ hit. hits ++ hit) (hit_of-none (record_id (seen + 1)) (score_at tables condition (seen + 1)) none) ∙ append-nil hits);
  }

  -- a record that has one
  pub AreSeen-found : (seen score : ℕ) (hits : List Hit) → seen < length records → is_some (record_in records (seen + 1)) ≡ true → score ≡ score_at tables condition (seen + 1) → 0 < score
      → AreSeen tables condition records seen hits → AreSeen tables condition records (seen + 1) (hits ++ (record_id (seen + 1), score) ∷ [])
  AreSeen-found seen score hits below alive is some are = record {
    within = omega (arith, below);
    are =
        sym (seen-alive seen hits below alive are
        ∙ ap (λ score. hits ++ hit_of (record_id (seen + 1)) score) (sym is)
        ∙ ap (λ hit. hits ++ hit) (hit_of-some (record_id (seen + 1)) score some));
  }

  -- the ids that are not seen yet are above all hits
  pub AreSeen-later : (seen : ℕ) (hits : List Hit) → AreSeen tables condition records seen hits → AllByRecursion (λ (hit : Hit). hit.0.0 < seen + 1) hits
  AreSeen-later seen hits are =
      subst (AllByRecursion (λ (hit : Hit). hit.0.0 < seen + 1)) (sym are.are)
      (scan_from-below tables condition 1 (seen + 1) (take seen records) (omega (arith, length-take seen records, are.within)))

  -- when all records are seen all hits are
  pub AreSeen-all : (seen : ℕ) (hits : List Hit) → length records ≤ seen → AreSeen tables condition records seen hits → hits ≡ scan_from tables condition 1 records
  AreSeen-all seen hits last are = are.are ∙ ap (scan_from tables condition 1) (take_all seen records last)

-- Records that are seen block by block

-- the hits of the records of all ids below this one
abbrev pub AreBelow : List Records → Expr → Records → ℕ → List Hit → Type 0
AreBelow tables condition records id hits = hits ≡ scan_from tables condition 1 (take (id - 1) records)

module _ (tables : List Records) (condition : Expr) (records : Records) where
  abbrev scored : ℕ → ℕ
  scored id = score_if_there records (λ id. score_of tables id condition) id

  hit_of-there : (id : ℕ) (found : Option Record) → hit_at tables condition id found ≡ hit_of (record_id id) (if is_some found then score_at tables condition id else 0)
  hit_of-there id None = refl
  hit_of-there id (Some found) = refl

  hit_of-past : (seen : ℕ) → length records ≤ seen → hit_of (record_id (suc seen)) (scored (suc seen)) ≡ []
  hit_of-past seen past = rw (slice_get_past records seen past) refl

  -- the hits of the records below the next id
  scan_from-more : (id : ℕ) → scan_from tables condition 1 (take (id + 1 - 1) records) ≡ scan_from tables condition 1 (take (id - 1) records) ++ hit_of (record_id id) (scored id)
  scan_from-more zero = refl
  scan_from-more (suc seen) =
      let next : suc seen + 1 - 1 ≡ seen + 1 = omega arith in
      let here : suc seen - 1 ≡ seen = omega arith in
      rw (next, here) (elim (cases_lt seen (length records)) [
        | inr past ↦
            let most : length records ≤ seen + 1 = omega (arith, past) in
            rw (take_all (seen + 1) records most, take_all seen records past, hit_of-past seen past) (sym (append-nil (scan_from tables condition 1 records)))
        | inl below ↦
            scan_from-next tables condition records seen below
            ∙ ap (λ id. scan_from tables condition 1 (take seen records) ++ hit_at tables condition id (record_in records id)) (add-one seen)
            ∙ ap (λ hit. scan_from tables condition 1 (take seen records) ++ hit) (hit_of-there (suc seen) (record_in records (suc seen)))
      ])

  -- and those of a block
  pub AreBelow-block : (first : ℕ) (scores : Planes) (hits : List Hit) (count : ℕ) → ((place : ℕ) → place < count → score_in scores place ≡ scored (first + place))
      → AreBelow tables condition records first hits → AreBelow tables condition records (first + count) (hits ++ hits_in first scores count)
  unfolding hits_in
  AreBelow-block first scores hits zero each are = let same : first + 0 ≡ first = omega arith in rw (append-nil hits, same) are
  AreBelow-block first scores hits (suc count) each are =
      let id = first + count in
      let next : first + suc count ≡ id + 1 = omega arith in
      let before = AreBelow-block first scores hits count (λ place below. each place (omega (arith, below))) are in
      rw next
      (sym (append_assoc hits (hits_in first scores count) (hit_of (record_id id) (score_in scores count)))
      ∙ ap₂ (λ (hits : List Hit) (score : ℕ). hits ++ hit_of (record_id id) score) before (each count (omega arith))
      ∙ sym (scan_from-more id))

  pub AreBelow-later : (id : ℕ) (hits : List Hit) → AreBelow tables condition records id hits → AllByRecursion (λ (hit : Hit). hit.0.0 < id) hits
  AreBelow-later zero hits are = rw are tt
  AreBelow-later (suc seen) hits are =
      let here : suc seen - 1 ≡ seen = omega arith in
      subst (AllByRecursion (λ (hit : Hit). hit.0.0 < suc seen)) (sym are)
      (rw here (scan_from-below tables condition 1 (suc seen) (take seen records) (omega (arith, length-take seen records))))

  pub AreBelow-all : (id : ℕ) (hits : List Hit) → length records < id → AreBelow tables condition records id hits → hits ≡ scan_from tables condition 1 records
  AreBelow-all id hits last are = are ∙ ap (scan_from tables condition 1) (take_all (id - 1) records (omega (arith, last)))

-- The hits of a block

all_weaker : (low high : ℕ) (hits : List Hit) → low ≤ high → AllByRecursion (λ (hit : Hit). hit.0.0 < low) hits → AllByRecursion (λ (hit : Hit). hit.0.0 < high) hits
all_weaker low high [] order all = tt
all_weaker low high (hit ∷ hits) order all = (omega (arith, order, all.0), all_weaker low high hits order all.1)

all_append : (bound : ℕ) (hits more : List Hit) → AllByRecursion (λ (hit : Hit). hit.0.0 < bound) hits → AllByRecursion (λ (hit : Hit). hit.0.0 < bound) more → AllByRecursion (λ (hit : Hit). hit.0.0 < bound) (hits ++ more)
all_append bound [] more all also = also
all_append bound (hit ∷ hits) more all also = (all.0, all_append bound hits more all.1 also)

hit_of-below : (bound id score : ℕ) → id < bound → AllByRecursion (λ (hit : Hit). hit.0.0 < bound) (hit_of (record_id id) score)
hit_of-below bound id score below = elim (cases_eq score 0) [
  | inl none ↦ rw (hit_of-none (record_id id) score none) tt
  | inr some ↦ rw (hit_of-some (record_id id) score (omega (arith, some))) (below, tt)
]

pub hits_in-later : (first : ℕ) (scores : Planes) (hits : List Hit) (count : ℕ) → AllByRecursion (λ (hit : Hit). hit.0.0 < first) hits → AllByRecursion (λ (hit : Hit). hit.0.0 < first + count) (hits ++ hits_in first scores count)
unfolding hits_in
hits_in-later first scores hits zero all = let same : first + 0 ≡ first = omega arith in rw (append-nil hits, same) all
hits_in-later first scores hits (suc count) all =
    let bound = first + suc count in
    rw (← append_assoc hits (hits_in first scores count) (hit_of (record_id (first + count)) (score_in scores count)))
    (all_append bound (hits ++ hits_in first scores count) (hit_of (record_id (first + count)) (score_in scores count))
    (all_weaker (first + count) bound (hits ++ hits_in first scores count) (omega arith) (hits_in-later first scores hits count all))
    (hit_of-below bound (first + count) (score_in scores count) (omega arith)))

-- no hit stands where no score is
pub hits_in-none : (first : ℕ) (scores : Planes) (count : ℕ) → ((place : ℕ) → score_in scores place ≡ 0) → hits_in first scores count ≡ []
unfolding hits_in
hits_in-none first scores zero none = refl
hits_in-none first scores (suc count) none = rw (hits_in-none first scores count none, hit_of-none (record_id (first + count)) (score_in scores count) (none count)) refl

pub hits_in-start : (first : ℕ) (scores : Planes) (hits : List Hit) → hits ≡ hits ++ hits_in first scores 0
unfolding hits_in
hits_in-start first scores hits = sym (append-nil hits)

hits_in-more : (first : ℕ) (scores : Planes) (count : ℕ) → hits_in first scores (count + 1) ≡ hits_in first scores count ++ hit_of (record_id (first + count)) (score_in scores count)
unfolding hits_in
hits_in-more first scores count = rw add-one refl

module _ (first : ℕ) (scores : Planes) (start hits : List Hit) (count : ℕ) (are : hits ≡ start ++ hits_in first scores count) where
  one_more : start ++ hits_in first scores (count + 1) ≡ hits ++ hit_of (record_id (first + count)) (score_in scores count)
  one_more =
      ap (λ more. start ++ more) (hits_in-more first scores count)
      ∙ sym (append_assoc start (hits_in first scores count) (hit_of (record_id (first + count)) (score_in scores count)))
      ∙ ap (λ hits. hits ++ hit_of (record_id (first + count)) (score_in scores count)) (sym are)

  pub hits_in-found : (score : ℕ) → score ≡ score_in scores count → 0 < score → hits ++ (record_id (first + count), score) ∷ [] ≡ start ++ hits_in first scores (count + 1)
  hits_in-found score is some =
      sym (one_more
      ∙ ap (λ score. hits ++ hit_of (record_id (first + count)) score) (sym is)
      ∙ ap (λ hit. hits ++ hit) (hit_of-some (record_id (first + count)) score some))

  pub hits_in-passed : score_in scores count ≡ 0 → hits ≡ start ++ hits_in first scores (count + 1)
  hits_in-passed none = sym (one_more ∙ ap (λ hit. hits ++ hit) (hit_of-none (record_id (first + count)) (score_in scores count) none) ∙ append-nil hits)
