-- The places of a phrase in bytes, by searches for it.
use Rattle.std.proofs.Common.{ℕ, Bor, MatchOption, ◌≡◌, ◌<◌, ◌≤◌, ◌+◌, ◌-◌, true, false, cond, List, [], ◌∷◌, length, take, drop, sym, ap, ◌∙◌, arith, nat_eq, ⊎_elim}
use Rattle.std.proofs.lemmas.Bool.{cases_Bool, cases_lt}
use Rattle.std.proofs.lemmas.Bool.Decides.{Decides-eqb}
use Rattle.std.proofs.lemmas.List.{length-drop, length-take, length-take-le, take-take, take_all, drop-drop, drop_all}
use Rattle.std.specs.List.{starts_with}
use Rattle.std.specs.Prelude.{Option, None, Some}
use Rattle.memchr.specs.Find.{OccursAt}
use Rattle.memchr.proofs.lemmas.MatchLemmas.{OccursAt-part, OccursAt-from_part}
use Rattle.gr_tokens.specs.Inside.Alone.{IsNext, NoneStands}
use Rattle.gr_tokens.specs.Inside.Periods.{IsPeriod}
use Rattle.gr_tokens.specs.Places.{places}
use Rattle.gr_tokens.proofs.PlaceSteps.{places-empty, places-cons_yes}
use Rattle.gr_tokens.proofs.Shifts.{starts-take, take-starts, place-period, places-skip, places-shift}

-- a place that a search finds
pub OccursAt-starts : (bytes phrase : List ℕ) (k : ℕ) → OccursAt bytes phrase k → starts_with nat_eq (drop k bytes) phrase ≡ true
OccursAt-starts bytes phrase k occurs = take-starts nat_eq Decides-eqb (drop k bytes) phrase (OccursAt-part bytes phrase k occurs)

starts-occurs : (bytes phrase : List ℕ) (k : ℕ) → k + length phrase ≤ length bytes → starts_with nat_eq (drop k bytes) phrase ≡ true → OccursAt bytes phrase k
starts-occurs bytes phrase k fits begins = OccursAt-from_part bytes phrase k fits (starts-take nat_eq Decides-eqb (drop k bytes) phrase begins)

-- a phrase that begins a list is no longer than it
pub starts-fits : (bytes phrase : List ℕ) → starts_with nat_eq bytes phrase ≡ true → length phrase ≤ length bytes
starts-fits bytes phrase begins =
    let same = ap length (starts-take nat_eq Decides-eqb bytes phrase begins) in
    omega (arith, length-take (length phrase) bytes, same)

module _ (phrase : List ℕ) (some : 0 < length phrase) (bytes : List ℕ) where
  -- where it stands not, the bytes begin otherwise
  pub differs : (k : ℕ) → ¬ OccursAt bytes phrase k → starts_with nat_eq (drop k bytes) phrase ≡ false
  differs k none =
      ⊎_elim
      (λ begins.
      let fits = starts-fits (drop k bytes) phrase begins in
      let left = length-drop k bytes in
      absurd (none (starts-occurs bytes phrase k (omega arith) begins)))
      (λ e. e)
      (cases_Bool (starts_with nat_eq (drop k bytes) phrase))

  -- the places from the first one on
  pub places-first : (k : ℕ) → ((j : ℕ) → j < k → ¬ OccursAt bytes phrase j) → places nat_eq bytes phrase ≡ places nat_eq (drop k bytes) phrase
  places-first k before = places-skip nat_eq Decides-eqb phrase some k bytes (λ q below. differs q (before q below))

  -- where the phrase stands nowhere
  pub places-none : ((k : ℕ) → k < length bytes → ¬ OccursAt bytes phrase k) → places nat_eq bytes phrase ≡ 0
  places-none none =
      places-first (length bytes) none
      ∙ ap (λ l. places nat_eq l phrase) (drop_all (length bytes) bytes (omega arith))
      ∙ places-empty nat_eq phrase

-- a phrase that begins some bytes has a place in them
pub starts-places : (bytes phrase : List ℕ) → 0 < length phrase → starts_with nat_eq bytes phrase ≡ true → 1 ≤ places nat_eq bytes phrase
starts-places [] phrase some begins = absurd (omega (arith, starts-fits [] phrase begins))
starts-places (x ∷ xs) phrase some begins = let first = places-cons_yes nat_eq x xs phrase some begins in omega arith

-- a place at the beginning, and those that are not too near to it
pub places-after : (phrase : List ℕ) (apart : ℕ) (bytes : List ℕ) → 0 < length phrase → starts_with nat_eq bytes phrase ≡ true → 0 < apart → apart ≤ length phrase → ((q : ℕ) → 0 < q → q < apart → ¬ IsPeriod phrase (length phrase) q) → places nat_eq bytes phrase ≡ 1 + places nat_eq (drop apart bytes) phrase
places-after phrase apart bytes some begins low high none =
    let fits = starts-fits bytes phrase begins in
    let same = starts-take nat_eq Decides-eqb bytes phrase begins ∙ sym (take_all (length phrase) phrase (omega arith)) in
    places-shift nat_eq Decides-eqb (length phrase) apart bytes phrase some (omega arith) (omega arith) same low (omega arith) none
    ∙ ap (λ b. cond b 1 0 + places nat_eq (drop apart bytes) phrase) begins

-- a phrase that stands over itself has its first part there
pub IsPeriod-occurs : (phrase : List ℕ) (half q : ℕ) → 0 < q → q + half ≤ length phrase → IsPeriod phrase (length phrase) q → OccursAt (drop 1 phrase) (take half phrase) (q - 1)
IsPeriod-occurs phrase half q some fits period =
    let n : ℕ = length phrase in
    let part : length (take half phrase) ≡ half = length-take-le half phrase (omega arith) in
    let left : length (drop 1 phrase) ≡ n - 1 = length-drop 1 phrase in
    let on : 1 + (q - 1) ≡ q = omega arith in
    let shorter : half ≤ n - q = omega arith in
    OccursAt-from_part (drop 1 phrase) (take half phrase) (q - 1) (omega arith)
    (ap (λ k. take k (drop (q - 1) (drop 1 phrase))) part
    ∙ ap (take half) (drop-drop (q - 1) 1 phrase ∙ ap (λ k. drop k phrase) on)
    ∙ sym (take-take half (n - q) (drop q phrase) shorter)
    ∙ ap (take half) period.again
    ∙ take-take half (n - q) phrase shorter)

-- no place is too near to the one that begins some bytes
pub near-none : (phrase : List ℕ) (apart : ℕ) (bytes : List ℕ) → starts_with nat_eq bytes phrase ≡ true → apart ≤ length phrase → ((q : ℕ) → 0 < q → q < apart → ¬ IsPeriod phrase (length phrase) q) → NoneStands bytes phrase 1 apart
near-none phrase apart bytes begins high none q low below =
    let same = starts-take nat_eq Decides-eqb bytes phrase begins ∙ sym (take_all (length phrase) phrase (omega arith)) in
    ⊎_elim
    (λ stands. absurd (none q (omega arith) below (place-period nat_eq Decides-eqb (length phrase) q bytes phrase (omega arith) (omega arith) same stands)))
    (λ other. other)
    (cases_Bool (starts_with nat_eq (drop q bytes) phrase))

module _ (bytes phrase : List ℕ) (apart : ℕ) (near : NoneStands bytes phrase 1 apart) where
  -- no place is near or among some bytes after that
  none-further : (n : ℕ) → NoneStands (drop apart bytes) phrase 0 n → NoneStands bytes phrase 1 (apart + n)
  none-further n none q low high =
      ⊎_elim
      (λ early. near q low early)
      (λ late.
      let whole : apart + (q - apart) ≡ q = omega arith in
      ap (λ k. starts_with nat_eq (drop k bytes) phrase) (sym whole)
      ∙ ap (λ l. starts_with nat_eq l phrase) (sym (drop-drop (q - apart) apart bytes))
      ∙ none (q - apart) (omega arith) (omega arith))
      (cases_lt q apart)

  -- the first of the others is the next
  pub next-further : apart ≤ length bytes → 0 < apart → (found : Option (Bor (List ℕ))) → MatchOption found (NoneStands (drop apart bytes) phrase 0 (length (drop apart bytes))) (λ first. IsNext (drop apart bytes) phrase 0 first.now) → MatchOption found (NoneStands bytes phrase 1 (length bytes)) (λ next. IsNext bytes phrase 1 next.now)
  next-further within some None none =
      let left = length-drop apart bytes in
      λ q low high. none-further (length (drop apart bytes)) none q low (omega arith)
  next-further within some (Some next) first =
      record {
        at = apart + first.at;
        low = omega arith;
        high = omega (arith, first.high, length-drop apart bytes);
        is = first.is ∙ drop-drop first.at apart bytes;
        none = none-further first.at first.none;
        stands = first.stands;
      }
