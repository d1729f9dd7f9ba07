-- Lists that start with others, and how often a place stands in a list.
use Rattle.std.proofs.Common.{◌≡◌, ℕ, zero, suc, ◌+◌, ◌<◌, ◌≤◌, ◌≢◌, ◌==◌, Bool, true, false, cond, eqb, ltb, List, [], ◌∷◌, ◌++◌, length, get_or, refl, sym, ap, subst, ◌∙◌, arith, Contains, append_assoc, append-nil, length-append, eq-eqb, ne_eqb, lt-ltb, le-ltb}
use Rattle.std.proofs.lemmas.List.Sums.{sum_by-cons, sum_by-append}
use Rattle.std.proofs.lemmas.List.{nil_from_length}
use Rattle.std.specs.List.{range_with_len}
use mathlib.Core.Logic.{dite}
use native.Mathlib.Decide.{ℕ_discrete, dec_lt}
use Rattle.gr_turn.specs.Known.{StartsWith, longer, times, once_below, HasEach, HasEachOnce, AreApart, AreBelow}
use Rattle.gr_turn.specs.Inside.Views.{shorter}

module _ {A : Type 0} where
  pub starts_itself : (xs : List A) → StartsWith xs xs
  starts_itself xs = record { more = []; is = sym (append-nil xs) }

  pub starts_empty : (xs : List A) → StartsWith xs []
  starts_empty xs = record { more = xs; is = refl }

  pub starts_longer : (xs ys : List A) (more : List A) → xs ≡ ys ++ more → (front : List A) → StartsWith ys front → StartsWith xs front
  starts_longer xs ys more e front b = record { more = b.more ++ more; is = e ∙ ap (λ zs. zs ++ more) b.is ∙ append_assoc front b.more more }

  one_more : (x : A) (xs ys : List A) → StartsWith ys xs → StartsWith (x ∷ ys) (x ∷ xs)
  one_more x xs ys b = record { more = b.more; is = ap (λ zs. x ∷ zs) b.is }

  seam : (xs ys a b : List A) → xs ++ a ≡ ys ++ b → length xs ≤ length ys → StartsWith ys xs
  seam [] ys a b e short = starts_empty ys
  seam (x ∷ xs) [] a b e short = absurd (omega arith)
  seam (x ∷ xs) (y ∷ ys) a b e short =
      let same : x ≡ y = cc in let others : xs ++ a ≡ ys ++ b = cc in
      subst (λ z. StartsWith (z ∷ ys) (x ∷ xs)) same (one_more x xs ys (seam xs ys a b others (omega arith)))

  -- of two lists that a third starts with, the longer starts with the shorter
  pub starts_between : (log xs ys : List A) → StartsWith log xs → StartsWith log ys → length xs ≤ length ys → StartsWith ys xs
  starts_between log xs ys front whole short = seam xs ys front.more whole.more (sym front.is ∙ whole.is) short

  -- a list that is no longer than one that it starts with is that one
  pub starts_whole : (log xs : List A) → StartsWith log xs → length log ≤ length xs → log ≡ xs
  starts_whole log xs b short =
      let none : b.more ≡ [] = nil_from_length b.more (omega (arith, ap length b.is, length-append xs b.more)) in
      b.is ∙ ap (λ zs. xs ++ zs) none ∙ append-nil xs

  pub length_of_start : (log xs : List A) → StartsWith log xs → length xs ≤ length log
  length_of_start log xs b = omega (arith, ap length b.is, length-append xs b.more)

  chosen : (P : List A → Type 0) (b : Bool) (xs ys : List A) → P xs → P ys → P (cond b ys xs)
  chosen P true xs ys px py = py
  chosen P false xs ys px py = px

  pub longer_is : (P : List A → Type 0) (xs ys : List A) → P xs → P ys → P (longer xs ys)
  longer_is P xs ys px py = chosen P (ltb (length xs) (length ys)) xs ys px py

  pub shorter_is : (P : List A → Type 0) (xs ys : List A) → P xs → P ys → P (shorter xs ys)
  shorter_is P xs ys px py = chosen P (ltb (length xs) (length ys)) ys xs py px

  pub left_within : (xs ys : List A) → length xs ≤ length (longer xs ys)
  left_within xs ys = dite (dec_lt (length xs) (length ys))
      (λ lt. rw (lt-ltb (length xs) (length ys) lt) (omega arith))
      (λ ge. rw (le-ltb (length xs) (length ys) (omega arith)) (omega arith))

  pub right_within : (xs ys : List A) → length ys ≤ length (longer xs ys)
  right_within xs ys = dite (dec_lt (length xs) (length ys))
      (λ lt. rw (lt-ltb (length xs) (length ys) lt) (omega arith))
      (λ ge. rw (le-ltb (length xs) (length ys) (omega arith)) (omega arith))

-- what a test counts
abbrev one : Bool → ℕ
one b = cond b 1 0

pub times-append : (place : ℕ) (xs ys : List ℕ) → times place (xs ++ ys) ≡ times place xs + times place ys
times-append place xs ys = sum_by-append (λ x. cond (x == place) 1 0) xs ys

times-cons : (place x : ℕ) (xs : List ℕ) → times place (x ∷ xs) ≡ cond (eqb x place) 1 0 + times place xs
times-cons place x xs = sum_by-cons (λ y. cond (y == place) 1 0) x xs

times_here : (place x : ℕ) (xs : List ℕ) → x ≡ place → times place (x ∷ xs) ≡ 1 + times place xs
times_here place x xs e = times-cons place x xs ∙ ap (λ (b : Bool). one b + times place xs) (eq-eqb x place e)

pub times_other : (place x : ℕ) (xs : List ℕ) → x ≢ place → times place (x ∷ xs) ≡ times place xs
times_other place x xs ne = omega (arith, times-cons place x xs, ap one (ne_eqb x place ne))

pub once_in : (place n : ℕ) → place < n → once_below place n ≡ 1
once_in place n lt = ap one (lt-ltb place n lt)

pub once_past : (place n : ℕ) → n ≤ place → once_below place n ≡ 0
once_past place n le = ap one (le-ltb place n le)

pub once_at_most : (place n : ℕ) → once_below place n ≤ 1
once_at_most place n = dite (dec_lt place n) (λ lt. omega (arith, once_in place n lt)) (λ ge. omega (arith, once_past place n (omega arith)))

-- a list that is one longer has one place more
pub once_grown : (place n : ℕ) → once_below place (n + 1) ≡ once_below place n + times place (n ∷ [])
once_grown place n = dite (ℕ_discrete n place)
    (λ e. omega (arith, once_in place (n + 1) (omega arith), once_past place n (omega arith), times_here place n [] e))
    (λ ne. dite (dec_lt place n)
    (λ lt. omega (arith, once_in place (n + 1) (omega arith), once_in place n lt, times_other place n [] ne))
    (λ ge. omega (arith, once_past place (n + 1) (omega arith), once_past place n (omega arith), times_other place n [] ne)))

range_past : (place a n : ℕ) → place < a → times place (range_with_len a n) ≡ 0
range_past place a zero lt = refl
range_past place a (suc n) lt = times_other place a (range_with_len (a + 1) n) (λ e. omega arith) ∙ range_past place (a + 1) n (omega arith)

range_before : (place a n : ℕ) → a + n ≤ place → times place (range_with_len a n) ≡ 0
range_before place a zero le = refl
range_before place a (suc n) le = times_other place a (range_with_len (a + 1) n) (λ e. omega arith) ∙ range_before place (a + 1) n (omega arith)

range_in : (place a n : ℕ) → a ≤ place → place < a + n → times place (range_with_len a n) ≡ 1
range_in place a zero le lt = absurd (omega arith)
range_in place a (suc n) le lt = dite (ℕ_discrete a place)
    (λ e. omega (arith, times_here place a (range_with_len (a + 1) n) e, range_past place (a + 1) n (omega arith)))
    (λ ne. times_other place a (range_with_len (a + 1) n) ne ∙ range_in place (a + 1) n (omega arith) (omega arith))

-- the first numbers stand once each
pub once_first : (place n : ℕ) → times place (range_with_len 0 n) ≡ once_below place n
once_first place n = dite (dec_lt place n)
    (λ lt. range_in place 0 n (omega arith) (omega arith) ∙ sym (once_in place n lt))
    (λ ge. range_before place 0 n (omega arith) ∙ sym (once_past place n (omega arith)))

counted : (places : List ℕ) (place k : ℕ) → k < length places → get_or places k place ≡ place → 0 < times place places
counted [] place k lt e = absurd (omega arith)
counted (x ∷ xs) place zero lt e = omega (arith, times_here place x xs e)
counted (x ∷ xs) place (suc k) lt e = omega (arith, times-cons place x xs, counted xs place k (omega arith) e)

-- what stands in a list is counted there
pub times_of_contained : (places : List ℕ) (place : ℕ) → Contains places place → 0 < times place places
times_of_contained places place there = counted places place there.0 there.1 there.2

-- what is counted in a list stands there
pub contained_of_times : (places : List ℕ) (place : ℕ) → 0 < times place places → Contains places place
contained_of_times [] place some_times = absurd (omega arith)
contained_of_times (x ∷ xs) place some_times = dite (ℕ_discrete x place)
    (λ e. (0, omega arith, e))
    (λ ne. let there = contained_of_times xs place (omega (arith, times_other place x xs ne)) in (suc there.0, omega (arith, there.1), there.2))

pub each_of_once : (places : List ℕ) (n : ℕ) → HasEachOnce places n → HasEach places n
each_of_once places n once place lt = contained_of_times places place (omega (arith, once place, once_in place n lt))

pub apart_of_once : (places others : List ℕ) → ((place : ℕ) → times place (places ++ others) ≤ 1) → AreApart places others
apart_of_once places others once place there here =
    absurd (omega (arith, once place, times-append place places others, times_of_contained places place there, times_of_contained others place here))

pub below_of_times : (places : List ℕ) (n : ℕ) → ((place : ℕ) → 0 < times place places → place < n) → AreBelow places n
below_of_times places n below place there = below place (times_of_contained places place there)
