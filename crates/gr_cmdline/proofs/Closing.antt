-- The brackets of load data, counted byte by byte, are closed where the plain rule has them return to 0.
use Rattle.std.proofs.Common.{◌≡◌, ◌≤◌, ◌<◌, ◌+◌, ◌-◌, ◌==◌, ◌||◌, ℕ, Bool, true, false, cond, List, [], ◌∷◌, fold, map, nat_le, Some, refl, ap, sym, ◌∙◌, arith}
use Rattle.std.specs.List.{count_by, list_any, slice_get}
use Rattle.std.proofs.lemmas.Bool.{eqb-true}
use Rattle.std.proofs.lemmas.Bool.Decides.{nat_tests}
use Rattle.std.proofs.lemmas.List.Sums.{sum_by-cons}
use Rattle.gr_cmdline.specs.Inside.Brackets.{after_byte, at_depth, counted, is_closed}
use Rattle.gr_cmdline.specs.LoadData.{Place, beginnings, behind_backslash, closes, in_string, is_whole, open_brackets, outside, outside_from}
use Rattle.gr_cmdline.specs.declared.brackets.Brackets.{Brackets}
use Rattle.gr_cmdline.specs.declared.brackets.Inside.{Inside}
use Rattle.gr_cmdline.specs.declared.brackets.Inside.TheVariants.{Backslash, Closed, Data, InString}
use Rattle.gr_cmdline.proofs.Counting.{still-closed}

-- where the count stands at a place of the data
abbrev inside_of : Place → Inside
inside_of outside = Data
inside_of in_string = InString
inside_of behind_backslash = Backslash

-- how many `[` and how many `]` there are
abbrev opening : List ℕ → ℕ
opening bytes = count_by (λ c. c == 91) bytes

abbrev closing : List ℕ → ℕ
closing bytes = count_by (λ c. c == 93) bytes

-- whether as many brackets close as are open behind more bytes
abbrev falls : ℕ → List ℕ → Bool
falls depth front = nat_le (depth + opening front) (closing front)

opening-cons : (c : ℕ) (cs : List ℕ) → opening (c ∷ cs) ≡ cond (c == 91) 1 0 + opening cs
opening-cons c cs = sum_by-cons (λ c. cond (c == 91) 1 0) c cs

closing-cons : (c : ℕ) (cs : List ℕ) → closing (c ∷ cs) ≡ cond (c == 93) 1 0 + closing cs
closing-cons c cs = sum_by-cons (λ c. cond (c == 93) 1 0) c cs

-- two tests of numbers answer alike
alike : (a b c d : ℕ) → (a ≤ b → c ≤ d) → (c ≤ d → a ≤ b) → nat_le a b ≡ nat_le c d
alike a b c d there back = grind (arith, nat_tests)

-- nothing left of one number of the other
nothing-left : (a b : ℕ) → (a - b == 0) ≡ nat_le a b
nothing-left a b = grind (arith, nat_tests)

-- a test of lists that were changed alike
any-map : (p q : List ℕ → Bool) (h : List ℕ → List ℕ) → ((x : List ℕ) → p (h x) ≡ q x) → (xs : List (List ℕ)) → list_any p (map h xs) ≡ list_any q xs
any-map p q h same [] = refl
any-map p q h same (x ∷ xs) = ap (λ b. b || list_any p (map h xs)) (same x) ∙ ap (λ b. q x || b) (any-map p q h same xs)

any-same : (p q : List ℕ → Bool) → ((x : List ℕ) → p x ≡ q x) → (xs : List (List ℕ)) → list_any p xs ≡ list_any q xs
any-same p q same [] = refl
any-same p q same (x ∷ xs) = ap (λ b. b || list_any p xs) (same x) ∙ ap (λ b. q x || b) (any-same p q same xs)

-- a byte more in front, by what it opens and closes
falls-cons : (depth deeper c : ℕ) (opens shuts : ℕ) → cond (c == 91) 1 0 ≡ opens → cond (c == 93) 1 0 ≡ shuts → depth + opens ≡ deeper + shuts → (front : List ℕ) → falls depth (c ∷ front) ≡ falls deeper front
falls-cons depth deeper c opens shuts is_open is_shut same front =
    let more = opening-cons c front in
    let less = closing-cons c front in
    alike (depth + opening (c ∷ front)) (closing (c ∷ front)) (deeper + opening front) (closing front) (λ h. omega arith) (λ h. omega arith)

falls-first : (depth c : ℕ) (opens shuts : ℕ) → cond (c == 91) 1 0 ≡ opens → cond (c == 93) 1 0 ≡ shuts → shuts < depth + opens → falls depth (c ∷ []) ≡ false
falls-first depth c opens shuts is_open is_shut more =
    let opened = opening-cons c [] in
    let closed = closing-cons c [] in
    grind (arith, nat_tests)

falls-last : (depth c : ℕ) (opens shuts : ℕ) → cond (c == 91) 1 0 ≡ opens → cond (c == 93) 1 0 ≡ shuts → depth + opens ≤ shuts → falls depth (c ∷ []) ≡ true
falls-last depth c opens shuts is_open is_shut less =
    let opened = opening-cons c [] in
    let closed = closing-cons c [] in
    grind (arith, nat_tests)

-- a byte outside strings that leaves brackets open
falls-on : (depth deeper c : ℕ) (opens shuts : ℕ) → cond (c == 91) 1 0 ≡ opens → cond (c == 93) 1 0 ≡ shuts → depth + opens ≡ deeper + shuts → shuts < depth + opens
    → (fronts : List (List ℕ)) → list_any (falls depth) ((c ∷ []) ∷ map (λ front. c ∷ front) fronts) ≡ list_any (falls deeper) fronts
falls-on depth deeper c opens shuts is_open is_shut same more fronts =
    ap (λ b. b || list_any (falls depth) (map (λ front. c ∷ front) fronts)) (falls-first depth c opens shuts is_open is_shut more)
    ∙ any-map (falls depth) (falls deeper) (λ front. c ∷ front) (falls-cons depth deeper c opens shuts is_open is_shut same) fronts

-- whether brackets are closed behind more bytes, where so many are open
abbrev ends_closed : Brackets → List ℕ → Bool
ends_closed count text = is_closed (fold after_byte count text).inside

closed-stays : (depth : ℕ) (text : List ℕ) → ends_closed (at_depth depth Closed) text ≡ true
closed-stays depth text = ap (λ (count : Brackets). is_closed count.inside) (still-closed depth text)

-- a byte outside strings, where the bytes behind it are known
closes-outside : (depth c : ℕ) (cs : List ℕ) → 0 < depth
    → ((d : ℕ) → 0 < d → ends_closed (at_depth d Data) cs ≡ list_any (falls d) (beginnings (outside_from outside cs)))
    → ends_closed (at_depth depth InString) cs ≡ list_any (falls depth) (beginnings (outside_from in_string cs))
    → ends_closed (at_depth depth Data) (c ∷ cs) ≡ list_any (falls depth) (beginnings (outside_from outside (c ∷ cs)))
closes-outside depth c cs some outer inside = on-bracket (c == 91) refl
  where
    on-quote : (b : Bool) → (c == 34) ≡ b → (c == 91) ≡ false → (c == 93) ≡ false
        → ends_closed (at_depth depth (cond b InString Data)) cs ≡ list_any (falls depth) (beginnings (cond b (outside_from in_string cs) (c ∷ outside_from outside cs)))
    on-quote true is no_open no_shut = inside
    on-quote false is no_open no_shut =
        outer depth some
        ∙ sym (falls-on depth depth c 0 0 (ap (λ b. cond b 1 0) no_open) (ap (λ b. cond b 1 0) no_shut) refl (omega arith) (beginnings (outside_from outside cs)))

    on-shut : (b : Bool) → nat_le depth 1 ≡ b → c ≡ 93 → ends_closed (at_depth (depth - 1) (cond b Closed Data)) cs ≡ list_any (falls depth) (beginnings (c ∷ outside_from outside cs))
    on-shut true last is =
        let least : depth ≤ 1 = grind (arith, nat_tests) in
        let first : falls depth (c ∷ []) ≡ true = falls-last depth c 0 1 (ap (λ d. cond (d == 91) 1 0) is) (ap (λ d. cond (d == 93) 1 0) is) (omega arith) in
        closed-stays (depth - 1) cs
        ∙ sym (ap (λ (b : Bool). b || list_any (falls depth) (map (λ front. c ∷ front) (beginnings (outside_from outside cs)))) first)
    on-shut false more is =
        outer (depth - 1) (grind (arith, nat_tests))
        ∙ sym (falls-on depth (depth - 1) c 0 1 (ap (λ d. cond (d == 91) 1 0) is) (ap (λ d. cond (d == 93) 1 0) is) (grind (arith, nat_tests)) (grind (arith, nat_tests)) (beginnings (outside_from outside cs)))

    on-closing : (b : Bool) → (c == 93) ≡ b → (c == 91) ≡ false
        → ends_closed (cond b (at_depth (depth - 1) (cond (nat_le depth 1) Closed Data)) (at_depth depth (cond (c == 34) InString Data))) cs
        ≡ list_any (falls depth) (beginnings (cond (c == 34) (outside_from in_string cs) (c ∷ outside_from outside cs)))
    on-closing true is no_open =
        let closed : c ≡ 93 = eqb-true c 93 is in
        on-shut (nat_le depth 1) refl closed
        ∙ sym (ap (λ (b : Bool). list_any (falls depth) (beginnings (cond b (outside_from in_string cs) (c ∷ outside_from outside cs)))) (ap (λ d. d == 34) closed))
    on-closing false is no_open = on-quote (c == 34) refl no_open is

    on-bracket : (b : Bool) → (c == 91) ≡ b
        → ends_closed (cond b (at_depth (depth + 1) Data) (cond (c == 93) (at_depth (depth - 1) (cond (nat_le depth 1) Closed Data)) (at_depth depth (cond (c == 34) InString Data)))) cs
        ≡ list_any (falls depth) (beginnings (cond (c == 34) (outside_from in_string cs) (c ∷ outside_from outside cs)))
    on-bracket true is =
        let opened : c ≡ 91 = eqb-true c 91 is in
        outer (depth + 1) (omega arith)
        ∙ sym (falls-on depth (depth + 1) c 1 0 (ap (λ d. cond (d == 91) 1 0) opened) (ap (λ d. cond (d == 93) 1 0) opened) (omega arith) (omega arith) (beginnings (outside_from outside cs)))
        ∙ sym (ap (λ (b : Bool). list_any (falls depth) (beginnings (cond b (outside_from in_string cs) (c ∷ outside_from outside cs)))) (ap (λ d. d == 34) opened))
    on-bracket false is = on-closing (c == 93) refl is

closes-from : (place : Place) (depth : ℕ) (text : List ℕ) → 0 < depth → ends_closed (at_depth depth (inside_of place)) text ≡ list_any (falls depth) (beginnings (outside_from place text))
closes-from outside depth [] some = refl
closes-from in_string depth [] some = refl
closes-from behind_backslash depth [] some = refl
closes-from behind_backslash depth (c ∷ cs) some = closes-from in_string depth cs some
closes-from in_string depth (c ∷ cs) some =
    elim (c == 34) as (λ b. ends_closed (at_depth depth (cond b Data (cond (c == 92) Backslash InString))) cs
    ≡ list_any (falls depth) (beginnings (cond b (outside_from outside cs) (cond (c == 92) (outside_from behind_backslash cs) (outside_from in_string cs))))) [
      | true ↦ closes-from outside depth cs some
      | false ↦ elim (c == 92) as (λ b. ends_closed (at_depth depth (cond b Backslash InString)) cs
          ≡ list_any (falls depth) (beginnings (cond b (outside_from behind_backslash cs) (outside_from in_string cs)))) [
            | true ↦ closes-from behind_backslash depth cs some
            | false ↦ closes-from in_string depth cs some
          ]
    ]
closes-from outside depth (c ∷ cs) some = closes-outside depth c cs some (λ d more. closes-from outside d cs more) (closes-from in_string depth cs some)

-- data that begin with a bracket are closed where the count is
pub closes-counted : (cs : List ℕ) → closes (91 ∷ cs) ≡ is_closed (counted (91 ∷ cs)).inside
closes-counted cs =
    any-same (λ front. open_brackets front == 0) (falls 0) (λ front. nothing-left (opening front) (closing front) ∙ ap (λ n. nat_le n (closing front)) (omega arith)) (beginnings (91 ∷ outside_from outside cs))
    ∙ falls-on 0 1 91 1 0 refl refl refl (omega arith) (beginnings (outside_from outside cs))
    ∙ sym (closes-from outside 1 cs (omega arith))

-- data that begin with a bracket are whole where the count is closed
pub is_whole-counted : (text : List ℕ) (count : Brackets) (closed : Bool) → count ≡ counted text → slice_get text 0 ≡ Some 91 → closed ≡ is_closed count.inside → closed ≡ is_whole text
is_whole-counted [] count closed counts first is = absurd (cc)
is_whole-counted (c ∷ cs) count closed counts first is =
    let bracket : c ≡ 91 = cc in
    is ∙ ap (λ (b : Brackets). is_closed b.inside) counts ∙ rw bracket (sym (closes-counted cs))
