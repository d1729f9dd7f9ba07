-- What is done with each of some, one by one.
use Rattle.std.proofs.Common.{◌≡◌, ℕ, suc, ◌+◌, ◌-◌, ◌<◌, List, [], ◌∷◌, ◌++◌, length, get_or, drop, ◌≤◌, take, append_assoc, refl, sym, ap, subst, ◌∙◌, arith}
use Rattle.std.specs.Prelude.{Option, Result, Ok, Err}
use Rattle.std.proofs.lemmas.List.{append-nil, drop_all, drop_more, take_more}
use Rattle.std.proofs.lemmas.List.Elements.{filter_map-append}
use Rattle.std.specs.List.{cons_option, filter_map}
use Rattle.gr_base.specs.Failure.{result_map, result_then}
use Rattle.gr_base.specs.declared.failure.Failure.{Failure}
use Rattle.gr_base.specs.declared.fault.Fault.{Fault}
use Rattle.gr_base.specs.declared.numbers.TableNo.{TableNo}
use Rattle.gr_bind.specs.Columns.{table_behind}
use Rattle.gr_bind.specs.Inside.Told.{Tells}
use Rattle.gr_bind.specs.Typing.{each}
use Rattle.gr_bind.proofs.Telling.{as_err, err_map, err_of, err_then, ok_told}
use Rattle.gr_values.specs.declared.path.Hop.{Hop}

-- hops lead to the table of the last one
pub table_behind-last : (table : TableNo) (hops : List Hop) (d : Hop) → 0 < length hops → (get_or hops (length hops - 1) d).to ≡ table_behind table hops
table_behind-last table [] d some = absurd (omega (arith, some))
table_behind-last table (hop ∷ []) d some = refl
table_behind-last table (hop ∷ next ∷ hops) d some =
    let before : length (hop ∷ next ∷ hops) - 1 ≡ suc (length (next ∷ hops) - 1) = omega arith in
    ap (λ k. (get_or (hop ∷ next ∷ hops) k d).to) before ∙ table_behind-last hop.to (next ∷ hops) d (omega arith)

-- nothing put before what is found
pub nothing_before : {X : Type 0} (r : Result (List X) Fault) → result_map (λ xs. [] ++ xs) r ≡ r
nothing_before (Ok xs) = refl
nothing_before (Err e) = refl

-- what was found before goes before what is found
before_twice : {X : Type 0} (found more : List X) (r : Result (List X) Fault) → result_map (λ xs. found ++ xs) (result_map (λ xs. more ++ xs) r) ≡ result_map (λ xs. (found ++ more) ++ xs) r
before_twice found more (Ok xs) = ap Ok (sym (append_assoc found more xs))
before_twice found more (Err e) = refl

pub same_ok : {X : Type 0} (x y : X) → ◌≡◌ {A = Result X Fault} (Ok x) (Ok y) → x ≡ y
same_ok x y e = cc

module _ {X Y : Type 0} (typed : X → Result Y Fault) (xs : List X) where
  -- what is left to do leads from here to where all of it does
  pub record So_far (found : List Y) (i : ℕ) : Type 0 where
    pub leads : each typed xs ≡ result_map (λ others. found ++ others) (each typed (drop i xs))

  at_item : (found : List Y) (i : ℕ) (x : X) → i < length xs → x ≡ get_or xs i x
      → result_map (λ others. found ++ others) (each typed (drop i xs)) ≡ result_map (λ others. found ++ others) (each typed (x ∷ drop (i + 1) xs))
  at_item found i x inside at =
      ap (λ zs. result_map (λ others. found ++ others) (each typed zs)) (drop_more xs i x inside ∙ ap (λ z. z ∷ drop (i + 1) xs) (sym at))

  -- none yet
  pub told_none : (found : List Y) → found ≡ [] → So_far found 0
  told_none found is =
      record { leads = sym (ap (λ ys. result_map (λ others. ys ++ others) (each typed xs)) is ∙ nothing_before (each typed xs)) }

  -- one more that is found
  pub told_more : (found : List Y) (i : ℕ) → So_far found i → (x : X) (r : Result (List Y) (Failure Fault)) (more : List Y) → i < length xs → x ≡ get_or xs i x → Tells r (result_map (λ y. found ++ y ∷ []) (typed x)) → r ≡ Ok more → So_far more (i + 1)
  told_more found i so_far x r more inside at told is = go (typed x) refl (told.exact.found more is)
    where
      go : (m : Result Y Fault) → typed x ≡ m → result_map (λ y. found ++ y ∷ []) m ≡ Ok more → So_far more (i + 1)
      go (Ok y) e h = record {
        leads =
            so_far.leads ∙ at_item found i x inside at
            ∙ ap (λ m. result_map (λ others. found ++ others) (result_then (λ z. result_map (λ zs. z ∷ zs) (each typed (drop (i + 1) xs))) m)) e
            ∙ before_twice found (y ∷ []) (each typed (drop (i + 1) xs))
            ∙ ap (λ ys. result_map (λ others. ys ++ others) (each typed (drop (i + 1) xs))) (same_ok (found ++ y ∷ []) more h);
      }
      go (Err w) e h = absurd (cc)

  -- one that is refused
  pub told_stop : (found : List Y) (i : ℕ) → So_far found i → (x : X) (r : Result (List Y) (Failure Fault)) (e : Failure Fault) (s : Result (List Y) (Failure Fault)) → i < length xs → x ≡ get_or xs i x → Tells r (result_map (λ y. found ++ y ∷ []) (typed x)) → r ≡ Err e → s ≡ Err e → Tells s (each typed xs)
  told_stop found i so_far x r e s inside at told is answer =
      as_err s e (each typed xs) answer
      (subst (λ (m : Result (List Y) Fault). Tells {T = List Y} (Err e) m)
      (sym (so_far.leads ∙ at_item found i x inside at))
      (err_map (Err e) _ (err_then (Err e) (typed x) (err_of (λ y. found ++ y ∷ []) (typed x) e (subst (λ (q : Result (List Y) (Failure Fault)). Tells q (result_map (λ y. found ++ y ∷ []) (typed x))) is told)) (λ z. result_map (λ zs. z ∷ zs) (each typed (drop (i + 1) xs))) e refl) (λ others. found ++ others) e refl))

  -- all are found
  pub told_all : (found : List Y) (i : ℕ) → So_far found i → length xs ≤ i → Tells (Ok found) (each typed xs)
  told_all found i so_far past =
      ok_told found (each typed xs) (so_far.leads ∙ ap (λ zs. result_map (λ others. found ++ others) (each typed zs)) (drop_all i xs past) ∙ ap Ok (append-nil found))

-- one source more
pub sources_more : {X Y : Type 0} (h : X → Option Y) (xs : List X) (i : ℕ) (d : X) (y : Option Y) (found more all : List Y) → i < length xs → y ≡ h (get_or xs i d) → more ≡ cons_option y []
    → found ≡ filter_map h (take i xs) → all ≡ found ++ more → all ≡ filter_map h (take (i + 1) xs)
sources_more h xs i d y found more all inside is more_is found_is all_is =
    all_is ∙ ap (λ ys. ys ++ more) found_is
    ∙ ap (λ ys. filter_map h (take i xs) ++ ys) (more_is ∙ ap (λ z. cons_option z []) is)
    ∙ sym (filter_map-append h (take i xs) (get_or xs i d ∷ []))
    ∙ ap (filter_map h) (sym (take_more xs i d inside))
