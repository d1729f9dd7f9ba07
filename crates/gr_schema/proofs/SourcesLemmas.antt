-- Sources that are read one after another are the whole list, where it is one of sources.
use Rattle.std.proofs.Common.{ℕ, zero, suc, ◌≡◌, ◌+◌, ◌<◌, ◌≤◌, ◌⊎◌, inl, inr, Bool, true, false, ◌&&◌, ◌||◌, not, cond, List, [], ◌∷◌, ◌++◌, length, length-append, append_assoc, arith, refl, sym, ap, subst, ◌∙◌}
use Rattle.std.specs.Prelude.{if◌then◌else◌, None, Some, Option, is_some, nat_le}
use Rattle.std.specs.List.{cons_option, filter_map, list_all, list_any}
use Rattle.std.specs.Option.{option_and_then}
use Rattle.std.proofs.lemmas.Bool.{cases_lt}
use Rattle.std.proofs.lemmas.Bool.Decides.{nat_tests}
use Rattle.std.proofs.lemmas.List.{append-nil}
use Rattle.gr_values.specs.declared.path.Field.{Field}
use Rattle.gr_values.specs.declared.path.Field.TheVariants.{Id, Key, Column}
use Rattle.gr_schema.specs.Fields.{are_different, is_same_field}
use Rattle.gr_schema.specs.Inside.Sources.{field_added, source_added, sources_added}
use Rattle.gr_base.specs.declared.limits.TheConstants.{MOST_SOURCES}
use Rattle.gr_schema.specs.Wishes.{Home, are_sources, source_named, source_names, sources_of}
use Rattle.gr_schema.specs.declared.definition.TableDef.{TableDef}

same-sym : (field other : Field) → is_same_field field other ≡ is_same_field other field
same-sym Id Id = refl
same-sym Id Key = refl
same-sym Id (Column other) = refl
same-sym Key Id = refl
same-sym Key Key = refl
same-sym Key (Column other) = refl
same-sym (Column column) Id = refl
same-sym (Column column) Key = refl
same-sym (Column column) (Column other) = grind (arith, nat_tests)

-- a test of some item, with more items after them
any-append : (p : Field → Bool) (xs ys : List Field) → list_any p (xs ++ ys) ≡ (list_any p xs || list_any p ys)
any-append p [] ys = refl
any-append p (x ∷ xs) ys = go (p x) (any-append p xs ys)
  where
    go : (b : Bool) → list_any p (xs ++ ys) ≡ (list_any p xs || list_any p ys) → (b || list_any p (xs ++ ys)) ≡ ((b || list_any p xs) || list_any p ys)
    go true e = refl
    go false e = e

-- a field that stands among some stands twice where it comes again
different-twice : (fields : List Field) (field : Field) (more : List Field) → list_any (is_same_field field) fields ≡ true → are_different (fields ++ field ∷ more) ≡ false
different-twice [] field more e = absurd (cc)
different-twice (first ∷ fields) field more e = go (is_same_field field first) refl (different-twice fields field more) e
  where
    one : (a b : Bool) → a ≡ true → (not a && b) ≡ false
    one a b e = rw e refl

    two : (a b : Bool) → b ≡ false → (a && b) ≡ false
    two true b e = e
    two false b e = refl

    held : is_same_field field first ≡ true → list_any (is_same_field first) (fields ++ field ∷ more) ≡ true
    held is = any-append (is_same_field first) fields (field ∷ more) ∙ ap (λ b. list_any (is_same_field first) fields || (b || list_any (is_same_field first) more)) (same-sym first field ∙ is) ∙ last (list_any (is_same_field first) fields)
      where
        last : (b : Bool) → (b || true) ≡ true
        last true = refl
        last false = refl

    go : (b : Bool) → is_same_field field first ≡ b → (list_any (is_same_field field) fields ≡ true → are_different (fields ++ field ∷ more) ≡ false) → (b || list_any (is_same_field field) fields) ≡ true → are_different (first ∷ (fields ++ field ∷ more)) ≡ false
    go true is further e = one _ _ (held is)
    go false is further e = two _ _ (further e)

-- a field that stands among none of some different ones is different from them
different-push : (fields : List Field) (field : Field) → are_different fields ≡ true → list_any (is_same_field field) fields ≡ false → are_different (fields ++ field ∷ []) ≡ true
different-push [] field e new = refl
different-push (first ∷ fields) field e new = go (list_any (is_same_field first) fields) refl (is_same_field field first) refl (different-push fields field) e new
  where
    not_before : list_any (is_same_field first) fields ≡ false → is_same_field field first ≡ false → list_any (is_same_field first) (fields ++ field ∷ []) ≡ false
    not_before none apart = any-append (is_same_field first) fields (field ∷ []) ∙ rw (none, same-sym first field, apart) refl

    go : (a : Bool) → list_any (is_same_field first) fields ≡ a → (b : Bool) → is_same_field field first ≡ b
        → (are_different fields ≡ true → list_any (is_same_field field) fields ≡ false → are_different (fields ++ field ∷ []) ≡ true)
        → (not a && are_different fields) ≡ true → (b || list_any (is_same_field field) fields) ≡ false → (not (list_any (is_same_field first) (fields ++ field ∷ [])) && are_different (fields ++ field ∷ [])) ≡ true
    go true before b apart further e new = absurd (cc)
    go false before true apart further e new = absurd (cc)
    go false before false apart further e new = rw (not_before before apart) (further e new)

at_most : (m n : ℕ) → m ≤ n → nat_le m n ≡ true
at_most m n h = grind (arith, nat_tests)

not_most : (m n : ℕ) → n < m → nat_le m n ≡ false
not_most m n h = grind (arith, nat_tests)

module _ (home : Home) (target : TableDef) (most : ℕ) where
  abbrev named : List (List ℕ) → List Field
  named names = filter_map (source_named home target) names

  -- the answer by the whole list
  abbrev whole : Bool → List Field → Option (List Field)
  whole all fields = if all && nat_le (length fields) most && are_different fields then Some fields else None

  abbrev all_named : List (List ℕ) → Bool
  all_named names = list_all (λ name. is_some (source_named home target name)) names

  too_many : (all : Bool) (fields more : List Field) (field : Field) → most ≤ length fields → whole all (fields ++ field ∷ more) ≡ None
  too_many all fields more field full =
      let above : nat_le (length (fields ++ field ∷ more)) most ≡ false = not_most (length (fields ++ field ∷ more)) most (simp length-append (omega arith)) in
      rw above (none all (are_different (fields ++ field ∷ more)))
    where
      none : (a b : Bool) → cond (a && false && b) (Some (fields ++ field ∷ more)) None ≡ None
      none true b = refl
      none false b = refl

  twice : (all : Bool) (fields more : List Field) (field : Field) → list_any (is_same_field field) fields ≡ true → whole all (fields ++ field ∷ more) ≡ None
  twice all fields more field stands = rw (different-twice fields field more stands) (none (all && nat_le (length (fields ++ field ∷ more)) most))
    where
      none : (a : Bool) → cond (a && false) (Some (fields ++ field ∷ more)) None ≡ None
      none true = refl
      none false = refl

  pub added_all : (fields : List Field) (names : List (List ℕ)) → are_different fields ≡ true → length fields ≤ most → sources_added home target most fields names ≡ whole (all_named names) (fields ++ named names)
  added_all fields [] different few = rw (append-nil, different, at_most (length fields) most few) refl
  added_all fields (name ∷ names) different few = by_name (source_named home target name) refl (λ more. added_all more names)
    where
      Goal : Option Field → Type 0
      Goal o = option_and_then (λ more. sources_added home target most more names) (option_and_then (field_added most fields) o)
          ≡ whole (is_some o && all_named names) (fields ++ cons_option o (named names))

      by_name : (o : Option Field) → source_named home target name ≡ o → ((more : List Field) → are_different more ≡ true → length more ≤ most → sources_added home target most more names ≡ whole (all_named names) (more ++ named names)) → Goal o
      by_name None is further = refl
      by_name (Some field) is further = by_place (list_any (is_same_field field) fields) refl (cases_lt (length fields) most)
        where
          by_place : (b : Bool) → list_any (is_same_field field) fields ≡ b → (length fields < most) ⊎ (most ≤ length fields) → Goal (Some field)
          by_place true stands room = rw stands (sym (twice (all_named names) fields (named names) field stands))
          by_place false new (inr full) = rw (new, at_most most (length fields) full) (sym (too_many (all_named names) fields (named names) field full))
          by_place false new (inl room) =
              rw (new, not_most most (length fields) room)
              (further (fields ++ field ∷ []) (different-push fields field different new) (simp length-append (omega arith))
              ∙ ap (whole (all_named names)) (append_assoc fields (field ∷ []) (named names)))

-- the sources of a text, read one after another, are the whole list where it is one of sources
pub sources_read : (home : Home) (target : TableDef) (section : Bool) (source : List ℕ)
    → sources_added home target (if section then MOST_SOURCES else 1) [] (source_names home source) ≡ (if are_sources home target section source then Some (sources_of home target source) else None)
sources_read home target section source = added_all home target (if section then MOST_SOURCES else 1) [] (source_names home source) refl (omega arith)
