-- Ways along names that are cut from a text one after another.
use Rattle.std.proofs.Common.{ℕ, ◌≡◌, Bool, true, false, cond, List, [], ◌∷◌, ◌++◌, append_assoc, refl, sym, ap, subst, ◌∙◌}
use Rattle.std.specs.Prelude.{None, Some, Option}
use Rattle.std.specs.List.{onto_first, slice_split}
use Rattle.std.specs.Option.{option_and_then, option_map}
use Rattle.gr_base.specs.declared.numbers.TableNo.{TableNo}
use Rattle.gr_values.specs.declared.path.Hop.{Hop}
use Rattle.gr_schema.specs.Inside.Ways.{after_hops}
use Rattle.gr_schema.specs.Paths.{Way, after_hop, hop_named, way_along}
use Rattle.gr_schema.specs.Schema.{SchemaDef, table_at}

-- a text has a first part
pub split_first : {X : Type 0} (p : X → Bool) (xs : List X) → (first : List X) × (more : List (List X)) × (slice_split p xs ≡ first ∷ more)
split_first p [] = ([], [], refl)
split_first {X = X} p (x ∷ xs) = go (p x) (split_first p xs)
  where
    go : (b : Bool) → (first : List X) × (more : List (List X)) × (slice_split p xs ≡ first ∷ more) → (first : List X) × (more : List (List X)) × (cond b ([] ∷ slice_split p xs) (onto_first x (slice_split p xs)) ≡ first ∷ more)
    go true parts = ([], slice_split p xs, refl)
    go false parts = (x ∷ parts.0, parts.1, ap (onto_first x) parts.2)

module _ (schema : SchemaDef) (p : ℕ → Bool) where
  -- a name with more after it is a step, and then the way along what is after it
  way_step : (table : TableNo) (name rest : List ℕ) → way_along schema table (name ∷ slice_split p rest)
      ≡ option_and_then (λ hop. option_map (after_hop hop) (way_along schema hop.to (slice_split p rest))) (option_and_then (λ home. hop_named home name) (table_at schema table))
  way_step table name rest =
      let parts = split_first p rest in
      rw parts.2 refl

  -- without such a column there is no way
  pub way_stops : (table : TableNo) (name rest : List ℕ) → option_and_then (λ home. hop_named home name) (table_at schema table) ≡ None → way_along schema table (name ∷ slice_split p rest) ≡ None
  way_stops table name rest e = way_step table name rest ∙ ap (option_and_then (λ hop. option_map (after_hop hop) (way_along schema hop.to (slice_split p rest)))) e

  pub way_goes : (table : TableNo) (name rest : List ℕ) (hop : Hop) → option_and_then (λ home. hop_named home name) (table_at schema table) ≡ Some hop
      → way_along schema table (name ∷ slice_split p rest) ≡ option_map (after_hop hop) (way_along schema hop.to (slice_split p rest))
  way_goes table name rest hop e = way_step table name rest ∙ ap (option_and_then (λ hop. option_map (after_hop hop) (way_along schema hop.to (slice_split p rest)))) e

-- steps before a step are steps before what comes after it
pub after_hops_push : (hops : List Hop) (hop : Hop) (way : Option Way) → option_map (after_hops hops) (option_map (after_hop hop) way) ≡ option_map (after_hops (hops ++ hop ∷ [])) way
after_hops_push hops hop None = refl
after_hops_push hops hop (Some way) = ap (λ through. Some (record way { through = through })) (sym (append_assoc hops (hop ∷ []) way.through))

-- no steps before a way leave it as it is
pub after_no_hops : (way : Option Way) → way ≡ option_map (after_hops []) way
after_no_hops None = refl
after_no_hops (Some way) = refl
