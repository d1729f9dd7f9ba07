-- What a finite map of texts has after one more key, and without one.
use Rattle.std.proofs.Common.{ℕ, ◌≡◌, ◌≢◌, ◌⊎◌, inl, inr, Bool, true, false, cond, List, refl, sym, ap, ◌∙◌}
use Rattle.std.specs.Prelude.{None, Some}
use Rattle.std.specs.Cmp.Lexicographic.{slice_cmp, same_text, texts_ties}
use Rattle.std.proofs.lemmas.Cmp.{nat_list_cmp_total, eq_by_cmp_equiv}
use Rattle.std.proofs.lemmas.Option.{none-some, same_Some}
use Rattle.std.specs.FinMap.{get, get-insert, get-remove, insert, remove}
use Rattle.std.specs.Ordering.{eq_by_cmp, nat_cmp}
use Rattle.gr_base.specs.Keys.{KeyMap}
use Rattle.gr_base.specs.declared.numbers.RecordId.{RecordId}

-- whether two texts are one, as maps compare them
abbrev is_one : List ℕ → List ℕ → Bool
is_one xs ys = eq_by_cmp (slice_cmp nat_cmp) xs ys

one_is : (xs ys : List ℕ) → is_one xs ys ≡ true → xs ≡ ys
one_is xs ys e = same_text xs ys (sym (texts_ties xs ys ∙ e))

one_itself : (xs : List ℕ) → is_one xs xs ≡ true
one_itself xs = (eq_by_cmp_equiv nat_list_cmp_total).refl xs

not_one : (xs ys : List ℕ) → xs ≢ ys → is_one xs ys ≡ false
not_one xs ys apart = go (is_one xs ys) refl
  where
    go : (b : Bool) → is_one xs ys ≡ b → is_one xs ys ≡ false
    go true e = absurd (apart (one_is xs ys e))
    go false e = e

module _ (m : KeyMap) (k : List ℕ) where
  -- the new key
  pub get_here : (v : RecordId) → get (insert m k v) k ≡ Some v
  get_here v = get-insert nat_list_cmp_total m k v k ∙ ap (λ b. cond b (Some v) (get m k)) (one_itself k)

  -- a key that was there before
  pub get_other : (v x : RecordId) (q : List ℕ) → get m k ≡ None → get m q ≡ Some x → get (insert m k v) q ≡ Some x
  get_other v x q free there =
      let apart : q ≢ k = λ e. none-some x (sym free ∙ ap (get m) (sym e) ∙ there) in
      get-insert nat_list_cmp_total m k v q ∙ ap (λ b. cond b (Some v) (get m q)) (not_one q k apart) ∙ there

  -- what is found is the new key or was there before
  pub get_inserted : (v x : RecordId) (q : List ℕ) → get (insert m k v) q ≡ Some x → ((q ≡ k) × (v ≡ x)) ⊎ (get m q ≡ Some x)
  get_inserted v x q there = go (is_one q k) refl (sym (get-insert nat_list_cmp_total m k v q) ∙ there)
    where
      go : (b : Bool) → is_one q k ≡ b → cond b (Some v) (get m q) ≡ Some x → ((q ≡ k) × (v ≡ x)) ⊎ (get m q ≡ Some x)
      go true e found = inl (one_is q k e, same_Some v x found)
      go false e found = inr found

  -- what is found without a key was there before, and is another
  pub get_left : (x : RecordId) (q : List ℕ) → get (remove m k) q ≡ Some x → (get m q ≡ Some x) × (q ≢ k)
  get_left x q there = go (is_one q k) refl (sym (get-remove nat_list_cmp_total m k q) ∙ there)
    where
      go : (b : Bool) → is_one q k ≡ b → cond b None (get m q) ≡ Some x → (get m q ≡ Some x) × (q ≢ k)
      go true e found = absurd (none-some x found)
      go false e found = (found, λ (same : q ≡ k). let t : is_one q k ≡ true = ap (λ z. is_one z k) same ∙ one_itself k in absurd (differ (sym t ∙ e)))
        where
          differ : true ≡ false → ⊥
          differ d = absurd cc

  -- another key stays
  pub get_stays : (q : List ℕ) → q ≢ k → get (remove m k) q ≡ get m q
  get_stays q apart = get-remove nat_list_cmp_total m k q ∙ ap (λ b. cond b None (get m q)) (not_one q k apart)
