-- A text is wrong first at one place. This holds of every grammar, since what begins a sentence is closed under prefixes.
use Rattle.std.proofs.Common.{◌≡◌, ℕ, Bool, List, [], ◌∷◌, ◌++◌, append_assoc, None, refl, sym, ◌∙◌, ap, subst}
use mathlib.Core.Path.{ap₂}
use Rattle.gr_text.proofs.Cases.{some_is, none_is, head_is, tail_is}
use Rattle.gr_text.specs.Cut.{Placed, Cut}
use Rattle.gr_base.specs.declared.limits.TheConstants.{MOST_LEVELS}
use Rattle.gr_text.specs.Wrong.{Follows, IsWrong, unexpected, deep, strange, unfinished}

-- how two ways to part one list at an element stand to each other
data Parted {X : Type 0} (before : List X) (t : X) (other : List X) (u : X) : Type 0 where
  same : before ≡ other → t ≡ u → Parted before t other u
  first : (ys : List X) → other ≡ (before ++ (t ∷ [])) ++ ys → Parted before t other u
  second : (ys : List X) → before ≡ (other ++ (u ∷ [])) ++ ys → Parted before t other u

parted : {X : Type 0} (before : List X) (t : X) (ts other : List X) (u : X) (us : List X) → before ++ (t ∷ ts) ≡ other ++ (u ∷ us) → Parted before t other u
parted [] t ts [] u us e = same refl (head_is e)
parted [] t ts (o ∷ other) u us e = first other (ap (λ x. x ∷ other) (sym (head_is e)))
parted (b ∷ before) t ts [] u us e = second before (ap (λ x. x ∷ before) (head_is e))
parted {X} (b ∷ before) t ts (o ∷ other) u us e = longer (parted before t ts other u us (tail_is e))
  where
    longer : Parted before t other u → Parted (b ∷ before) t (o ∷ other) u
    longer (same p q) = same (ap₂ (λ x xs. x ∷ xs) (head_is e) p) q
    longer (first ys p) = first ys (ap₂ (λ x xs. x ∷ xs) (sym (head_is e)) p)
    longer (second ys p) = second ys (ap₂ (λ x xs. x ∷ xs) (head_is e) p)

module _ {T : Type 0} (Begins IsSentence : ℕ → List (Placed T) → Type 0) (shorter : (levels : ℕ) (xs ys : List (Placed T)) → Begins levels (xs ++ ys) → Begins levels xs) where
  -- the tokens up to and with this one begin no sentence, though those before it do
  record Stops (cut : Cut T) (at : ℕ) : Type 0 where
    before : List (Placed T)
    token : Placed T
    others : List (Placed T)
    follows : Follows Begins IsSentence cut at before token others
    stopped : Begins MOST_LEVELS (before ++ (token ∷ [])) → ⊥

  not_all : {cut : Cut T} {at : ℕ} → Stops cut at → Begins MOST_LEVELS cut.tokens → ⊥
  not_all s b =
      let parts = (s.follows).parts ∙ sym (append_assoc s.before (s.token ∷ []) s.others) in
      s.stopped (shorter MOST_LEVELS (s.before ++ (s.token ∷ [])) s.others (subst (Begins MOST_LEVELS) parts b))

  -- two places where the tokens stop are one, with one token
  stops_once : {cut : Cut T} {at place : ℕ} (s : Stops cut at) (r : Stops cut place) → (s.before ++ (s.token ∷ []) ≡ r.before ++ (r.token ∷ [])) × (at ≡ place)
  stops_once {at = at} {place = place} s r = go (parted s.before s.token s.others r.before r.token r.others (sym (s.follows).parts ∙ (r.follows).parts))
    where
      go : Parted s.before s.token r.before r.token → (s.before ++ (s.token ∷ []) ≡ r.before ++ (r.token ∷ [])) × (at ≡ place)
      go (same p q) = (ap₂ (λ xs x. xs ++ (x ∷ [])) p q, (s.follows).place ∙ ap (λ t. t.at) q ∙ sym (r.follows).place)
      go (first ys p) = absurd (s.stopped (shorter MOST_LEVELS (s.before ++ (s.token ∷ [])) ys (subst (Begins MOST_LEVELS) p (r.follows).begun)))
      go (second ys p) = absurd (r.stopped (shorter MOST_LEVELS (r.before ++ (r.token ∷ [])) ys (subst (Begins MOST_LEVELS) p (s.follows).begun)))

  abbrev at_unexpected : {cut : Cut T} {at : ℕ} {before : List (Placed T)} {token : Placed T} {others : List (Placed T)} → Follows Begins IsSentence cut at before token others → ((levels : ℕ) → Begins levels (before ++ (token ∷ [])) → ⊥) → Stops cut at
  at_unexpected {before = before} {token = token} {others = others} f never = record { before = before; token = token; others = others; follows = f; stopped = never MOST_LEVELS }

  abbrev at_deep : {cut : Cut T} {at : ℕ} {before : List (Placed T)} {token : Placed T} {others : List (Placed T)} → Follows Begins IsSentence cut at before token others → (Begins MOST_LEVELS (before ++ (token ∷ [])) → ⊥) → Stops cut at
  at_deep {before = before} {token = token} {others = others} f not = record { before = before; token = token; others = others; follows = f; stopped = not }

  -- a text is wrong first at one place, for its depth or otherwise
  pub one_place : {cut : Cut T} {is_deep other : Bool} {at place : ℕ} → IsWrong Begins IsSentence cut is_deep at → IsWrong Begins IsSentence cut other place → (is_deep ≡ other) × (at ≡ place)
  one_place (unexpected b t o f never e) (unexpected b' t' o' f' never' e') = (e ∙ sym e', (stops_once (at_unexpected f never) (at_unexpected f' never')).1)
  one_place (unexpected b t o f never e) (deep b' t' o' f' not levels k e') =
      absurd (never levels (subst (Begins levels) (sym (stops_once (at_unexpected f never) (at_deep f' not)).0) k))
  one_place (unexpected b t o f never e) (strange k s e') = absurd (not_all (at_unexpected f never) k)
  one_place (unexpected b t o f never e) (unfinished k s n p e') = absurd (not_all (at_unexpected f never) k)
  one_place (deep b t o f not levels k e) (unexpected b' t' o' f' never' e') =
      absurd (never' levels (subst (Begins levels) (stops_once (at_deep f not) (at_unexpected f' never')).0 k))
  one_place (deep b t o f not levels k e) (deep b' t' o' f' not' levels' k' e') = (e ∙ sym e', (stops_once (at_deep f not) (at_deep f' not')).1)
  one_place (deep b t o f not levels k e) (strange k' s e') = absurd (not_all (at_deep f not) k')
  one_place (deep b t o f not levels k e) (unfinished k' s n p e') = absurd (not_all (at_deep f not) k')
  one_place (strange k s e) (unexpected b' t' o' f' never' e') = absurd (not_all (at_unexpected f' never') k)
  one_place (strange k s e) (deep b' t' o' f' not' levels' k' e') = absurd (not_all (at_deep f' not') k)
  one_place (strange k s e) (strange k' s' e') = (e ∙ sym e', some_is (sym s ∙ s'))
  one_place (strange k s e) (unfinished k' s' n' p' e') = absurd (none_is (sym s' ∙ s))
  one_place (unfinished k s n p e) (unexpected b' t' o' f' never' e') = absurd (not_all (at_unexpected f' never') k)
  one_place (unfinished k s n p e) (deep b' t' o' f' not' levels' k' e') = absurd (not_all (at_deep f' not') k)
  one_place (unfinished k s n p e) (strange k' s' e') = absurd (none_is (sym s ∙ s'))
  one_place (unfinished k s n p e) (unfinished k' s' n' p' e') = (e ∙ sym e', p ∙ sym p')

  -- what is a sentence is wrong nowhere
  pub no_fault : {cut : Cut T} {is_deep : Bool} {at : ℕ} → IsWrong Begins IsSentence cut is_deep at → cut.stranger ≡ None → Begins MOST_LEVELS cut.tokens → IsSentence MOST_LEVELS cut.tokens → ⊥
  no_fault (unexpected b t o f never e) clean k s = not_all (at_unexpected f never) k
  no_fault (deep b t o f not levels k' e) clean k s = not_all (at_deep f not) k
  no_fault (strange k' at e) clean k s = none_is (sym clean ∙ at)
  no_fault (unfinished k' c n p e) clean k s = n s
