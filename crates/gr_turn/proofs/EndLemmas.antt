-- The table of a turn at its start and at its end.
use Rattle.std.proofs.Common.{◌≡◌, ℕ, zero, suc, ◌^◌, ◌<◌, List, [], ◌∷◌, length, refl, sym, ap, subst, ◌∙◌, inl, ⊎_elim, arith, Option, Some, None}
use mathlib.Core.Logic.{dite}
use native.Mathlib.Decide.{ℕ_discrete, dec_lt}
use mathlib.Core.Option.{some, some-injective, some-ne-none}
use lib.ListN.{get_elem?}
use Rattle.atomic_table.specs.Table.{State, opening, Final, Seen}
use Rattle.gr_turn.specs.declared.view.Stage.TheVariants.{Idle, Serves}
use Rattle.gr_turn.specs.declared.view.View.{View}
use Rattle.gr_turn.specs.Known.{all_shares, times, HasEachOnce}
use Rattle.gr_turn.specs.Inside.Views.{beginning}
use Rattle.gr_turn.specs.Inside.Rule.{IsHome, IsSeated}
use Rattle.gr_turn.proofs.KnownLemmas.{starts_itself, starts_empty, starts_whole, once_first, once_in, once_past}
use Rattle.gr_turn.proofs.TotalLemmas.{one_has_all, two_within}
use Rattle.gr_turn.proofs.RuleLemmas.{one_view, keeping}

module _ {T I F : Type 0} where
  -- the first seat knows what is so
  first_knows : (value : T) (entries : List I) (fixed : F) → IsSeated {T = T} fixed entries 0 0 (λ number. 0) (some (Some value) ∷ []) 0 (beginning entries fixed)
  first_knows value entries fixed = record {
    seen = starts_itself entries;
    told = starts_empty entries;
    own = λ place some_times. dite (dec_lt place (length entries))
        (λ below. below)
        (λ past. absurd (omega (arith, once_first place (length entries), once_past place (length entries) (omega arith))));
    fixed = λ _. refl;
    spent = λ none_left. absurd (omega arith);
    waits = λ n e. let no : ⊥ = cc in absurd no;
    serves = λ n e. let no : ⊥ = cc in absurd no;
  }

  only_first : (value : T) (entries : List I) (fixed : F) (id : ℕ) (v : View I F) → get_elem? (beginning entries fixed ∷ []) id ≡ some v
      → IsSeated {T = T} fixed entries 0 0 (λ number. 0) (some (Some value) ∷ []) id v
  only_first value entries fixed zero v at =
      subst (λ x. IsSeated {T = T} fixed entries 0 0 (λ number. 0) (some (Some value) ∷ []) 0 x) (some-injective (beginning entries fixed) v at) (first_knows value entries fixed)
  only_first value entries fixed (suc id) v at = absurd (some-ne-none v (sym at))

module _ {T I F : Type 0} (entries : T → List I) (fixed : T → F) where
  opens_with : (value : T) (count : ℕ) → length (entries value) < 2 ^ 64 → count ≡ length (entries value)
      → keeping entries fixed (fixed value) (opening (count ∷ 0 ∷ 0 ∷ []) (Some value ∷ []) (beginning (entries value) (fixed value)))
  opens_with value count short is = record {
    log = entries value;
    ticket = 0;
    served = 0;
    server = λ number. 0;
    words_are = ap (λ n. n ∷ 0 ∷ 0 ∷ []) is;
    short = short;
    few = omega arith;
    ordered = omega arith;
    drawn = λ number low high. absurd (omega arith);
    slot = inl (record { value = value; there = refl; shows = refl; keeps = refl });
    seats = only_first value (entries value) (fixed value);
    shares_are = omega arith;
    own_once = λ place. omega (arith, once_first place (length (entries value)));
  }

  -- the first state, of which the key is told the value
  pub opens : (value key : T) (count : ℕ) (slots : List (Option T)) → key ≡ value → slots ≡ Some value ∷ [] → length (entries value) < 2 ^ 64 → count ≡ length (entries value)
      → keeping entries fixed (fixed key) (opening (count ∷ 0 ∷ 0 ∷ []) slots (beginning (entries key) (fixed key)))
  opens value key count slots same full short is =
      subst (λ x. keeping entries fixed (fixed x) (opening (count ∷ 0 ∷ 0 ∷ []) slots (beginning (entries x) (fixed x)))) (sym same)
      (subst (λ xs. keeping entries fixed (fixed value) (opening (count ∷ 0 ∷ 0 ∷ []) xs (beginning (entries value) (fixed value)))) (sym full) (opens_with value count short is))

  -- what a table has in its slot, whose last seat has all shares and no number
  pub record Closes (v : View I F) (slots : List (Option T)) : Type 0 where
    pub value : T
    pub there : get_elem? slots 0 ≡ some (Some value)
    pub shows : entries value ≡ v.seen
    pub keeps : fixed value ≡ v.fixed
    pub once : HasEachOnce v.own (length v.seen)

  closed_slot : (first : F) (s : State (Option T) (View I F)) (k : keeping entries fixed first s) (id : ℕ) (v : View I F)
      → get_elem? s.views id ≡ some v → v.stage ≡ Idle → v.shares ≡ all_shares → IsHome entries fixed first k.log s.homes
  closed_slot first s k id v at rests all = ⊎_elim
      (λ home. home)
      (λ out. dite (ℕ_discrete (k.server k.served) id)
      (λ here. let same = one_view s.views (k.server k.served) id out.holder v here out.sits at in
      let both : Serves k.served ≡ Idle = sym out.serves ∙ ap (λ x. x.stage) same ∙ rests in let no : ⊥ = cc in absurd no)
      (λ there.
      let more = two_within (λ (x : View I F). x.shares) s.views id (k.server k.served) v out.holder there at out.sits in
      let none_left : out.holder.shares ≡ 0 = omega (arith, k.shares_are) in
      let idle = ((k.seats (k.server k.served) out.holder out.sits).spent none_left).1 in
      let both : Serves k.served ≡ Idle = sym out.serves ∙ idle in let no : ⊥ = cc in absurd no))
      k.slot

  -- all places are those of the seat with all shares
  closed_own : (first : F) (s : State (Option T) (View I F)) (k : keeping entries fixed first s) (id : ℕ) (v : View I F)
      → get_elem? s.views id ≡ some v → v.shares ≡ all_shares → HasEachOnce v.own (length k.log)
  closed_own first s k id v at all place =
      sym (one_has_all (λ (x : View I F). times place x.own) s.views id v at
      (λ j u other there.
      let more = two_within (λ (x : View I F). x.shares) s.views id j v u other at there in
      let none_left : u.shares ≡ 0 = omega (arith, k.shares_are) in
      ap (times place) ((k.seats j u there).spent none_left).0))
      ∙ k.own_once place

  pub closes : (first : F) (id : ℕ) (v : View I F) (words : List ℕ) (slots : List (Option T)) → v.stage ≡ Idle → v.shares ≡ all_shares
      → Final (Seen (keeping entries fixed first) id v) words slots → Closes v slots
  closes first id v words slots rests all final =
      let s = final.0 in let k = final.1.0 in let at = final.1.1 in
      let q = k.seats id v at in
      let home = closed_slot first s k id v at rests all in
      let own = closed_own first s k id v at all in
      let whole : k.log ≡ v.seen = starts_whole k.log v.seen q.seen (dite (dec_lt (length v.seen) (length k.log))
      (λ shorter. absurd (omega (arith, q.own (length v.seen) (omega (arith, own (length v.seen), once_in (length v.seen) (length k.log) shorter)))))
      (λ no_shorter. omega arith)) in
      record {
        value = home.value;
        there = final.4 0 (Some home.value) (ap (λ hs. get_elem? hs 0) home.there);
        shows = home.shows ∙ whole;
        keeps = home.keeps ∙ sym (q.fixed (omega arith));
        once = subst (λ xs. HasEachOnce v.own (length xs)) whole own;
      }

  pub never_empty : (v : View I F) (slots : List (Option T)) → Closes v slots → get_elem? slots 0 ≡ some None → ⊥
  never_empty v slots end empty = let both : some (Some end.value) ≡ some None = sym end.there ∙ empty in let no : ⊥ = cc in no

  -- the value that is taken out of the slot at the end
  pub record IsLast (value : T) (v : View I F) : Type 0 where
    pub shows : entries value ≡ v.seen
    pub keeps : fixed value ≡ v.fixed
    pub once : HasEachOnce v.own (length v.seen)

  pub last_value : (v : View I F) (slots : List (Option T)) (value : T) → Closes v slots → get_elem? slots 0 ≡ some (Some value) → IsLast value v
  last_value v slots value end taken =
      let both : some (Some end.value) ≡ some (Some value) = sym end.there ∙ taken in
      let same : end.value ≡ value = cc in
      record { shows = ap entries (sym same) ∙ end.shows; keeps = ap fixed (sym same) ∙ end.keeps; once = end.once }
