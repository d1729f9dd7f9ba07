-- The map of a list, and lists of numbers as ids in order.
use Rattle.std.proofs.Common.{ℕ, ◌≡◌, Bool, true, false, cond, List, [], ◌∷◌, ◌++◌, ◌<◌, map, refl, sym, ap, subst, ◌∙◌, eqb, arith}
use Rattle.std.specs.Prelude.{◌≢◌, None, Some}
use Rattle.std.specs.Cmp.Lexicographic.{slice_cmp, nat_list_cmp_total}
use Rattle.std.specs.FinMap.{get, insert, remove, get-from_entries, get-insert, get-remove, same_map, slice_cmp-IsAntisymmetric, nat_cmp-IsAntisymmetric}
use Rattle.std.specs.List.{Contains, dedup}
use Rattle.std.specs.List.Sorted.{IsSorted, IsPermutation}
use Rattle.std.specs.Ordering.{nat_cmp, eq_by_cmp}
use Rattle.std.proofs.lemmas.List.Kept.{Contains-dedup_nat, Contains-from_dedup}
use Rattle.std.proofs.lemmas.List.Sorted.{Contains-permutation}
use Rattle.std.proofs.lemmas.Map.Keys.{IsStrictlyIncreasing-dedup}
use Rattle.gr_base.specs.Keys.{KeyMap, AreFound}
use Rattle.gr_key_tree.specs.Growing.{FindsOrAdds}
use Rattle.gr_base.specs.declared.numbers.RecordId.{RecordId}
use Rattle.std.specs.Prelude.{IfOk, Result, Ok, Err, Option}
use Rattle.std.specs.declared.sync.Arc.{Arc}
use Rattle.std.specs.Cmp.{IsTotalOrder}
use Rattle.std.specs.declared.cmp.Ordering.{Ordering}
use Rattle.gr_key_tree.specs.Inside.Rising.{Below, Above}
use Rattle.gr_key_tree.specs.Inside.Changes.{Answers, Inserts, Removes}
use Rattle.gr_key_tree.specs.Inside.Less.{IsLess}
use Rattle.gr_key_tree.specs.Inside.Root.{IsRoot, IsShared, root_pairs}
use Rattle.gr_key_tree.specs.Inside.Seen.{Seen}
use Rattle.gr_key_tree.proofs.Changes.{lookup_below, lookup_gap, lookup_stands}
use Rattle.gr_key_tree.specs.Inside.Held.{AreHeld, AreInOrder}
use Rattle.gr_key_tree.specs.Pairs.{Pair, lookup, map_of}
use Rattle.gr_key_tree.proofs.Exact.{contains_map, from_map}
use Rattle.gr_key_tree.proofs.Lookups.{same_key, key_itself, lookup_nil, lookup_here, lookup_past, lookup_right, lookup_cons, has_none, has_some}

pub if_ok : {T E : Type 0} {P Q : T → Type 0} (r : Result T E) → ((x : T) → P x → Q x) → IfOk r P → IfOk r Q
if_ok (Ok x) then_is holds = then_is x holds
if_ok (Err e) then_is holds = holds

true_false : (b : Bool) → b ≡ true → b ≡ false → ⊥
true_false b is isnt = cc

-- the map answers as the look-up does
pub get_map : (pairs : List Pair) (key : List ℕ) → get (map_of pairs) key ≡ lookup pairs key
unfolding lookup
get_map pairs key = get-from_entries nat_list_cmp_total pairs key

-- a look-up that answers so at a key and as before elsewhere
changed : (old new : List Pair) (key other : List ℕ) (found : _) (b : Bool) → eq_by_cmp (slice_cmp nat_cmp) other key ≡ b → lookup new key ≡ found → ((k : List ℕ) → k ≢ key → lookup new k ≡ lookup old k)
    → get (map_of new) other ≡ cond b found (get (map_of old) other)
changed old new key other found true e here others = get_map new other ∙ ap (lookup new) (same_key other key e) ∙ here
changed old new key other found false e here others = get_map new other ∙ others other (λ is. not_itself is e) ∙ sym (get_map old other)
  where
    not_itself : other ≡ key → eq_by_cmp (slice_cmp nat_cmp) other key ≡ false → ⊥
    not_itself is e = true_false _ (ap (eq_by_cmp (slice_cmp nat_cmp) other) (sym is) ∙ key_itself other) e

pub map_adds : (old new : List Pair) (key : List ℕ) (id : RecordId) → lookup new key ≡ Some id → ((k : List ℕ) → k ≢ key → lookup new k ≡ lookup old k) → map_of new ≡ insert (map_of old) key id
map_adds old new key id here others = same_map nat_list_cmp_total (slice_cmp-IsAntisymmetric nat_cmp-IsAntisymmetric) (map_of new) (insert (map_of old) key id)
    (λ other. changed old new key other (Some id) _ refl here others ∙ sym (get-insert nat_list_cmp_total (map_of old) key id other))

pub map_removes : (old new : List Pair) (key : List ℕ) → lookup new key ≡ None → ((k : List ℕ) → k ≢ key → lookup new k ≡ lookup old k) → map_of new ≡ remove (map_of old) key
map_removes old new key here others = same_map nat_list_cmp_total (slice_cmp-IsAntisymmetric nat_cmp-IsAntisymmetric) (map_of new) (remove (map_of old) key)
    (λ other. changed old new key other None _ refl here others ∙ sym (get-remove nat_list_cmp_total (map_of old) key other))

-- ---- ids in order
abbrev id_of : (number : ℕ) → RecordId
id_of number = record { 0 = number }

-- after a sort, the loss of what stands twice, and a copy into ids
pub in_order_by : (numbers sorted : List ℕ) (ids : List RecordId) → IsPermutation numbers sorted → IsPermutation sorted numbers → IsSorted nat_cmp sorted → map (λ id. id.0) ids ≡ dedup eqb sorted → AreInOrder numbers ids
in_order_by numbers sorted ids there back order is = record {
  ascending = rw is (IsStrictlyIncreasing-dedup sorted order);
  sound = λ id c. Contains-permutation sorted numbers id.0 back (Contains-from_dedup eqb sorted id.0 (rw (← is) (contains_map (λ (x : RecordId). x.0) ids id c)));
  complete = λ number c.
      let kept = Contains-dedup_nat sorted number (Contains-permutation numbers sorted number there c) in
      let from = from_map (λ (x : RecordId). x.0) ids number (rw is kept) in
      subst (λ (n : ℕ). Contains ids (id_of n)) from.2 from.1;
}

pub found_in_order : (pairs : List Pair) (prefix numbers : List ℕ) (ids : List RecordId) → AreHeld pairs prefix numbers → AreInOrder numbers ids → AreFound (map_of pairs) prefix ids
found_in_order pairs prefix numbers ids held order = record {
  ascending = order.ascending;
  sound = λ id c. let h = held.sound id.0 (order.sound id c) in record { key = h.key; begins = h.begins; has = get_map pairs h.key ∙ h.has };
  complete = λ id found. order.complete id.0 (held.complete id.0 (record { key = found.key; begins = found.begins; has = sym (get_map pairs found.key) ∙ found.has }));
}

pub held_nil : (prefix : List ℕ) → AreHeld [] prefix []
held_nil prefix = record {
  sound = λ number c. absurd (omega (arith, c.1));
  complete = λ number held. absurd (has_none [] held.key (lookup_nil held.key) (has_some [] held.key _ held.has));
}

-- ---- changes of pairs as changes of the map
lookup_around : (before after : List Pair) (key : List ℕ) (id : RecordId) (other : List ℕ) → other ≢ key → lookup (before ++ (key, id) ∷ after) other ≡ lookup (before ++ after) other
lookup_around [] after key id other differs = lookup_past (key, id) after other differs
lookup_around (p ∷ before) after key id other differs =
    lookup_cons p (before ++ (key, id) ∷ after) other ∙ ap (λ found. cond (eq_by_cmp (slice_cmp nat_cmp) other p.0) (Some p.1) found) (lookup_around before after key id other differs) ∙ sym (lookup_cons p (before ++ after) other)

module _ (cmp : List ℕ → List ℕ → Ordering) (o : IsTotalOrder cmp) where
  pub inserts_map : (old new : List Pair) (key : List ℕ) (id : RecordId) → Inserts cmp old key id new → map_of new ≡ insert (map_of old) key id
  inserts_map old new key id inserts = map_adds old new key id
      (ap (λ l. lookup l key) inserts.is ∙ lookup_right inserts.before ((key, id) ∷ inserts.after) key (lookup_below cmp o key inserts.before inserts.below) ∙ lookup_here (key, id) inserts.after)
      (λ other differs. ap (λ l. lookup l other) inserts.is ∙ lookup_around inserts.before inserts.after key id other differs ∙ ap (λ l. lookup l other) (sym inserts.was))

  pub inserts_new : (old new : List Pair) (key : List ℕ) (id : RecordId) → Inserts cmp old key id new → lookup old key ≡ None
  inserts_new old new key id inserts = ap (λ l. lookup l key) inserts.was ∙ lookup_gap cmp o key inserts.before inserts.after inserts.below inserts.above

  pub removes_map : (old new : List Pair) (key : List ℕ) → Removes cmp old key new → map_of new ≡ remove (map_of old) key
  removes_map old new key removes = map_removes old new key
      (ap (λ l. lookup l key) removes.is ∙ lookup_gap cmp o key removes.before removes.after removes.below removes.above)
      (λ other differs. ap (λ l. lookup l other) removes.is ∙ sym (lookup_around removes.before removes.after key removes.id other differs) ∙ ap (λ l. lookup l other) (sym removes.was))

  pub finds_or_adds : {E : Type 0} (old new : List Pair) (map : KeyMap) (key : List ℕ) (id : RecordId) (r : Result (Option RecordId) E) → map_of old ≡ map → Answers cmp old key id new r → FindsOrAdds map key id (map_of new) r
  finds_or_adds old new map key id (Ok (Some there)) is answers = (ap (λ (m : KeyMap). get m key) (sym is) ∙ get_map old key ∙ lookup_stands cmp o old key there answers.0, ap map_of answers.1 ∙ is)
  finds_or_adds old new map key id (Ok None) is answers = (ap (λ (m : KeyMap). get m key) (sym is) ∙ get_map old key ∙ inserts_new old new key id answers, inserts_map old new key id answers ∙ ap (λ (m : KeyMap). insert m key id) is)
  finds_or_adds old new map key id (Err e) is answers = ap map_of answers ∙ is

  pub single_inserts : (key : List ℕ) (id : RecordId) → Inserts cmp [] key id ((key, id) ∷ [])
  unfolding Below Above
  single_inserts key id = record { before = []; after = []; was = refl; is = refl; below = tt; above = tt }

  pub less_removes : {Z : Type 0} (old : Seen) (key : List ℕ) (less : Option Seen) (root : Option (Arc Seen Z)) → IsLess cmp old key less → IsShared less root → Removes cmp old.pairs key (root_pairs root)
  less_removes old key None None is shared = is
  less_removes old key (Some node) (Some arc) is shared = rw shared is.0
  less_removes old key None (Some arc) is shared = absurd shared
  less_removes old key (Some node) None is shared = absurd shared

  pub less_root : {Z : Type 0} (old : Seen) (key : List ℕ) (less : Option Seen) (root : Option (Arc Seen Z)) → IsLess cmp old key less → IsShared less root → old.height < 64 → IsRoot root
  less_root old key None None is shared low = tt
  less_root old key (Some node) (Some arc) is shared low = rw (shared, is.1) low
  less_root old key None (Some arc) is shared low = absurd shared
  less_root old key (Some node) None is shared low = absurd shared
