-- What is known of a wish without a fault.
use Rattle.std.proofs.Common.{ℕ, zero, suc, ◌≡◌, ◌==◌, ◌+◌, ◌<◌, ◌≤◌, Bool, true, false, ◌&&◌, ◌||◌, not, cond, List, [], ◌∷◌, ◌++◌, length, arith, refl, sym, ap, subst, ◌∙◌}
use Rattle.std.specs.Prelude.{if◌then◌else◌, None, Some, Option, is_some, nat_le}
use Rattle.std.specs.List.{AllByRecursion, cons_option, filter_map, list_all}
use Rattle.std.specs.Option.{option_and_then, option_map}
use Rattle.std.proofs.lemmas.Bool.Decides.{nat_tests}
use Rattle.std.proofs.lemmas.Option.{none-some, same_Some}
use Rattle.gr_base.specs.declared.fault.Fault.{Fault}
use Rattle.gr_base.specs.declared.numbers.TableNo.{TableNo}
use Rattle.gr_schema.specs.Schema.{SchemaDef, table_at, table_named}
use Rattle.gr_schema.specs.Wishes.{Home, first_fault, home_named, home_of, is_given}
use Rattle.gr_schema.specs.declared.definition.TableDef.{TableDef}

-- where no rule is broken, the first is not, and none of the others
rules_kept : (rule : Bool × Fault) (rules : List (Bool × Fault)) → first_fault (rule ∷ rules) ≡ None → (rule.0 ≡ false) × (first_fault rules ≡ None)
rules_kept rule rules e = go rule.0 refl e
  where
    go : (b : Bool) → rule.0 ≡ b → cond b (Some rule.1) (first_fault rules) ≡ None → (rule.0 ≡ false) × (first_fault rules ≡ None)
    go true is e = absurd (none-some rule.1 (sym e))
    go false is e = (is, e)

pub unbroken : (rules : List (Bool × Fault)) → first_fault rules ≡ None → AllByRecursion (λ rule. rule.0 ≡ false) rules
unbroken [] e = tt
unbroken (rule ∷ rules) e = let parts = rules_kept rule rules e in (parts.0, unbroken rules parts.1)

pub not_false : (b : Bool) → not b ≡ false → b ≡ true
not_false true e = refl
not_false false e = sym e

pub not_true : (b : Bool) → not b ≡ true → b ≡ false
not_true true e = sym e
not_true false e = refl

pub or_false : (a b : Bool) → (a || b) ≡ false → (a ≡ false) × (b ≡ false)
or_false true b e = absurd (cc)
or_false false b e = (refl, e)

pub true_apart : (b : Bool) → b ≡ true → b ≡ false → ⊥
true_apart true e f = (cc)
true_apart false e f = (cc)

pub none_from : {X : Type 0} (o : Option X) → is_some o ≡ false → o ≡ None
none_from None e = refl
none_from (Some x) e = absurd (cc)

pub some_from : {X : Type 0} (o : Option X) → is_some o ≡ true → (x : X) × (o ≡ Some x)
some_from None e = absurd (cc)
some_from (Some x) e = (x, refl)

pub at_most_from : (m n : ℕ) → nat_le m n ≡ true → m ≤ n
at_most_from m n e = grind (arith, nat_tests)

-- a text with a first byte is given
pub given_cons : (byte : ℕ) (bytes : List ℕ) → is_given (byte ∷ bytes) ≡ true
given_cons byte bytes = grind (arith, nat_tests)

-- where each name has a field, there are as many fields as names
pub length_named : {X Y : Type 0} (f : X → Option Y) (xs : List X) → list_all (λ x. is_some (f x)) xs ≡ true → length (filter_map f xs) ≡ length xs
length_named f [] e = refl
length_named {Y = Y} f (x ∷ xs) e = go (f x) (length_named f xs) e
  where
    go : (o : Option Y) → (list_all (λ x. is_some (f x)) xs ≡ true → length (filter_map f xs) ≡ length xs) → (is_some o && list_all (λ x. is_some (f x)) xs) ≡ true → length (cons_option o (filter_map f xs)) ≡ suc (length xs)
    go None further e = absurd (cc)
    go (Some y) further e = ap suc (further e)

-- each field that is found passes what each found one does
pub all_pass : {X Y : Type 0} (f : X → Option Y) (p : Y → Bool) (xs : List X) → ((x : X) (y : Y) → f x ≡ Some y → p y ≡ true) → list_all p (filter_map f xs) ≡ true
all_pass f p [] each = refl
all_pass {Y = Y} f p (x ∷ xs) each = go (f x) refl (all_pass f p xs each)
  where
    go : (o : Option Y) → f x ≡ o → list_all p (filter_map f xs) ≡ true → list_all p (cons_option o (filter_map f xs)) ≡ true
    go None is further = further
    go (Some y) is further = rw (each x y is) further

-- a table that was found by its name stands at its number
pub home_there : (schema : SchemaDef) (name : List ℕ) (home : Home) → home_named schema name ≡ Some home → table_at schema home.number ≡ Some home.def
home_there schema name home e = go (table_named schema name) e
  where
    at_number : (number : TableNo) (o : Option TableDef) → table_at schema number ≡ o → option_map (home_of number) o ≡ Some home → table_at schema home.number ≡ Some home.def
    at_number number None is e = absurd (none-some home e)
    at_number number (Some def) is e =
        let same : home_of number def ≡ home = same_Some (home_of number def) home e in
        subst (λ (h : Home). table_at schema h.number ≡ Some h.def) same is

    go : (o : Option TableNo) → option_and_then (λ number. option_map (home_of number) (table_at schema number)) o ≡ Some home → table_at schema home.number ≡ Some home.def
    go None e = absurd (none-some home e)
    go (Some number) e = at_number number (table_at schema number) refl e
