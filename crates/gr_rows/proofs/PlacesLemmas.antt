-- Places and one more.
use Rattle.std.proofs.Common.{◌≡◌, ◌≤◌, ℕ, zero, suc, ◌||◌, Bool, true, false, true≢false, cond, is_some, List, [], ◌∷◌, ◌++◌, length, length-append, nat_eq, Option, Some, None, IfSome, Result, Ok, Err, refl, sym, ap, subst, subst₂, ◌∙◌, arith, eq-eqb, ne_eqb}
use Rattle.std.specs.Cmp.{nat_eq_equiv}
use Rattle.std.specs.HashSet.{contains}
use Rattle.std.specs.List.{AllByRecursion, IsDistinct, insert, list_any}
use Rattle.std.specs.Option.{ok_or, option_map_or}
use Rattle.std.specs.Str.{bytes_eq}
use Rattle.std.proofs.lemmas.List.{length-map}
use Rattle.std.proofs.lemmas.List.Folds.{list_any-append}
use Rattle.std.proofs.lemmas.Map.Keys.{IsDistinct-push}
use Rattle.std.proofs.lemmas.Option.{IfSome_then}
use Rattle.std.proofs.lemmas.Slice.Eq.{bytes_eq-Decides}
use Rattle.gr_base.specs.Failure.{result_map, result_then}
use Rattle.gr_base.specs.Fault.{fault_named}
use Rattle.gr_base.specs.declared.fault.Fault.{Fault}
use Rattle.gr_base.specs.declared.fault.FaultKind.TheVariants.{BadRow, NoSuchColumn}
use Rattle.gr_base.specs.declared.numbers.ColumnNo.{ColumnNo}
use Rattle.gr_schema.specs.Schema.{SchemaDef, column_named}
use Rattle.gr_schema.specs.declared.definition.TableDef.{TableDef}
use Rattle.gr_values.specs.declared.data_type.Shape.{Shape}
use Rattle.gr_rows.specs.Inside.Places.{ArePlaces, IsNamed, column_names, column_numbers, names_in}
use Rattle.gr_rows.specs.Names.{is_among, is_key_name, key_name, name_taken, slot_named}
use Rattle.gr_rows.specs.declared.places.Named.{Named}
use Rattle.gr_rows.specs.declared.places.Places.{Places}
use Rattle.gr_rows.specs.declared.slot.Slot.{Slot}
use Rattle.gr_rows.proofs.SlotLemmas.{alike, column_slot_named, key_slot_named}

-- names with the key among them, at this place if it has one
abbrev pub with_key_at : List (List ℕ) → Option ℕ → List (List ℕ)
with_key_at names key = option_map_or (λ place. insert names place key_name) key names

either_way : (b c : Bool) → (b || c) ≡ (c || b)
either_way true true = refl
either_way true false = refl
either_way false true = refl
either_way false false = refl

any_inserted : (p : List ℕ → Bool) (names : List (List ℕ)) (i : ℕ) (name : List ℕ) → list_any p (insert names i name) ≡ (p name || list_any p names)
any_inserted p names zero name = refl
any_inserted p [] (suc i) name = refl
any_inserted p (first ∷ names) (suc i) name = ap (λ b. p first || b) (any_inserted p names i name) ∙ swapped (p first) (p name) (list_any p names)
  where
    swapped : (a b c : Bool) → (a || (b || c)) ≡ (b || (a || c))
    swapped true true c = refl
    swapped true false c = refl
    swapped false b c = refl

-- the last place is behind all
inserted_last : (names : List (List ℕ)) (name : List ℕ) → insert names (length names) name ≡ names ++ name ∷ []
inserted_last [] name = refl
inserted_last (first ∷ names) name = ap (λ rest. first ∷ rest) (inserted_last names name)

-- a name behind all, and one among them
inserted_before : (names : List (List ℕ)) (i : ℕ) (name last : List ℕ) → i ≤ length names → insert (names ++ last ∷ []) i name ≡ insert names i name ++ last ∷ []
inserted_before names zero name last within = refl
inserted_before [] (suc i) name last within = absurd (omega arith)
inserted_before (first ∷ names) (suc i) name last within = ap (λ rest. first ∷ rest) (inserted_before names i name last (omega arith))

-- the key at the next place
pub key_pushed : (names : List (List ℕ)) → with_key_at names (Some (length names)) ≡ with_key_at names None ++ key_name ∷ []
key_pushed names = inserted_last names key_name

-- a column at the next place
pub column_pushed : (names : List (List ℕ)) (key : Option ℕ) (name : List ℕ) → IfSome key (λ place. place ≤ length names) → with_key_at (names ++ name ∷ []) key ≡ with_key_at names key ++ name ∷ []
column_pushed names None name within = refl
column_pushed names (Some place) name within = inserted_before names place key_name name within

-- texts that differ differ in either order
text_flip : (one other : List ℕ) → bytes_eq one other ≡ bytes_eq other one
text_flip one other = go (bytes_eq one other) (bytes_eq other one) refl refl
  where
    go : (a b : Bool) → bytes_eq one other ≡ a → bytes_eq other one ≡ b → a ≡ b
    go true true e f = refl
    go false false e f = refl
    go true false e f = absurd (true≢false (sym ((bytes_eq-Decides other one).1 (sym ((bytes_eq-Decides one other).0 e))) ∙ f))
    go false true e f = absurd (true≢false (sym ((bytes_eq-Decides one other).1 (sym ((bytes_eq-Decides other one).0 f))) ∙ e))

-- two names are one where their columns are one
pub one_column : (schema : SchemaDef) (home : TableDef) (one other : List ℕ) (number column : ColumnNo) → column_named home one ≡ Some column → column_named home other ≡ Some number
    → bytes_eq one other ≡ nat_eq column.0 number.0
one_column schema home one other number column e f = go (bytes_eq one other) refl
  where
    columns : bytes_eq one other ≡ true → column.0 ≡ number.0
    columns is = ap (λ (o : Option ColumnNo). option_map_or (λ c. c.0) o 0) (sym e ∙ ap (column_named home) ((bytes_eq-Decides one other).0 is) ∙ f)

    apart : bytes_eq one other ≡ false → column.0 ≡ number.0 → ⊥
    apart is same =
        let number_is : column ≡ number = ap (λ n. record { 0 = n }) same in
        true≢false (sym ((bytes_eq-Decides one other).1 (alike home one other column e (f ∙ ap Some (sym number_is)))) ∙ is)

    go : (b : Bool) → bytes_eq one other ≡ b → b ≡ nat_eq column.0 number.0
    go true is = sym (eq-eqb _ _ (columns is))
    go false is = sym (ne_eqb _ _ (apart is))

module _ (schema : SchemaDef) (home : TableDef) where
  -- a column's name stands among those of columns where its number stands among theirs
  among_columns : (columns : List Named) (name : List ℕ) (column : ColumnNo) → AllByRecursion (IsNamed schema home) columns → column_named home name ≡ Some column
      → list_any (λ other. bytes_eq other name) (column_names columns) ≡ list_any (nat_eq column.0) (column_numbers columns)
  among_columns [] name column named at = refl
  among_columns (first ∷ columns) name column named at =
      rw (text_flip first.name name ∙ one_column schema home name first.name first.column column at (column_slot_named schema home first.name first.column first.shape named.0.slot).number, among_columns columns name column named.1 at) refl

  -- the key's name is none of a column
  key_apart : (columns : List Named) → AllByRecursion (IsNamed schema home) columns → list_any (λ other. bytes_eq other key_name) (column_names columns) ≡ false
  key_apart [] named = refl
  key_apart (first ∷ columns) named =
      rw (text_flip first.name key_name ∙ (column_slot_named schema home first.name first.column first.shape named.0.slot).plain, key_apart columns named.1) refl

  module _ (places : Places) (sound : ArePlaces schema home places) where
    abbrev columns : List Named
    columns = places.columns.items

    -- whether the key stands here already
    key_among : is_among (names_in places) key_name ≡ is_some places.key
    key_among = go places.key
      where
        go : (key : Option ℕ) → list_any (λ other. bytes_eq other key_name) (with_key_at (column_names columns) key) ≡ is_some key
        go None = key_apart columns sound.named
        go (Some place) = any_inserted (λ other. bytes_eq other key_name) (column_names columns) place key_name

    -- whether a column stands here already
    column_among : (name : List ℕ) (column : ColumnNo) → is_key_name name ≡ false → column_named home name ≡ Some column → is_among (names_in places) name ≡ contains nat_eq places.taken column.0
    column_among name column plain at = go places.key ∙ among_columns columns name column sound.named at ∙ sym (sound.taken column.0)
      where
        go : (key : Option ℕ) → list_any (λ other. bytes_eq other name) (with_key_at (column_names columns) key) ≡ list_any (λ other. bytes_eq other name) (column_names columns)
        go None = refl
        go (Some place) = any_inserted (λ other. bytes_eq other name) (column_names columns) place key_name ∙ ap (λ b. b || list_any (λ other. bytes_eq other name) (column_names columns)) plain

    -- what is answered for one more name
    abbrev pub meant_name : List ℕ → Result (List (List ℕ)) Fault
    meant_name name = result_map (λ taken. names_in places ++ taken ∷ []) (name_taken schema home (names_in places) name)

    meant_at : (name : List ℕ) (slot : Slot) → slot_named schema home name ≡ Some slot
        → meant_name name ≡ cond (is_among (names_in places) name) (Err (fault_named BadRow [])) (Ok (names_in places ++ name ∷ []))
    meant_at name slot is = ap (λ (o : Option Slot). result_map (λ taken. names_in places ++ taken ∷ []) (result_then (λ slot. cond (is_among (names_in places) name) (Err (fault_named BadRow [])) (Ok name)) (ok_or o (fault_named NoSuchColumn name)))) is ∙ by_test (is_among (names_in places) name)
      where
        by_test : (b : Bool) → result_map (λ taken. names_in places ++ taken ∷ []) (cond {A = Result (List ℕ) Fault} b (Err (fault_named BadRow [])) (Ok name)) ≡ cond b (Err (fault_named BadRow [])) (Ok (names_in places ++ name ∷ []))
        by_test true = refl
        by_test false = refl

    -- a name that stands for nothing
    pub meant_none : (name : List ℕ) → slot_named schema home name ≡ None → meant_name name ≡ Err (fault_named NoSuchColumn name)
    meant_none name is = ap (λ (o : Option Slot). result_map (λ taken. names_in places ++ taken ∷ []) (result_then (λ slot. cond (is_among (names_in places) name) (Err (fault_named BadRow [])) (Ok name)) (ok_or o (fault_named NoSuchColumn name)))) is

    -- the name of the key
    pub meant_key : (name : List ℕ) → slot_named schema home name ≡ Some Slot.Key → meant_name name ≡ cond (is_some places.key) (Err (fault_named BadRow [])) (Ok (names_in places ++ key_name ∷ []))
    meant_key name is =
        let key_is : key_name ≡ name = key_slot_named schema home name is in
        meant_at name Slot.Key is
        ∙ ap (λ name. cond (is_among (names_in places) name) (Err (fault_named BadRow [])) (Ok (names_in places ++ name ∷ []))) (sym key_is)
        ∙ ap (λ b. cond {A = Result (List (List ℕ)) Fault} b (Err (fault_named BadRow [])) (Ok (names_in places ++ key_name ∷ []))) key_among

    -- the name of a column
    pub meant_column : (name : List ℕ) (column : ColumnNo) (shape : Shape) → slot_named schema home name ≡ Some (Slot.Column column shape)
        → meant_name name ≡ cond (contains nat_eq places.taken column.0) (Err (fault_named BadRow [])) (Ok (names_in places ++ name ∷ []))
    meant_column name column shape is =
        let slot = column_slot_named schema home name column shape is in
        meant_at name (Slot.Column column shape) is
        ∙ ap (λ b. cond {A = Result (List (List ℕ)) Fault} b (Err (fault_named BadRow [])) (Ok (names_in places ++ name ∷ []))) (column_among name column slot.plain slot.number)

-- one more column is sound
all_pushed : {X : Type 0} (P : X → Type 0) (xs : List X) (x : X) → AllByRecursion P xs → P x → AllByRecursion P (xs ++ x ∷ [])
all_pushed P [] x all one = (one, tt)
all_pushed P (first ∷ xs) x all one = (all.0, all_pushed P xs x all.1 one)

number_pushed : (columns : List Named) (named : Named) → column_numbers (columns ++ named ∷ []) ≡ column_numbers columns ++ named.column.0 ∷ []
number_pushed [] named = refl
number_pushed (first ∷ columns) named = ap (λ rest. first.column.0 ∷ rest) (number_pushed columns named)

-- places and one more column, whose number is now taken
pub sound_column : (schema : SchemaDef) (home : TableDef) (places made : Places) (named : Named) → ArePlaces schema home places → IsNamed schema home named
    → contains nat_eq places.taken named.column.0 ≡ false
    → ((number : ℕ) → contains nat_eq made.taken number ≡ cond (nat_eq named.column.0 number) true (contains nat_eq places.taken number))
    → made.columns.items ≡ places.columns.items ++ named ∷ [] → made.key ≡ places.key → ArePlaces schema home made
sound_column schema home places made named sound one free updated columns key = record {
  named = subst (AllByRecursion (IsNamed schema home)) (sym columns) (all_pushed (IsNamed schema home) places.columns.items named sound.named one);
  different = subst (IsDistinct nat_eq) (sym numbers) (IsDistinct-push nat_eq_equiv (column_numbers places.columns.items) named.column.0 sound.different (sym (sound.taken named.column.0) ∙ free));
  taken = λ number. updated number ∙ by_taken number ∙ ap (list_any (nat_eq number)) (sym numbers);
  key = subst₂ (λ k xs. IfSome k (λ place. place ≤ length {A = Named} xs)) (sym key) (sym columns) (IfSome_then places.key sound.key (λ place h. omega (arith, length-append places.columns.items (named ∷ []))));
}
  where
    numbers : column_numbers made.columns.items ≡ column_numbers places.columns.items ++ named.column.0 ∷ []
    numbers = ap column_numbers columns ∙ number_pushed places.columns.items named

    by_both : (a b : Bool) → cond a true b ≡ (b || (a || false))
    by_both true true = refl
    by_both true false = refl
    by_both false true = refl
    by_both false false = refl

    by_taken : (number : ℕ) → cond (nat_eq named.column.0 number) true (contains nat_eq places.taken number) ≡ list_any (nat_eq number) (column_numbers places.columns.items ++ named.column.0 ∷ [])
    by_taken number =
        ap (λ b. cond (nat_eq named.column.0 number) true b) (sound.taken number)
        ∙ by_both (nat_eq named.column.0 number) (list_any (nat_eq number) (column_numbers places.columns.items))
        ∙ ap (λ b. list_any (nat_eq number) (column_numbers places.columns.items) || (b || false)) (nat_eq_equiv.symm named.column.0 number)
        ∙ sym (list_any-append (nat_eq number) (column_numbers places.columns.items) (named.column.0 ∷ []))

name_pushed : (columns : List Named) (named : Named) → column_names (columns ++ named ∷ []) ≡ column_names columns ++ named.name ∷ []
name_pushed [] named = refl
name_pushed (first ∷ columns) named = ap (λ rest. first.name ∷ rest) (name_pushed columns named)

-- the names of places and one more column
pub names_pushed : (columns made : List Named) (key : Option ℕ) (named : Named) → made ≡ columns ++ named ∷ [] → IfSome key (λ place. place ≤ length columns)
    → with_key_at (column_names made) key ≡ with_key_at (column_names columns) key ++ named.name ∷ []
names_pushed columns made key named is within =
    ap (λ names. with_key_at names key) (ap column_names is ∙ name_pushed columns named)
    ∙ column_pushed (column_names columns) key named.name (IfSome_then key within (λ place h. omega (arith, length-map columns (λ (named : Named). named.name))))
