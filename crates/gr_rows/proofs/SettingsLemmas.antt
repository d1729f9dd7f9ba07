-- What members set: those that were read, and those that are still to come.
use Rattle.std.proofs.Common.{◌≡◌, ℕ, true, false, true≢false, List, [], ◌∷◌, ◌++◌, append_assoc, append-nil, map, nat_eq, Result, Ok, Err, refl, sym, ap, subst, ◌∙◌}
use Rattle.std.specs.Prelude.{IfSome, None, Some, Option}
use Rattle.std.specs.List.{AllByRecursion, IsDistinct}
use Rattle.std.specs.Option.{ok_or, option_map, option_to_list}
use Rattle.std.specs.Str.{bytes_eq}
use Rattle.std.proofs.lemmas.Bool.{ne_eqb}
use Rattle.std.proofs.lemmas.Slice.Eq.{bytes_eq-Decides}
use Rattle.gr_base.specs.Failure.{result_map, result_then}
use Rattle.gr_base.specs.declared.failure.Failure.{Failure}
use Rattle.gr_base.specs.declared.fault.Fault.{Fault}
use Rattle.gr_base.specs.declared.fault.FaultKind.{FaultKind}
use Rattle.gr_base.specs.declared.fault.FaultKind.TheVariants.{NoSuchColumn}
use Rattle.gr_base.specs.declared.numbers.ColumnNo.{ColumnNo}
use Rattle.gr_db.specs.Wants.{Setting}
use Rattle.gr_schema.specs.Schema.{SchemaDef, column_named}
use Rattle.gr_schema.specs.declared.definition.TableDef.{TableDef}
use Rattle.gr_values.specs.Values.{cell_of}
use Rattle.gr_values.specs.declared.value.Given.{Given}
use Rattle.gr_rows.specs.Inside.Told.{Tells}
use Rattle.gr_rows.specs.Members.{Member, before, in_member, member_setting, row_fault, settings_of, slot_setting}
use Rattle.gr_rows.specs.Names.{slot_named}
use Rattle.gr_rows.specs.declared.slot.Slot.{Slot}
use Rattle.gr_rows.proofs.SlotLemmas.{alike, column_slot_named}
use Rattle.gr_rows.proofs.Telling.{err_map, err_then}

module _ (schema : SchemaDef) (home : TableDef) (row : ℕ) where
  -- these settings were read, and all that is asked for is they and those of the members that are left
  pub record AreSet (all : Result (List Setting) Fault) (settings : List Setting) (left : List Member) : Type 0 where
    pub ask : all ≡ result_map (λ more. settings ++ more) (settings_of schema home row left)

same_result : (r : Result (List Setting) Fault) → r ≡ result_map (λ more. [] ++ more) r
same_result (Ok settings) = refl
same_result (Err fault) = refl

one_more : (settings : List Setting) (setting : Option Setting) (r : Result (List Setting) Fault)
    → result_map (λ more. settings ++ more) (result_map (before setting) r) ≡ result_map (λ more. (settings ++ option_to_list setting) ++ more) r
one_more settings None (Ok more) = ap (λ all. Ok (all ++ more)) (sym (append-nil settings))
one_more settings (Some setting) (Ok more) = ap Ok (sym (append_assoc settings (setting ∷ []) more))
one_more settings setting (Err fault) = refl

all_of : (settings : List Setting) → result_map {E = Fault} (λ more. settings ++ more) (Ok []) ≡ Ok settings
all_of settings = ap Ok (append-nil settings)

module _ {schema : SchemaDef} {home : TableDef} {row : ℕ} where
  -- before the first member
  pub AreSet-none : (members : List Member) → AreSet schema home row (settings_of schema home row members) [] members
  AreSet-none members = record { ask = same_result (settings_of schema home row members) }

  -- after the last one
  pub AreSet-all : {all : Result (List Setting) Fault} (settings : List Setting) → AreSet schema home row all settings [] → all ≡ Ok settings
  AreSet-all settings set = set.ask ∙ all_of settings

  -- what one more member sets
  pub AreSet-more : {all : Result (List Setting) Fault} {settings more : List Setting} {first : Member} {left : List Member} (setting : Option Setting)
      → member_setting schema home row first ≡ Ok setting → more ≡ settings ++ option_to_list setting → AreSet schema home row all settings (first ∷ left) → AreSet schema home row all more left
  AreSet-more {all = all} {settings = settings} {left = left} setting found pushed set =
      let ask : all ≡ result_map (λ rest. (settings ++ option_to_list setting) ++ rest) (settings_of schema home row left) =
      set.ask
      ∙ ap (λ (r : Result (Option Setting) Fault). result_map (λ rest. settings ++ rest) (result_then (λ setting. result_map (before setting) (settings_of schema home row left)) r)) found
      ∙ one_more settings setting (settings_of schema home row left) in
      record { ask = subst (λ now. all ≡ result_map (λ rest. now ++ rest) (settings_of schema home row left)) (sym pushed) ask }

  -- the next member is refused
  pub AreSet-refused : {all : Result (List Setting) Fault} {settings : List Setting} {first : Member} {left : List Member}
      (r : Result (Option Setting) (Failure Fault)) (why : Failure Fault) → Tells r (member_setting schema home row first) → r ≡ Err why
      → AreSet schema home row all settings (first ∷ left) → Tells {T = List Setting} (Err why) all
  AreSet-refused {settings = settings} {first = first} {left = left} r why told is set =
      let go = λ (setting : Option Setting). result_map (before setting) (settings_of schema home row left) in
      let meant = member_setting schema home row first in
      subst (λ m. Tells {T = List Setting} (Err why) m) (sym set.ask)
      (err_map (Err why) (result_then go meant) (err_then r meant told go why is) (λ more. settings ++ more) why refl)

-- a member that sets something is one of its column
sets_column : (schema : SchemaDef) (home : TableDef) (row : ℕ) (first : Member) (setting : Setting)
    → member_setting schema home row first ≡ Ok (Some setting) → column_named home first.0 ≡ Some setting.0
sets_column schema home row first setting e = by_slot (slot_named schema home first.0) refl e
  where
    by_cell : (column : ColumnNo) (cell : Result (Option Given) FaultKind) → in_member row first.0 (result_map (option_map (λ given. (column, given))) cell) ≡ Ok (Some setting) → column ≡ setting.0
    by_cell column (Err kind) e = absurd (cc)
    by_cell column (Ok None) e = absurd (cc)
    by_cell column (Ok (Some given)) e = ap (λ (s : Setting). s.0) (let same : (column, given) ≡ setting = cc in same)

    by_slot : (o : Option Slot) → slot_named schema home first.0 ≡ o → result_then (slot_setting row first.0 first.1) (ok_or o (row_fault NoSuchColumn row first.0)) ≡ Ok (Some setting) → column_named home first.0 ≡ Some setting.0
    by_slot None is e = absurd (cc)
    by_slot (Some Slot.Key) is e = absurd (cc)
    by_slot (Some (Slot.Column column shape)) is e =
        (column_slot_named schema home first.0 column shape is).number ∙ ap Some (by_cell column (cell_of shape first.1) e)

-- what the first of members sets, and what the others set
record AreParts (schema : SchemaDef) (home : TableDef) (row : ℕ) (first : Member) (others : List Member) (settings : List Setting) : Type 0 where
  one : Option Setting
  more : List Setting
  first_sets : member_setting schema home row first ≡ Ok one
  others_set : settings_of schema home row others ≡ Ok more
  together : before one more ≡ settings

parts_of : (schema : SchemaDef) (home : TableDef) (row : ℕ) (first : Member) (others : List Member) (settings : List Setting)
    → settings_of schema home row (first ∷ others) ≡ Ok settings → AreParts schema home row first others settings
parts_of schema home row first others settings e = by_first (member_setting schema home row first) refl (settings_of schema home row others) refl e
  where
    by_first : (r : Result (Option Setting) Fault) → member_setting schema home row first ≡ r → (s : Result (List Setting) Fault) → settings_of schema home row others ≡ s
        → result_then (λ setting. result_map (before setting) s) r ≡ Ok settings → AreParts schema home row first others settings
    by_first (Err fault) is s rest e = absurd (cc)
    by_first (Ok one) is (Err fault) rest e = absurd (cc)
    by_first (Ok one) is (Ok more) rest e = record { one = one; more = more; first_sets = is; others_set = rest; together = cc }

abbrev numbers : List Setting → List ℕ
numbers settings = map (λ setting. setting.0.0) settings

abbrev names : List Member → List (List ℕ)
names members = map (λ member. member.0) members

other_number : (home : TableDef) (one other : List ℕ) (column number : ColumnNo) → column_named home one ≡ Some column → column_named home other ≡ Some number
    → bytes_eq one other ≡ false → nat_eq column.0 number.0 ≡ false
other_number home one other column number e f apart =
    ne_eqb column.0 number.0
    (λ same.
    let columns : column ≡ number = ap (λ n. record { 0 = n }) same in
    let whole : bytes_eq one other ≡ true = (bytes_eq-Decides one other).1 (alike home one other column e (f ∙ ap Some (sym columns))) in
    true≢false (sym whole ∙ apart))

-- members of other names set other columns
others_apart : (schema : SchemaDef) (home : TableDef) (row : ℕ) (name : List ℕ) (column : ColumnNo) (members : List Member) (settings : List Setting)
    → column_named home name ≡ Some column → AllByRecursion (λ other. bytes_eq name other ≡ false) (names members) → settings_of schema home row members ≡ Ok settings
    → AllByRecursion (λ number. nat_eq column.0 number ≡ false) (numbers settings)
others_apart schema home row name column [] settings at apart e = let none : [] ≡ settings = cc in subst (λ s. AllByRecursion (λ number. nat_eq column.0 number ≡ false) (numbers s)) none tt
others_apart schema home row name column (first ∷ members) settings at apart e =
    let parts = parts_of schema home row first members settings e in
    subst (λ s. AllByRecursion (λ number. nat_eq column.0 number ≡ false) (numbers s)) parts.together
    (by_one parts.one parts.more parts.first_sets (others_apart schema home row name column members parts.more at apart.1 parts.others_set))
  where
    by_one : (one : Option Setting) (more : List Setting) → member_setting schema home row first ≡ Ok one → AllByRecursion (λ number. nat_eq column.0 number ≡ false) (numbers more)
        → AllByRecursion (λ number. nat_eq column.0 number ≡ false) (numbers (before one more))
    by_one None more is rest = rest
    by_one (Some setting) more is rest = (other_number home name first.0 column setting.0 at (sets_column schema home row first setting is) apart.0, rest)

-- members of which each has another name set each column once
pub set_apart : (schema : SchemaDef) (home : TableDef) (row : ℕ) (members : List Member) (settings : List Setting)
    → IsDistinct bytes_eq (names members) → settings_of schema home row members ≡ Ok settings → IsDistinct nat_eq (numbers settings)
unfolding IsDistinct
set_apart schema home row [] settings apart e = let none : [] ≡ settings = cc in subst (λ s. IsDistinct nat_eq (numbers s)) none tt
set_apart schema home row (first ∷ members) settings apart e =
    let parts = parts_of schema home row first members settings e in
    subst (λ s. IsDistinct nat_eq (numbers s)) parts.together
    (by_one parts.one parts.more parts.first_sets parts.others_set (set_apart schema home row members parts.more apart.1 parts.others_set))
  where
    by_one : (one : Option Setting) (more : List Setting) → member_setting schema home row first ≡ Ok one → settings_of schema home row members ≡ Ok more → IsDistinct nat_eq (numbers more) → IsDistinct nat_eq (numbers (before one more))
    by_one None more is rest further = further
    by_one (Some setting) more is rest further =
        (others_apart schema home row first.0 setting.0 members more (sets_column schema home row first setting is) apart.0 rest, further)

-- one more fits, where there is one
pub each_more : {X : Type 0} (P : X → Type 0) (xs : List X) (o : Option X) → AllByRecursion P xs → IfSome o P → AllByRecursion P (xs ++ option_to_list o)
each_more P [] None each fits = tt
each_more P [] (Some x) each fits = (fits, tt)
each_more P (first ∷ xs) o each fits = (each.0, each_more P xs o each.1 fits)
