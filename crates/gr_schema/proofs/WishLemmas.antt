-- Wishes that are looked through rule by rule.
use Rattle.std.proofs.Common.{ℕ, ◌≡◌, Bool, true, false, ◌&&◌, ◌||◌, not, cond, drop, List, [], ◌∷◌, refl, sym, ap, subst, ◌∙◌}
use Rattle.std.specs.Prelude.{if◌then◌else◌, None, Some, Option, is_some, Result, Ok, Err, IsUtf8}
use Rattle.std.specs.Option.{option_map_or, option_or}
use Rattle.std.proofs.lemmas.Option.{none-some}
use Rattle.gr_base.specs.Fault.{fault_named}
use Rattle.gr_base.specs.declared.failure.Failure.{Failure}
use Rattle.gr_base.specs.declared.failure.Failure.TheVariants.{Refused, NoMemory}
use Rattle.gr_base.specs.declared.fault.Fault.{Fault}
use Rattle.gr_base.specs.declared.fault.FaultKind.{FaultKind}
use Rattle.gr_base.specs.declared.fault.FaultKind.TheVariants.{BadFlags, BadName, BadSource, BadType, NameTaken, NoSuchTable}
use Rattle.gr_base.specs.declared.numbers.TableNo.{TableNo}
use Rattle.gr_values.specs.declared.data_type.Kind.{Kind}
use Rattle.gr_values.specs.declared.path.Field.{Field}
use Rattle.gr_schema.specs.Flags.{are_flags, fit_table, flags_of, has, index_flag, position_flag, section_flag, vector_flag}
use Rattle.gr_schema.specs.Inside.Flags.{AreMeant, IsRefused, flags_fit}
use Rattle.gr_schema.specs.Schema.{SchemaDef, column_named}
use Rattle.gr_schema.specs.Wishes.{Home, IsAnswer, IsColumnFor, IsTextColumn, IsTold, are_sources, column_fault, column_of, column_rules, first_fault, fits_flags, fits_source, fits_vector, home_named, is_column_name, is_given, kind_named, role_of, sources_of, target_named}
use Rattle.gr_schema.specs.declared.definition.ColumnDef.{ColumnDef}
use Rattle.gr_schema.specs.declared.definition.Role.{Role}
use Rattle.gr_schema.specs.declared.definition.TableDef.{TableDef}
use Rattle.gr_schema.specs.declared.flags.Flags.{Flags}
use Rattle.gr_schema.specs.declared.wish.ColumnWish.{ColumnWish}
use Rattle.gr_schema.proofs.ToldLemmas.{column_told}

-- a rule that is kept leaves the answer to the rules after it
pub rule_kept : {X : Type 0} (b : Bool) (fault : Fault) (rest : Option Fault) (meant : Option X) (result : Result X (Failure Fault)) → b ≡ false → IsAnswer rest meant result → IsAnswer (if b then Some fault else rest) meant result
rule_kept true fault rest meant result e is = absurd (cc)
rule_kept false fault rest meant result e is = is

-- a rule that is broken answers
pub rule_broken : {X : Type 0} (b : Bool) (kind : FaultKind) (text : List ℕ) (rest : Option Fault) (meant : Option X) (failure : Failure Fault) → b ≡ true → IsRefused kind text failure
    → IsAnswer (if b then Some (fault_named kind text) else rest) meant (Err failure)
rule_broken true kind text rest meant (Refused fault) e is = ap Some (sym is)
rule_broken true kind text rest meant NoMemory e is = tt
rule_broken false kind text rest meant failure e is = absurd (cc)

-- a refusal is one whatever is meant
pub refused_either : {X Y : Type 0} (fault : Option Fault) (meant : Option X) (other : Option Y) (failure : Failure Fault) → IsAnswer fault meant (Err failure) → IsAnswer {X = Y} fault other (Err failure)
refused_either fault meant other (Refused why) is = is
refused_either fault meant other NoMemory is = tt

-- the type of a data column fits where it is one, and a vector's is no type of truth values
pub fits_data : (schema : SchemaDef) (flags : List (List ℕ)) (type : List ℕ) (vector : Bool) → has index_flag flags ≡ false → has vector_flag flags ≡ vector
    → fits_flags schema flags type ≡ option_map_or (λ kind. not vector || fits_vector kind) (kind_named schema type) false
fits_data schema flags type vector index list = rw (index, list) (go vector (kind_named schema type))
  where
    go : (b : Bool) (o : Option Kind) → cond b (option_map_or fits_vector o false) (is_some o) ≡ option_map_or (λ kind. not b || fits_vector kind) o false
    go true None = refl
    go true (Some kind) = refl
    go false None = refl
    go false (Some kind) = refl

-- a data column has no source
pub fits_no_source : (schema : SchemaDef) (home : Home) (wish : ColumnWish) → has index_flag (flags_of wish.flags) ≡ false → fits_source schema home wish ≡ not (is_given wish.source)
fits_no_source schema home wish index = rw index refl

-- the type of an index column is a table that it can be over
pub fits_target : (schema : SchemaDef) (flags : List (List ℕ)) (type : List ℕ) → has index_flag flags ≡ true → fits_flags schema flags type ≡ is_some (target_named schema type)
fits_target schema flags type index = rw index refl

-- the source of an index column over this table
pub fits_sources : (schema : SchemaDef) (home target : Home) (wish : ColumnWish) (section : Bool) → has index_flag (flags_of wish.flags) ≡ true → has section_flag (flags_of wish.flags) ≡ section
    → target_named schema wish.kind ≡ Some target → fits_source schema home wish ≡ are_sources home target.def section wish.source
fits_sources schema home target wish section index sections is = rw (index, sections, is) refl

-- Wishes for a column, rule by rule

module _ {X : Type 0} (schema : SchemaDef) (home : Home) (wish : ColumnWish) (meant : Option X) where
  abbrev flags : List (List ℕ)
  flags = flags_of wish.flags

  abbrev from : ℕ → Option Fault
  from n = first_fault (drop n (column_rules schema home wish))

  pub type_broken : (failure : Failure Fault) → fits_flags schema flags wish.kind ≡ false → IsRefused BadType wish.kind failure → IsAnswer (from 3) meant (Err failure)
  type_broken failure e is = rule_broken (not (fits_flags schema flags wish.kind)) BadType wish.kind (from 4) meant failure (ap not e) is

  pub source_broken : (failure : Failure Fault) → fits_flags schema flags wish.kind ≡ true → fits_source schema home wish ≡ false → IsRefused BadSource wish.source failure → IsAnswer (from 3) meant (Err failure)
  source_broken failure fits e is =
      rule_kept (not (fits_flags schema flags wish.kind)) (fault_named BadType wish.kind) (from 4) meant (Err failure) (ap not fits)
      (rule_broken (not (fits_source schema home wish)) BadSource wish.source None meant failure (ap not e) is)

  pub source_kept : (x : X) → fits_flags schema flags wish.kind ≡ true → fits_source schema home wish ≡ true → meant ≡ Some x → IsAnswer (from 3) meant (Ok x)
  source_kept x fits e is =
      rule_kept (not (fits_flags schema flags wish.kind)) (fault_named BadType wish.kind) (from 4) meant (Ok x) (ap not fits)
      (rule_kept (not (fits_source schema home wish)) (fault_named BadSource wish.source) None meant (Ok x) (ap not e) (refl, is))

  pub flags_broken : (failure : Failure Fault) → (are_flags flags && fit_table home.def flags) ≡ false → IsRefused BadFlags wish.flags failure → IsAnswer (from 2) meant (Err failure)
  flags_broken failure e is = rule_broken (not (are_flags flags && fit_table home.def flags)) BadFlags wish.flags (from 3) meant failure (ap not e) is

  pub flags_kept : (result : Result X (Failure Fault)) → (are_flags flags && fit_table home.def flags) ≡ true → IsAnswer (from 3) meant result → IsAnswer (from 2) meant result
  flags_kept result e is = rule_kept (not (are_flags flags && fit_table home.def flags)) (fault_named BadFlags wish.flags) (from 3) meant result (ap not e) is

  pub name_broken : (failure : Failure Fault) → is_column_name wish.name ≡ false → IsRefused BadName wish.name failure → IsAnswer (from 0) meant (Err failure)
  name_broken failure e is = rule_broken (not (is_column_name wish.name)) BadName wish.name (from 1) meant failure (ap not e) is

  pub name_taken : (failure : Failure Fault) → is_column_name wish.name ≡ true → is_some (column_named home.def wish.name) ≡ true → IsRefused NameTaken wish.name failure → IsAnswer (from 0) meant (Err failure)
  name_taken failure named e is =
      rule_kept (not (is_column_name wish.name)) (fault_named BadName wish.name) (from 1) meant (Err failure) (ap not named)
      (rule_broken (is_some (column_named home.def wish.name)) NameTaken wish.name (from 2) meant failure e is)

  pub names_kept : (result : Result X (Failure Fault)) → is_column_name wish.name ≡ true → is_some (column_named home.def wish.name) ≡ false → IsAnswer (from 2) meant result → IsAnswer (from 0) meant result
  names_kept result named e is =
      rule_kept (not (is_column_name wish.name)) (fault_named BadName wish.name) (from 1) meant result (ap not named)
      (rule_kept (is_some (column_named home.def wish.name)) (fault_named NameTaken wish.name) (from 2) meant result e is)

-- what a data column is for
pub role_data : (schema : SchemaDef) (home : Home) (wish : ColumnWish) (vector : Bool) (kind : Kind) (role : Role) → has index_flag (flags_of wish.flags) ≡ false → has vector_flag (flags_of wish.flags) ≡ vector
    → kind_named schema wish.kind ≡ Some kind → role ≡ (if vector then Role.Vector kind else Role.Scalar kind) → role_of schema home wish ≡ Some role
role_data schema home wish vector kind role index list is role_is = rw (index, list, is, role_is) (go vector)
  where
    go : (b : Bool) → cond b (Some (Role.Vector kind)) (Some (Role.Scalar kind)) ≡ Some (if b then Role.Vector kind else Role.Scalar kind)
    go true = refl
    go false = refl

-- what an index column is for
pub role_index : (schema : SchemaDef) (home target : Home) (wish : ColumnWish) (position section : Bool) (sources : List Field) → has index_flag (flags_of wish.flags) ≡ true
    → has position_flag (flags_of wish.flags) ≡ position → has section_flag (flags_of wish.flags) ≡ section → target_named schema wish.kind ≡ Some target → sources ≡ sources_of home target.def wish.source
    → role_of schema home wish ≡ Some (Role.Index target.number sources position section)
role_index schema home target wish position section sources index positions sections is sources_is = rw (index, positions, sections, is, sources_is) refl

-- whether the flags that were read fit the table
pub flags_fit_table : (home : TableDef) (list : List (List ℕ)) (flags : Flags) → AreMeant list flags → flags_fit home flags ≡ fit_table home list
flags_fit_table home list Flags.Scalar meant = rw meant.0 refl
flags_fit_table home list Flags.Vector meant = rw meant.0 refl
flags_fit_table home list (Flags.Index position section) meant = rw (meant.0, meant.2) refl

-- the answer to a wish whose table was found
pub column_answer : (schema : SchemaDef) (wish : ColumnWish) (home : Home) (result : Result (TableNo × ColumnDef) (Failure Fault)) → home_named schema wish.table ≡ Some home
    → IsAnswer (first_fault (column_rules schema home wish)) (column_of schema wish) result → IsAnswer (column_fault schema wish) (column_of schema wish) result
column_answer schema wish home result is answer =
    subst (λ (o : Option Home). IsAnswer (option_map_or (λ h. first_fault (column_rules schema h wish)) o (Some (fault_named NoSuchTable wish.table))) (column_of schema wish) result) (sym is) answer

-- a wish whose flags, type or source are refused
pub role_refused : (schema : SchemaDef) (wish : ColumnWish) (home : Home) (result : Result Role (Failure Fault)) (failure : Failure Fault) → home_named schema wish.table ≡ Some home
    → is_column_name wish.name ≡ true → is_some (column_named home.def wish.name) ≡ false → IsAnswer (first_fault (drop 2 (column_rules schema home wish))) (role_of schema home wish) result → result ≡ Err failure
    → IsAnswer (column_fault schema wish) (column_of schema wish) (Err failure)
role_refused schema wish home result failure is named free answer err =
    column_answer schema wish home (Err failure) is
    (names_kept schema home wish (column_of schema wish) (Err failure) named free
    (refused_either (first_fault (drop 2 (column_rules schema home wish))) (role_of schema home wish) (column_of schema wish) failure
    (subst (IsAnswer (first_fault (drop 2 (column_rules schema home wish))) (role_of schema home wish)) err answer)))

-- what is told of a wish that is refused
pub refusal_told : (schema : SchemaDef) (wish : ColumnWish) (failure : Failure Fault) → IsTextColumn wish → IsAnswer (column_fault schema wish) (column_of schema wish) (Err failure) → IsTold failure
refusal_told schema wish (Refused why) text is = column_told schema wish why text is
refusal_told schema wish NoMemory text is = tt

-- a column that was made is one that its wish means
pub column_wished : (schema : SchemaDef) (wish : ColumnWish) (table : TableNo) (column : ColumnDef) → IsAnswer (column_fault schema wish) (column_of schema wish) (Ok (table, column)) → IsColumnFor schema table column
column_wished schema wish table column is = record { wish = wish; faultless = is.0; meant = is.1 }

-- a wish that is granted
pub role_granted : (schema : SchemaDef) (wish : ColumnWish) (home : Home) (result : Result Role (Failure Fault)) (role : Role) (name : List ℕ) → home_named schema wish.table ≡ Some home
    → is_column_name wish.name ≡ true → is_some (column_named home.def wish.name) ≡ false → IsAnswer (first_fault (drop 2 (column_rules schema home wish))) (role_of schema home wish) result → result ≡ Ok role
    → name ≡ wish.name → IsAnswer (column_fault schema wish) (column_of schema wish) (Ok (home.number, record { name = name; role = role }))
role_granted schema wish home result role name is named free answer ok name_is =
    let granted : IsAnswer (first_fault (drop 2 (column_rules schema home wish))) (role_of schema home wish) (Ok role) =
    subst (IsAnswer (first_fault (drop 2 (column_rules schema home wish))) (role_of schema home wish)) ok answer in
    let column : ColumnDef = record { name = name; role = role } in
    column_answer schema wish home (Ok (home.number, column)) is
    (names_kept schema home wish (column_of schema wish) (Ok (home.number, column)) named free
    (granted.0, rw (is, granted.1, name_is) refl))

-- of a choice that was made, the test and what was chosen
pub cond_none : {X : Type 0} (b : Bool) (x : X) → cond b (Some x) None ≡ None → b ≡ false
cond_none true x e = absurd (none-some x (sym e))
cond_none false x e = refl
