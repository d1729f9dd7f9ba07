-- A column that a wish without a fault means is sound.
use Rattle.std.proofs.Common.{ℕ, zero, suc, ◌≡◌, ◌==◌, ◌≤◌, Bool, true, false, ◌&&◌, ◌||◌, not, cond, List, [], ◌∷◌, ◌++◌, length, arith, refl, sym, ap, subst, ◌∙◌}
use Rattle.std.specs.Prelude.{if◌then◌else◌, None, Some, Option, is_some, nat_le}
use Rattle.std.specs.List.{filter_map, list_all, slice_split}
use Rattle.std.specs.Option.{option_map, option_map_or, option_or}
use Rattle.std.proofs.lemmas.Bool.{and_parts}
use Rattle.std.proofs.lemmas.Option.{none-some, same_Some}
use Rattle.gr_base.specs.declared.limits.TheConstants.{MOST_SOURCES}
use Rattle.gr_base.specs.declared.numbers.TableNo.{TableNo}
use Rattle.gr_values.specs.declared.data_type.DataType.{DataType}
use Rattle.gr_values.specs.declared.data_type.Kind.{Kind}
use Rattle.gr_values.specs.declared.data_type.Kind.TheVariants.{Plain, Reference}
use Rattle.gr_values.specs.declared.path.Field.{Field}
use Rattle.gr_schema.specs.Fields.{are_different, field_named, is_reference_field, is_text_field, only}
use Rattle.gr_schema.specs.Flags.{are_flags, fit_table, flags_of, has, index_flag, position_flag, section_flag, vector_flag}
use Rattle.gr_schema.specs.Schema.{SchemaDef, is_keyed, is_lexicon, table_at}
use Rattle.gr_schema.specs.Sound.{IsIndex, IsKind, IsRole}
use Rattle.gr_schema.specs.Wishes.{Home, are_sources, can_be_referred_to, fits_flags, fits_source, fits_vector, home_named, is_comma, kind_named, role_of, source_named, source_names, sources_of, target_named}
use Rattle.gr_schema.specs.Words.{named, types}
use Rattle.gr_schema.specs.declared.definition.Role.{Role}
use Rattle.gr_schema.specs.declared.definition.Role.TheVariants.{Scalar, Vector, Index}
use Rattle.gr_schema.specs.declared.definition.TableDef.{TableDef}
use Rattle.gr_schema.specs.declared.wish.ColumnWish.{ColumnWish}
use Rattle.gr_schema.proofs.ItemsLemmas.{only_some}
use Rattle.gr_schema.proofs.RuleLemmas.{all_pass, at_most_from, home_there, length_named, not_true, true_apart}
use Rattle.gr_schema.proofs.WayLemmas.{split_first}
use Rattle.gr_schema.proofs.WishLemmas.{fits_data, fits_sources}

-- what a data column holds is sound
kind_sound : (schema : SchemaDef) (name : List ℕ) (kind : Kind) → kind_named schema name ≡ Some kind → IsKind schema kind
kind_sound schema name kind e = by_type (named types name) e
  where
    by_table : (o : Option Home) → only (λ (to : Home). can_be_referred_to to.def) (home_named schema name) ≡ o → option_map (λ (to : Home). Reference to.number) o ≡ Some kind → IsKind schema kind
    by_table None is e = absurd (none-some kind e)
    by_table (Some to) is e =
        let parts = only_some (λ (h : Home). can_be_referred_to h.def) (home_named schema name) to is in
        subst (IsKind schema) (same_Some (Reference to.number) kind e) (to.def, home_there schema name to parts.0, parts.1)

    by_type : (o : Option DataType) → option_or (option_map Plain o) (option_map (λ (to : Home). Reference to.number) (only (λ (to : Home). can_be_referred_to to.def) (home_named schema name))) ≡ Some kind → IsKind schema kind
    by_type None e = by_table _ refl e
    by_type (Some type) e = subst (IsKind schema) (same_Some (Plain type) kind e) tt

-- a source is a field that the index can read
source_text : (home : Home) (target : TableDef) (name : List ℕ) (field : Field) → is_lexicon home.def ≡ true → source_named home target name ≡ Some field → is_text_field target field ≡ true
source_text home target name field lexicon e =
    (only_some (is_text_field target) (field_named target name) field
    (sym (ap (λ b. cond b (only (is_text_field target) (field_named target name)) (only (is_reference_field home.number target) (field_named target name))) lexicon) ∙ e)).1

source_reference : (home : Home) (target : TableDef) (name : List ℕ) (field : Field) → is_lexicon home.def ≡ false → source_named home target name ≡ Some field → is_reference_field home.number target field ≡ true
source_reference home target name field lexicon e =
    (only_some (is_reference_field home.number target) (field_named target name) field
    (sym (ap (λ b. cond b (only (is_text_field target) (field_named target name)) (only (is_reference_field home.number target) (field_named target name))) lexicon) ∙ e)).1

-- there is a source
names_some : (home : Home) (source : List ℕ) → 1 ≤ length (source_names home source)
names_some home source = go (is_lexicon home.def)
  where
    go : (b : Bool) → 1 ≤ length (cond b (slice_split is_comma source) (source ∷ []))
    go true = let parts = split_first is_comma source in rw parts.2 (omega arith)
    go false = omega arith

module _ (schema : SchemaDef) (home : Home) (wish : ColumnWish) where
  abbrev flags : List (List ℕ)
  flags = flags_of wish.flags

  -- an index column
  index_sound : (target : Home) (section : Bool) → target_named schema wish.kind ≡ Some target → has index_flag flags ≡ true → has section_flag flags ≡ section → fit_table home.def flags ≡ true
      → are_sources home target.def section wish.source ≡ true → IsIndex schema home.number home.def target.number (sources_of home target.def wish.source) section
  index_sound target section is index sections fits sources =
      let found = only_some (λ (t : Home). not (is_lexicon t.def)) (home_named schema wish.kind) target is in
      let table : (is_keyed home.def && (is_lexicon home.def || not section)) ≡ true = sym (ap (λ b. cond b (is_keyed home.def && (is_lexicon home.def || not (has section_flag flags))) (not (is_lexicon home.def))) index ∙ ap (λ b. is_keyed home.def && (is_lexicon home.def || not b)) sections) ∙ fits in
      let keyed = and_parts (is_keyed home.def) (is_lexicon home.def || not section) table in
      let parts = and_parts (all && nat_le count most) (are_different fields) sources in
      let more = and_parts all (nat_le count most) parts.0 in
      let many : count ≡ length (source_names home wish.source) = length_named (source_named home target.def) (source_names home wish.source) more.0 in
      let some : 1 ≤ count = rw many (names_some home wish.source) in
      let few : count ≤ most = at_most_from count most more.1 in
      record {
        keyed = keyed.0;
        def = target.def;
        target_there = home_there schema wish.kind target found.0;
        target_plain = not_true (is_lexicon target.def) found.1;
        some = some;
        few = by_section section few;
        one = one_source section some few;
        lexicon = on_lexicon section (is_lexicon home.def) keyed.1;
        different = parts.1;
        texts = λ lexicon. all_pass (source_named home target.def) (is_text_field target.def) (source_names home wish.source) (λ name field e. source_text home target.def name field lexicon e);
        references = λ lexicon. all_pass (source_named home target.def) (is_reference_field home.number target.def) (source_names home wish.source) (λ name field e. source_reference home target.def name field lexicon e);
      }
    where
      fields : List Field
      fields = sources_of home target.def wish.source

      count : ℕ
      count = length (sources_of home target.def wish.source)

      most : ℕ
      most = if section then MOST_SOURCES else 1

      all : Bool
      all = list_all (λ name. is_some (source_named home target.def name)) (source_names home wish.source)

      by_section : (b : Bool) → length (sources_of home target.def wish.source) ≤ (if b then MOST_SOURCES else 1) → length (sources_of home target.def wish.source) ≤ MOST_SOURCES
      by_section true few = few
      by_section false few = omega arith

      one_source : (b : Bool) → 1 ≤ length (sources_of home target.def wish.source) → length (sources_of home target.def wish.source) ≤ (if b then MOST_SOURCES else 1) → b ≡ false → length (sources_of home target.def wish.source) ≡ 1
      one_source true some few e = absurd (cc)
      one_source false some few e = omega arith

      on_lexicon : (b lexicon : Bool) → (lexicon || not b) ≡ true → b ≡ true → lexicon ≡ true
      on_lexicon b true e f = refl
      on_lexicon b false e f = sym (ap not f) ∙ e

  -- a table that may have a data column is no lexicon
  plain_home : has index_flag flags ≡ false → fit_table home.def flags ≡ true → is_lexicon home.def ≡ false
  plain_home index fits = not_true (is_lexicon home.def) (sym (ap (λ b. cond b (is_keyed home.def && (is_lexicon home.def || not (has section_flag flags))) (not (is_lexicon home.def))) index) ∙ fits)

  -- what a column is for
  pub role_sound : (role : Role) → fit_table home.def flags ≡ true → fits_flags schema flags wish.kind ≡ true → fits_source schema home wish ≡ true → role_of schema home wish ≡ Some role → IsRole schema home.number home.def role
  role_sound role table type source e = by_index (has index_flag flags) refl e
    where
      chosen : Bool → Bool → Option Role
      chosen index vector =
          if index then option_map (λ (target : Home). Index target.number (sources_of home target.def wish.source) (has position_flag (flags_of wish.flags)) (has section_flag (flags_of wish.flags))) (target_named schema wish.kind)
          else if vector then option_map Vector (kind_named schema wish.kind)
          else option_map Scalar (kind_named schema wish.kind)

      by_target : has index_flag (flags_of wish.flags) ≡ true → (o : Option Home) → target_named schema wish.kind ≡ o
          → option_map (λ (target : Home). Index target.number (sources_of home target.def wish.source) (has position_flag (flags_of wish.flags)) (has section_flag (flags_of wish.flags))) o ≡ Some role → IsRole schema home.number home.def role
      by_target index None is e = absurd (none-some role e)
      by_target index (Some target) is e =
          subst (IsRole schema home.number home.def) (same_Some _ role e)
          (index_sound target (has section_flag (flags_of wish.flags)) is index refl table
          (sym (fits_sources schema home target wish (has section_flag (flags_of wish.flags)) index refl is) ∙ source))

      by_kind : (vector : Bool) → has index_flag (flags_of wish.flags) ≡ false → has vector_flag (flags_of wish.flags) ≡ vector → (o : Option Kind) → kind_named schema wish.kind ≡ o
          → (if vector then option_map Vector o else option_map Scalar o) ≡ Some role → IsRole schema home.number home.def role
      by_kind true index vector None is e = absurd (none-some role e)
      by_kind false index vector None is e = absurd (none-some role e)
      by_kind true index vector (Some kind) is e =
          let fits : fits_vector kind ≡ true = sym (fits_data schema (flags_of wish.flags) wish.kind true index vector ∙ ap (λ o. option_map_or (λ k. not true || fits_vector k) o false) is) ∙ type in
          subst (IsRole schema home.number home.def) (same_Some (Vector kind) role e) (plain_home index table, fits, kind_sound schema wish.kind kind is)
      by_kind false index vector (Some kind) is e =
          subst (IsRole schema home.number home.def) (same_Some (Scalar kind) role e) (plain_home index table, kind_sound schema wish.kind kind is)

      by_index : (index : Bool) → has index_flag (flags_of wish.flags) ≡ index → chosen index (has vector_flag (flags_of wish.flags)) ≡ Some role → IsRole schema home.number home.def role
      by_index true index e = by_target index (target_named schema wish.kind) refl e
      by_index false index e = by_kind (has vector_flag (flags_of wish.flags)) index refl (kind_named schema wish.kind) refl e
