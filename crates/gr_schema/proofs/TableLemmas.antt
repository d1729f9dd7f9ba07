-- A table that a wish without a fault means is sound in the schema that has it last.
use Rattle.std.proofs.Common.{ℕ, ◌≡◌, Bool, true, false, ◌&&◌, ◌||◌, not, cond, List, [], ◌∷◌, ◌++◌, length, refl, sym, ap, subst, ◌∙◌}
use Rattle.std.specs.Prelude.{if◌then◌else◌, IfSome, None, Some, Option, is_some}
use Rattle.std.specs.List.{position}
use Rattle.std.specs.Option.{option_map}
use Rattle.std.specs.Str.{bytes_eq}
use Rattle.std.proofs.lemmas.Option.{none-some}
use Rattle.gr_base.specs.Name.{is_name}
use Rattle.gr_values.specs.Types.{is_key_type}
use Rattle.gr_values.specs.declared.data_type.DataType.{DataType}
use Rattle.gr_schema.specs.Fields.{is_short_text, only}
use Rattle.gr_schema.specs.Schema.{SchemaDef, is_lexicon, table_named, table_no, with_table}
use Rattle.gr_schema.specs.Sound.{IsTable, has_keys}
use Rattle.gr_schema.specs.Wishes.{IsTableFor, fits_kind, is_given, key_type_named, kind_of, table_fault, table_of, table_rules}
use Rattle.gr_schema.specs.Words.{is_one_of, named, reserved_names, tokenizers, types}
use Rattle.gr_schema.specs.declared.definition.TableDef.{TableDef}
use Rattle.gr_schema.specs.declared.definition.TableKind.{TableKind}
use Rattle.gr_schema.specs.declared.definition.TableKind.TheVariants.{NoKey, Hash, Pat}
use Rattle.gr_schema.specs.declared.wish.TableWish.{TableWish}
use Rattle.gr_schema.proofs.NameLemmas.{name_utf8}
use Rattle.gr_schema.proofs.NamesLemmas.{text_itself}
use Rattle.gr_schema.proofs.PlacesLemmas.{position_push}
use Rattle.gr_schema.proofs.RuleLemmas.{given_cons, none_from, not_false, or_false, true_apart, unbroken}

no_type : is_some (key_type_named []) ≡ false
unfolding types
no_type = refl

no_tokenizer : is_some (named tokenizers []) ≡ false
unfolding tokenizers
no_tokenizer = refl

keys_fit : (kind : TableKind) (key_type : List ℕ) → fits_kind kind key_type ≡ true → is_some (key_type_named key_type) ≡ has_keys kind
keys_fit NoKey [] e = no_type
keys_fit NoKey (byte ∷ bytes) e = let given = given_cons byte bytes in absurd (true_apart _ e (ap not given))
keys_fit Hash key_type e = e
keys_fit Pat key_type e = e

key_passes : (o : Option DataType) → IfSome (only is_key_type o) (λ type. is_key_type type ≡ true)
key_passes None = tt
key_passes (Some type) = go (is_key_type type) refl
  where
    go : (b : Bool) → is_key_type type ≡ b → IfSome (if b then Some type else None) (λ t. is_key_type t ≡ true)
    go true is = is
    go false is = tt

lexicon_keys : (tokenizer : List ℕ) (short : Bool) → (is_given tokenizer && not short) ≡ false → is_some (named tokenizers tokenizer) ≡ true → short ≡ true
lexicon_keys [] short e is = absurd (true_apart _ is no_tokenizer)
lexicon_keys (byte ∷ bytes) short e is = not_false short (ap (λ b. b && not short) (sym (given_cons byte bytes)) ∙ e)

-- no table has the name yet
pub table_free : (schema : SchemaDef) (wish : TableWish) → table_fault schema wish ≡ None → position (λ table. bytes_eq table.name wish.name) schema.tables ≡ None
table_free schema wish e =
    let kept = unbroken (table_rules schema wish) e in
    none_by (position (λ table. bytes_eq table.name wish.name) schema.tables) (none_from (table_named schema wish.name) (or_false (is_one_of reserved_names wish.name) (is_some (table_named schema wish.name)) kept.1.0).1)
  where
    none_by : (o : Option ℕ) → option_map table_no o ≡ None → o ≡ None
    none_by None e = refl
    none_by (Some n) e = absurd (none-some (table_no n) (sym e))

wish_sound : (schema : SchemaDef) (wish : TableWish) → table_fault schema wish ≡ None → IsTable (with_table schema (table_of wish)) (length schema.tables) (table_of wish)
wish_sound schema wish e =
    let kept = unbroken (table_rules schema wish) e in
    record {
      name = not_false (is_name wish.name) kept.0;
      utf8 = name_utf8 wish.name (not_false (is_name wish.name) kept.0);
      free = (or_false (is_one_of reserved_names wish.name) (is_some (table_named schema wish.name)) kept.1.0).0;
      first = ap (option_map table_no)
          (position_push (λ table. bytes_eq table.name wish.name) schema.tables (table_of wish)
          ∙ ap (λ o. cond (is_some o) o (cond (bytes_eq wish.name wish.name) (Some (length schema.tables)) None)) (table_free schema wish e)
          ∙ ap (λ b. cond b (Some (length schema.tables)) None) (text_itself wish.name));
      keys = keys_fit (kind_of wish.flags) wish.key_type (not_false (fits_kind (kind_of wish.flags) wish.key_type) kept.1.1.1.0);
      key_type = key_passes (named types wish.key_type);
      lexicon = lexicon_keys wish.tokenizer (is_short_text (key_type_named wish.key_type)) kept.1.1.1.1.1.0;
      columns = λ c column at. absurd (none-some column at);
    }

pub table_sound : (schema : SchemaDef) (table : TableDef) → IsTableFor schema table → IsTable (with_table schema table) (length schema.tables) table
table_sound schema table is = subst (λ t. IsTable (with_table schema t) (length schema.tables) t) is.meant (wish_sound schema is.wish is.faultless)

-- its name is free, and it has no columns
pub name_free : (schema : SchemaDef) (table : TableDef) → IsTableFor schema table → position (λ other. bytes_eq other.name table.name) schema.tables ≡ None
name_free schema table is = subst (λ (t : TableDef). position (λ other. bytes_eq other.name t.name) schema.tables ≡ None) is.meant (table_free schema is.wish is.faultless)

pub no_columns : (schema : SchemaDef) (table : TableDef) → IsTableFor schema table → table.columns ≡ []
no_columns schema table is = ap (λ (t : TableDef). t.columns) (sym is.meant)
