-- The fixed words of wishes: types, kinds of tables, tokenizers, and the names that are not free.
use Rattle.std.specs.Prelude.{ℕ, Bool, Option, find, List, [], ◌∷◌, codes}
use Rattle.std.specs.List.{list_any}
use Rattle.std.specs.Option.{option_map}
use Rattle.std.specs.Str.{bytes_eq}
use Rattle.gr_tokens.specs.declared.tokenizer.Tokenizer.{Tokenizer}
use Rattle.gr_tokens.specs.declared.tokenizer.Tokenizer.TheVariants.{Delimit, Bigram}
use Rattle.gr_values.specs.declared.data_type.DataType.{DataType}
use Rattle.gr_values.specs.declared.data_type.DataType.TheVariants.{Bool as Truth, Int8, Int16, Int32, Int64, UInt8, UInt16, UInt32, UInt64, ShortText, Text, LongText}
use Rattle.gr_schema.specs.declared.definition.TableKind.{TableKind}
use Rattle.gr_schema.specs.declared.definition.TableKind.TheVariants.{NoKey, Hash, Pat}

-- what stands beside a name
abbrev pub named : {X : Type 0} → List (List ℕ × X) → List ℕ → Option X
named rows name = option_map (λ row. row.1) (find (λ row. bytes_eq row.0 name) rows)

-- whether a text is one of these words
abbrev pub is_one_of : List (List ℕ) → List ℕ → Bool
is_one_of words text = list_any (λ word. bytes_eq word text) words

-- the types of values
unfoldable pub types : List (List ℕ × DataType)
types =
    (codes "Bool", Truth)
    ∷ (codes "Int8", Int8) ∷ (codes "Int16", Int16) ∷ (codes "Int32", Int32) ∷ (codes "Int64", Int64)
    ∷ (codes "UInt8", UInt8) ∷ (codes "UInt16", UInt16) ∷ (codes "UInt32", UInt32) ∷ (codes "UInt64", UInt64)
    ∷ (codes "ShortText", ShortText) ∷ (codes "Text", Text) ∷ (codes "LongText", LongText)
    ∷ []

-- the kinds of tables
unfoldable pub table_kinds : List (List ℕ × TableKind)
table_kinds =
    (codes "TABLE_NO_KEY", NoKey) ∷ (codes "TABLE_HASH_KEY", Hash) ∷ (codes "TABLE_PAT_KEY", Pat) ∷ []

-- the tokenizers
unfoldable pub tokenizers : List (List ℕ × Tokenizer)
tokenizers = (codes "TokenDelimit", Delimit) ∷ (codes "TokenBigram", Bigram) ∷ []

-- the names of types and tokenizers, those of Groonga's that are left out among them, which no table can have
unfoldable pub reserved_names : List (List ℕ)
reserved_names =
    codes "Bool"
    ∷ codes "Int8" ∷ codes "Int16" ∷ codes "Int32" ∷ codes "Int64"
    ∷ codes "UInt8" ∷ codes "UInt16" ∷ codes "UInt32" ∷ codes "UInt64"
    ∷ codes "ShortText" ∷ codes "Text" ∷ codes "LongText"
    ∷ codes "Float" ∷ codes "Float32" ∷ codes "Time" ∷ codes "TokyoGeoPoint" ∷ codes "WGS84GeoPoint"
    ∷ codes "TokenDelimit" ∷ codes "TokenBigram"
    ∷ []

-- the words of the script syntax, which no column can have as its name
unfoldable pub script_words : List (List ℕ)
script_words =
    codes "true" ∷ codes "false" ∷ codes "null" ∷ codes "between" ∷ codes "in_values" ∷ []

-- the names of the fields that each record, and each record with a key, has
abbrev pub id_name : List ℕ
id_name = codes "_id"

abbrev pub key_name : List ℕ
key_name = codes "_key"
