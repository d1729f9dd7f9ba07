-- The line of a table.
use Rattle.std.proofs.Common.{◌≡◌, ℕ, false, cond, List, [], ◌∷◌, ◌++◌, Option, Some, None, is_some, append_assoc, codes, refl, ap, sym, ◌∙◌}
use Rattle.std.specs.List.{join_with_byte}
use Rattle.std.specs.Option.{option_map, option_map_or, option_to_list}
use Rattle.std.specs.Str.{byte}
use Rattle.gr_dump.specs.Dump.{table_line}
use Rattle.gr_dump.specs.Words.{kind_text, words_line}
use Rattle.gr_print.specs.Block.{type_text}
use Rattle.gr_schema.specs.declared.definition.TableDef.{TableDef}
use Rattle.gr_values.specs.declared.data_type.DataType.{DataType}

-- the words that the line begins with
abbrev pub begun : TableDef → List ℕ
begun home = join_with_byte (byte " ") (codes "table_create" ∷ home.name ∷ kind_text home.kind ∷ [])

-- the type of the keys
abbrev pub key_words : Option DataType → List ℕ
key_words key = option_map_or (λ of. byte " " ∷ type_text of) key []

words-key : (name kind : List ℕ) (key : Option DataType)
    → join_with_byte (byte " ") (codes "table_create" ∷ name ∷ kind ∷ []) ++ (key_words key ++ codes "\n")
    ≡ words_line (codes "table_create" ∷ name ∷ kind ∷ option_to_list (option_map type_text key))
words-key name kind None = refl
words-key name kind (Some of) = simp append_assoc

-- a table that is no lexicon
pub table_line-made : (home : TableDef) (text first mid made : List ℕ) → is_some home.tokenizer ≡ false → first ≡ text ++ begun home → mid ≡ first ++ key_words home.key → made ≡ mid ++ codes "\n"
    → made ≡ text ++ table_line home
table_line-made home text first mid made plain a b d =
    d ∙ ap (λ t. t ++ codes "\n") (b ∙ ap (λ t. t ++ key_words home.key) a)
    ∙ append_assoc (text ++ begun home) (key_words home.key) (codes "\n")
    ∙ append_assoc text (begun home) (key_words home.key ++ codes "\n")
    ∙ ap (λ line. text ++ line) (words-key home.name (kind_text home.kind) home.key)
    ∙ ap (λ b. text ++ cond b [] (words_line (codes "table_create" ∷ home.name ∷ kind_text home.kind ∷ option_to_list (option_map type_text home.key)))) (sym plain)
