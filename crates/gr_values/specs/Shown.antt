-- The JSON text that shows a value.
use Rattle.std.specs.Prelude.{◌≡◌, ℕ, Bool, true, false, if◌then◌else◌, is_some, List, ◌++◌, map, codes, Option, Some, None, MatchOption, IsUtf8, ⊤}
use Rattle.std.specs.Fmt.{signed_decimal}
use Rattle.std.specs.List.{AllByRecursion, join_with_byte}
use Rattle.std.specs.Str.{byte}
use Rattle.json.specs.Print.{quoted}
use Rattle.gr_values.specs.declared.data_type.DataType.{DataType}
use Rattle.gr_values.specs.declared.value.Key.{Key}
use Rattle.gr_values.specs.declared.value.Given.{Given}
use Rattle.gr_values.specs.Types.{is_key_type, text_limit}

-- a key in decimal or as a JSON string
abbrev pub key_text : Key → List ℕ
key_text (Key.Number z) = signed_decimal z
key_text (Key.Text s) = quoted s

-- an empty reference to keys of this type: the empty text, or null where the keys are numbers
abbrev pub empty_reference : Option DataType → List ℕ
empty_reference None = codes "null"
empty_reference (Some of) = if is_some (text_limit of) then codes "\"\"" else codes "null"

-- `true` or `false`
abbrev pub truth_text : Bool → List ℕ
truth_text true = codes "true"
truth_text false = codes "false"

-- texts as the elements of an array
abbrev pub bracketed : List (List ℕ) → List ℕ
bracketed texts = codes "[" ++ (join_with_byte (byte ",") texts ++ codes "]")

-- the JSON text of a value; an empty reference is to keys of this type
abbrev pub given_text : Option DataType → Given → List ℕ
given_text key_of (Given.Bool b) = truth_text b
given_text key_of (Given.Int z) = signed_decimal z
given_text key_of (Given.Text s) = quoted s
given_text key_of (Given.Ref None) = empty_reference key_of
given_text key_of (Given.Ref (Some key)) = key_text key
given_text key_of (Given.RefList keys) = bracketed (map key_text keys)
given_text key_of (Given.IntList zs) = bracketed (map signed_decimal zs)
given_text key_of (Given.TextList texts) = bracketed (map quoted texts)

-- the key is a number or UTF-8
abbrev pub IsKeyText : Key → Type 0
IsKeyText (Key.Number z) = ⊤
IsKeyText (Key.Text s) = IsUtf8 s

-- the texts are UTF-8, and it is known to what keys an empty reference is
abbrev pub IsShowable : Option DataType → Given → Type 0
IsShowable key_of (Given.Bool b) = ⊤
IsShowable key_of (Given.Int z) = ⊤
IsShowable key_of (Given.Text s) = IsUtf8 s
IsShowable key_of (Given.Ref None) = MatchOption key_of ⊥ (λ of. is_key_type of ≡ true)
IsShowable key_of (Given.Ref (Some key)) = IsKeyText key
IsShowable key_of (Given.RefList keys) = AllByRecursion IsKeyText keys
IsShowable key_of (Given.IntList zs) = ⊤
IsShowable key_of (Given.TextList texts) = AllByRecursion IsUtf8 texts
