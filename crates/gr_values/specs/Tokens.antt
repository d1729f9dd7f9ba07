-- The tokens of JSON that a value is written in.
use Rattle.std.specs.Prelude.{◌≡◌, ℤ, if◌then◌else◌, is_some, List, [], ◌∷◌, ◌++◌, map, Option, Some, None}
use Rattle.std.specs.Fmt.{signed_decimal}
use Rattle.json.specs.Token.{Token, begin_array, end_array, string, number, boolean, null}
use Rattle.json.specs.Written.{Written}
use Rattle.gr_values.specs.declared.data_type.DataType.{DataType}
use Rattle.gr_values.specs.declared.value.Key.{Key}
use Rattle.gr_values.specs.declared.value.Given.{Given}
use Rattle.gr_values.specs.Types.{text_limit}

-- a number
abbrev pub number_token : ℤ → Token
number_token z = number (signed_decimal z)

-- a key
abbrev pub key_token : Key → Token
key_token (Key.Number z) = number_token z
key_token (Key.Text s) = string s

-- an empty reference to keys of this type
abbrev pub empty_token : Option DataType → Token
empty_token None = null
empty_token (Some of) = if is_some (text_limit of) then string [] else null

-- the elements of an array
abbrev pub array_tokens : List Token → List Token
array_tokens ts = begin_array ∷ (ts ++ end_array ∷ [])

-- a value
abbrev pub given_tokens : Option DataType → Given → List Token
given_tokens key_of (Given.Bool b) = boolean b ∷ []
given_tokens key_of (Given.Int z) = number_token z ∷ []
given_tokens key_of (Given.Text s) = string s ∷ []
given_tokens key_of (Given.Ref None) = empty_token key_of ∷ []
given_tokens key_of (Given.Ref (Some key)) = key_token key ∷ []
given_tokens key_of (Given.RefList keys) = array_tokens (map key_token keys)
given_tokens key_of (Given.IntList zs) = array_tokens (map number_token zs)
given_tokens key_of (Given.TextList texts) = array_tokens (map string texts)

-- what a writer holds, and these tokens after it
pub record Appends (old new : Written) (ts : List Token) : Type 0 where
  pub before : new.before ≡ old.before
  pub tokens : new.tokens ≡ old.tokens ++ ts
