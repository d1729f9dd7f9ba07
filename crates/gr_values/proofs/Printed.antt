-- What the tokens of a value print.
use Rattle.std.proofs.Common.{◌≡◌, ℕ, ℤ, Bool, true, false, cond, List, [], ◌∷◌, ◌++◌, map, Option, Some, None, codes, is_some, append_assoc, refl, ap, sym, ◌∙◌}
use Rattle.std.proofs.lemmas.List.{append-nil}
use Rattle.std.specs.Fmt.{signed_decimal}
use Rattle.std.specs.List.{join_with_byte}
use Rattle.json.specs.Print.{begins, ends, print, print_from, quoted, token_text}
use Rattle.json.specs.Token.{Token, boolean, end_array, null, string}
use Rattle.gr_values.specs.declared.data_type.DataType.{DataType}
use Rattle.gr_values.specs.declared.value.Key.{Key}
use Rattle.gr_values.specs.declared.value.Given.{Given}
use Rattle.gr_values.specs.Shown.{bracketed, empty_reference, given_text, key_text}
use Rattle.gr_values.specs.Tokens.{array_tokens, empty_token, given_tokens, key_token, number_token}
use Rattle.gr_values.specs.Types.{text_limit}

-- a token that is a value by itself, and its text
record IsValueToken (t : Token) (text : List ℕ) : Type 0 where
  whole : begins t ≡ true
  done : ends t ≡ true
  shows : token_text t ≡ text

number-token : (z : ℤ) → IsValueToken (number_token z) (signed_decimal z)
number-token z = record { whole = refl; done = refl; shows = refl }

string-token : (s : List ℕ) → IsValueToken (string s) (quoted s)
string-token s = record { whole = refl; done = refl; shows = refl }

key-token : (key : Key) → IsValueToken (key_token key) (key_text key)
key-token (Key.Number z) = number-token z
key-token (Key.Text s) = string-token s

print-one : (t : Token) → print (t ∷ []) ≡ token_text t
unfolding print_from
print-one t = append-nil (token_text t)

closed : Bool → List ℕ
closed after = print_from after (end_array ∷ [])

closed-is : (after : Bool) → closed after ≡ codes "]"
unfolding print_from closed
closed-is true = refl
closed-is false = refl

-- the tokens of values up to the closing bracket, behind a value
print-behind : {A : Type 0} (token : A → Token) (text : A → List ℕ) (shows : (x : A) → IsValueToken (token x) (text x)) (x : A) (xs : List A)
    → print_from true (map token (x ∷ xs) ++ end_array ∷ []) ≡ 44 ∷ print_from false (map token (x ∷ xs) ++ end_array ∷ [])
unfolding print_from
print-behind token text shows x xs =
    ap (λ b. cond b (44 ∷ []) [] ++ (token_text (token x) ++ print_from (ends (token x)) (map token xs ++ end_array ∷ []))) (shows x).whole

-- and behind no value
print-elements : {A : Type 0} (token : A → Token) (text : A → List ℕ) (shows : (x : A) → IsValueToken (token x) (text x)) (xs : List A)
    → print_from false (map token xs ++ end_array ∷ []) ≡ join_with_byte 44 (map text xs) ++ codes "]"
unfolding print_from
print-elements token text shows [] = refl
print-elements token text shows (x ∷ []) =
    ap (λ s. s ++ print_from (ends (token x)) (end_array ∷ [])) (shows x).shows ∙ ap (λ b. text x ++ print_from b (end_array ∷ [])) (shows x).done
print-elements token text shows (x ∷ y ∷ xs) =
    ap (λ s. s ++ print_from (ends (token x)) (map token (y ∷ xs) ++ end_array ∷ [])) (shows x).shows
    ∙ ap (λ b. text x ++ print_from b (map token (y ∷ xs) ++ end_array ∷ [])) (shows x).done
    ∙ ap (λ s. text x ++ s) (print-behind token text shows y xs ∙ ap (λ s. 44 ∷ s) (print-elements token text shows (y ∷ xs)))
    ∙ sym (append_assoc (text x) (44 ∷ join_with_byte 44 (map text (y ∷ xs))) (codes "]"))

print-array : {A : Type 0} (token : A → Token) (text : A → List ℕ) (shows : (x : A) → IsValueToken (token x) (text x)) (xs : List A)
    → print (array_tokens (map token xs)) ≡ bracketed (map text xs)
unfolding print_from
print-array token text shows xs = ap (λ s. 91 ∷ s) (print-elements token text shows xs)

truth-token : (b : Bool) → token_text (boolean b) ≡ given_text None (Given.Bool b)
truth-token true = refl
truth-token false = refl

empty-token : (key_of : Option DataType) → token_text (empty_token key_of) ≡ empty_reference key_of
empty-token None = refl
empty-token (Some of) = by_limit (is_some (text_limit of))
  where
    by_limit : (b : Bool) → token_text (cond b (string []) null) ≡ cond b (codes "\"\"") (codes "null")
    by_limit true = refl
    by_limit false = refl

-- the tokens of a value print its text
pub print-given_tokens : (key_of : Option DataType) (given : Given) → print (given_tokens key_of given) ≡ given_text key_of given
print-given_tokens key_of (Given.Bool b) = print-one _ ∙ truth-token b
print-given_tokens key_of (Given.Int z) = print-one _
print-given_tokens key_of (Given.Text s) = print-one _
print-given_tokens key_of (Given.Ref None) = print-one _ ∙ empty-token key_of
print-given_tokens key_of (Given.Ref (Some key)) = print-one _ ∙ (key-token key).shows
print-given_tokens key_of (Given.RefList keys) = print-array key_token key_text key-token keys
print-given_tokens key_of (Given.IntList zs) = print-array number_token signed_decimal number-token zs
print-given_tokens key_of (Given.TextList texts) = print-array string quoted string-token texts
