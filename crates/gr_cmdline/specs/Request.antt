-- What a line asks for, in either form, before anything is known of the command that it names.
use Rattle.std.specs.Prelude.{ℕ, ◌==◌, ◌&&◌, not, Bool, if◌then◌else◌, Option, Some, None, option_map, Result, Ok, Err, List, [], ◌∷◌, drop, map, codes}
use Rattle.std.specs.List.{after_first, before_first, starts_with}
use Rattle.std.specs.Str.{byte, chars}
use Rattle.std.specs.Str.Lossy.{utf8_lossy}
use Rattle.form_urlencoded.specs.Form.{decode, raw_pairs}
use Rattle.gr_base.specs.declared.fault.FaultKind.TheVariants.{BadLine}
use Rattle.gr_cmdline.specs.Words.{Word, words}
use Rattle.gr_cmdline.specs.declared.argument.Argument.{Argument}
use Rattle.gr_cmdline.specs.declared.argument.Argument.TheVariants.{Named, Placed}
use Rattle.gr_cmdline.specs.declared.refused.Refused.{Refused}

-- what a line asks for: a command by its name, the suffix of a path or an empty text, and the arguments in order
pub record Request : Type 0 where
  pub name : List ℕ
  pub suffix : List ℕ
  pub arguments : List Argument

-- a line whose words cannot be read
abbrev pub bad_line : Refused
bad_line = record { kind = BadLine; name = [] }

-- a word that is not in quotes and begins with two hyphens names an argument
abbrev pub names_argument : Word → Bool
names_argument word = not word.quoted && starts_with ◌==◌ word.text (codes "--")

-- the arguments that words are: a name takes the next word, whatever it is, and another word stands by its place
abbrev pub arguments : List Word → Option (List Argument)
arguments [] = Some []
arguments (word ∷ []) = if names_argument word then None else Some (Placed word.text ∷ [])
arguments (word ∷ next ∷ others) =
    if names_argument word then option_map (λ more. Named (drop 2 word.text) next.text ∷ more) (arguments others)
    else option_map (λ more. Placed word.text ∷ more) (arguments (next ∷ others))

-- a command of this name with these arguments, where they can be read
abbrev pub request_with : List ℕ → Option (List Argument) → Result Request Refused
request_with name None = Err bad_line
request_with name (Some read) = Ok (record { name = name; suffix = []; arguments = read })

-- what words ask for: the first is the command's name, whatever it looks like
abbrev pub request_of_words : Option (List Word) → Result Request Refused
request_of_words None = Err bad_line
request_of_words (Some []) = Err bad_line
request_of_words (Some (word ∷ others)) = request_with word.text (arguments others)

-- what a line in words asks for
abbrev pub request_in_words : List ℕ → Result Request Refused
request_in_words line = request_of_words (words (chars line))

-- a dot
abbrev pub is_dot : ℕ → Bool
is_dot c = c == byte "."

-- a question mark
abbrev pub is_question : ℕ → Bool
is_question c = c == byte "?"

-- one side of a pair as a text; what is not UTF-8 reads as U+FFFD
abbrev pub decoded_text : List ℕ → List ℕ
decoded_text bytes = utf8_lossy (decode bytes)

-- the argument that a pair is
abbrev pub argument_of_pair : List ℕ × List ℕ → Argument
argument_of_pair pair = Named (decoded_text pair.0) (decoded_text pair.1)

-- what a line asks for whose name is a path: the name up to a dot or a question mark, the suffix behind the dot, and the pairs behind the question mark
abbrev pub request_by_path : List ℕ → Request
request_by_path path =
    let front = before_first is_question path in
    record {
      name = before_first is_dot front;
      suffix = after_first is_dot front;
      arguments = map argument_of_pair (raw_pairs (after_first is_question path));
    }

-- what a line asks for; one that begins with `/d/` names its command by a path
abbrev pub request_of : List ℕ → Result Request Refused
request_of line = if starts_with ◌==◌ line (codes "/d/") then Ok (request_by_path (drop 3 line)) else request_in_words line
