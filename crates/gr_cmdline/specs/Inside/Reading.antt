-- What a cursor over a line's characters has read, from those that were left to those that are left now.
use Rattle.std.specs.Prelude.{ℕ, Bool, true, false, ◌⊎◌, All, take, slice_index, ◌≡◌, ◌≤◌, ◌<◌, Option, Some, None, option_and_then, option_map, Result, Ok, Err, List, [], ◌∷◌, length}
use Rattle.gr_cmdline.specs.Inside.Bindings.{Bindings, with_arguments}
use Rattle.gr_cmdline.specs.Request.{arguments, bad_line}
use Rattle.gr_cmdline.specs.Words.{Rest, Word, rest_with, behind_backslash, behind_quotes, in_quotes, rest_from, with_char, words}
use Rattle.gr_cmdline.specs.declared.argument.Argument.{Argument}
use Rattle.gr_cmdline.specs.declared.refused.Refused.{Refused}
use Rattle.gr_cmdline.specs.declared.words.QuotedChar.{QuotedChar}
use Rattle.gr_cmdline.specs.declared.words.QuotedChar.TheVariants.{Char, Closed, Open}
use Rattle.gr_cmdline.specs.declared.words.Word.{Word as Read}
use Rattle.gr_cmdline.specs.declared.words.Word.TheVariants.{Plain, Quoted as InQuotes}

-- this character comes first
abbrev pub Begins : ℕ → List ℕ → Type 0
Begins c line = (others : List ℕ) × (line ≡ c ∷ others)

-- a run of bytes that fail a test ends here, where one passes it or none is left
pub record EndsRun (test : ℕ → Bool) (bytes : List ℕ) (len : ℕ) : Type 0 where
  pub clear : All (λ c. test c ≡ false) (take len bytes)
  pub ends : (len ≡ length bytes) ⊎ ((len < length bytes) × (test (slice_index bytes len) ≡ true))

-- a word that was read
abbrev pub word_of : Read → Word
word_of (Plain text) = record { text = text.now; quoted = false }
word_of (InQuotes text) = record { text = text; quoted = true }

-- the next character inside quotes
abbrev pub ReadsInQuotes : ℕ → List ℕ → List ℕ → QuotedChar → Type 0
ReadsInQuotes quote old new (Char c) = (rest_from (in_quotes quote) old ≡ option_map (with_char c) (rest_from (in_quotes quote) new)) × (length new < length old)
ReadsInQuotes quote old new Closed = (rest_from (in_quotes quote) old ≡ rest_from behind_quotes new) × (length new ≤ length old)
ReadsInQuotes quote old new Open = rest_from (in_quotes quote) old ≡ None

-- the next character behind a backslash in quotes
abbrev pub ReadsEscaped : ℕ → List ℕ → List ℕ → QuotedChar → Type 0
ReadsEscaped quote old new (Char c) = (rest_from (behind_backslash quote) old ≡ option_map (with_char c) (rest_from (in_quotes quote) new)) × (length new < length old)
ReadsEscaped quote old new Closed = ⊥
ReadsEscaped quote old new Open = rest_from (behind_backslash quote) old ≡ None

-- the text of a word up to its end
abbrev pub ReadsText : Option Rest → List ℕ → Result (List ℕ) Refused → Type 0
ReadsText rest new (Ok text) = rest ≡ option_map (rest_with text) (words new)
ReadsText rest new (Err refusal) = (rest ≡ None) × (refusal ≡ bad_line)

-- the next word, where one is left
abbrev pub ReadsWord : List ℕ → List ℕ → Result (Option Read) Refused → Type 0
ReadsWord old new (Ok None) = words old ≡ Some []
ReadsWord old new (Ok (Some word)) = (words old ≡ option_map (λ others. word_of word ∷ others) (words new)) × (length new < length old)
ReadsWord old new (Err refusal) = (words old ≡ None) × (refusal ≡ bad_line)

-- the arguments that the words of a line are
abbrev pub arguments_in : List ℕ → Option (List Argument)
arguments_in line = option_and_then arguments (words line)

-- the next argument of all that are left, where one is left
abbrev pub ReadsArgument : Option (List Argument) → List ℕ → List ℕ → Result (Option Argument) Refused → Type 0
ReadsArgument all old new (Ok None) = all ≡ Some []
ReadsArgument all old new (Ok (Some argument)) = (all ≡ option_map (λ others. argument ∷ others) (arguments_in new)) × (length new < length old)
ReadsArgument all old new (Err refusal) = (all ≡ None) × (refusal ≡ bad_line)

-- all arguments that are left are bound
abbrev pub BindsArguments : Option (List Argument) → Bindings → Bindings → Result Unit Refused → Type 0
BindsArguments all old new (Ok done) = option_map (with_arguments old) all ≡ Some new
BindsArguments all old new (Err refusal) = (all ≡ None) × (refusal ≡ bad_line)

-- the arguments that a word and those of a line are
abbrev pub arguments_behind : Word → List ℕ → Option (List Argument)
arguments_behind word line = option_and_then (λ others. arguments (word ∷ others)) (words line)
