-- How arguments are read from words.
use Rattle.std.proofs.Common.{◌≡◌, ◌<◌, ℕ, Bool, true, false, cond, List, [], ◌∷◌, drop, length, Option, Some, None, option_and_then, option_map, Result, Ok, Err, IfOk, refl, sym, ap, ◌∙◌, arith}
use Rattle.gr_cmdline.specs.Request.{arguments, request_of_words, request_with, names_argument}
use Rattle.gr_cmdline.specs.Inside.Reading.{ReadsArgument, arguments_behind, arguments_in}
use Rattle.gr_cmdline.specs.Words.{Word, words}
use Rattle.gr_cmdline.specs.declared.argument.Argument.{Argument}
use Rattle.gr_cmdline.specs.declared.argument.Argument.TheVariants.{Named, Placed}
use Rattle.gr_cmdline.specs.declared.refused.Refused.{Refused}

-- a word that names no argument stands by its place
placed-value : (word : Word) (found : Option (List Word)) → names_argument word ≡ false → option_and_then (λ others. arguments (word ∷ others)) found ≡ option_map (λ others. Placed word.text ∷ others) (option_and_then arguments found)
placed-value word None placed = refl
placed-value word (Some []) placed = ap (λ (b : Bool). cond b None (Some (Placed word.text ∷ []))) placed
placed-value word (Some (next ∷ others)) placed =
    ap (λ (b : Bool). cond b (option_map (λ more. Named (drop 2 word.text) next.text ∷ more) (arguments others)) (option_map (λ more. Placed word.text ∷ more) (arguments (next ∷ others)))) placed

pub arguments-placed : (word : Word) (text line : List ℕ) → names_argument word ≡ false → text ≡ word.text → arguments_behind word line ≡ option_map (λ others. Placed text ∷ others) (arguments_in line)
arguments-placed word text line placed same =
    placed-value word (words line) placed ∙ ap (λ text. option_map (λ others. Placed text ∷ others) (arguments_in line)) (sym same)

-- a word that names an argument takes the next as its value
named-value : (word value : Word) (found : Option (List Word)) → names_argument word ≡ true → option_and_then (λ others. arguments (word ∷ others)) (option_map (λ others. value ∷ others) found) ≡ option_map (λ others. Named (drop 2 word.text) value.text ∷ others) (option_and_then arguments found)
named-value word value None named = refl
named-value word value (Some others) named =
    ap (λ (b : Bool). cond b (option_map (λ more. Named (drop 2 word.text) value.text ∷ more) (arguments others)) (option_map (λ more. Placed word.text ∷ more) (arguments (value ∷ others)))) named

pub arguments-named : (word value : Word) (name text old new : List ℕ) → names_argument word ≡ true → name ≡ drop 2 word.text → text ≡ value.text → words old ≡ option_map (λ others. value ∷ others) (words new) → arguments_behind word old ≡ option_map (λ others. Named name text ∷ others) (arguments_in new)
arguments-named word value name text old new named same_name same_text read =
    ap (option_and_then (λ others. arguments (word ∷ others))) read ∙ named-value word value (words new) named
    ∙ ap (λ text. option_map (λ others. Named text value.text ∷ others) (arguments_in new)) (sym same_name)
    ∙ ap (λ text. option_map (λ others. Named name text ∷ others) (arguments_in new)) (sym same_text)

-- the test that names an argument, by the name that was found
pub named-some : (b : Bool) (found name : List ℕ) → Some name ≡ cond b (Some found) None → (b ≡ true) × (name ≡ found)
named-some true found name is = (refl, cc)
named-some false found name is = cc

pub named-none : (b : Bool) (found : List ℕ) → None ≡ cond b (Some found) None → b ≡ false
named-none true found is = cc
named-none false found is = refl

-- a word in front of the words of a line
behind-word : (word : Word) (found : Option (List Word)) → option_and_then arguments (option_map (λ others. word ∷ others) found) ≡ option_and_then (λ others. arguments (word ∷ others)) found
behind-word word None = refl
behind-word word (Some others) = refl

pub arguments_in-word : (word : Word) (old next : List ℕ) → words old ≡ option_map (λ others. word ∷ others) (words next) → arguments_in old ≡ arguments_behind word next
arguments_in-word word old next read = ap (option_and_then arguments) read ∙ behind-word word (words next)

-- what is read behind a word is read of the whole line
pub ReadsArgument-word : (all behind : Option (List Argument)) (old next new : List ℕ) (read : Result (Option Argument) Refused) → all ≡ behind → length next < length old → ReadsArgument behind (0 ∷ next) new read → ReadsArgument all old new read
ReadsArgument-word all behind old next new (Ok None) same longer reads = same ∙ reads
ReadsArgument-word all behind old next new (Ok (Some argument)) same longer reads = (same ∙ reads.0, omega (arith, reads.1, longer))
ReadsArgument-word all behind old next new (Err refusal) same longer reads = (same ∙ reads.0, reads.1)

pub IfOk-word : {E : Type 0} (r : Result (Result (Option Argument) Refused) E) (all behind : Option (List Argument)) (old next new : List ℕ) → all ≡ behind → length next < length old → IfOk r (λ read. ReadsArgument behind (0 ∷ next) new read) → IfOk r (λ read. ReadsArgument all old new read)
IfOk-word (Ok read) all behind old next new same longer reads = ReadsArgument-word all behind old next new read same longer reads
IfOk-word (Err e) all behind old next new same longer reads = tt

-- what a line asks for, by its first word and its arguments
words-first : (word : Word) (found : Option (List Word)) → request_of_words (option_map (λ others. word ∷ others) found) ≡ request_with word.text (option_and_then arguments found)
words-first word None = refl
words-first word (Some others) = refl

pub request_of_words-first : (word : Word) (old next : List ℕ) → words old ≡ option_map (λ others. word ∷ others) (words next) → request_of_words (words old) ≡ request_with word.text (arguments_in next)
request_of_words-first word old next read = ap request_of_words read ∙ words-first word (words next)

-- a result that is told by an equation
pub IfOk-told : {T E : Type 0} (r : Result T E) (x y : T) → x ≡ y → IfOk r (λ made. made ≡ x) → IfOk r (λ made. made ≡ y)
IfOk-told (Ok made) x y same is = is ∙ same
IfOk-told (Err e) x y same is = tt
