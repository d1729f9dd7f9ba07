-- Arguments that are bound one by one make the command that is meant.
use Rattle.std.proofs.Common.{◌≡◌, ◌+◌, ◌||◌, ℕ, Bool, true, false, cond, List, [], ◌∷◌, ◌++◌, filter, map, Option, Some, None, option_and_then, option_map, Result, Ok, Err, refl, sym, ap, ◌∙◌, append_assoc, arith, length, lt-ltb, subst}
use Rattle.std.specs.List.{list_any}
use Rattle.std.proofs.lemmas.List.{append-nil}
use Rattle.std.proofs.lemmas.List.Folds.{list_any-append}
use Rattle.gr_base.specs.declared.fault.FaultKind.TheVariants.{RepeatedArgument, UnknownArgument, UnknownCommand}
use Rattle.gr_cmdline.specs.Arguments.{is_filled, unless_empty}
use Rattle.gr_cmdline.specs.Binding.{Bound, bound_before, bound_from, bound_to, command_of, given_of, is_bound, label_of, refused, repeated_behind, unrepeated, with_bound as meant, with_verb}
use Rattle.gr_cmdline.specs.Inside.Bindings.{Bindings, command_with, ended, found_first, is_spoken_of, no_bindings, with_argument, with_arguments, with_bound, with_named, with_placed, with_repeated, with_value, one_further}
use Rattle.gr_cmdline.specs.Line.{command_asked}
use Rattle.gr_cmdline.specs.Names.{is_same, param_name, verb_named}
use Rattle.gr_cmdline.specs.Parameters.{param_named, param_placed}
use Rattle.gr_cmdline.specs.Request.{request_with}
use Rattle.gr_cmdline.specs.declared.argument.Argument.{Argument}
use Rattle.gr_cmdline.specs.declared.argument.Argument.TheVariants.{Named, Placed}
use Rattle.gr_cmdline.specs.declared.command.Command.{Command}
use Rattle.gr_cmdline.specs.declared.param.Param.{Param}
use Rattle.gr_cmdline.specs.declared.refused.Refused.{Refused}
use Rattle.gr_cmdline.specs.declared.verb.Verb.{Verb}

-- bindings of a command, by their parts
abbrev parts : Verb → ℕ → List (Param × List ℕ) → List Param → Option (List ℕ) → Option (List ℕ) → Bindings
parts verb place given empty unknown repeated = record { verb = Some verb; place = place; given = given; empty = empty; unknown = unknown; repeated = repeated }

-- what more arguments make of bindings
abbrev told : Bindings → List Argument → List ℕ → List ℕ → Result Command Refused
told b read name suffix = command_with (with_arguments b read) name suffix

-- what holds of bindings with a value more, empty or not, and with a repeated one
by-bound : (P : Bindings → Type 0) (b : Bindings) (param : Param) (label value : List ℕ)
    → (is_spoken_of b param ≡ true → P (with_repeated b label)) → (is_spoken_of b param ≡ false → P (with_value b param value)) → P (with_bound b param label value)
by-bound P b param label value again first =
    elim (is_spoken_of b param) as (λ v. is_spoken_of b param ≡ v → P (cond v (with_repeated b label) (with_value b param value))) [ true ↦ again | false ↦ first ] refl

by-value : (P : Bindings → Type 0) (b : Bindings) (param : Param) (value : List ℕ)
    → (value ≡ [] → P (with_value b param [])) → ((c : ℕ) (cs : List ℕ) → value ≡ c ∷ cs → P (with_value b param (c ∷ cs))) → P (with_value b param value)
by-value P b param [] empty filled = empty refl
by-value P b param (c ∷ cs) empty filled = filled c cs refl

spoken-unknown : (verb : Verb) (place : ℕ) (given : List (Param × List ℕ)) (empty : List Param) (text : List ℕ) (repeated : Option (List ℕ)) (param : Param) (label value : List ℕ) (others : List Argument) (name suffix : List ℕ)
    → ((place : ℕ) (given : List (Param × List ℕ)) (empty : List Param) (repeated : Option (List ℕ)) → told (parts verb place given empty (Some text) repeated) others name suffix ≡ Err (refused UnknownArgument text))
    → told (with_bound (parts verb place given empty (Some text) repeated) param label value) others name suffix ≡ Err (refused UnknownArgument text)
spoken-unknown verb place given empty text repeated param label value others name suffix rest =
    let b = parts verb place given empty (Some text) repeated in
    let P : Bindings → Type 0 = λ b. told b others name suffix ≡ Err (refused UnknownArgument text) in
    by-bound P b param label value (λ again. rest place given empty (found_first repeated label))
    (λ first. by-value P b param value (λ none. rest place given (empty ++ param ∷ []) repeated) (λ c cs some. rest place (given ++ (param, c ∷ cs) ∷ []) empty repeated))

-- once an argument has no parameter, it is told
told-unknown : (verb : Verb) (place : ℕ) (given : List (Param × List ℕ)) (empty : List Param) (text : List ℕ) (repeated : Option (List ℕ)) (read : List Argument) (name suffix : List ℕ)
    → told (parts verb place given empty (Some text) repeated) read name suffix ≡ Err (refused UnknownArgument text)
told-unknown verb place given empty text repeated [] name suffix = refl
told-unknown verb place given empty text repeated (Named label value ∷ others) name suffix =
    go (param_named verb label) (λ place given empty repeated. told-unknown verb place given empty text repeated others name suffix)
  where
    go : (param : Option Param) → ((place : ℕ) (given : List (Param × List ℕ)) (empty : List Param) (repeated : Option (List ℕ)) → told (parts verb place given empty (Some text) repeated) others name suffix ≡ Err (refused UnknownArgument text))
        → told (with_named (parts verb place given empty (Some text) repeated) param label value) others name suffix ≡ Err (refused UnknownArgument text)
    go None rest = rest place given empty repeated
    go (Some param) rest = spoken-unknown verb place given empty text repeated param label value others name suffix rest
told-unknown verb place given empty text repeated (Placed value ∷ others) name suffix =
    go (param_placed verb place) (λ place given empty repeated. told-unknown verb place given empty text repeated others name suffix)
  where
    go : (param : Option Param) → ((place : ℕ) (given : List (Param × List ℕ)) (empty : List Param) (repeated : Option (List ℕ)) → told (parts verb place given empty (Some text) repeated) others name suffix ≡ Err (refused UnknownArgument text))
        → told (with_placed (parts verb place given empty (Some text) repeated) param value) others name suffix ≡ Err (refused UnknownArgument text)
    go None rest = rest place given empty repeated
    go (Some param) rest = spoken-unknown verb (place + 1) given empty text repeated param (param_name param) value others name suffix rest

-- what is told where an argument is repeated: of those behind it only one without a parameter comes first
abbrev repeated_or : List ℕ → Result (List Bound) Refused → Result Command Refused
repeated_or label (Err refusal) = Err refusal
repeated_or label (Ok bound) = Err (refused RepeatedArgument label)

repeated_or-more : (label : List ℕ) (bound : Bound) (found : Result (List Bound) Refused) → repeated_or label (bound_before (Ok bound) found) ≡ repeated_or label found
repeated_or-more label bound (Err refusal) = refl
repeated_or-more label bound (Ok others) = refl

-- once an argument is repeated
abbrev IsToldRepeated : Verb → List Argument → List ℕ → List ℕ → List ℕ → Type 0
IsToldRepeated verb others text name suffix = (place : ℕ) (given : List (Param × List ℕ)) (empty : List Param) → told (parts verb place given empty None (Some text)) others name suffix ≡ repeated_or text (bound_from verb place others)

spoken-repeated : (verb : Verb) (place : ℕ) (given : List (Param × List ℕ)) (empty : List Param) (text : List ℕ) (param : Param) (label value : List ℕ) (others : List Argument) (name suffix : List ℕ)
    → IsToldRepeated verb others text name suffix
    → told (with_bound (parts verb place given empty None (Some text)) param label value) others name suffix ≡ repeated_or text (bound_from verb place others)
spoken-repeated verb place given empty text param label value others name suffix rest =
    let b = parts verb place given empty None (Some text) in
    let P : Bindings → Type 0 = λ b. told b others name suffix ≡ repeated_or text (bound_from verb place others) in
    by-bound P b param label value (λ again. rest place given empty)
    (λ first. by-value P b param value (λ none. rest place given (empty ++ param ∷ [])) (λ c cs some. rest place (given ++ (param, c ∷ cs) ∷ []) empty))

told-repeated : (verb : Verb) (read : List Argument) (text name suffix : List ℕ) → IsToldRepeated verb read text name suffix
told-repeated verb [] text name suffix place given empty = refl
told-repeated verb (Named label value ∷ others) text name suffix place given empty = go (param_named verb label) (told-repeated verb others text name suffix)
  where
    go : (param : Option Param) → IsToldRepeated verb others text name suffix
        → told (with_named (parts verb place given empty None (Some text)) param label value) others name suffix ≡ repeated_or text (bound_before (bound_to param label (Some label) value) (bound_from verb place others))
    go None rest = told-unknown verb place given empty label (Some text) others name suffix
    go (Some param) rest =
        spoken-repeated verb place given empty text param label value others name suffix rest
        ∙ sym (repeated_or-more text (record { param = param; label = Some label; value = value }) (bound_from verb place others))
told-repeated verb (Placed value ∷ others) text name suffix place given empty = go (param_placed verb place) (told-repeated verb others text name suffix)
  where
    go : (param : Option Param) → IsToldRepeated verb others text name suffix
        → told (with_placed (parts verb place given empty None (Some text)) param value) others name suffix ≡ repeated_or text (bound_before (bound_to param value None value) (bound_from verb (place + 1) others))
    go None rest = told-unknown verb place given empty value (Some text) others name suffix
    go (Some param) rest =
        spoken-repeated verb (place + 1) given empty text param (param_name param) value others name suffix rest
        ∙ sym (repeated_or-more text (record { param = param; label = None; value = value }) (bound_from verb (place + 1) others))

-- what is told of the arguments behind those that were bound
abbrev told_behind : Verb → List ℕ → List (Param × List ℕ) → List Bound → Result (List Bound) Refused → Result Command Refused
told_behind verb suffix given past (Err refusal) = Err refusal
told_behind verb suffix given past (Ok bound) = unrepeated verb (record { suffix = unless_empty suffix; given = given ++ given_of bound }) (repeated_behind past bound)

-- the arguments in force speak of the same parameters as those that were read
abbrev SpeakAlike : List (Param × List ℕ) → List Param → List Bound → Type 0
SpeakAlike given empty past = (param : Param) → (list_any (λ value. is_same value.0 param) given || list_any (λ empty. is_same empty param) empty) ≡ is_bound past param

or-middle : (a b c : Bool) → ((a || c) || b) ≡ ((a || b) || c)
or-middle true b c = refl
or-middle false true true = refl
or-middle false true false = refl
or-middle false false true = refl
or-middle false false false = refl

or-end : (a b c : Bool) → (a || (b || c)) ≡ ((a || b) || c)
or-end true b c = refl
or-end false b c = refl

or-false : (a : Bool) → (a || false) ≡ a
or-false true = refl
or-false false = refl

is_bound-more : (past : List Bound) (bound : Bound) (param : Param) → is_bound (past ++ bound ∷ []) param ≡ (is_bound past param || is_same bound.param param)
is_bound-more past bound param =
    list_any-append (λ (argument : Bound). is_same argument.param param) past (bound ∷ [])
    ∙ ap (λ b. is_bound past param || b) (or-false (is_same bound.param param))

alike-empty : (given : List (Param × List ℕ)) (empty : List Param) (past : List Bound) (bound : Bound) → SpeakAlike given empty past → SpeakAlike given (empty ++ bound.param ∷ []) (past ++ bound ∷ [])
alike-empty given empty past bound same param =
    ap (λ b. list_any (λ value. is_same value.0 param) given || b) (list_any-append (λ empty. is_same empty param) empty (bound.param ∷ []) ∙ ap (λ b. list_any (λ empty. is_same empty param) empty || b) (or-false (is_same bound.param param)))
    ∙ or-end (list_any (λ value. is_same value.0 param) given) (list_any (λ empty. is_same empty param) empty) (is_same bound.param param)
    ∙ ap (λ b. b || is_same bound.param param) (same param) ∙ sym (is_bound-more past bound param)

alike-given : (given : List (Param × List ℕ)) (empty : List Param) (past : List Bound) (bound : Bound) → SpeakAlike given empty past → SpeakAlike (given ++ (bound.param, bound.value) ∷ []) empty (past ++ bound ∷ [])
alike-given given empty past bound same param =
    ap (λ b. b || list_any (λ empty. is_same empty param) empty) (list_any-append (λ (value : Param × List ℕ). is_same value.0 param) given ((bound.param, bound.value) ∷ []) ∙ ap (λ b. list_any (λ (value : Param × List ℕ). is_same value.0 param) given || b) (or-false (is_same bound.param param)))
    ∙ or-middle (list_any (λ value. is_same value.0 param) given) (list_any (λ empty. is_same empty param) empty) (is_same bound.param param)
    ∙ ap (λ b. b || is_same bound.param param) (same param) ∙ sym (is_bound-more past bound param)

-- the values of an argument and of others
given_of-empty : (bound : Bound) (others : List Bound) → bound.value ≡ [] → given_of (bound ∷ others) ≡ given_of others
given_of-empty bound others none = rw none refl

given_of-filled : (bound : Bound) (c : ℕ) (cs : List ℕ) (others : List Bound) → bound.value ≡ c ∷ cs → given_of (bound ∷ others) ≡ (bound.param, c ∷ cs) ∷ given_of others
given_of-filled bound c cs others some =
    let filled : is_filled bound.value ≡ true = rw some (lt-ltb 0 (length (c ∷ cs)) (omega arith)) in
    ap (λ (b : Bool). map (λ (argument : Bound). (argument.param, argument.value)) (cond b (bound ∷ filter (λ argument. is_filled argument.value) others) (filter (λ argument. is_filled argument.value) others))) filled
    ∙ ap (λ value. (bound.param, value) ∷ given_of others) some

-- an argument leaves the command as it is
kept-bound : (b : Bindings) (param : Param) (label value : List ℕ) → (with_bound b param label value).verb ≡ b.verb
kept-bound b param label value =
    let P : Bindings → Type 0 = λ new. new.verb ≡ b.verb in
    by-bound P b param label value (λ again. refl) (λ first. by-value P b param value (λ none. refl) (λ c cs some. refl))

kept-named : (b : Bindings) (param : Option Param) (name value : List ℕ) → (with_named b param name value).verb ≡ b.verb
kept-named b None name value = refl
kept-named b (Some param) name value = kept-bound b param name value

kept-placed : (b : Bindings) (param : Option Param) (value : List ℕ) → (with_placed b param value).verb ≡ b.verb
kept-placed b None value = refl
kept-placed b (Some param) value = kept-bound (one_further b) param (param_name param) value

verb-kept : (b : Bindings) (argument : Argument) → (with_argument b argument).verb ≡ b.verb
verb-kept b (Named name value) = kept-named b (option_and_then (λ verb. param_named verb name) b.verb) name value
verb-kept b (Placed value) = kept-placed b (option_and_then (λ verb. param_placed verb b.place) b.verb) value

-- an argument that is repeated
behind-repeated : (verb : Verb) (suffix : List ℕ) (given : List (Param × List ℕ)) (past : List Bound) (bound : Bound) (found : Result (List Bound) Refused) → is_bound past bound.param ≡ true
    → told_behind verb suffix given past (bound_before (Ok bound) found) ≡ repeated_or (label_of bound) found
behind-repeated verb suffix given past bound (Err refusal) again = refl
behind-repeated verb suffix given past bound (Ok others) again =
    ap (λ (b : Bool). unrepeated verb (record { suffix = unless_empty suffix; given = given ++ given_of (bound ∷ others) }) (cond b (Some (label_of bound)) (repeated_behind (past ++ bound ∷ []) others))) again

-- an argument that is not repeated, by whether its value is empty
behind-empty : (verb : Verb) (suffix : List ℕ) (given : List (Param × List ℕ)) (past : List Bound) (bound : Bound) (found : Result (List Bound) Refused) → is_bound past bound.param ≡ false → bound.value ≡ []
    → told_behind verb suffix given past (bound_before (Ok bound) found) ≡ told_behind verb suffix given (past ++ bound ∷ []) found
behind-empty verb suffix given past bound (Err refusal) first none = refl
behind-empty verb suffix given past bound (Ok others) first none =
    ap (λ (b : Bool). unrepeated verb (record { suffix = unless_empty suffix; given = given ++ given_of (bound ∷ others) }) (cond b (Some (label_of bound)) (repeated_behind (past ++ bound ∷ []) others))) first
    ∙ ap (λ more. unrepeated verb (record { suffix = unless_empty suffix; given = given ++ more }) (repeated_behind (past ++ bound ∷ []) others)) (given_of-empty bound others none)

behind-given : (verb : Verb) (suffix : List ℕ) (given : List (Param × List ℕ)) (past : List Bound) (bound : Bound) (c : ℕ) (cs : List ℕ) (found : Result (List Bound) Refused) → is_bound past bound.param ≡ false → bound.value ≡ c ∷ cs
    → told_behind verb suffix given past (bound_before (Ok bound) found) ≡ told_behind verb suffix (given ++ (bound.param, c ∷ cs) ∷ []) (past ++ bound ∷ []) found
behind-given verb suffix given past bound c cs (Err refusal) first some = refl
behind-given verb suffix given past bound c cs (Ok others) first some =
    ap (λ (b : Bool). unrepeated verb (record { suffix = unless_empty suffix; given = given ++ given_of (bound ∷ others) }) (cond b (Some (label_of bound)) (repeated_behind (past ++ bound ∷ []) others))) first
    ∙ ap (λ more. unrepeated verb (record { suffix = unless_empty suffix; given = more }) (repeated_behind (past ++ bound ∷ []) others))
    (ap (λ more. given ++ more) (given_of-filled bound c cs others some) ∙ sym (append_assoc given ((bound.param, c ∷ cs) ∷ []) (given_of others)))

-- what is told where nothing is refused so far
abbrev IsTold : Verb → List Argument → List ℕ → List ℕ → Type 0
IsTold verb others name suffix = (place : ℕ) (given : List (Param × List ℕ)) (empty : List Param) (past : List Bound) → SpeakAlike given empty past
    → told (parts verb place given empty None None) others name suffix ≡ told_behind verb suffix given past (bound_from verb place others)

spoken : (verb : Verb) (place : ℕ) (given : List (Param × List ℕ)) (empty : List Param) (past : List Bound) (bound : Bound) (others : List Argument) (name suffix : List ℕ)
    → SpeakAlike given empty past → IsTold verb others name suffix
    → told (with_bound (parts verb place given empty None None) bound.param (label_of bound) bound.value) others name suffix ≡ told_behind verb suffix given past (bound_before (Ok bound) (bound_from verb place others))
spoken verb place given empty past bound others name suffix same rest =
    let b = parts verb place given empty None None in
    let behind = bound_from verb place others in
    let P : Bindings → Type 0 = λ b. told b others name suffix ≡ told_behind verb suffix given past (bound_before (Ok bound) behind) in
    by-bound P b bound.param (label_of bound) bound.value
    (λ again. told-repeated verb others (label_of bound) name suffix place given empty ∙ sym (behind-repeated verb suffix given past bound behind (sym (same bound.param) ∙ again)))
    (λ first.
    let once : is_bound past bound.param ≡ false = sym (same bound.param) ∙ first in
    by-value P b bound.param bound.value
    (λ none. rest place given (empty ++ bound.param ∷ []) (past ++ bound ∷ []) (alike-empty given empty past bound same) ∙ sym (behind-empty verb suffix given past bound behind once none))
    (λ c cs some.
    rest place (given ++ (bound.param, c ∷ cs) ∷ []) empty (past ++ bound ∷ []) (subst (λ (value : List ℕ). SpeakAlike (given ++ (bound.param, value) ∷ []) empty (past ++ bound ∷ [])) some (alike-given given empty past bound same))
    ∙ sym (behind-given verb suffix given past bound c cs behind once some)))

told-read : (verb : Verb) (read : List Argument) (name suffix : List ℕ) → IsTold verb read name suffix
told-read verb [] name suffix place given empty past same =
    ap (λ given. unrepeated verb (record { suffix = unless_empty suffix; given = given }) None) (sym (append-nil given))
told-read verb (Named label value ∷ others) name suffix place given empty past same = go (param_named verb label) (told-read verb others name suffix)
  where
    go : (param : Option Param) → IsTold verb others name suffix
        → told (with_named (parts verb place given empty None None) param label value) others name suffix ≡ told_behind verb suffix given past (bound_before (bound_to param label (Some label) value) (bound_from verb place others))
    go None rest = told-unknown verb place given empty label None others name suffix
    go (Some param) rest = spoken verb place given empty past (record { param = param; label = Some label; value = value }) others name suffix same rest
told-read verb (Placed value ∷ others) name suffix place given empty past same = go (param_placed verb place) (told-read verb others name suffix)
  where
    go : (param : Option Param) → IsTold verb others name suffix
        → told (with_placed (parts verb place given empty None None) param value) others name suffix ≡ told_behind verb suffix given past (bound_before (bound_to param value None value) (bound_from verb (place + 1) others))
    go None rest = told-unknown verb place given empty value None others name suffix
    go (Some param) rest = spoken verb (place + 1) given empty past (record { param = param; label = None; value = value }) others name suffix same rest

-- where the command is unknown, its arguments tell nothing
told-no_verb : (b : Bindings) (read : List Argument) (name suffix : List ℕ) → b.verb ≡ None → told b read name suffix ≡ Err (refused UnknownCommand name)
told-no_verb b [] name suffix none = ap (λ verb. ended verb b name suffix) none
told-no_verb b (argument ∷ others) name suffix none = told-no_verb (with_argument b argument) others name suffix (verb-kept b argument ∙ none)

meant-behind : (verb : Verb) (suffix : List ℕ) (found : Result (List Bound) Refused) → told_behind verb suffix [] [] found ≡ meant verb suffix found
meant-behind verb suffix (Err refusal) = refl
meant-behind verb suffix (Ok bound) = refl

told-verb : (verb : Option Verb) (read : List Argument) (name suffix : List ℕ) → verb_named name ≡ verb
    → told (no_bindings verb) read name suffix ≡ command_of (record { name = name; suffix = suffix; arguments = read })
told-verb None read name suffix is = told-no_verb (no_bindings None) read name suffix refl ∙ sym (ap (λ verb. with_verb verb (record { name = name; suffix = suffix; arguments = read })) is)
told-verb (Some verb) read name suffix is =
    told-read verb read name suffix 0 [] [] [] (λ param. refl) ∙ meant-behind verb suffix (bound_from verb 0 read) ∙ sym (ap (λ verb. with_verb verb (record { name = name; suffix = suffix; arguments = read })) is)

-- all arguments of a command make what is asked for
pub command_with-read : (name suffix : List ℕ) (read : List Argument) (b : Bindings) → b ≡ with_arguments (no_bindings (verb_named name)) read → command_with b name suffix ≡ command_of (record { name = name; suffix = suffix; arguments = read })
command_with-read name suffix read b is = ap (λ b. command_with b name suffix) is ∙ told-verb (verb_named name) read name suffix refl

pub command_with-asked : (name : List ℕ) (read : Option (List Argument)) (b : Bindings) → option_map (with_arguments (no_bindings (verb_named name))) read ≡ Some b → command_with b name [] ≡ command_asked (request_with name read)
command_with-asked name None b is = cc
command_with-asked name (Some read) b is = command_with-read name [] read b (let e : with_arguments (no_bindings (verb_named name)) read ≡ b = cc in sym e)

-- an argument more, of those that are left
pub with_arguments-more : (old b : Bindings) (argument : Argument) (all : Option Bindings) (found : Option (List Argument)) → all ≡ option_map (with_arguments b) (option_map (λ others. argument ∷ others) found) → all ≡ option_map (with_arguments (with_argument b argument)) found
with_arguments-more old b argument all None is = is
with_arguments-more old b argument all (Some others) is = is
