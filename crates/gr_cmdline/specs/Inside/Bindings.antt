-- Arguments that are bound one by one, as they are read.
use Rattle.std.specs.Prelude.{ℕ, ◌+◌, ◌||◌, Bool, if◌then◌else◌, Option, Some, None, option_and_then, Result, Err, List, [], ◌∷◌, ◌++◌, fold}
use Rattle.std.specs.List.{list_any}
use Rattle.gr_base.specs.declared.fault.FaultKind.TheVariants.{UnknownArgument, UnknownCommand}
use Rattle.gr_cmdline.specs.Arguments.{unless_empty}
use Rattle.gr_cmdline.specs.Binding.{refused, unrepeated}
use Rattle.gr_cmdline.specs.Names.{is_same, param_name}
use Rattle.gr_cmdline.specs.Parameters.{param_named, param_placed}
use Rattle.gr_cmdline.specs.declared.argument.Argument.{Argument}
use Rattle.gr_cmdline.specs.declared.argument.Argument.TheVariants.{Named, Placed}
use Rattle.gr_cmdline.specs.declared.command.Command.{Command}
use Rattle.gr_cmdline.specs.declared.param.Param.{Param}
use Rattle.gr_cmdline.specs.declared.refused.Refused.{Refused}
use Rattle.gr_cmdline.specs.declared.verb.Verb.{Verb}

-- the command, how many values stood by their place, the values that are given, the parameters with an empty value, and the first argument without a parameter and the first that is repeated
pub record Bindings : Type 0 where
  pub verb : Option Verb
  pub place : ℕ
  pub given : List (Param × List ℕ)
  pub empty : List Param
  pub unknown : Option (List ℕ)
  pub repeated : Option (List ℕ)

-- before the first argument
abbrev pub no_bindings : Option Verb → Bindings
no_bindings verb = record { verb = verb; place = 0; given = []; empty = []; unknown = None; repeated = None }

-- the text that was found first
abbrev pub found_first : Option (List ℕ) → List ℕ → Option (List ℕ)
found_first None text = Some text
found_first (Some first) text = Some first

-- whether an argument spoke of a parameter
abbrev pub is_spoken_of : Bindings → Param → Bool
is_spoken_of bindings param = list_any (λ value. is_same value.0 param) bindings.given || list_any (λ empty. is_same empty param) bindings.empty

-- with an argument that has no parameter
abbrev pub with_unknown : Bindings → List ℕ → Bindings
with_unknown b text = record { verb = b.verb; place = b.place; given = b.given; empty = b.empty; unknown = found_first b.unknown text; repeated = b.repeated }

-- with an argument whose parameter was spoken of
abbrev pub with_repeated : Bindings → List ℕ → Bindings
with_repeated b label = record { verb = b.verb; place = b.place; given = b.given; empty = b.empty; unknown = b.unknown; repeated = found_first b.repeated label }

-- with a value; an empty one is not given
abbrev pub with_value : Bindings → Param → List ℕ → Bindings
with_value b param [] = record { verb = b.verb; place = b.place; given = b.given; empty = b.empty ++ param ∷ []; unknown = b.unknown; repeated = b.repeated }
with_value b param (c ∷ cs) = record { verb = b.verb; place = b.place; given = b.given ++ (param, c ∷ cs) ∷ []; empty = b.empty; unknown = b.unknown; repeated = b.repeated }

-- with a value that stood by its place
abbrev pub one_further : Bindings → Bindings
one_further b = record { verb = b.verb; place = b.place + 1; given = b.given; empty = b.empty; unknown = b.unknown; repeated = b.repeated }

-- with an argument that speaks of a parameter by this name
abbrev pub with_bound : Bindings → Param → List ℕ → List ℕ → Bindings
with_bound b param label value = if is_spoken_of b param then with_repeated b label else with_value b param value

-- with a named argument, by its parameter
abbrev pub with_named : Bindings → Option Param → List ℕ → List ℕ → Bindings
with_named b None name value = with_unknown b name
with_named b (Some param) name value = with_bound b param name value

-- with a value that stands by its place, by its parameter
abbrev pub with_placed : Bindings → Option Param → List ℕ → Bindings
with_placed b None value = with_unknown b value
with_placed b (Some param) value = with_bound (one_further b) param (param_name param) value

-- with one argument more
abbrev pub with_argument : Bindings → Argument → Bindings
with_argument b (Named name value) = with_named b (option_and_then (λ verb. param_named verb name) b.verb) name value
with_argument b (Placed value) = with_placed b (option_and_then (λ verb. param_placed verb b.place) b.verb) value

-- with more arguments
abbrev pub with_arguments : Bindings → List Argument → Bindings
with_arguments b read = fold with_argument b read

-- the command of a verb, where these were its arguments
abbrev pub ended_by : Option (List ℕ) → Verb → Bindings → List ℕ → Result Command Refused
ended_by (Some text) verb b suffix = Err (refused UnknownArgument text)
ended_by None verb b suffix = unrepeated verb (record { suffix = unless_empty suffix; given = b.given }) b.repeated

-- the command of this name, where these were its arguments
abbrev pub ended : Option Verb → Bindings → List ℕ → List ℕ → Result Command Refused
ended None b name suffix = Err (refused UnknownCommand name)
ended (Some verb) b name suffix = ended_by b.unknown verb b suffix

-- the command that is asked for, where these were its arguments
abbrev pub command_with : Bindings → List ℕ → List ℕ → Result Command Refused
command_with b name suffix = ended b.verb b name suffix
