-- Which command a line asks for, and the faults of its name and its arguments.
use Rattle.std.specs.Prelude.{ℕ, ◌+◌, ◌||◌, not, Bool, if◌then◌else◌, Option, Some, None, Result, Ok, Err, List, [], ◌∷◌, ◌++◌, find, filter, map, unwrap_or}
use Rattle.std.specs.List.{list_any}
use Rattle.gr_base.specs.declared.fault.FaultKind.{FaultKind}
use Rattle.gr_base.specs.declared.fault.FaultKind.TheVariants.{MissingArgument, RepeatedArgument, UnknownArgument, UnknownCommand}
use Rattle.gr_cmdline.specs.Arguments.{Arguments, unless_empty, is_filled, is_given}
use Rattle.gr_cmdline.specs.Names.{is_same, param_name, verb_named}
use Rattle.gr_cmdline.specs.Parameters.{param_named, param_placed, required}
use Rattle.gr_cmdline.specs.Request.{Request}
use Rattle.gr_cmdline.specs.declared.argument.Argument.{Argument}
use Rattle.gr_cmdline.specs.declared.argument.Argument.TheVariants.{Named, Placed}
use Rattle.gr_cmdline.specs.declared.command.Command.{Command}
use Rattle.gr_cmdline.specs.declared.param.Param.{Param}
use Rattle.gr_cmdline.specs.declared.param.Param.TheVariants.{Filter, Id, Key}
use Rattle.gr_cmdline.specs.declared.refused.Refused.{Refused}
use Rattle.gr_cmdline.specs.declared.verb.Verb.{Verb}
use Rattle.gr_cmdline.specs.declared.verb.Verb.TheVariants.{Delete, TableCreate, ColumnCreate, Load, Select, Dump}

-- a line that is refused by a name
abbrev pub refused : FaultKind → List ℕ → Refused
refused kind name = record { kind = kind; name = name }

-- an argument with its parameter: the name by which it speaks of it, where it has one, and the value
pub record Bound : Type 0 where
  pub param : Param
  pub label : Option (List ℕ)
  pub value : List ℕ

-- an argument of this name or value, bound to its parameter; one without a parameter is refused
abbrev pub bound_to : Option Param → List ℕ → Option (List ℕ) → List ℕ → Result Bound Refused
bound_to None unknown label value = Err (refused UnknownArgument unknown)
bound_to (Some param) unknown label value = Ok (record { param = param; label = label; value = value })

-- an argument with its parameter, where so many placed ones stand before it
abbrev pub bound_one : Verb → ℕ → Argument → Result Bound Refused
bound_one verb place (Named name value) = bound_to (param_named verb name) name (Some name) value
bound_one verb place (Placed value) = bound_to (param_placed verb place) value None value

-- how many placed arguments stand before the one after this
abbrev pub place_after : ℕ → Argument → ℕ
place_after place (Named name value) = place
place_after place (Placed value) = place + 1

-- an argument before others; what is refused first is the answer
abbrev pub bound_before : Result Bound Refused → Result (List Bound) Refused → Result (List Bound) Refused
bound_before (Err refusal) others = Err refusal
bound_before (Ok bound) (Err refusal) = Err refusal
bound_before (Ok bound) (Ok others) = Ok (bound ∷ others)

-- each argument with its parameter, where so many placed ones stand before them; the first without a parameter is refused
abbrev pub bound_from : Verb → ℕ → List Argument → Result (List Bound) Refused
bound_from verb place [] = Ok []
bound_from verb place (argument ∷ others) = bound_before (bound_one verb place argument) (bound_from verb (place_after place argument) others)

-- whether one of these arguments speaks of a parameter
abbrev pub is_bound : List Bound → Param → Bool
is_bound bound param = list_any (λ argument. is_same argument.param param) bound

-- the name by which an argument speaks of its parameter
abbrev pub label_of : Bound → List ℕ
label_of argument = unwrap_or argument.label (param_name argument.param)

-- the name of the first argument whose parameter stood before it, where others stand before all of these
abbrev pub repeated_behind : List Bound → List Bound → Option (List ℕ)
repeated_behind past [] = None
repeated_behind past (argument ∷ others) =
    if is_bound past argument.param then Some (label_of argument) else repeated_behind (past ++ argument ∷ []) others

-- the values that are given: those that are not empty
abbrev pub given_of : List Bound → List (Param × List ℕ)
given_of bound = map (λ argument. (argument.param, argument.value)) (filter (λ argument. is_filled argument.value) bound)

-- what a delete is missing where nothing says which record
abbrev pub missing_choice : Verb → List (Param × List ℕ) → Option Param
missing_choice TableCreate given = None
missing_choice ColumnCreate given = None
missing_choice Load given = None
missing_choice Delete given = if is_given given Key || is_given given Id || is_given given Filter then None else Some Key
missing_choice Select given = None
missing_choice Dump given = None

-- the first of two, where there is one
abbrev pub or_else : Option Param → Option Param → Option Param
or_else (Some param) other = Some param
or_else None other = other

-- the first parameter that is missing
abbrev pub missing : Verb → List (Param × List ℕ) → Option Param
missing verb given = or_else (find (λ param. not (is_given given param)) (required verb)) (missing_choice verb given)

-- a command with the values that are given, unless a parameter is missing
abbrev pub complete : Verb → Arguments → Option Param → Result Command Refused
complete verb given (Some param) = Err (refused MissingArgument (param_name param))
complete verb given None = Ok (record { verb = verb; args = given })

-- a command with its arguments, unless one is repeated
abbrev pub unrepeated : Verb → Arguments → Option (List ℕ) → Result Command Refused
unrepeated verb given (Some label) = Err (refused RepeatedArgument label)
unrepeated verb given None = complete verb given (missing verb given.given)

-- a command with its arguments, unless one of them has no parameter
abbrev pub with_bound : Verb → List ℕ → Result (List Bound) Refused → Result Command Refused
with_bound verb suffix (Err refusal) = Err refusal
with_bound verb suffix (Ok bound) = unrepeated verb (record { suffix = unless_empty suffix; given = given_of bound }) (repeated_behind [] bound)

-- the command that is asked for, unless its name is none
abbrev pub with_verb : Option Verb → Request → Result Command Refused
with_verb None asked = Err (refused UnknownCommand asked.name)
with_verb (Some verb) asked = with_bound verb asked.suffix (bound_from verb 0 asked.arguments)

-- the command that is asked for
abbrev pub command_of : Request → Result Command Refused
command_of asked = with_verb (verb_named asked.name) asked
