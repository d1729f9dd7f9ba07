-- Which values of parameters are not taken.
use Rattle.std.specs.Prelude.{ℕ, Bool, false, not, is_some, Option, Some, None, option_map, unwrap_or, List, [], find}
use Rattle.std.specs.Str.{bytes_eq}
use Rattle.gr_base.specs.Fault.{fault_named}
use Rattle.gr_base.specs.declared.fault.Fault.{Fault}
use Rattle.gr_base.specs.declared.fault.FaultKind.TheVariants.{BadValue}
use Rattle.gr_cmdline.specs.Arguments.{value_of}
use Rattle.gr_cmdline.specs.Names.{param_name}
use Rattle.gr_cmdline.specs.declared.command.Command.{Command}
use Rattle.gr_cmdline.specs.declared.param.Param.{Param}
use Rattle.gr_session.specs.declared.checks.Check.{Check}

-- the value of a parameter, empty where none is given
abbrev pub text_of : Command → Param → List ℕ
text_of command param = unwrap_or (value_of command.args.given param) []

-- whether something is given, and it is not this
abbrev pub is_other : List ℕ → Option (List ℕ) → Bool
is_other taken None = false
is_other taken (Some value) = not (bytes_eq value taken)

-- a parameter that takes one value alone
abbrev pub only : Command → Param → List ℕ → Check
only command param taken = record { param = param; fails = is_other taken (value_of command.args.given param) }

-- a parameter that takes no value
abbrev pub never : Command → Param → Check
never command param = record { param = param; fails = is_some (value_of command.args.given param) }

-- the fault of the first check that fails: BadValue with the parameter's name
abbrev pub first_failed : List Check → Option Fault
first_failed checks = option_map (λ check. fault_named BadValue (param_name check.param)) (find (λ check. check.fails) checks)
