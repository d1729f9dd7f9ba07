-- The parameters that take one value or none, whatever the command.
use Rattle.std.specs.Prelude.{Bool, true, false, ◌&&◌, ◌||◌, Option, List, [], ◌∷◌, codes}
use Rattle.gr_base.specs.declared.fault.Fault.{Fault}
use Rattle.gr_cmdline.specs.Arguments.{is_given}
use Rattle.gr_cmdline.specs.declared.command.Command.{Command}
use Rattle.gr_cmdline.specs.declared.param.Param.TheVariants.{CommandVersion, Filter, Id, Ifexists, InputType, Key, Normalizer, OutputType, TokenFilters, ValueType}
use Rattle.gr_cmdline.specs.declared.verb.Verb.{Verb}
use Rattle.gr_cmdline.specs.declared.verb.Verb.TheVariants.{TableCreate, ColumnCreate, Load, Delete, Select, Dump}
use Rattle.gr_session.specs.Checks.{first_failed, is_other, never, only}
use Rattle.gr_session.specs.declared.checks.Check.{Check}

-- whether a command is a delete
abbrev pub is_delete : Verb → Bool
is_delete TableCreate = false
is_delete ColumnCreate = false
is_delete Load = false
is_delete Delete = true
is_delete Select = false
is_delete Dump = false

-- the suffix of a path says which output is wanted
abbrev pub suffix_check : Command → Check
suffix_check command = record { param = OutputType; fails = is_other (codes "json") command.args.suffix }

-- no delete takes both a key and an id
abbrev pub id_check : Command → Check
id_check command = record { param = Id; fails = is_delete command.verb && (is_given command.args.given Key && is_given command.args.given Id) }

-- no delete takes a filter beside a key or an id
abbrev pub filter_check : Command → Check
filter_check command = record {
  param = Filter;
  fails = is_delete command.verb && (is_given command.args.given Filter && (is_given command.args.given Key || is_given command.args.given Id));
}

-- the checks in their order: replies and load data are JSON alone, there is one version of the commands, and the others are not taken
abbrev pub fixed_checks : Command → List Check
fixed_checks command =
    only command OutputType (codes "json")
    ∷ suffix_check command
    ∷ only command CommandVersion (codes "1")
    ∷ never command ValueType
    ∷ never command Normalizer
    ∷ never command TokenFilters
    ∷ never command Ifexists
    ∷ only command InputType (codes "json")
    ∷ id_check command
    ∷ filter_check command
    ∷ []

-- the fault of the first fixed parameter that is wrong
abbrev pub fixed_fault : Command → Option Fault
fixed_fault command = first_failed (fixed_checks command)
