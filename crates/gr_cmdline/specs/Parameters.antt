-- Which parameters each command takes, as the Groonga reference manual has them: by place, by name alone, and which it must be given.
use Rattle.std.specs.Prelude.{ℕ, Option, find, List, [], ◌∷◌, ◌++◌}
use Rattle.std.specs.List.{slice_get}
use Rattle.gr_cmdline.specs.Names.{has_name}
use Rattle.gr_cmdline.specs.declared.param.Param.{Param}
use Rattle.gr_cmdline.specs.declared.param.Param.TheVariants.{Name, Flags, KeyType, ValueType, DefaultTokenizer, Normalizer, TokenFilters, Table, ColumnType, Source, Values, Columns, Ifexists, InputType, Key, Id, Filter, MatchColumns, Query, SortKeys, OutputColumns, Offset, Limit, Drilldown, DrilldownSortKeys, DrilldownOutputColumns, DrilldownOffset, DrilldownLimit, Cache, MatchEscalationThreshold, CommandVersion, OutputType}
use Rattle.gr_cmdline.specs.declared.verb.Verb.{Verb}
use Rattle.gr_cmdline.specs.declared.verb.Verb.TheVariants.{TableCreate, ColumnCreate, Load, Delete, Select, Dump}

-- what a command takes: the parameters of the values without a name, in order; those by name alone, beside the two of every command; and those that it must be given, in the order in which they are missed
pub record Parameters : Type 0 where
  pub order : List Param
  pub by_name : List Param
  pub required : List Param

-- the parameters of each command
abbrev pub parameters : Verb → Parameters
parameters TableCreate = record {
  order = Name ∷ Flags ∷ KeyType ∷ ValueType ∷ DefaultTokenizer ∷ Normalizer ∷ TokenFilters ∷ [];
  by_name = [];
  required = Name ∷ [];
}
parameters ColumnCreate = record {
  order = Table ∷ Name ∷ Flags ∷ ColumnType ∷ Source ∷ [];
  by_name = [];
  required = Table ∷ Name ∷ ColumnType ∷ [];
}
parameters Load = record {
  order = Values ∷ Table ∷ Columns ∷ Ifexists ∷ InputType ∷ [];
  by_name = [];
  required = Table ∷ [];
}
parameters Delete = record {
  order = Table ∷ Key ∷ Id ∷ Filter ∷ [];
  by_name = [];
  required = Table ∷ [];
}
parameters Select = record {
  order = Table ∷ MatchColumns ∷ Query ∷ Filter ∷ [];
  by_name = SortKeys ∷ OutputColumns ∷ Offset ∷ Limit
      ∷ Drilldown ∷ DrilldownSortKeys ∷ DrilldownOutputColumns ∷ DrilldownOffset ∷ DrilldownLimit
      ∷ Cache ∷ MatchEscalationThreshold ∷ [];
  required = Table ∷ [];
}
parameters Dump = record { order = []; by_name = []; required = [] }

-- the parameters that every command takes, by name
abbrev pub of_every_command : List Param
of_every_command = CommandVersion ∷ OutputType ∷ []

-- the parameters of the values that stand without a name, in order
abbrev pub order : Verb → List Param
order verb = (parameters verb).order

-- the parameters that are given by name alone
abbrev pub by_name : Verb → List Param
by_name verb = (parameters verb).by_name ++ of_every_command

-- all parameters of a command
abbrev pub params : Verb → List Param
params verb = order verb ++ by_name verb

-- the parameters that must be given, in the order in which they are missed
abbrev pub required : Verb → List Param
required verb = (parameters verb).required

-- a command's parameter of this name
abbrev pub param_named : Verb → List ℕ → Option Param
param_named verb name = find (λ param. has_name param name) (params verb)

-- a command's parameter at this place among the values without a name
abbrev pub param_placed : Verb → ℕ → Option Param
param_placed verb place = slice_get (order verb) place
