-- The names of the commands and of their parameters.
use Rattle.std.specs.Prelude.{ℕ, ◌==◌, Bool, Option, Some, None, option_to_list, List, [], ◌∷◌, bytes_eq, find, codes}
use Rattle.std.specs.List.{list_any}
use Rattle.gr_cmdline.specs.declared.verb.Verb.{Verb}
use Rattle.gr_cmdline.specs.declared.verb.Verb.TheVariants.{TableCreate, ColumnCreate, Load, Delete, Select, Dump}
use Rattle.gr_cmdline.specs.declared.param.Param.{Param}
use Rattle.gr_cmdline.specs.declared.param.Param.TheVariants.{Name, Flags, KeyType, ValueType, DefaultTokenizer, Normalizer, TokenFilters, Table, ColumnType, Source, Values, Columns, Ifexists, InputType, Key, Id, Filter, MatchColumns, Query, SortKeys, OutputColumns, Offset, Limit, Drilldown, DrilldownSortKeys, DrilldownOutputColumns, DrilldownOffset, DrilldownLimit, Cache, MatchEscalationThreshold, CommandVersion, OutputType}

-- the name by which a line asks for a command
abbrev pub verb_name : Verb → List ℕ
verb_name TableCreate = codes "table_create"
verb_name ColumnCreate = codes "column_create"
verb_name Load = codes "load"
verb_name Delete = codes "delete"
verb_name Select = codes "select"
verb_name Dump = codes "dump"

-- the six commands
abbrev pub verbs : List Verb
verbs = TableCreate ∷ ColumnCreate ∷ Load ∷ Delete ∷ Select ∷ Dump ∷ []

-- the command of a name
abbrev pub verb_named : List ℕ → Option Verb
verb_named name = find (λ verb. bytes_eq (verb_name verb) name) verbs

-- a parameter's own name
abbrev pub param_name : Param → List ℕ
param_name Name = codes "name"
param_name Flags = codes "flags"
param_name KeyType = codes "key_type"
param_name ValueType = codes "value_type"
param_name DefaultTokenizer = codes "default_tokenizer"
param_name Normalizer = codes "normalizer"
param_name TokenFilters = codes "token_filters"
param_name Table = codes "table"
param_name ColumnType = codes "type"
param_name Source = codes "source"
param_name Values = codes "values"
param_name Columns = codes "columns"
param_name Ifexists = codes "ifexists"
param_name InputType = codes "input_type"
param_name Key = codes "key"
param_name Id = codes "id"
param_name Filter = codes "filter"
param_name MatchColumns = codes "match_columns"
param_name Query = codes "query"
param_name SortKeys = codes "sort_keys"
param_name OutputColumns = codes "output_columns"
param_name Offset = codes "offset"
param_name Limit = codes "limit"
param_name Drilldown = codes "drilldown"
param_name DrilldownSortKeys = codes "drilldown_sort_keys"
param_name DrilldownOutputColumns = codes "drilldown_output_columns"
param_name DrilldownOffset = codes "drilldown_offset"
param_name DrilldownLimit = codes "drilldown_limit"
param_name Cache = codes "cache"
param_name MatchEscalationThreshold = codes "match_escalation_threshold"
param_name CommandVersion = codes "command_version"
param_name OutputType = codes "output_type"

-- a parameter's older name, where it has one
abbrev pub other_name : Param → Option (List ℕ)
other_name SortKeys = Some (codes "sortby")
other_name DrilldownSortKeys = Some (codes "drilldown_sortby")
other_name _ = None

-- all names of a parameter
abbrev pub names : Param → List (List ℕ)
names param = param_name param ∷ option_to_list (other_name param)

-- whether a parameter has this name
abbrev pub has_name : Param → List ℕ → Bool
has_name param name = list_any (λ own. bytes_eq own name) (names param)

-- a parameter's place among all
abbrev pub number_of : Param → ℕ
number_of Name = 0
number_of Flags = 1
number_of KeyType = 2
number_of ValueType = 3
number_of DefaultTokenizer = 4
number_of Normalizer = 5
number_of TokenFilters = 6
number_of Table = 7
number_of ColumnType = 8
number_of Source = 9
number_of Values = 10
number_of Columns = 11
number_of Ifexists = 12
number_of InputType = 13
number_of Key = 14
number_of Id = 15
number_of Filter = 16
number_of MatchColumns = 17
number_of Query = 18
number_of SortKeys = 19
number_of OutputColumns = 20
number_of Offset = 21
number_of Limit = 22
number_of Drilldown = 23
number_of DrilldownSortKeys = 24
number_of DrilldownOutputColumns = 25
number_of DrilldownOffset = 26
number_of DrilldownLimit = 27
number_of Cache = 28
number_of MatchEscalationThreshold = 29
number_of CommandVersion = 30
number_of OutputType = 31

-- whether two parameters are one
abbrev pub is_same : Param → Param → Bool
is_same param other = number_of param == number_of other
