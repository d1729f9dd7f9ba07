-- That no name stands twice among the parameters of a command.
use Rattle.std.specs.Prelude.{ℕ, Bool, true, not, ◌&&◌, List, [], ◌∷◌, bytes_eq}
use Rattle.std.specs.List.{flat_map, list_any}
use Rattle.gr_cmdline.specs.Names.{names}
use Rattle.gr_cmdline.specs.Parameters.{params}
use Rattle.gr_cmdline.specs.declared.verb.Verb.{Verb}

-- the names of all parameters of a command
abbrev pub all_names : Verb → List (List ℕ)
all_names verb = flat_map names (params verb)

-- whether no text stands twice
abbrev pub are_distinct : List (List ℕ) → Bool
are_distinct [] = true
are_distinct (text ∷ texts) = not (list_any (bytes_eq text) texts) && are_distinct texts
