-- Ways that are followed from the left.
use Rattle.std.specs.Prelude.{List, ◌++◌}
use Rattle.gr_values.specs.declared.path.Hop.{Hop}
use Rattle.gr_schema.specs.Paths.{End, Way}
use Rattle.gr_schema.specs.declared.paths.End.{End as Found}

-- a way with steps before it
abbrev pub after_hops : List Hop → Way → Way
after_hops hops way = record way { through = hops ++ way.through }

-- a field as the code has it
abbrev pub end_of : Found → End
end_of found = record { last = found.last; shape = found.shape; to = found.to }
