use Rattle.std.proofs.Common.{◌≡◌, ◌++◌, map, take}
use Rattle.gr_db.specs.Inside.Wanting.{keyed_want}
use Rattle.gr_db.proofs.references.push_keys.Given as goal

-- the wants so far are those of the keys so far
abbrev pub invariant-loop-key : goal.invariant-loop-key
invariant-loop-key l = l.wants.items ≡ l.initial.wants.items ++ map (keyed_want l.to) (take l.key-index l.keys)
