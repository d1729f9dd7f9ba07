use Rattle.std.proofs.Common.{◌≡◌, ◌++◌, map, take}
use Rattle.gr_db.specs.Changed.{place_of}
use Rattle.gr_root.proofs.put.push_places.Given as goal

-- the places so far are those of the records so far
abbrev pub invariant-loop-new : goal.invariant-loop-new
invariant-loop-new l = l.places.items ≡ l.initial.places.items ++ map place_of (take l.new-index l.news)
