use Rattle.std.proofs.Common.{◌≡◌, map, take}
use Rattle.gr_db.specs.Apply.{id_of_key}
use Rattle.gr_db.specs.Db.{Db}
use Rattle.gr_db.proofs.keeping.ids_of_keys.Given as goal

-- the ids so far are those of the keys so far
abbrev pub invariant-loop-key : goal.invariant-loop-key
invariant-loop-key g l = (db : Db) → db.tables ≡ g.R.Rows.tables l.rows → l.ids.items ≡ map (id_of_key db l.to) (take l.key-index l.keys)
