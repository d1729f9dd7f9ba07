-- Counting one key after the other.
use Rattle.std.specs.Prelude.{ℕ, ◌+◌, min, if◌then◌else◌, List, [], ◌∷◌, map, fold}
use Rattle.gr_drill.specs.Groups.{is_same_group}
use Rattle.gr_drill.specs.Inside.Lent.{lent}
use Rattle.gr_drill.specs.declared.lent_key.LentKey.{LentKey}
use Rattle.gr_drill.specs.declared.tally.TheConstants.{MOST_COUNT}
use Rattle.gr_expr.specs.declared.groups.Group.{Group}
use Rattle.gr_expr.specs.declared.groups.GroupKey.{GroupKey}

-- a lent key and its count as a group
abbrev pub lent_group : LentKey × ℕ → Group
lent_group entry = record { key = lent entry.0; count = entry.1 }

-- lent keys and their counts as groups
abbrev pub lent_groups : List (LentKey × ℕ) → List Group
lent_groups entries = map lent_group entries

-- a count and one more
abbrev pub one_more : ℕ → ℕ
one_more count = min (count + 1) MOST_COUNT

-- a group with one more
abbrev pub larger : Group → Group
larger group = record { key = group.key; count = one_more group.count }

-- groups after a key is counted once more
abbrev pub with_one : List Group → GroupKey → List Group
with_one [] key = record { key = key; count = 1 } ∷ []
with_one (group ∷ groups) key = if is_same_group key group.key then larger group ∷ groups else group ∷ with_one groups key

-- groups after keys are counted, one after the other
abbrev pub with_all : List Group → List GroupKey → List Group
with_all groups keys = fold with_one groups keys
