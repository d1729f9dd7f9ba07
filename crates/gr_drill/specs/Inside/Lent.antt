-- What is lent, as what it is, and how it is hashed.
use Rattle.std.specs.Prelude.{Bool, List, ℕ, [], ◌∷◌, ◌++◌}
use Rattle.std.specs.Hash as fed
use Rattle.gr_drill.specs.Groups.{is_same_group}
use Rattle.gr_drill.specs.declared.lent_key.LentKey.{LentKey}
use Rattle.gr_drill.specs.declared.lent_key.LentKey.TheVariants.{Number, Ref, Text, Truth}
use Rattle.gr_expr.specs.declared.groups.GroupKey.{GroupKey}

-- the key that is lent
abbrev pub lent : LentKey → GroupKey
lent (Ref table id) = GroupKey.Ref table id
lent (Number number) = GroupKey.Number number
lent (Text text) = GroupKey.Text text.now
lent (Truth truth) = GroupKey.Truth truth

-- whether two lent keys are of one group
abbrev pub is_same_lent : LentKey → LentKey → Bool
is_same_lent key other = is_same_group (lent key) (lent other)

-- what is hashed of a key
abbrev pub hashed : GroupKey → List (List ℕ)
hashed (GroupKey.Ref table id) = fed.u32 table.0 ++ fed.u32 id.0
hashed (GroupKey.Number number) = fed.i128 number
hashed (GroupKey.Text text) = text ∷ []
hashed (GroupKey.Truth truth) = fed.bool truth
