-- Groups whose texts are UTF-8.
use Rattle.std.specs.Prelude.{IfSome, IsUtf8, List}
use Rattle.std.specs.List.{AllByRecursion}
use Rattle.gr_drill.specs.Block.{Numbered}
use Rattle.gr_expr.specs.Tables.{Records, key_at}
use Rattle.gr_expr.specs.declared.groups.GroupKey.{GroupKey}
use Rattle.gr_values.specs.Shown.{IsKeyText}

-- what the records of a group have in common is a text of UTF-8, if a text
abbrev pub IsLegible : List Records → GroupKey → Type 0
IsLegible tables (GroupKey.Ref table id) = IfSome (key_at tables table id) IsKeyText
IsLegible tables (GroupKey.Number number) = Unit {0}
IsLegible tables (GroupKey.Text text) = IsUtf8 text
IsLegible tables (GroupKey.Truth truth) = Unit {0}

-- those of several groups
abbrev pub AreLegible : List Records → List Numbered → Type 0
AreLegible tables groups = AllByRecursion (λ group. IsLegible tables group.1.key) groups
