use Rattle.std.proofs.Common.{◌≡◌, ◌∷◌, ◌++◌, take}
use Rattle.std.specs.List.{flat_map}
use Rattle.std.specs.Str.{byte}
use Rattle.gr_dump.specs.Words.{field_name}
use Rattle.gr_dump.proofs.indexes.with_field_names.Given as goal

-- the text so far has the names so far, each with a comma before it
abbrev pub invariant-loop-field : goal.invariant-loop-field
invariant-loop-field l = l.text.items ≡ l.initial.text.items ++ flat_map (λ field. byte "," ∷ field_name l.home field) (take l.field-index l.others)
