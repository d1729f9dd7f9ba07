-- Which keys are one.
use Rattle.std.specs.Prelude.{Bool, false}
use Rattle.std.specs.Str.{bytes_eq}
use Rattle.std.specs.Ordering.{int_eq}
use Rattle.gr_values.specs.declared.value.Key.{Key}

-- whether two keys are one: numbers by value, and texts by their bytes
abbrev pub is_same_key : Key → Key → Bool
is_same_key (Key.Number one) (Key.Number other) = int_eq one other
is_same_key (Key.Number one) (Key.Text other) = false
is_same_key (Key.Text one) (Key.Number other) = false
is_same_key (Key.Text one) (Key.Text other) = bytes_eq one other
