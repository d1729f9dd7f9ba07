-- The bytes of texts.
use Rattle.std.specs.Prelude.{ℕ, Bool, ◌==◌, ◌||◌}
use Rattle.std.specs.Str.{byte}

-- a blank is a space or a tab
abbrev pub is_blank : ℕ → Bool
is_blank c = c == byte " " || c == byte "\t"
