-- The characters of which texts of queries and scripts are made.
use Rattle.std.specs.Prelude.{ℕ, Bool, ◌==◌, ◌||◌, List}
use Rattle.std.specs.Char.{is_ascii_alphabetic, is_ascii_alphanumeric}
use Rattle.std.specs.List.{prefix_len}
use Rattle.std.specs.Str.{byte}

-- white space: a space, a tab, a line feed or a carriage return
abbrev pub is_white_space : ℕ → Bool
is_white_space c = c == byte " " || c == byte "\t" || c == byte "\n" || c == byte "\r"

-- a letter or `_`
abbrev pub is_name_start : ℕ → Bool
is_name_start c = is_ascii_alphabetic c || c == byte "_"

-- a letter, a digit or `_`
abbrev pub is_name_rest : ℕ → Bool
is_name_rest c = is_ascii_alphanumeric c || c == byte "_"

-- how much white space the bytes begin with
abbrev pub white_space_len : List ℕ → ℕ
white_space_len bytes = prefix_len is_white_space bytes
