-- Names, and names joined by dots.
use Rattle.std.specs.Prelude.{ℕ, zero, suc, ◌+◌, ◌==◌, ◌&&◌, nat_lt, if◌then◌else◌, List, [], ◌∷◌}
use Rattle.std.specs.List.{prefix_len}
use Rattle.std.specs.Str.{byte}
use Rattle.gr_text.specs.Characters.{is_name_start, is_name_rest}

-- the length of the name that the bytes begin with, 0 for none
abbrev pub name_len : List ℕ → ℕ
name_len [] = 0
name_len (c ∷ cs) = if is_name_start c then 1 + prefix_len is_name_rest cs else 0

-- how long dots, each with a name behind it, go on, where so many bytes are still to pass
abbrev pub names_len : ℕ → List ℕ → ℕ
names_len pass [] = 0
names_len zero (c ∷ cs) = if c == byte "." && nat_lt 0 (name_len cs) then 1 + name_len cs + names_len (name_len cs) cs else 0
names_len (suc pass) (c ∷ cs) = names_len pass cs

-- the length of the path that the bytes begin with, as long as it goes, 0 for none
abbrev pub path_len : List ℕ → ℕ
path_len bytes = if nat_lt 0 (name_len bytes) then name_len bytes + names_len (name_len bytes) bytes else 0
