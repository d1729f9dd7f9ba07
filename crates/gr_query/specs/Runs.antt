-- Runs: characters side by side, with escapes among them.
use Rattle.std.specs.Prelude.{ℕ, ◌+◌, ◌==◌, ◌||◌, ◌&&◌, not, nat_lt, Bool, true, false, if◌then◌else◌, List, [], ◌∷◌, length, slice_index}
use Rattle.std.specs.Str.{byte}
use Rattle.gr_text.specs.Characters.{is_white_space}

-- What a run means, how many bytes it has, and whether its last character is a `*` with no escape.
pub record CharacterRun : Type 0 where
  pub text : List ℕ
  pub len : ℕ
  pub is_starred : Bool

-- a character that stands for itself in a run
abbrev pub is_run : ℕ → Bool
is_run c = not (is_white_space c || c == byte "\"" || c == byte "(" || c == byte ")" || c == byte "\\")

-- a `\` stands first, and a character behind it
abbrev pub begins_escape : List ℕ → Bool
begins_escape bytes = nat_lt 1 (length bytes) && slice_index bytes 0 == byte "\\"

abbrev pub no_run : CharacterRun
no_run = record { text = []; len = 0; is_starred = false }

-- a run with this byte before it, which was read as so many bytes
abbrev pub with_byte : ℕ → ℕ → Bool → CharacterRun → CharacterRun
with_byte c read is_star run = record { text = c ∷ run.text; len = read + run.len; is_starred = if run.len == 0 then is_star else run.is_starred }

-- the run that some bytes begin with, as long as it goes, where `\` may stand before them
abbrev pub run_behind : Bool → List ℕ → CharacterRun
run_behind escaped [] = no_run
run_behind true (c ∷ cs) = with_byte c 2 false (run_behind false cs)
run_behind false (c ∷ cs) =
    if c == byte "\\" then run_behind true cs
    else (if is_run c then with_byte c 1 (c == byte "*") (run_behind false cs)
    else no_run)

-- the run that some bytes begin with, as long as it goes
abbrev pub run_from : List ℕ → CharacterRun
run_from bytes = run_behind false bytes
