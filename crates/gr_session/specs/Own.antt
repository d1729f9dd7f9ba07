-- Which entries of the whole journal a session's command owns.
use Rattle.std.specs.Prelude.{ℕ, ◌+◌, ◌==◌, ◌&&◌, Bool, if◌then◌else◌, List, [], ◌∷◌, ◌++◌}
use Rattle.gr_db.specs.declared.entry.Entry.{Entry}

-- whether an entry is of this command of this session
abbrev pub is_own : ℕ → ℕ → Entry → Bool
is_own session command entry = entry.session.0 == session && entry.command == command

-- a command's entries among some that begin at this place, each with its place
abbrev pub own_from : ℕ → ℕ → ℕ → List Entry → List (ℕ × Entry)
own_from place session command [] = []
own_from place session command (entry ∷ entries) =
    (if is_own session command entry then (place, entry) ∷ [] else []) ++ own_from (place + 1) session command entries

-- a command's entries in a journal, each with its place
abbrev pub own : ℕ → ℕ → List Entry → List (ℕ × Entry)
own session command journal = own_from 0 session command journal
