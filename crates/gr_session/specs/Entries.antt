-- The entries that a command's changes become.
use Rattle.std.specs.Prelude.{ℕ, ◌+◌, List, [], ◌∷◌}
use Rattle.gr_db.specs.declared.entry.Change.{Change}
use Rattle.gr_db.specs.declared.entry.Entry.{Entry}

-- an entry of a session's command
abbrev pub entry_of : ℕ → ℕ → ℕ → Change → Entry
entry_of session command part change =
    record { session = record { 0 = session }; command = command; part = part; change = change }

-- the entries of changes, their parts counted on from this one
abbrev pub entries_of : ℕ → ℕ → ℕ → List Change → List Entry
entries_of session command part [] = []
entries_of session command part (change ∷ changes) = entry_of session command part change ∷ entries_of session command (part + 1) changes
