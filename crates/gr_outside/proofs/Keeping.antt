-- Bytes that a writer holds, where they are told, over calls that take none.
use Rattle.std.proofs.Common.{ℕ, Option, Some, None, List, [], ◌++◌, ap, ◌∙◌, append-nil}
use Rattle.std.specs.Io.KnownBytes.{Appends, Keeps}

-- a call that took nothing kept them
pub kept_by_none : (before after : Option (List ℕ)) → Appends before after [] → Keeps before after
kept_by_none None after none = tt
kept_by_none (Some held) None none = absurd none
kept_by_none (Some held) (Some more) none = none ∙ append-nil held

-- what is taken after calls that took nothing
pub taken_after_kept : (before now after : Option (List ℕ)) (piece : List ℕ) → Keeps before now → Appends now after piece → Appends before after piece
taken_after_kept None now after piece kept taken = tt
taken_after_kept (Some held) None after piece kept taken = absurd kept
taken_after_kept (Some held) (Some same) None piece kept taken = absurd taken
taken_after_kept (Some held) (Some same) (Some more) piece kept taken = taken ∙ ap (λ bytes. bytes ++ piece) kept
