use Rattle.std.proofs.Common.{◌≡◌, ◌++◌, ◌∷◌, [], append_assoc}
use Rattle.std.proofs.lemmas.Result.{IfOk-weaker}
use Rattle.gr_dump.proofs.definitions.with_data_column.Goals as goal

pub returns : goal.returns
returns c =
    IfOk-weaker c.with_bytes.result (λ made. made.items ≡ c.in_ok-text.text.items ++ 10 ∷ []) _ (λ made same. simp (same, c.in_ok-text.ensures, c.holds_text.ensures, append_assoc)) c.with_bytes.ensures
