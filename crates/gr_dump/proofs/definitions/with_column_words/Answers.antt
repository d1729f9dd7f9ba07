use Rattle.std.proofs.Common.{◌≡◌, ◌++◌, ◌∷◌, append_assoc}
use Rattle.std.proofs.lemmas.Result.{IfOk-weaker}
use Rattle.gr_dump.proofs.definitions.with_column_words.Goals as goal

pub returns : goal.returns
returns c =
    IfOk-weaker c.with_word-4.result (λ made. made.items ≡ c.in_ok-text-4.text.items ++ 32 ∷ c.args.holds.now) _
    (λ made same. simp (same, c.in_ok-text-4.ensures, c.in_ok-text-3.ensures, c.in_ok-text-2.ensures, c.in_ok-text.ensures, c.as_slice.ensures, c.as_slice-2.ensures, append_assoc)) c.with_word-4.ensures
