use Rattle.std.proofs.Common.{◌≡◌, ◌++◌, ◌∷◌, [], append_assoc}
use Rattle.std.proofs.lemmas.Result.{IfOk-weaker}
use Rattle.gr_dump.proofs.definitions.with_lexicon_line.Goals as goal

pub returns : goal.returns
returns c =
    IfOk-weaker c.with_bytes-2.result (λ made. made.items ≡ c.in_ok-text-3.text.items ++ 10 ∷ []) _
    (λ made same. simp (c.in-Some.is, same, c.in_ok-text-3.ensures, c.in_ok-text-2.ensures, c.in_ok-text.ensures, c.as_bytes.ensures.value, c.tokenizer_text.ensures, append_assoc)) c.with_bytes-2.ensures
