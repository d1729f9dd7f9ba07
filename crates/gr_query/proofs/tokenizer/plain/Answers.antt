use Rattle.std.proofs.Common.{◌≡◌, [], ◌∷◌, ◌++◌, ap, ◌∙◌, arith}
use Rattle.gr_query.proofs.Ends.{IsUtf8-front}
use Rattle.gr_query.proofs.tokenizer.plain.Goals as goal

pub returns-clause-text : goal.returns-clause-text
returns-clause-text c =
    let starred : c.args.run.now ≡ c.in-Some.front.now ++ 42 ∷ [] = c.in-Some.ensures.cases.0 ∙ ap (λ last. c.in-Some.front.now ++ last ∷ []) (omega (arith, c.if-last-ne42.false)) in
    (tt, rw c.in_ok-text-2.ensures (IsUtf8-front starred c.requires))
