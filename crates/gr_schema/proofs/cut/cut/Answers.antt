use Rattle.std.proofs.Common.{◌∷◌, ◌==◌, ◌∙◌, sym, add-one}
use Rattle.gr_schema.proofs.CutLemmas.{rest_whole, split_none, split_some}
use Rattle.gr_schema.proofs.cut.cut.Goals as goal

pub returns-in-None-clause-pieces : goal.returns-in-None-clause-pieces
returns-in-None-clause-pieces c = split_none (λ byte. byte == c.args.at) c.args.text.now (sym c.place_of.ensures.exact ∙ c.in-None.is)

pub returns-in-Some-clause-pieces : goal.returns-in-Some-clause-pieces
returns-in-Some-clause-pieces c =
    rw (rest_whole, add-one) (split_some (λ byte. byte == c.args.at) c.args.text.now c.in-Some.place (sym c.place_of.ensures.exact ∙ c.in-Some.is))
