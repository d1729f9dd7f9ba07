use Rattle.std.proofs.Common.{[], ◌∷◌, ◌++◌, ap, ◌∙◌}
use Rattle.gr_expr.specs.declared.Join.TheVariants.{Or}
use Rattle.gr_plan.proofs.FitsLemmas.{Fits-joined, link}
use Rattle.gr_plan.proofs.tests.or.Goals as goal

pub returns : goal.returns
returns c = λ tables.
    let rest = c.in_ok-push.ensures.ok ∙ ap (λ rest. rest ++ link Or c.args.of ∷ []) c.new-rest.ensures in
    rw c.in_ok-new.ensures (Fits-joined tables c.args.first Or c.args.of c.push.new.self rest (c.requires.first tables) (c.requires.of tables))
