use Rattle.std.proofs.Common.{◌∷◌, ◌∙◌, sym, add-one}
use Rattle.gr_bind.proofs.Cutting.{rest_whole, split_none, split_some}
use Rattle.gr_schema.specs.Paths.{is_dot}
use Rattle.gr_bind.proofs.cut.cut.Goals as goal

pub returns-in-None : goal.returns-in-None
returns-in-None c = split_none is_dot c.args.text.now (sym c.place_of.ensures.exact ∙ c.in-None.is)

pub returns-in-Some : goal.returns-in-Some
returns-in-Some c =
    rw (rest_whole, add-one) (split_some is_dot c.args.text.now c.in-Some.place (sym c.place_of.ensures.exact ∙ c.in-Some.is))
