use Rattle.std.proofs.Common.{◌≡◌, ◌∙◌, ap, refl, sym}
use Rattle.std.specs.Cmp.Lexicographic.{slice_cmp}
use Rattle.std.specs.FinMap.{empty, get-empty}
use Rattle.std.specs.Ordering.{nat_cmp}
use Rattle.gr_schema.specs.Inside.Names.{keys_of}
use Rattle.gr_schema.proofs.names.Names.find.Goals as goal

pub returns-in-None : goal.returns-in-None
returns-in-None c =
    let none : c.args.self.now ≡ empty = sym c.self.view_is ∙ ap keys_of c.in-None.is in
    rw (none, get-empty (slice_cmp nat_cmp) c.args.name.now) refl
