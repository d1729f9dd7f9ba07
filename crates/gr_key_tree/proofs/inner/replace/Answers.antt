use Rattle.std.proofs.Common.{ap, ◌∙◌, List}
use Rattle.std.specs.Prelude.{slice_set}
use Rattle.gr_key_tree.specs.Inside.Seen.{Part}
use Rattle.gr_key_tree.proofs.Children.{set_inserted}
use Rattle.gr_key_tree.proofs.inner.replace.Goals as goal

pub returns : goal.returns
returns g c =
    ap (λ (l : List Part). slice_set l c.args.at c.args.halves.lower) c.in_ok-insert.ensures.items
    ∙ set_inserted c.args.children.now.items c.args.at c.args.halves.upper c.args.halves.lower c.requires
