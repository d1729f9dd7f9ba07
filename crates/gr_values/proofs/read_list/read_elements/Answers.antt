use Rattle.std.proofs.Common.{refl}
use Rattle.gr_values.proofs.Lengths.{IsListOf-references}
use Rattle.gr_values.proofs.read_list.read_elements.Goals as goal

pub returns-in_ok-read_references-clause-fits : goal.returns-in_ok-read_references-clause-fits
returns-in_ok-read_references-clause-fits c = (
  record { list = c.requires.list; reference = c.if-shape.true },
  IsListOf-references _ _ c.args.values.items _ (c.in_ok-read_references.ensures.exact.found _ refl) c.requires.few c.in_ok-read_references.ensures.each,
)
