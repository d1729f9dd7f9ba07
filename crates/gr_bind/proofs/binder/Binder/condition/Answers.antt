use Rattle.gr_bind.proofs.Arms.{as_part}
use Rattle.gr_bind.specs.Typing.{part_of}
use Rattle.gr_bind.proofs.binder.Binder.condition.Goals as goal

pub part-requires : goal.part-requires
part-requires c = record { there = c.requires.there; made = c.requires.made }

pub returns : goal.returns
returns c =
    c.condition.ensures (part_of c.args.self.now.schema.now c.args.self.now.table c.args.self.now.columns c.args.tree.now) (as_part c.args.self.now c.args.tree.now c.part.result c.part.ensures)
