use Rattle.std.specs.Option.{option_map}
use Rattle.gr_bind.proofs.Fitting.{answer_fits}
use Rattle.gr_bind.proofs.Telling.{then_told}
use Rattle.gr_bind.specs.Typing.{condition, part_of}
use Rattle.gr_bind.proofs.typing.bind.Goals as goal

pub returns-clause-fit : goal.returns-clause-fit
returns-clause-fit c =
    answer_fits c.args.schema.now c.args.table (option_map (λ columns. columns.now) c.args.columns) c.args.tree.now c.requires.made c.condition.result
    (then_told c.columns_given.result _ c.columns_given.ensures (λ given. condition (part_of c.args.schema.now c.args.table given c.args.tree.now)) c.in_ok-columns.columns c.condition.result c.in_ok-columns.was c.condition.ensures).exact
