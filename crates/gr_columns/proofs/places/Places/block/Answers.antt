use Rattle.std.proofs.Common.{◌+◌, ◌*◌, length, Some, sym, ap, ◌∙◌}
use Rattle.std.specs.Arc.{arc_value}
use Rattle.gr_columns.specs.Places.{value_at}
use Rattle.gr_columns.proofs.Blocks.{found_full, block_found, block_past}
use Rattle.gr_columns.proofs.places.Places.block.Goals as goal

pub returns-in-Some-clause-whole : goal.returns-in-Some-clause-whole
returns-in-Some-clause-whole g c = ap length c.as_slice.ensures ∙ found_full c.self.inside.blocks c.self.invariant.full c.from.result c.in-Some.values.now (sym c.in-Some.ensures)

pub returns-in-Some-clause-exact : goal.returns-in-Some-clause-exact
returns-in-Some-clause-exact g c = λ place within. block_found c.self.inside.blocks c.self.invariant.full c.from.result c.args.block c.in-Some.values.now c.as_slice.result.now c.self.inside.default c.from.ensures (sym c.in-Some.ensures) c.as_slice.ensures place within ∙ ap (λ places. Some (value_at places (64 * c.args.block + place))) c.self.view_is

pub returns-in-None-clause-exact : goal.returns-in-None-clause-exact
returns-in-None-clause-exact g c = λ place within. block_past c.self.inside.blocks c.self.invariant.full c.from.result c.args.block (arc_value c.self.inside.blank) c.as_slice-in-None.result.now c.self.inside.default c.from.ensures (sym c.in-None.ensures) (c.as_slice-in-None.ensures ∙ c.deref.ensures) c.self.invariant.repeats place within ∙ ap (λ places. Some (value_at places (64 * c.args.block + place))) c.self.view_is
