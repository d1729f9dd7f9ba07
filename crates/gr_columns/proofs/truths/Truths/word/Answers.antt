use Rattle.std.proofs.Common.{◌+◌, ◌*◌, sym, subst}
use Rattle.std.specs.Prelude.{◌↔◌, Bool, List, IsBitSet, IsTrue}
use Rattle.gr_columns.specs.Places.{value_at}
use Rattle.gr_columns.proofs.Words.{word_block, word_past}
use Rattle.gr_columns.proofs.truths.Truths.word.Goals as goal

pub returns-in-Some : goal.returns-in-Some
returns-in-Some c = λ place within. subst (λ (truths : Bool × List Bool). IsBitSet c.in-Some.word.now place ↔ IsTrue (value_at truths (64 * c.args.block + place))) c.self.view_is (word_block c.self.inside.words c.from.result c.args.block c.in-Some.word.now c.from.ensures (sym c.in-Some.ensures) place within)

pub returns-in-None : goal.returns-in-None
returns-in-None c = λ place within. subst (λ (truths : Bool × List Bool). IsBitSet 0 place ↔ IsTrue (value_at truths (64 * c.args.block + place))) c.self.view_is (word_past c.self.inside.words c.from.result c.args.block c.from.ensures (sym c.in-None.ensures) place within)
