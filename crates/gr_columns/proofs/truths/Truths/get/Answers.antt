use Rattle.std.proofs.Common.{sym, ap, ◌∙◌}
use Rattle.gr_columns.specs.Places.{value_at}
use Rattle.gr_columns.proofs.Words.{word_is, no_word_is}
use Rattle.gr_columns.proofs.truths.Truths.get.Goals as goal

pub returns-in-Some : goal.returns-in-Some
returns-in-Some c = word_is c.self.inside.words c.args.i c.block_of.result c.place_in_block.result c.in-Some.word.now c.block_of.ensures c.place_in_block.ensures.exact (sym c.in-Some.ensures) ∙ ap (λ truths. value_at truths c.args.i) c.self.view_is

pub returns-in-None : goal.returns-in-None
returns-in-None c = no_word_is c.self.inside.words c.args.i c.block_of.result c.block_of.ensures (sym c.in-None.ensures) ∙ ap (λ truths. value_at truths c.args.i) c.self.view_is
