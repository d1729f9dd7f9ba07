use Rattle.std.proofs.Common.{map, sym, ap, ◌∙◌}
use Rattle.std.specs.Arc.{arc_value}
use Rattle.gr_columns.specs.Inside.Truths.{bits_of}
use Rattle.gr_columns.proofs.Outcomes.{on_ok}
use Rattle.gr_columns.proofs.Words.{put_word}
use Rattle.gr_columns.proofs.truths.put_bit.Goals as goal

pub returns-clause-ok : goal.returns-clause-ok
returns-clause-ok c =
    let is = put_word c.args.words.now c.args.i c.block_of-k.result c.place_in_block.result c.in-Some.word.now c.with_bit-changed.result (arc_value c.in_ok-new-in-Some.field-0) c.args.value c.block_of-k.ensures c.place_in_block.ensures.exact (sym c.in-Some.ensures) c.with_bit-changed.ensures c.in_ok-new-in-Some.ensures.ok in
    on_ok c.set.result (λ made. ap (map bits_of) made ∙ is) c.set.ensures.ok
