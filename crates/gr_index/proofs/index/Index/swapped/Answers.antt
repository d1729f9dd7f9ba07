use Rattle.std.proofs.Common.{List, ap, ◌∙◌}
use Rattle.gr_index.specs.Levels.{Levels, Part}
use Rattle.gr_index.proofs.IndexLemmas.{swapped_is}
use Rattle.gr_index.proofs.UpLemmas.{span_after}
use Rattle.gr_index.proofs.index.Index.swapped.Goals as goal

pub replaced-requires-clause-span : goal.replaced-requires-clause-span
replaced-requires-clause-span c =
    let now = c.args.self.now in
    let at = c.in-Ok.ensures in
    span_after now.place c.args.range.0 c.args.range.1 c.level_after-level.result now.parts c.in-Ok.start c.in-Ok.stop c.are_levels.ensures at.order at.bound at.begins at.ends c.level_after-level.ensures

pub returns-in_ok-replaced-in-Ok-clause-ok : goal.returns-in_ok-replaced-in-Ok-clause-ok
returns-in_ok-replaced-in-Ok-clause-ok c =
    let now = c.args.self.now in
    let at = c.in-Ok.ensures in
    let made : List Part → Levels = λ ps. record { place = now.place; parts = ps } in
    (at.fit, c.in_ok-replaced-in-Ok.ensures ∙ ap made (swapped_is now.place c.args.range.0 c.args.range.1 c.level_after-level.result c.in-Ok.start c.in-Ok.stop now.parts c.args.chunk at c.level_after-level.ensures))
