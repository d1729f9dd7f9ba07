use Rattle.std.proofs.Common.{◌∙◌, ◌∷◌, ◌++◌, [], ap, sym, get_or, map, take}
use Rattle.std.proofs.lemmas.List.{map_more}
use Rattle.gr_print.specs.Block.{Hit}
use Rattle.gr_sort.specs.Inside.Rows.{keyed, keyed_cmp, keyed_row}
use Rattle.gr_sort.specs.Order.{in_order}
use Rattle.gr_sort.proofs.KeptLemmas.{first-push}
use Rattle.gr_sort.proofs.collect.first_rows.Goals as goal

pub loop-hit-preserved : goal.loop-hit-preserved
loop-hit-preserved g c =
    let cmp = keyed_cmp c.args.keys.now in
    let shown = keyed (g.R.Rows.tables c.args.rows.now) c.args.keys.now in
    let before = map keyed_row c.loop-hit.kept.rows.items in
    let none : Hit = (record { 0 = 0 }, 0) in
    let i = c.loop-hit.hit-index in
    let hits = c.args.hits.now in
    record {
      first =
          c.in_ok-kept.ensures.exact ∙ ap (λ row. take c.args.most (in_order cmp (before ++ row ∷ []))) c.in_ok-read.ensures
          ∙ first-push cmp c.args.most before (map shown (take i hits)) (shown (get_or hits i none)) c.loop-hit.invariant.first
          ∙ sym (ap (λ all. take c.args.most (in_order cmp all)) (map_more shown hits i none c.loop-hit-test.true));
      kept = c.in_ok-kept.ensures.kept;
    }
