use Rattle.std.proofs.Common.{◌∙◌, rules, sym}
use Rattle.gr_rows.proofs.BlankLemmas.{up_to_last-cut, up_to_last-kept, before-shorter}
use Rattle.gr_rows.proofs.blanks.up_to_last.Goals as goal

pub blanks-preserved : goal.blanks-preserved
blanks-preserved c = record {
  same = c.blanks.invariant.same ∙ up_to_last-cut c.blanks.rest.now c.in-Some.others c.in-Some.ensures;
  text = search rules;
}

pub blanks-smaller : goal.blanks-smaller
blanks-smaller c = before-shorter c.blanks.rest.now c.in-Some.others c.in-Some.ensures

pub returns : goal.returns
returns c = sym (c.blanks.invariant.same ∙ up_to_last-kept c.blanks.rest.now c.in_default.ensures)
