use Rattle.std.proofs.Common.{◌∙◌, rules, sym}
use Rattle.gr_rows.proofs.BlankLemmas.{from_first-cut, from_first-kept, after-shorter}
use Rattle.gr_rows.proofs.blanks.from_first.Goals as goal

pub blanks-preserved : goal.blanks-preserved
blanks-preserved c = record {
  same = c.blanks.invariant.same ∙ from_first-cut c.blanks.rest.now c.in-Some.others c.in-Some.ensures;
  text = search rules;
}

pub blanks-smaller : goal.blanks-smaller
blanks-smaller c = after-shorter c.blanks.rest.now c.in-Some.others c.in-Some.ensures

pub returns : goal.returns
returns c = sym (c.blanks.invariant.same ∙ from_first-kept c.blanks.rest.now c.in_default.ensures)
