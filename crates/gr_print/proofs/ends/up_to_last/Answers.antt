use Rattle.std.proofs.Common.{◌∙◌, rules, sym}
use Rattle.gr_print.proofs.EndLemmas.{up_to_last-cut, up_to_last-kept, before-shorter}
use Rattle.gr_print.proofs.ends.up_to_last.Goals as goal

pub white-preserved : goal.white-preserved
white-preserved c = record {
  same = c.white.invariant.same ∙ up_to_last-cut c.white.rest.now c.in-Some.others c.in-Some.ensures;
  text = search rules;
}

pub white-smaller : goal.white-smaller
white-smaller c = before-shorter c.white.rest.now c.in-Some.others c.in-Some.ensures

pub returns : goal.returns
returns c = sym (c.white.invariant.same ∙ up_to_last-kept c.white.rest.now c.in_default.ensures)
