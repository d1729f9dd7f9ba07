use Rattle.std.proofs.Common.{◌∙◌, rules, sym}
use Rattle.gr_print.proofs.EndLemmas.{from_first-cut, from_first-kept, after-shorter}
use Rattle.gr_print.proofs.ends.from_first.Goals as goal

pub white-preserved : goal.white-preserved
white-preserved c = record {
  same = c.white.invariant.same ∙ from_first-cut c.white.rest.now c.in-Some.others c.in-Some.ensures;
  text = search rules;
}

pub white-smaller : goal.white-smaller
white-smaller c = after-shorter c.white.rest.now c.in-Some.others c.in-Some.ensures

pub returns : goal.returns
returns c = sym (c.white.invariant.same ∙ from_first-kept c.white.rest.now c.in_default.ensures)
