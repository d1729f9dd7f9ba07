use Rattle.std.proofs.Common.{◌∙◌, arith, rules, sym}
use Rattle.gr_cmdline.proofs.Ends.{up_to_last-cut, up_to_last-kept}
use Rattle.gr_cmdline.proofs.line.up_to_last.Goals as goal

pub returns-then-not-is_blank : goal.returns-then-not-is_blank
returns-then-not-is_blank c = sym (c.blanks.invariant ∙ up_to_last-kept c.blanks.rest.now (omega (arith, c.in-len1-up.len_at_least)) (search rules))

pub blanks-preserved : goal.blanks-preserved
blanks-preserved c = c.blanks.invariant ∙ up_to_last-cut c.blanks.rest.now (omega (arith, c.in-len1-up.len_at_least)) (search rules)
