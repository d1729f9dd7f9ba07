use Rattle.std.proofs.Common.{sym, ap, ◌∙◌}
use Rattle.gr_rows.proofs.CommaLemmas.{blank_parts, closes_by_parts}
use Rattle.gr_rows.proofs.comma.closes.Goals as goal

pub returns-then-is_blank : goal.returns-then-is_blank
returns-then-is_blank c =
    let known = closes_by_parts c.args.text.now c.split_once.result c.split_once.ensures.cases ∙ ap blank_parts c.in-Some.is in
    cc

pub returns-else-is_blank : goal.returns-else-is_blank
returns-else-is_blank c =
    let known = closes_by_parts c.args.text.now c.split_once.result c.split_once.ensures.cases ∙ ap blank_parts c.in-Some.is in
    cc

pub returns-in-None : goal.returns-in-None
returns-in-None c = sym (closes_by_parts c.args.text.now c.split_once.result c.split_once.ensures.cases ∙ ap blank_parts c.in-None.is)
