use Rattle.std.proofs.Common.{lit<, Some, None}
use Rattle.std.proofs.lemmas.Str.Pattern.{strip_prefix_char}
use Rattle.gr_rows.proofs.BlankLemmas.{after_space, after_tab}
use Rattle.gr_rows.proofs.blanks.after_blank.Goals as goal

pub returns-in-Some : goal.returns-in-Some
returns-in-Some c = after_space c.args.text.now c.in-Some.rest (strip_prefix_char 32 c.args.text.now (Some c.in-Some.rest) c.in-Some.ensures.cases (lit< tt))

pub returns-in-None : goal.returns-in-None
returns-in-None c =
    let text = c.args.text.now in
    after_tab text c.strip_prefix-in-None.result
    (strip_prefix_char 32 text None c.in-None.ensures.cases (lit< tt))
    (strip_prefix_char 9 text c.strip_prefix-in-None.result c.strip_prefix-in-None.ensures.cases (lit< tt))
