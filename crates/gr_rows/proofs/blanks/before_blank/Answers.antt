use Rattle.std.proofs.Common.{lit<, Some, None}
use Rattle.std.proofs.lemmas.Str.Pattern.{strip_suffix_char}
use Rattle.gr_rows.proofs.BlankLemmas.{before_space, before_tab}
use Rattle.gr_rows.proofs.blanks.before_blank.Goals as goal

pub returns-in-Some : goal.returns-in-Some
returns-in-Some c = before_space c.args.text.now c.in-Some.front (strip_suffix_char 32 c.args.text.now (Some c.in-Some.front) c.in-Some.ensures.cases (lit< tt))

pub returns-in-None : goal.returns-in-None
returns-in-None c =
    let text = c.args.text.now in
    before_tab text c.strip_suffix-in-None.result
    (strip_suffix_char 32 text None c.in-None.ensures.cases (lit< tt))
    (strip_suffix_char 9 text c.strip_suffix-in-None.result c.strip_suffix-in-None.ensures.cases (lit< tt))
