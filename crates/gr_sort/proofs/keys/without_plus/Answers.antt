use Rattle.std.proofs.Common.{None, Some, ap, lit<, sym}
use Rattle.std.proofs.lemmas.Str.Pattern.{strip_prefix_char}
use Rattle.gr_sort.specs.Keys.{unsigned}
use Rattle.gr_sort.proofs.KeyLemmas.{unsigned-kept}
use Rattle.gr_sort.proofs.keys.without_plus.Goals as goal

pub returns-in-Some : goal.returns-in-Some
returns-in-Some c = sym (ap unsigned (strip_prefix_char 43 c.args.text.now (Some c.in-Some.rest) c.in-Some.ensures.cases (lit< tt)))

pub returns-in-None : goal.returns-in-None
returns-in-None c = sym (unsigned-kept c.args.text.now c.requires (strip_prefix_char 43 c.args.text.now None c.in-None.ensures.cases (lit< tt)))
