use Rattle.std.proofs.Common.{None, Some, ap, lit<, sym}
use Rattle.std.proofs.lemmas.Str.Pattern.{strip_prefix_char}
use Rattle.gr_sort.specs.Keys.{unsigned}
use Rattle.gr_sort.proofs.keys.unsigned.Goals as goal

pub returns-in-Some : goal.returns-in-Some
returns-in-Some c = sym (ap unsigned (strip_prefix_char 45 c.args.text.now (Some c.in-Some.rest) c.in-Some.ensures.cases (lit< tt)))

pub without_plus-requires : goal.without_plus-requires
without_plus-requires c = strip_prefix_char 45 c.args.text.now None c.in-None.ensures.cases (lit< tt)
