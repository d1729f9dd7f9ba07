use Rattle.std.proofs.Common.{lit<, Some, None, refl}
use Rattle.std.proofs.lemmas.Str.Pattern.{strip_suffix_char}
use Rattle.gr_print.proofs.EndLemmas.{before_byte}
use Rattle.gr_print.proofs.ends.before_white.Goals as goal

pub returns-in-Some : goal.returns-in-Some
returns-in-Some c = before_byte 32 c.args.text.now c.in-Some.front refl (strip_suffix_char 32 c.args.text.now (Some c.in-Some.front) c.in-Some.ensures.cases (lit< tt))

pub before_control-requires : goal.before_control-requires
before_control-requires c = strip_suffix_char 32 c.args.text.now None c.in-None.ensures.cases (lit< tt)
