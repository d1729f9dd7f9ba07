use Rattle.std.proofs.Common.{lit<, Some, None, refl}
use Rattle.std.proofs.lemmas.Str.Pattern.{strip_prefix_char}
use Rattle.gr_print.proofs.EndLemmas.{after_byte}
use Rattle.gr_print.proofs.ends.after_white.Goals as goal

pub returns-in-Some : goal.returns-in-Some
returns-in-Some c = after_byte 32 c.args.text.now c.in-Some.rest refl (strip_prefix_char 32 c.args.text.now (Some c.in-Some.rest) c.in-Some.ensures.cases (lit< tt))

pub after_control-requires : goal.after_control-requires
after_control-requires c = strip_prefix_char 32 c.args.text.now None c.in-None.ensures.cases (lit< tt)
