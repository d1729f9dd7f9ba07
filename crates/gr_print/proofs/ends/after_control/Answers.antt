use Rattle.std.proofs.Common.{lit<, Some, None, refl}
use Rattle.std.proofs.lemmas.Str.Pattern.{strip_prefix_char}
use Rattle.gr_print.proofs.EndLemmas.{after_byte, after_last}
use Rattle.gr_print.proofs.ends.after_control.Goals as goal

pub returns-in-Some : goal.returns-in-Some
returns-in-Some c = after_byte 9 c.args.text.now c.in-Some.rest refl (strip_prefix_char 9 c.args.text.now (Some c.in-Some.rest) c.in-Some.ensures.cases (lit< tt))

pub returns-in-Some-strip_prefix : goal.returns-in-Some-strip_prefix
returns-in-Some-strip_prefix c =
    after_byte 10 c.args.text.now c.in-Some-strip_prefix.rest refl
    (strip_prefix_char 10 c.args.text.now (Some c.in-Some-strip_prefix.rest) c.in-Some-strip_prefix.ensures.cases (lit< tt))

pub returns-in-None : goal.returns-in-None
returns-in-None c =
    after_last c.args.text.now c.strip_prefix-in-None.result c.requires (strip_prefix_char 9 c.args.text.now None c.in_default.ensures.cases (lit< tt))
    (strip_prefix_char 10 c.args.text.now None c.in-None.ensures.cases (lit< tt))
    (strip_prefix_char 13 c.args.text.now c.strip_prefix-in-None.result c.strip_prefix-in-None.ensures.cases (lit< tt))
