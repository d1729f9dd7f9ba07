use Rattle.std.proofs.Common.{lit<, Some, None, refl}
use Rattle.std.proofs.lemmas.Str.Pattern.{strip_suffix_char}
use Rattle.gr_print.proofs.EndLemmas.{before_byte, before_last}
use Rattle.gr_print.proofs.ends.before_control.Goals as goal

pub returns-in-Some : goal.returns-in-Some
returns-in-Some c = before_byte 9 c.args.text.now c.in-Some.front refl (strip_suffix_char 9 c.args.text.now (Some c.in-Some.front) c.in-Some.ensures.cases (lit< tt))

pub returns-in-Some-strip_suffix : goal.returns-in-Some-strip_suffix
returns-in-Some-strip_suffix c =
    before_byte 10 c.args.text.now c.in-Some-strip_suffix.front refl
    (strip_suffix_char 10 c.args.text.now (Some c.in-Some-strip_suffix.front) c.in-Some-strip_suffix.ensures.cases (lit< tt))

pub returns-in-None : goal.returns-in-None
returns-in-None c =
    before_last c.args.text.now c.strip_suffix-in-None.result c.requires (strip_suffix_char 9 c.args.text.now None c.in_default.ensures.cases (lit< tt))
    (strip_suffix_char 10 c.args.text.now None c.in-None.ensures.cases (lit< tt))
    (strip_suffix_char 13 c.args.text.now c.strip_suffix-in-None.result c.strip_suffix-in-None.ensures.cases (lit< tt))
