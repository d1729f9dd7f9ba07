use Rattle.std.proofs.Common.{lit<}
use Rattle.std.proofs.lemmas.Str.Pattern.{starts_char}
use Rattle.gr_sort.proofs.KeyLemmas.{descends}
use Rattle.gr_sort.proofs.keys.is_descending.Goals as goal

pub returns : goal.returns
returns c = descends c.args.text.now c.starts_with.result (starts_char 45 c.args.text.now c.starts_with.result c.starts_with.ensures.cases (lit< tt) (lit< tt))
