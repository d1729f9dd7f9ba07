use lib.Dec.{eqb}
use Rattle.std.proofs.lemmas.List.Filters.{dedup_is}
use Rattle.gr_root.proofs.ReadersLemmas.{once-of}
use Rattle.gr_root.proofs.readers.once.Goals as goal

pub returns : goal.returns
returns c =
    once-of c.args.numbers.items c.sort_unstable.new.self.items c.dedup.new.self.items c.sort_unstable.ensures.permutation c.sort_unstable.ensures.sorted
    (dedup_is eqb c.sort_unstable.new.self.items c.dedup.new.self.items c.dedup.ensures.filtered)
