use Rattle.std.proofs.Common.{◌≡◌, ◌+◌, ◌<◌, ◌∙◌, ◌++◌, List, None, Some, ap, arith, length, slice_get, sym}
use Rattle.std.specs.Option.{option_copied}
use Rattle.gr_db.specs.Changed.{Place}
use Rattle.gr_root.specs.Inside.Touched.{numbers_in}
use Rattle.gr_root.proofs.ReadersLemmas.{gathered-more, gathered-none}
use Rattle.gr_root.proofs.readers.numbers_touched.Goals as goal

pub loop-later-preserved : goal.loop-later-preserved
loop-later-preserved c =
    let there : slice_get c.args.touched.now (c.args.from + c.loop-later.later) ≡ Some c.in-Some.places.now = sym c.get.ensures ∙ ap option_copied c.in-Some.is in
    c.in_ok-push_numbers-in-Some.ensures ∙ ap (λ (places : List Place). c.loop-later.numbers.items ++ numbers_in c.args.table places) c.as_slice.ensures
    ∙ gathered-more c.args.table c.args.touched.now c.args.from c.loop-later.later c.in-Some.places.now c.loop-later.numbers.items there c.loop-later.invariant

pub unreachable-requires : goal.unreachable-requires
unreachable-requires c =
    let none : slice_get c.args.touched.now (c.args.from + c.loop-later.later) ≡ None = sym c.get.ensures ∙ ap option_copied c.in-None.is in
    gathered-none c.args.touched.now (c.args.from + c.loop-later.later) (omega arith) none
