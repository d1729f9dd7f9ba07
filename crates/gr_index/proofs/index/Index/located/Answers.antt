use Rattle.std.proofs.Common.{◌≡◌, false, ap, subst}
use Rattle.gr_index.specs.Levels.{Levels}
use Rattle.gr_index.specs.Ranges.{fits, missing}
use Rattle.gr_index.specs.Inside.Located.{IsLocated}
use Rattle.gr_index.proofs.LocatedLemmas.{begins, located, no_end}
use Rattle.gr_index.proofs.index.Index.located.Goals as goal

pub returns-in-None-ending : goal.returns-in-None-ending
returns-in-None-ending c =
    let parts = c.self.inside.parts in
    let from = c.args.from in
    let to = c.args.to in
    subst (λ ps. (fits from to ps ≡ false) × (to ≡ missing from to ps)) (ap (λ v. v.parts) c.self.view_is) (no_end from to parts (begins from parts c.in-Some.start c.in-Some.ensures) c.in-None-ending.ensures)

pub returns-in-Some-ending : goal.returns-in-Some-ending
returns-in-Some-ending c =
    let from = c.args.from in
    let to = c.args.to in
    subst (λ (v : Levels). IsLocated v.place from to v.parts c.in-Some.start c.in-Some-ending.stop) c.self.view_is (located c.self.inside.place from to c.self.inside.parts c.in-Some.start c.in-Some-ending.stop c.self.invariant.tile c.requires c.in-Some.ensures c.in-Some-ending.ensures)
