use Rattle.std.proofs.Common.{subst}
use Rattle.gr_hits.specs.Hits.{AreHits}
use Rattle.gr_hits.specs.Inside.Counts.{AreUpTo}
use Rattle.gr_hits.proofs.CountLemmas.{count_raised, count_after}
use Rattle.gr_hits.proofs.counts.count_one.Goals as goal

pub returns-in-Some-clause-sound : goal.returns-in-Some-clause-sound
returns-in-Some-clause-sound c =
    let k = count_raised c.pop.new.self.items c.in-Some.last c.args.id (subst AreHits c.in-Some.ensures.items c.requires.sound) c.if-last-id.true in
    rw (c.append_hit.ensures.items, c.sum.ensures) k.sound

pub returns-in-Some-clause-exact : goal.returns-in-Some-clause-exact
returns-in-Some-clause-exact c =
    let k = count_raised c.pop.new.self.items c.in-Some.last c.args.id (subst AreHits c.in-Some.ensures.items c.requires.sound) c.if-last-id.true in
    rw (c.append_hit.ensures.items, c.sum.ensures, c.in-Some.ensures.items) k.exact

pub returns-in-Some-2-clause-sound : goal.returns-in-Some-2-clause-sound
returns-in-Some-2-clause-sound c =
    let k = count_after c.pop.new.self.items c.in-Some.last c.args.id (subst AreHits c.in-Some.ensures.items c.requires.sound) (subst (AreUpTo c.args.id) c.in-Some.ensures.items c.requires.order) c.if-last-id.false in
    rw (c.append_hit-in-Some-2-2.ensures.items, c.append_hit-in-Some-2.ensures.items) k.sound

pub returns-in-Some-2-clause-exact : goal.returns-in-Some-2-clause-exact
returns-in-Some-2-clause-exact c =
    let k = count_after c.pop.new.self.items c.in-Some.last c.args.id (subst AreHits c.in-Some.ensures.items c.requires.sound) (subst (AreUpTo c.args.id) c.in-Some.ensures.items c.requires.order) c.if-last-id.false in
    rw (c.append_hit-in-Some-2-2.ensures.items, c.append_hit-in-Some-2.ensures.items, c.in-Some.ensures.items) k.exact
