use Rattle.std.proofs.Common.{refl}
use Rattle.std.specs.Arc.{arc_value}
use Rattle.gr_db.specs.Apply.{replay}
use Rattle.gr_session.specs.Inside.Kept.{Fits, meant}
use Rattle.gr_session.proofs.HoldsLemmas.{Holds-fit, Holds-next, Holds-pop}
use Rattle.gr_session.proofs.under_way.UnderWay.next.Goals as goal

pub returns-in_ok-self-in-Some : goal.returns-in_ok-self-in-Some
returns-in_ok-self-in-Some c =
    let command = c.args.self.now in
    let all = (meant command).changes in
    let held = command.changes.items in
    let left = c.pop.new.self.items in
    record {
      same = refl;
      next = Holds-next all held left c.in-Some.change command.made c.requires.holds c.in-Some.ensures.items;
      fits = Holds-fit (Fits (replay (arc_value command.root).journal)) all held left c.in-Some.change command.made c.requires.holds c.in-Some.ensures.items c.requires.fit;
      waits = record {
        kept = record {
          read = c.requires.read;
          fit = c.requires.fit;
          holds = Holds-pop all held left c.in-Some.change command.made c.requires.holds c.in-Some.ensures.items;
          means = c.requires.means;
          from = c.requires.from;
          starved = c.requires.starved;
          legible = c.requires.legible;
        };
        then_starved = c.in_ok-self-in-Some.ensures;
      };
    }
