use Rattle.std.proofs.Common.{◌≡◌, ap, ◌∙◌, arith}
use Rattle.gr_cmdline.proofs.Streams.{HasNoLine-empty, HasNoLine-open, StandsFirst-found, StandsFirst-last}
use Rattle.gr_cmdline.proofs.buffer.Buffer.first_line.Goals as goal
use Rattle.gr_cmdline.proofs.buffer.Buffer.first_line.Goals.{in-Some, in-None, in-None-2, in-None-2-2}

pub returns-clause-whole : goal.returns-clause-whole
returns-clause-whole c =
    let stage : c.self.inside.ended ≡ c.args.self.now.ended = ap (λ s. s.ended) (c.self.view_is ∙ c.find_end.ensures.kept) in
    elim c.match-find_end.branch [
      | in-Some w ↦ rw w.result-is (StandsFirst-found c.args.self.now w.in-Some.len (rw w.in-Some.is at c.find_end.ensures.place))
      | in-None w ↦ rw w.result-is (StandsFirst-last c.args.self.now c.left-left.result (cc) (omega arith) c.left-left.ensures (rw w.in-None.is at c.find_end.ensures.place))
      | in-None-2 w ↦ rw w.result-is tt
      | in-None-2-2 w ↦ rw w.result-is tt
    ]

pub returns-clause-none : goal.returns-clause-none
returns-clause-none c none =
    let stage : c.self.inside.ended ≡ c.args.self.now.ended = ap (λ s. s.ended) (c.self.view_is ∙ c.find_end.ensures.kept) in
    elim c.match-find_end.branch [
      | in-Some w ↦ cc
      | in-None w ↦ cc
      | in-None-2 w ↦ HasNoLine-empty c.args.self.now c.left-left.result c.left-left.ensures (omega arith) (rw w.in-None.is at c.find_end.ensures.place)
      | in-None-2-2 w ↦ HasNoLine-open c.args.self.now (cc) (rw w.in-None.is at c.find_end.ensures.place)
    ]
