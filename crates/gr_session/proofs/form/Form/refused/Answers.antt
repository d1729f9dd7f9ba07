use Rattle.gr_session.proofs.form.Form.refused.Goals as goal
use Rattle.gr_session.proofs.form.Form.refused.Goals.{in-Plain, in-Counting, in-Naming+in_ok-fault-in-Naming}

pub refusal-requires : goal.refusal-requires
refusal-requires c = elim c.match-self.branch [
  | in-Plain w ↦ rw w.fault-is c.requires.text
  | in-Counting w ↦ rw w.fault-is c.requires.text
  | in-Naming+in_ok-fault-in-Naming w ↦ rw w.fault-is w.in_ok-fault-in-Naming.ensures.text
]
