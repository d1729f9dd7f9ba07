use Rattle.std.proofs.Common.{◌≡◌, vec_len}
use Rattle.gr_script.specs.Inside.Machine.{reduced}
use Rattle.gr_script.specs.Inside.Parts.{frames_of}
use Rattle.gr_script.specs.Precedence.{rank}
use Rattle.gr_script.proofs.parts.Parts.reduce.Given as goal

-- what is left to close leaves what closing from the start does
abbrev pub invariant-parts : goal.invariant-parts
invariant-parts l = reduced (rank l.pulled) l.self.tree (frames_of l.self) l.self.stack.left ≡ reduced (rank l.pulled) l.initial.self.tree (frames_of l.initial.self) l.initial.self.stack.left

abbrev pub decreases-parts : goal.decreases-parts
decreases-parts l = vec_len l.self.stack.frames
