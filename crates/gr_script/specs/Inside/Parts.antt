-- What the code keeps of a script while it reads on, as the machine has it.
use Rattle.std.specs.Prelude.{◌≡◌, List, reverse, Result, Ok, Err}
use Rattle.gr_script.specs.declared.frame.Frame.{Frame}
use Rattle.gr_script.specs.declared.parts.Next.{Next}
use Rattle.gr_script.specs.declared.parts.Parts.{Parts}
use Rattle.gr_script.specs.Inside.Machine.{Held, State, state, phase_of}
use Rattle.gr_text.specs.Inside.Reading.{Outcome, goes, deep, wrong}
use Rattle.gr_text.specs.declared.stop.Stop.{Stop}
use Rattle.gr_text.specs.declared.stop.Stop.TheVariants as stop

-- the begun parts, the last one first
abbrev pub frames_of : Parts → List Frame
frames_of parts = reverse parts.stack.frames.items

-- the operand that was read last, in the begun parts
abbrev pub held_by : Parts → Held
held_by parts = record { tree = parts.tree; frames = frames_of parts; left = parts.stack.left }

-- What comes of a token is this outcome, with this operand, these parts begun and so many levels left, unless memory ran out.
abbrev pub Comes : Result Next Stop → Parts → Outcome State → Type 0
Comes (Ok next) parts outcome = outcome ≡ goes (state (phase_of next parts.tree) (frames_of parts) parts.stack.left)
Comes (Err stop.Deep) parts outcome = outcome ≡ deep
Comes (Err stop.Wrong) parts outcome = outcome ≡ wrong
Comes (Err stop.NoMemory) parts outcome = Unit {0}
