use Rattle.std.proofs.Common.{◌≡◌, length, option_map}
use Rattle.gr_cmdline.specs.Inside.Bindings.{with_arguments}
use Rattle.gr_cmdline.specs.Inside.Reading.{arguments_in}
use Rattle.gr_cmdline.proofs.cursor.Cursor.bind.Given as goal

abbrev pub invariant-arguments : goal.invariant-arguments
invariant-arguments l = option_map (with_arguments l.fn.bindings) (arguments_in l.fn.self) ≡ option_map (with_arguments l.bindings) (arguments_in l.self)

abbrev pub decreases-arguments : goal.decreases-arguments
decreases-arguments l = length l.self
