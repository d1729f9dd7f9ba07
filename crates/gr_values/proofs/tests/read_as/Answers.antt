use Rattle.std.proofs.Common.{refl}
use Rattle.gr_values.specs.declared.data_type.DataType.TheVariants.{ShortText}
use Rattle.gr_values.proofs.Showable.{IsShowable-Fits}
use Rattle.gr_values.proofs.tests.read_as.Goals as goal

pub given_text-requires : goal.given_text-requires
given_text-requires c = IsShowable-Fits ShortText c.args.shape _ refl (rw c.in-Ok-Some.field-0-is at c.in-Ok-Some.ensures.fits)
