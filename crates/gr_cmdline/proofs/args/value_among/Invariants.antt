use Rattle.std.proofs.Common.{◌≡◌, length}
use Rattle.std.specs.List.{AllByRecursion}
use Rattle.gr_cmdline.specs.Arguments.{IsText, value_of}
use Rattle.gr_cmdline.proofs.args.value_among.Given as goal

abbrev pub invariant-values : goal.invariant-values
invariant-values l = record {
  found : value_of l.fn.given l.param ≡ value_of l.rest l.param;
  texts : AllByRecursion (λ value. IsText value.1) l.rest;
}

abbrev pub decreases-values : goal.decreases-values
decreases-values l = length l.rest
