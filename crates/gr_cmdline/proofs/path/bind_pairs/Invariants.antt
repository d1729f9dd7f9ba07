use Rattle.std.proofs.Common.{◌≡◌, map}
use Rattle.form_urlencoded.specs.Form.{raw_pairs}
use Rattle.form_urlencoded.specs.Parse.{raw_pairs_left}
use Rattle.gr_cmdline.specs.Inside.Bindings.{with_arguments}
use Rattle.gr_cmdline.specs.Request.{argument_of_pair}
use Rattle.gr_cmdline.proofs.path.bind_pairs.Given as goal

abbrev pub invariant-loop-name : goal.invariant-loop-name
invariant-loop-name l = record {
  can_next : goal.iterator-loop-name.can_next l.name-iterator;
  finite : goal.iterator-loop-name.is_finite l.name-iterator;
  bound : with_arguments l.fn.bindings (map argument_of_pair (raw_pairs l.fn.pairs)) ≡ with_arguments l.bindings (map argument_of_pair (raw_pairs_left l.name-iterator));
}
