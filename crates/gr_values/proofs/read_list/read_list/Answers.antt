use Rattle.std.proofs.Common.{arith}
use Rattle.serde_json.proofs.Views.{view-Array}
use Rattle.gr_values.proofs.Listing.{Answers-elements, Answers-too_long}
use Rattle.gr_values.proofs.read_list.read_list.Goals as goal

pub returns-then-len-gt-LONGEST_VECTOR-clause-exact : goal.returns-then-len-gt-LONGEST_VECTOR-clause-exact
returns-then-len-gt-LONGEST_VECTOR-clause-exact c =
    rw (c.in-Array.is, view-Array) (Answers-too_long c.args.shape c.in-Array.values.items (omega arith))

pub returns-else-len-gt-LONGEST_VECTOR-clause-exact : goal.returns-else-len-gt-LONGEST_VECTOR-clause-exact
returns-else-len-gt-LONGEST_VECTOR-clause-exact c =
    rw (c.in-Array.is, view-Array) (Answers-elements c.args.shape c.in-Array.values.items c.read_elements.result (omega arith) c.read_elements.ensures.exact)
