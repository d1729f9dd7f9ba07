use Rattle.std.proofs.Common.{arith, eqb, ltb, leb, not}
use Rattle.std.proofs.lemmas.Bool.Decides.{nat_tests}
use Rattle.gr_lanes.proofs.Masks.{unsigned_with, unsigned_under}
use Rattle.gr_lanes.proofs.lanes.compare_unsigned.Goals as goal

pub returns-in-Eq : goal.returns-in-Eq
returns-in-Eq c = unsigned_with eqb _ c.args.values.now c.args.against c.requires (λ x. rw c.in-Eq.is (grind (arith, nat_tests)))

pub returns-in-Ne : goal.returns-in-Ne
returns-in-Ne c = unsigned_with (λ a b. not (eqb a b)) _ c.args.values.now c.args.against c.requires (λ x. rw c.in-Ne.is (grind (arith, nat_tests)))

pub returns-in-Lt : goal.returns-in-Lt
returns-in-Lt c = unsigned_with ltb _ c.args.values.now c.args.against c.requires (λ x. rw c.in-Lt.is (grind (arith, nat_tests)))

pub returns-in-Le : goal.returns-in-Le
returns-in-Le c = unsigned_with leb _ c.args.values.now c.args.against c.requires (λ x. rw c.in-Le.is (grind (arith, nat_tests)))

pub returns-in-Gt : goal.returns-in-Gt
returns-in-Gt c = unsigned_under ltb _ c.args.values.now c.args.against c.requires (λ x. rw c.in-Gt.is (grind (arith, nat_tests)))

pub returns-in-Ge : goal.returns-in-Ge
returns-in-Ge c = unsigned_under leb _ c.args.values.now c.args.against c.requires (λ x. rw c.in-Ge.is (grind (arith, nat_tests)))
