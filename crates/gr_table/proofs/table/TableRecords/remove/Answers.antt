use Rattle.std.proofs.Common.{subst}
use Rattle.gr_table.specs.Inside.Puts.{LosesKey}
use Rattle.gr_table.specs.Inside.Trees.{map_of}
use Rattle.gr_table.proofs.Tables.{held_less, key_leads, table_less}
use Rattle.gr_table.proofs.table.TableRecords.remove.Goals as goal

pub tree_without-requires : goal.tree_without-requires
tree_without-requires c = rw c.get.ensures (key_leads _ _ _ _ _ _ c.self.invariant c.args.self.now c.self.view_is c.args.id c.requires)

pub invariant_of-self : goal.invariant_of-self
invariant_of-self c = rw c.in_err-set.ensures.err c.self.invariant

pub invariant_of-self-2 : goal.invariant_of-self-2
invariant_of-self-2 c =
    held_less _ _ _ _ _ _ c.self.invariant c.args.self.now c.self.view_is c.args.id c.requires c.set.new.self (map_of c.in_ok-tree.tree)
    (subst (λ o. LosesKey (map_of c.self.inside.tree) (map_of c.in_ok-tree.tree) o) c.get.ensures c.in_ok-tree.ensures) c.in_ok-set.ensures.ok

pub returns : goal.returns
returns c = table_less _ _ _ _ _ _ c.self.invariant c.args.self.now c.self.view_is c.args.id c.requires c.set.new.self c.in_ok-set.ensures.ok
