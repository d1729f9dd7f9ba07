use Rattle.std.proofs.Common.{◌≡◌, ◌∙◌, sym, ap, []}
use Rattle.std.specs.Arc.{arc_value}
use Rattle.std.specs.FinMap.{get}
use Rattle.gr_base.specs.Keys.{KeyMap}
use Rattle.gr_key_tree.specs.Pairs.{lookup, map_of}
use Rattle.gr_key_tree.proofs.Lookups.{lookup_nil}
use Rattle.gr_key_tree.proofs.Maps.{get_map}
use Rattle.gr_key_tree.proofs.tree.TreeKeyTable.find.Goals as goal

pub returns-in-Some : goal.returns-in-Some
returns-in-Some g c =
    let whole : map_of (arc_value c.in-Some.node).pairs ≡ c.args.self.now = rw c.in-Some.is at c.self.view_is in
    c.find.ensures.exact ∙ (λ i. lookup (c.deref.ensures i).pairs (c.new.ensures i)) ∙ sym (get_map (arc_value c.in-Some.node).pairs c.args.key.now) ∙ ap (λ (m : KeyMap). get m c.args.key.now) whole

pub returns-in-None : goal.returns-in-None
returns-in-None g c =
    let whole : map_of [] ≡ c.args.self.now = rw c.in-None.is at c.self.view_is in
    sym (ap (λ (m : KeyMap). get m c.args.key.now) (sym whole) ∙ get_map [] c.args.key.now ∙ lookup_nil c.args.key.now)
