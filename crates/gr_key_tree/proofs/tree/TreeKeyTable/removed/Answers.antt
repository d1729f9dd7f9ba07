use Rattle.std.proofs.Common.{◌≡◌, ◌∙◌, sym, ap, []}
use Rattle.std.specs.Prelude.{is_some}
use Rattle.std.specs.Arc.{arc_value}
use Rattle.std.specs.FinMap.{get, remove}
use Rattle.gr_base.specs.Keys.{KeyMap}
use Rattle.gr_key_tree.specs.Order.{key_cmp}
use Rattle.gr_key_tree.specs.Pairs.{map_of}
use Rattle.gr_key_tree.specs.Inside.Less.{IsLess}
use Rattle.gr_key_tree.specs.Inside.Root.{root_pairs}
use Rattle.gr_key_tree.proofs.Rising.{key_total}
use Rattle.gr_key_tree.proofs.Lookups.{lookup_nil, has_none}
use Rattle.gr_key_tree.proofs.Maps.{get_map, removes_map, less_removes}
use Rattle.gr_key_tree.proofs.tree.TreeKeyTable.removed.Goals as goal

pub removed-requires : goal.removed-requires
removed-requires g c =
    let whole : map_of (arc_value c.in-Some.node).pairs ≡ c.args.self.now = rw c.in-Some.is at c.self.view_is in
    rw (c.new.ensures, c.deref.ensures) (ap is_some (sym (get_map (arc_value c.in-Some.node).pairs c.args.key.now) ∙ ap (λ (m : KeyMap). get m c.args.key.now) whole) ∙ c.requires)

pub returns-in_ok-root-in-Some : goal.returns-in_ok-root-in-Some
returns-in_ok-root-in-Some g c =
    let whole : map_of (arc_value c.in-Some.node).pairs ≡ c.args.self.now = rw c.in-Some.is at c.self.view_is in
    let cmp = key_cmp g.K.KeyOrder.state_of in
    let o = key_total g.K.KeyOrder.state_of in
    let less : IsLess (key_cmp g.K.KeyOrder.state_of) (arc_value c.in-Some.node) c.args.key.now c.in_ok-less-in-Some.less = rw (c.deref.ensures, c.new.ensures) at c.in_ok-less-in-Some.ensures in
    removes_map cmp o (arc_value c.in-Some.node).pairs (root_pairs c.in_ok-root-in-Some.root) c.args.key.now (less_removes cmp o (arc_value c.in-Some.node) c.args.key.now c.in_ok-less-in-Some.less c.in_ok-root-in-Some.root less c.in_ok-root-in-Some.ensures)
    ∙ ap (λ (m : KeyMap). remove m c.args.key.now) whole

pub returns-in-None : goal.returns-in-None
returns-in-None g c =
    let whole : map_of [] ≡ c.args.self.now = rw c.in-None.is at c.self.view_is in
    absurd (has_none [] c.args.key.now (lookup_nil c.args.key.now) (ap is_some (sym (get_map [] c.args.key.now) ∙ ap (λ (m : KeyMap). get m c.args.key.now) whole) ∙ c.requires))
