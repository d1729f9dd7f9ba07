use Rattle.std.proofs.Common.{◌∙◌, sym, ap}
use Rattle.std.specs.Prelude.{is_some}
use Rattle.std.specs.FinMap.{get, remove}
use Rattle.gr_base.specs.Keys.{KeyMap}
use Rattle.gr_key_tree.specs.Order.{key_cmp}
use Rattle.gr_key_tree.proofs.Rising.{key_total}
use Rattle.gr_key_tree.proofs.Changes.{rising_removes}
use Rattle.gr_key_tree.proofs.Maps.{get_map, removes_map}
use Rattle.gr_key_tree.proofs.plain.PlainKeysKeyTable.removed.Goals as goal

pub removed-requires-clause-there : goal.removed-requires-clause-there
removed-requires-clause-there c =
    rw (c.as_slice.ensures.value, c.new.ensures) (ap is_some (sym (get_map c.self.inside.entries.items c.args.key.now) ∙ ap (λ (m : KeyMap). get m c.args.key.now) c.self.view_is) ∙ c.requires)

pub invariant_of-result : goal.invariant_of-result
invariant_of-result c =
    rising_removes (key_cmp (λ key. 0)) (key_total (λ key. 0)) c.self.inside.entries.items c.args.key.now c.in_ok-entries.entries.items c.self.invariant (rw (c.as_slice.ensures.value, c.new.ensures) at c.in_ok-entries.ensures)

pub returns : goal.returns
returns c =
    removes_map (key_cmp (λ key. 0)) (key_total (λ key. 0)) c.self.inside.entries.items c.in_ok-entries.entries.items c.args.key.now (rw (c.as_slice.ensures.value, c.new.ensures) at c.in_ok-entries.ensures) ∙ ap (λ (m : KeyMap). remove m c.args.key.now) c.self.view_is
