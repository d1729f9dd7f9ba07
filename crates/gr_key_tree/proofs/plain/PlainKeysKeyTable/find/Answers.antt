use Rattle.std.proofs.Common.{◌∙◌, sym, ap}
use Rattle.std.specs.FinMap.{get}
use Rattle.gr_base.specs.Keys.{KeyMap}
use Rattle.gr_key_tree.specs.Pairs.{lookup}
use Rattle.gr_key_tree.proofs.Maps.{get_map}
use Rattle.gr_key_tree.proofs.plain.PlainKeysKeyTable.find.Goals as goal

pub returns : goal.returns
returns c =
    c.find.ensures ∙ (λ i. lookup (c.as_slice.ensures.value i) (c.new.ensures i)) ∙ sym (get_map c.self.inside.entries.items c.args.key.now) ∙ ap (λ (m : KeyMap). get m c.args.key.now) c.self.view_is
