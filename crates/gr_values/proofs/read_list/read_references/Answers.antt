use Rattle.std.proofs.Common.{rules, ◌≡◌, ◌∷◌, refl}
use Rattle.std.specs.Vec.Iter.{into_iter_items}
use Rattle.gr_values.proofs.References.{AreKept-more, keys-more}
use Rattle.gr_values.proofs.read_list.read_references.Goals as goal

pub loop-value-preserved : goal.loop-value-preserved
loop-value-preserved c =
    let next : into_iter_items c.loop-value.value-iterator ≡ c.in-Some.value ∷ into_iter_items c.next.new.self = search rules in
    record {
      can_next = search rules;
      finite = search rules;
      kept = AreKept-more c.in_ok-read_item.field-0 (c.in_ok-read_item.ensures.exact.found _ refl) c.in_ok-push_reference.ensures (rw next at c.loop-value.invariant.kept);
      each = rw c.in_ok-push_reference.ensures (keys-more _ _ _ c.requires c.in_ok-read_item.ensures.fits c.loop-value.invariant.each);
    }
