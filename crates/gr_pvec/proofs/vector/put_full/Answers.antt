use Rattle.std.proofs.Common.{◌<◌, ◌/◌, ◌∙◌, length, slice_set, ap, sym, subst}
use Rattle.std.specs.Arc.{arc_value}
use Rattle.gr_pvec.specs.declared.leaf.TheConstants.{ROOM}
use Rattle.gr_pvec.specs.Inside.Packed.{elements, AreFull, leaf_at, changed_at}
use Rattle.gr_pvec.specs.Inside.Parts.{full_leaves, full_items}
use Rattle.gr_pvec.proofs.Arcs.{on_ok}
use Rattle.gr_pvec.proofs.Owned.{either}
use Rattle.gr_pvec.proofs.Filled.{leaf_there, leaf_holds, set_full, changed_full}
use Rattle.gr_pvec.proofs.vector.put_full.Goals as goal

pub put-requires-clause-place : goal.put-requires-clause-place
put-requires-clause-place g c =
    let full : AreFull ROOM (arc_value c.in-Some.node).0 = subst (λ o. AreFull ROOM (full_leaves o)) c.in-Some.is c.requires.full in
    let within : c.args.i < length (elements (arc_value c.in-Some.node).0) = subst (λ o. c.args.i < length (full_items o)) c.in-Some.is c.requires.within in
    leaf_there (arc_value c.in-Some.node).0 full c.args.i within

pub put-requires-clause-within : goal.put-requires-clause-within
put-requires-clause-within g c =
    let full : AreFull ROOM (arc_value c.in-Some.node).0 = subst (λ o. AreFull ROOM (full_leaves o)) c.in-Some.is c.requires.full in
    let within : c.args.i < length (elements (arc_value c.in-Some.node).0) = subst (λ o. c.args.i < length (full_items o)) c.in-Some.is c.requires.within in
    subst (λ j. j < length (leaf_at (arc_value c.in-Some.node).0 (c.args.i / 32))) (sym c.low_bits.ensures) (leaf_holds (arc_value c.in-Some.node).0 full c.args.i within)

pub returns-clause-full : goal.returns-clause-full
returns-clause-full g c =
    let full : AreFull ROOM (arc_value c.in-Some.node).0 = subst (λ o. AreFull ROOM (full_leaves o)) c.in-Some.is c.requires.full in
    let within : c.args.i < length (elements (arc_value c.in-Some.node).0) = subst (λ o. c.args.i < length (full_items o)) c.in-Some.is c.requires.within in
    let bits = c.low_bits.ensures in
    either c.put.result c.put.ensures.ok c.put.ensures.err
    (λ made. subst (AreFull ROOM) (sym (ap (λ v. v.0) made)) (subst (λ j. AreFull ROOM (changed_at (arc_value c.in-Some.node).0 (c.args.i / 32) j (arc_value c.args.value))) (sym bits) (changed_full (arc_value c.in-Some.node).0 full c.args.i (arc_value c.args.value) within)))
    (λ same. subst (AreFull ROOM) (sym (ap (λ v. v.0) same)) full)

pub returns-clause-ok : goal.returns-clause-ok
returns-clause-ok g c =
    let full : AreFull ROOM (arc_value c.in-Some.node).0 = subst (λ o. AreFull ROOM (full_leaves o)) c.in-Some.is c.requires.full in
    let within : c.args.i < length (elements (arc_value c.in-Some.node).0) = subst (λ o. c.args.i < length (full_items o)) c.in-Some.is c.requires.within in
    let bits = c.low_bits.ensures in
    on_ok c.put.result (λ made. ap elements (ap (λ v. v.0) made ∙ ap (λ j. changed_at (arc_value c.in-Some.node).0 (c.args.i / 32) j (arc_value c.args.value)) bits) ∙ set_full (arc_value c.in-Some.node).0 full c.args.i (arc_value c.args.value) within ∙ ap (λ o. slice_set (full_items o) c.args.i (arc_value c.args.value)) (sym c.in-Some.is)) c.put.ensures.ok
