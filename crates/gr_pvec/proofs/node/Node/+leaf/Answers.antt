use Rattle.std.proofs.Common.{rules, ◌≡◌, ◌<◌, ◌+◌, ◌/◌, ◌∙◌, map, slice_get, sym, ap, arith, subst}
use Rattle.std.specs.Arc.{arc_value}
use Rattle.std.specs.Option.{option_copied}
use Rattle.gr_pvec.specs.Inside.Packed.{span, leaves_of, AreParts}
use Rattle.gr_pvec.specs.Inside.Parts.{shape_leaves, HasParts}
use Rattle.gr_pvec.proofs.Packed.{all_get}
use Rattle.gr_pvec.proofs.Parts.{get_part, past_parts}
use Rattle.gr_pvec.proofs.node.Node.+leaf.Goals as goal

pub returns-in_err-child-in-Nodes : goal.returns-in_err-child-in-Nodes
returns-in_err-child-in-Nodes g t c =
    let parts : AreParts c.self.inside.level (map arc_value c.in-Nodes.nodes.items) = subst (HasParts c.self.inside.level) c.in-Nodes.is c.self.invariant.parts in
    let whole : c.args.self.now.0 ≡ leaves_of (map arc_value c.in-Nodes.nodes.items) = ap (λ v. v.0) (sym c.self.view_is) ∙ ap shape_leaves c.in-Nodes.is in
    let past = past_parts c.self.inside.level _ parts c.args.k (sym (rw c.as_slice-in-Nodes.ensures.value at c.in_err-child-in-Nodes.ensures)) in
    ap option_copied c.from_residual.ensures ∙ sym (ap (λ leaves. slice_get leaves c.args.k) whole ∙ past)

pub returns-in_ok-child-in-Nodes : goal.returns-in_ok-child-in-Nodes
returns-in_ok-child-in-Nodes g t c =
    let parts : AreParts c.self.inside.level (map arc_value c.in-Nodes.nodes.items) = subst (HasParts c.self.inside.level) c.in-Nodes.is c.self.invariant.parts in
    let whole : c.args.self.now.0 ≡ leaves_of (map arc_value c.in-Nodes.nodes.items) = ap (λ v. v.0) (sym c.self.view_is) ∙ ap shape_leaves c.in-Nodes.is in
    let found = get_part c.self.inside.level _ parts c.args.k c.in_ok-child-in-Nodes.child.now (sym (rw c.as_slice-in-Nodes.ensures.value at c.in_ok-child-in-Nodes.ensures)) in
    c.leaf.ensures ∙ ap (slice_get c.in_ok-child-in-Nodes.child.now.0) c.low_bits.ensures ∙ found ∙ sym (ap (λ leaves. slice_get leaves c.args.k) whole)

pub leaf-requires : goal.leaf-requires
leaf-requires g t c κs within =
    let parts : AreParts c.self.inside.level (map arc_value c.in-Nodes.nodes.items) = subst (HasParts c.self.inside.level) c.in-Nodes.is c.self.invariant.parts in
    let at = sym (rw c.as_slice-in-Nodes.ensures.value at c.in_ok-child-in-Nodes.ensures) in
    let low : c.in_ok-child-in-Nodes.child.now.1 + 1 ≡ c.self.inside.level = all_get (λ node. node.1 + 1 ≡ c.self.inside.level) _ (c.args.k / span c.self.inside.level) c.in_ok-child-in-Nodes.child.now parts.below at in
    let level : c.self.inside.level ≡ c.args.self.now.1 = ap (λ v. v.1) c.self.view_is in
    let falls : c.in_ok-child-in-Nodes.child.now.1 < c.args.self.now.1 = omega (arith, low, level) in
    search rules
