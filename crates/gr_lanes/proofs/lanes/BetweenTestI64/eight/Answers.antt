use Rattle.std.proofs.Common.{rules, ◌∙◌, ◌&&◌, ap, ap₂, bit_and}
use mir.Syntax.{w64}
use mir.Val.{SFits}
use Rattle.std.specs.Ordering.{int_cmp}
use Rattle.std.proofs.lemmas.Int.{to_z-of_z}
use Rattle.gr_base.specs.Compare.{is_met}
use Rattle.gr_base.specs.declared.compare.Cmp.TheVariants.{Le, Ge}
use Rattle.gr_lanes.specs.Mask.{compares_signed, is_between}
use Rattle.gr_lanes.proofs.Masks.{both_pass}
use Rattle.gr_lanes.proofs.Signs.{from_low}
use Rattle.gr_lanes.proofs.lanes.BetweenTestI64.eight.Goals as goal

pub returns : goal.returns
returns c =
    let low = c.args.self.now.low in
    let high = c.args.self.now.high in
    let low_fits : SFits w64 c.args.self.now.low = search rules in
    let high_fits : SFits w64 c.args.self.now.high = search rules in
    ap₂ bit_and (rw (to_z-of_z w64 low low_fits) at c.compare_signed.ensures) (rw (to_z-of_z w64 high high_fits) at c.compare_signed-2.ensures)
    ∙ both_pass (compares_signed Ge low) (compares_signed Le high) (is_between low high) c.args.values.now (λ x. ap (λ b. b && is_met Le (int_cmp x high)) (from_low x low))
