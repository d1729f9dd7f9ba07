use Rattle.std.proofs.Common.{◌≡◌, ◌≤◌, ◌*◌, ◌%◌, ◌^◌, arith}
use Rattle.std.proofs.Math.Nat.{mod-eq_of_lt, pow-le-pow_right}
use Rattle.std.proofs.lemmas.Nat.{and_mask}
use Rattle.gr_pvec.proofs.node.low_bits.Goals as goal

pub returns : goal.returns
returns c =
    let few : 2 ^ c.args.shift ≤ 2 ^ 63 = pow-le-pow_right {n = 2} (omega arith) {i = c.args.shift} {j = 63} (omega (arith, c.requires)) in
    let fits : 1 * 2 ^ c.args.shift % 18446744073709551616 ≡ 1 * 2 ^ c.args.shift = mod-eq_of_lt (omega (arith, few)) in
    let one : 1 * 2 ^ c.args.shift ≡ 2 ^ c.args.shift = omega arith in
    rw (fits, one) (and_mask c.args.k c.args.shift)
