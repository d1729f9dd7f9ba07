use Rattle.std.proofs.Common.{◌≡◌, ◌+◌, ◌≤◌, ap, drop, length, arith}
use Rattle.std.proofs.lemmas.List.{length-drop}
use Rattle.gr_cmdline.proofs.Found.{IsSearched-pass}
use Rattle.gr_cmdline.proofs.buffer.Buffer.pass.Goals as goal

pub invariant_of-self : goal.invariant_of-self
invariant_of-self c =
    let left : length (drop c.self.inside.at c.self.inside.bytes.items) ≡ length c.args.self.now.bytes = ap (λ s. length s.bytes) c.self.view_is in
    let within : c.self.inside.at + c.args.len ≤ length c.self.inside.bytes.items = omega (arith, length-drop c.self.inside.at c.self.inside.bytes.items) in
    rw c.max-self-inside.ensures (IsSearched-pass c.self.inside.bytes.items c.self.inside.at c.self.inside.searched c.args.len c.self.invariant within)
