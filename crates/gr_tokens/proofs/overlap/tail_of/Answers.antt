-- The phrase's last bytes, where those before them stand `apart` on.
use Rattle.std.proofs.Common.{◌-◌, length, take, drop}
use Rattle.std.proofs.lemmas.Bool.Decides.{Decides-eqb}
use Rattle.std.proofs.lemmas.List.{take_rest}
use Rattle.std.proofs.lemmas.Slice.Eq.{slice_eq-Decides}
use Rattle.gr_tokens.proofs.overlap.tail_of.Goals as goal

pub returns-then-eq : goal.returns-then-eq
returns-then-eq c =
    let n = length c.args.phrase.now - c.args.apart in
    let same = (slice_eq-Decides Decides-eqb (take n (drop c.args.apart c.args.phrase.now)) (take n c.args.phrase.now) c.eq.result c.eq.ensures).0 c.if-eq.true in
    (record { again = same }, take_rest c.args.phrase.now (length c.args.phrase.now - c.args.apart))
