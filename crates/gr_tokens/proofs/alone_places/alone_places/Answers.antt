-- Where the phrase stands nowhere.
use Rattle.std.proofs.Common.{true, arith}
use Rattle.gr_tokens.proofs.AloneSteps.{alone-none}
use Rattle.gr_tokens.proofs.alone_places.alone_places.Goals as goal

pub returns : goal.returns
returns c =
    let none = rw c.new-finder.ensures at c.in-None.ensures.first in
    let places = alone-none c.args.phrase.now true c.args.text.now none in
    omega (arith, places)
