-- Places by characters are places by bytes.
use Rattle.std.proofs.Common.{ap, ◌∙◌, min}
use Rattle.gr_tokens.proofs.CharacterBytes.{places-chars}
use Rattle.gr_tokens.proofs.character_places.character_places.Goals as goal

pub returns : goal.returns
returns c =
    let same = places-chars c.args.text.now c.args.phrase.now c.utf8.text c.utf8.phrase in
    let counted = rw (c.as_bytes.ensures.value, c.as_bytes-2.ensures.value) at c.byte_places.ensures in
    counted ∙ ap (λ n. min n 2147483647) same
