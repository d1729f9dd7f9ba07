-- The places among the pieces are those among the words.
use Rattle.std.proofs.Common.{◌∙◌, ap, sym, min}
use Rattle.gr_tokens.proofs.Pieces.{places_alone-pieces}
use Rattle.gr_tokens.proofs.plain_places.plain_places.Goals as goal

pub returns-then-has_piece_places : goal.returns-then-has_piece_places
returns-then-has_piece_places c =
    let same = c.has_piece_places.ensures c.if-has_piece_places.true in
    let some = c.is_plain.ensures.some c.if-is_plain.true in
    c.alone_places.ensures ∙ ap (λ n. min n 2147483647) (places_alone-pieces c.args.phrase.now some c.args.text.now ∙ sym same)
