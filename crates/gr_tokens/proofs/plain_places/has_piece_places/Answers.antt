-- The words of a plain text are its pieces, and a phrase of one word is one piece.
use Rattle.std.proofs.Common.{ap₂, arith}
use Rattle.std.specs.Str.{bytes_eq}
use Rattle.gr_tokens.specs.Places.{places}
use Rattle.gr_tokens.specs.Tokens.{is_space}
use Rattle.gr_tokens.proofs.PlainLemmas.{places-one_word}
use Rattle.gr_tokens.proofs.SpaceLemmas.{slice_split-none}
use Rattle.gr_tokens.proofs.plain_places.has_piece_places.Goals as goal

pub returns-in-Some : goal.returns-in-Some
returns-in-Some c = λ is. ap₂ (places bytes_eq) (c.is_plain.ensures.words is) c.requires

pub returns-in-None : goal.returns-in-None
returns-in-None c =
    λ _. places-one_word c.args.text.now c.args.phrase.now c.requires (slice_split-none is_space c.args.phrase.now (λ k below. c.in-None.ensures k (omega arith) below))
