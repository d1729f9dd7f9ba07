-- One more period is kept; each number is one of words of the phrase.
use Rattle.std.proofs.Common.{rules, refl, arith}
use Rattle.gr_tokens.specs.Tokens.{words}
use Rattle.gr_tokens.proofs.PeriodLemmas.{below-kept}
use Rattle.gr_tokens.proofs.WordLemmas.{length-words}
use Rattle.gr_tokens.proofs.periods.Periods.keep.Goals as goal

pub overflow_add-reach : goal.overflow_add-reach
overflow_add-reach c = let few = length-words c.args.phrase.now in search rules

pub overflow_mul-place : goal.overflow_mul-place
overflow_mul-place c = let few = length-words c.args.phrase.now in search rules

pub overflow_add-self : goal.overflow_add-self
overflow_add-self c = let few = length-words c.args.phrase.now in search rules

pub returns-in-Ok-clause-below : goal.returns-in-Ok-clause-below
returns-in-Ok-clause-below c =
    below-kept (words c.args.phrase.now) c.args.self.now _ _ c.args.place c.args.matched c.requires.some c.requires.within refl c.max.ensures refl c.requires.after c.requires.again c.requires.below c.in-Ok.ensures.ok refl refl (omega arith)
