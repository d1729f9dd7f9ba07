-- No place is passed over.
use Rattle.std.proofs.Common.{◌≡◌, ◌+◌, ◌/◌, arith}
use Rattle.std.proofs.lemmas.List.Elements.{All-contains}
use Rattle.gr_tokens.specs.Inside.Kept.{IsKept}
use Rattle.gr_tokens.specs.Tokens.{words}
use Rattle.gr_tokens.proofs.Passing.{passes-shorter}
use Rattle.gr_tokens.proofs.word_match.Match.shift.Goals as goal
use Rattle.gr_tokens.proofs.word_match.Match.shift.Goals.{then-periods, else-periods}

pub returns-then-self-period-clause-passed : goal.returns-then-self-period-clause-passed
returns-then-self-period-clause-passed c q above below =
    let phrase = words c.args.self.now.phrase.now in
    let found = c.in-Some.ensures in
    let kept = All-contains (IsKept phrase) c.args.periods.now.kept.items c.in-Some.period c.requires.kept found.0 in
    passes-shorter (words c.args.self.now.text.now) phrase c.args.self.now.matched c.requires.is_match.same c.in-Some.period.words q (kept.least c.args.self.now.matched found.1) above below (omega (arith, kept.short, found.1.0))

pub returns-after-periods-clause-passed : goal.returns-after-periods-clause-passed
returns-after-periods-clause-passed c q above below =
    elim c.if-periods.branch [
      | then-periods w ↦
          let third : c.if-periods.words ≡ c.args.self.now.matched / 3 + 1 = w.words-is in
          passes-shorter (words c.args.self.now.text.now) (words c.args.self.now.phrase.now) c.args.self.now.matched c.requires.is_match.same (c.args.self.now.matched / 3 + 1) q (c.requires.known w.if-periods.true c.in-None.ensures) above (omega arith) (omega arith)
      | else-periods w ↦ let one : c.if-periods.words ≡ 1 = w.words-is in absurd (omega arith)
    ]
