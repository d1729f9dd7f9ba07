-- One more period is passed over.
use Rattle.std.proofs.Common.{◌≤◌, ◌+◌, ◌-◌, drop, sym, ap, ◌∙◌, arith}
use Rattle.std.proofs.lemmas.List.{drop-drop}
use Rattle.gr_tokens.specs.Tokens.{words}
use Rattle.gr_tokens.proofs.Passing.{passes-more, passes-period, take-drop-drop, take-one_less}
use Rattle.gr_tokens.proofs.Shifts.{take-period}
use Rattle.gr_tokens.proofs.word_match.Match.shift_often.Goals as goal

pub loop-self-preserved : goal.loop-self-preserved
loop-self-preserved c =
    let before = c.loop-self.invariant in
    let kept = c.requires.kept in
    let text = words c.args.self.now.text.now in
    let phrase = words c.args.self.now.phrase.now in
    let all = c.args.self.now.matched in
    let k = c.loop-self.self.matched in
    let w = c.loop-self.shift in
    let p = c.args.period.now.words in
    let from = c.loop-self-test.true in
    let within : p ≤ k = omega (arith, kept.short) in
    let fits : k + 1 ≤ c.args.period.now.reach = omega (arith, before.sum, c.requires.short) in
    record {
      phrase = before.phrase;
      after = before.after;
      sum = omega (arith, before.sum);
      text = c.after_words-self.ensures ∙ ap (drop p) before.text ∙ drop-drop p w text;
      same = sym (take-drop-drop (k - p) w p (w + p) text (omega arith)) ∙ take-period k p (drop w text) phrase within before.same (kept.again k (from, omega arith));
      longest = λ more. passes-period (drop w text) phrase k before.same p within (kept.again (k + 1) (omega arith, fits)) before.longest (take-one_less text phrase k p w within more);
      first = λ none. absurd (omega (arith, kept.some));
      passed = passes-more text phrase all w k p before.sum within before.same (kept.least k (from, omega arith)) before.longest before.passed;
    }
