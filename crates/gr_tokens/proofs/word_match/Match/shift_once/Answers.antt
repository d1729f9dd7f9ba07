-- The words after a period still match.
use Rattle.std.proofs.Common.{◌≡◌, ◌≤◌, ◌+◌, ◌-◌, take, drop, length, sym, ap, ◌∙◌, arith}
use Rattle.std.proofs.lemmas.List.{drop-drop, length-drop}
use Rattle.gr_tokens.specs.Tokens.{words}
use Rattle.gr_tokens.proofs.Shifts.{take-period}
use Rattle.gr_tokens.proofs.word_match.Match.shift_once.Goals as goal

pub returns-clause-is_match : goal.returns-clause-is_match
returns-clause-is_match c =
    let is_match = c.requires.is_match in
    let kept = c.requires.kept in
    let text = words c.args.self.now.text.now in
    let phrase = words c.args.self.now.phrase.now in
    let k = c.args.self.now.matched in
    let p = c.args.period.now.words in
    let within : p ≤ k = omega (arith, kept.short, c.requires.covers.0) in
    let on : p + (k - p) ≡ k = omega arith in
    let at : words c.after_words-self.result.now ≡ drop p text = c.after_words-self.ensures in
    record {
      few = is_match.few;
      same = ap (take (k - p)) at ∙ take-period k p text phrase within is_match.same (kept.again k c.requires.covers);
      in_phrase = omega (arith, is_match.in_phrase);
      in_text = let left = ap length at ∙ length-drop p text in omega (arith, left, is_match.in_text);
      after = is_match.after ∙ sym (drop-drop (k - p) p text ∙ ap (λ n. drop n text) on) ∙ ap (drop (k - p)) (sym at);
      wanted = kept.after ∙ ap (λ n. drop (n - p) phrase) (sym c.requires.reach);
    }
