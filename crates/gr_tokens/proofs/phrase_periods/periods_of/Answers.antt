-- The phrase is looked for further on.
use Rattle.std.proofs.Common.{◌≡◌, ◌+◌, ◌-◌, take, drop, length, sym, ap, ◌∙◌, arith}
use Rattle.std.proofs.lemmas.List.{drop-drop, length-drop}
use Rattle.gr_tokens.specs.Tokens.{words}
use Rattle.gr_tokens.proofs.PeriodLemmas.{below-on}
use Rattle.gr_tokens.proofs.phrase_periods.periods_of.Goals as goal

pub loop-periods-preserved : goal.loop-periods-preserved
loop-periods-preserved c =
    let phrase = words c.args.phrase.now in
    let place = c.loop-periods.place in
    let k = c.extend-stop.new.self.matched in
    let s = c.shift-place.result in
    let stops = rw c.in-Differs.is at c.extend-stop.ensures.stops in
    let text_is : words c.extend-stop.new.self.text.now ≡ drop place phrase = ap words c.extend-stop.ensures.text ∙ c.loop-periods.invariant.text in
    let phrase_is : words c.extend-stop.new.self.phrase.now ≡ phrase = ap words (c.extend-stop.ensures.phrase ∙ c.loop-periods.invariant.phrase) in
    let left = ap length text_is ∙ length-drop place phrase in
    record {
      is_match = c.shift-place.ensures.is_match;
      phrase = c.shift-place.ensures.phrase ∙ c.extend-stop.ensures.phrase ∙ c.loop-periods.invariant.phrase;
      text = c.shift-place.ensures.text ∙ ap (drop s) text_is ∙ drop-drop s place phrase;
      least = omega (arith, c.loop-periods.invariant.least);
      most = omega (arith, left, stops.0, c.shift-place.ensures.high);
      all = c.if-not-periods.false;
      below = below-on phrase c.keep.new.self place k s (c.keep.ensures.reach c.if-not-periods.false)
          (λ more. stops.2 (ap (take (k + 1)) text_is ∙ more ∙ sym (ap (take (k + 1)) phrase_is)))
          (λ q above below more. c.shift-place.ensures.passed q above below (ap (λ l. take (k + 1 - q) (drop q l)) text_is ∙ more ∙ sym (ap (take (k + 1 - q)) phrase_is)))
          c.keep.ensures.below;
    }
