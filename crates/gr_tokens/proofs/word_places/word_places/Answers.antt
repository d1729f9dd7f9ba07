-- A place is counted where the whole phrase matches, and none is passed over.
use Rattle.std.proofs.Common.{◌≡◌, ◌<◌, ◌+◌, cond, length, drop, sym, ap, ap₂, ◌∙◌, arith}
use Rattle.std.proofs.lemmas.Slice.Eq.{bytes_eq-Decides}
use Rattle.std.specs.Str.{bytes_eq}
use Rattle.gr_tokens.specs.Places.{places}
use Rattle.gr_tokens.specs.Tokens.{words}
use Rattle.gr_tokens.proofs.Passing.{places-passed, places-short, starts-no, starts-yes}
use Rattle.gr_tokens.proofs.PlaceSteps.{places-no_elements}
use Rattle.gr_tokens.proofs.word_places.word_places.Goals as goal
use Rattle.gr_tokens.proofs.word_places.word_places.Goals.{in-Whole, in-Differs}

pub returns-in_default : goal.returns-in_default
returns-in_default c =
    let none = places-no_elements bytes_eq (words c.args.text.now) (words c.args.phrase.now) (ap length c.in_default.ensures) in
    omega (arith, none)

pub returns-in-End : goal.returns-in-End
returns-in-End c =
    let stops = c.in-End.ensures.stops in
    let text_is = ap length (ap words c.extend.ensures.text) in
    let phrase_is = ap length (ap words (c.extend.ensures.phrase ∙ c.loop-count.invariant.phrase)) in
    let none = places-short bytes_eq bytes_eq-Decides (words c.args.phrase.now) (words c.loop-count.here.text.now) (omega (arith, stops, text_is, phrase_is)) in
    omega (arith, none, c.loop-count.invariant.most, c.loop-count.invariant.counted)

pub loop-count-preserved : goal.loop-count-preserved
loop-count-preserved c =
    let text = words c.extend.new.self.text.now in
    let phrase = words c.extend.new.self.phrase.now in
    let k = c.extend.new.self.matched in
    let s = c.shift.result in
    let is_match = c.extend.ensures.is_match in
    let phrase_is : phrase ≡ words c.args.phrase.now = ap words (c.extend.ensures.phrase ∙ c.loop-count.invariant.phrase) in
    let before_is : places bytes_eq (words c.loop-count.here.text.now) (words c.args.phrase.now) ≡ places bytes_eq text phrase = sym (ap₂ (places bytes_eq) (ap words c.extend.ensures.text) phrase_is) in
    let after_is : places bytes_eq (words c.shift.new.self.text.now) (words c.args.phrase.now) ≡ places bytes_eq (drop s text) phrase = ap₂ (places bytes_eq) c.shift.ensures.text (sym phrase_is) in
    let some : 0 < length phrase = let first = ap length (phrase_is ∙ c.in-Some.ensures) in omega arith in
    let before = c.loop-count.invariant.counted in
    let phrase_same = c.shift.ensures.phrase ∙ c.extend.ensures.phrase ∙ c.loop-count.invariant.phrase in
    elim c.match-extend.branch [
      | in-Whole w ↦
          let whole = w.in-Whole.ensures.stops in
          let begins = starts-yes bytes_eq bytes_eq-Decides k text phrase whole is_match.same in
          let split = places-passed bytes_eq bytes_eq-Decides phrase text k s some is_match.in_phrase c.shift.ensures.low (omega (arith, is_match.in_text)) c.shift.ensures.passed ∙ ap (λ b. cond b 1 0 + places bytes_eq (drop s text) phrase) begins in
          let counted = w.one_more-count.ensures in
          record {
            is_match = c.shift.ensures.is_match;
            phrase = phrase_same;
            most = omega (arith, w.count-is, counted);
            counted = omega (arith, w.count-is, counted);
          }
      | in-Differs w ↦
          let stops = w.in-Differs.ensures.stops in
          let differs = starts-no bytes_eq bytes_eq-Decides (k + 1) text phrase (omega (arith, stops.1)) stops.2 in
          let split = places-passed bytes_eq bytes_eq-Decides phrase text k s some is_match.in_phrase c.shift.ensures.low (omega (arith, stops.0)) c.shift.ensures.passed ∙ ap (λ b. cond b 1 0 + places bytes_eq (drop s text) phrase) differs in
          record {
            is_match = c.shift.ensures.is_match;
            phrase = phrase_same;
            most = omega (arith, w.count-is, c.loop-count.invariant.most);
            counted = omega (arith, w.count-is);
          }
    ]
