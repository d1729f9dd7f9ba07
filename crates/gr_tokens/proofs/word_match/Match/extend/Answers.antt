-- The next words are the same, or the match ends.
use Rattle.std.proofs.Common.{rules, Bool, true, false, not, true≢false, ◌≡◌, ◌≢◌, refl, sym, ◌∙◌, arith}
use Rattle.std.proofs.lemmas.Slice.Eq.{bytes_eq-Decides}
use Rattle.gr_tokens.specs.Tokens.{words}
use Rattle.gr_tokens.proofs.Passing.{IsNext-drop, drop-none, take-one_more, take-differs}
use Rattle.gr_tokens.proofs.word_match.Match.extend.Goals as goal

-- what is not so
from_not : (r b s : Bool) → r ≡ not b → r ≡ not s → b ≡ s
from_not r true true is e = refl
from_not r false false is e = refl
from_not r true false is e = absurd (true≢false (sym e ∙ is))
from_not r false true is e = absurd (true≢false (sym is ∙ e))

pub returns-in_default-first_word-clause-stops : goal.returns-in_default-first_word-clause-stops
returns-in_default-first_word-clause-stops c =
    let is_match = c.loop-after.invariant.is_match in
    drop-none (words c.loop-after.self.phrase.now) c.loop-after.self.matched is_match.in_phrase (sym is_match.wanted ∙ c.in_default-first_word.ensures)

pub returns-in_default-first_word-2-clause-stops : goal.returns-in_default-first_word-2-clause-stops
returns-in_default-first_word-2-clause-stops c =
    let is_match = c.loop-after.invariant.is_match in (
      drop-none (words c.loop-after.self.text.now) c.loop-after.self.matched is_match.in_text (sym is_match.after ∙ c.in_default-first_word-2.ensures),
      (IsNext-drop (words c.loop-after.self.phrase.now) c.loop-after.self.matched _ _ (sym is_match.wanted ∙ c.in-Some-first_word.ensures)).within,
    )

pub returns-then-ne-clause-stops : goal.returns-then-ne-clause-stops
returns-then-ne-clause-stops c =
    let is_match = c.loop-after.invariant.is_match in
    let in_phrase = sym is_match.wanted ∙ c.in-Some-first_word.ensures in
    let in_text = sym is_match.after ∙ c.in-Some-first_word-2.ensures in
    let apart : c.in-Some-first_word-2.word.now ≢ c.in-Some-first_word.wanted.now = λ same. true≢false (sym ((bytes_eq-Decides c.in-Some-first_word-2.word.now c.in-Some-first_word.wanted.now).1 same) ∙ from_not c.ne.result _ false c.ne.ensures c.if-ne.true) in (
      (IsNext-drop (words c.loop-after.self.text.now) c.loop-after.self.matched _ _ in_text).within,
      (IsNext-drop (words c.loop-after.self.phrase.now) c.loop-after.self.matched _ _ in_phrase).within,
      take-differs (words c.loop-after.self.text.now) (words c.loop-after.self.phrase.now) c.loop-after.self.matched is_match.same _ _ _ _ in_text in_phrase apart,
    )

pub overflow_add-self : goal.overflow_add-self
overflow_add-self c =
    let is_match = c.loop-after.invariant.is_match in
    let within = (IsNext-drop (words c.loop-after.self.phrase.now) c.loop-after.self.matched _ _ (sym is_match.wanted ∙ c.in-Some.ensures.2)).within in
    let few = is_match.few in
    search rules

pub loop-after-preserved-in-Some : goal.loop-after-preserved-in-Some
loop-after-preserved-in-Some c =
    let is_match = c.loop-after.invariant.is_match in
    let in_text = sym is_match.after ∙ c.in-Some.ensures.1 in
    let in_phrase = sym is_match.wanted ∙ c.in-Some.ensures.2 in
    let of_text = IsNext-drop (words c.loop-after.self.text.now) c.loop-after.self.matched _ _ in_text in
    let of_phrase = IsNext-drop (words c.loop-after.self.phrase.now) c.loop-after.self.matched _ _ in_phrase in
    record {
      is_match = record {
        same = take-one_more (words c.loop-after.self.text.now) (words c.loop-after.self.phrase.now) c.loop-after.self.matched is_match.same _ _ _ _ in_text in_phrase refl;
        few = is_match.few;
        in_phrase = omega (arith, of_phrase.within);
        in_text = omega (arith, of_text.within);
        after = sym of_text.rest;
        wanted = sym of_phrase.rest;
      };
      phrase = c.loop-after.invariant.phrase;
      text = c.loop-after.invariant.text;
    }

pub loop-after-preserved : goal.loop-after-preserved
loop-after-preserved c =
    let is_match = c.loop-after.invariant.is_match in
    let in_phrase = sym is_match.wanted ∙ c.in-Some-first_word.ensures in
    let in_text = sym is_match.after ∙ c.in-Some-first_word-2.ensures in
    let same : c.in-Some-first_word-2.word.now ≡ c.in-Some-first_word.wanted.now = (bytes_eq-Decides c.in-Some-first_word-2.word.now c.in-Some-first_word.wanted.now).0 (from_not c.ne.result _ true c.ne.ensures c.if-ne.false) in
    let of_text = IsNext-drop (words c.loop-after.self.text.now) c.loop-after.self.matched _ _ in_text in
    let of_phrase = IsNext-drop (words c.loop-after.self.phrase.now) c.loop-after.self.matched _ _ in_phrase in
    record {
      is_match = record {
        few = is_match.few;
        same = take-one_more (words c.loop-after.self.text.now) (words c.loop-after.self.phrase.now) c.loop-after.self.matched is_match.same _ _ _ _ in_text in_phrase same;
        in_phrase = omega (arith, of_phrase.within);
        in_text = omega (arith, of_text.within);
        after = sym of_text.rest;
        wanted = sym of_phrase.rest;
      };
      phrase = c.loop-after.invariant.phrase;
      text = c.loop-after.invariant.text;
    }
