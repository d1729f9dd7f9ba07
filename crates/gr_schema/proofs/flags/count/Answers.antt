use Rattle.std.proofs.Common.{◌≡◌, ◌+◌, ◌∷◌, [], ◌∙◌, List, ℕ, add-zero, add_assoc, arith, ap, length, map, sym}
use Rattle.std.specs.List.{slice_split}
use Rattle.gr_schema.specs.Flags.{count_of, is_bar}
use Rattle.gr_schema.proofs.WordsLemmas.{any_word, count_cons, one_at_most}
use Rattle.gr_schema.proofs.flags.count.Goals as goal

pub pieces-preserved : goal.pieces-preserved
pieces-preserved c =
    let words : List (List ℕ) = map (λ word. word.now) c.args.words.now in
    let more = count_cons words c.in-Some.piece.now (slice_split is_bar c.in-Some.after.now) c.is_one_of.result (c.is_one_of.ensures ∙ any_word c.args.words.now c.in-Some.piece.now) in
    record {
      counted =
          c.pieces.invariant.counted
          ∙ ap (λ n. c.pieces.found + n) (ap (count_of words) c.in-Some.ensures.pieces ∙ more)
          ∙ sym (add_assoc _ _ _);
      few = omega (arith, one_at_most c.is_one_of.result, c.in-Some.ensures.shorter, c.pieces.invariant.few);
    }

pub returns : goal.returns
returns c =
    let words : List (List ℕ) = map (λ word. word.now) c.args.words.now in
    let last = count_cons words c.pieces.rest.now [] c.is_one_of-2.result (c.is_one_of-2.ensures ∙ any_word c.args.words.now c.pieces.rest.now) in
    sym (c.pieces.invariant.counted
    ∙ ap (λ n. c.pieces.found + n) (ap (count_of words) c.in_default.ensures.pieces ∙ last ∙ add-zero _))
