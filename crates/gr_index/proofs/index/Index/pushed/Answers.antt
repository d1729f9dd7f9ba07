use Rattle.std.proofs.Common.{◌≡◌, ℕ, ◌+◌, ◌<◌, ◌≤◌, false, List, [], ◌∷◌, ◌++◌, ap, sym, subst, ◌∙◌}
use Rattle.std.specs.List.{count_by}
use Rattle.std.proofs.lemmas.List.Elements.{recursion_from_All}
use Rattle.gr_postings.specs.declared.posting.Posting.{Posting}
use Rattle.gr_index.specs.declared.limits.TheConstants.{MOST_SEGMENTS}
use Rattle.gr_index.specs.Levels.{AreLevels, Levels, Part, end_of, is_of_level}
use Rattle.gr_index.proofs.IndexLemmas.{pushed}
use Rattle.gr_index.proofs.index.Index.pushed.Goals as goal

pub invariant_of-result : goal.invariant_of-result
invariant_of-result c =
    let place = c.self.inside.place in
    let parts = c.self.inside.parts in
    let n = c.args.place in
    let made : ℕ → List Posting → List Part = λ from ps. parts ++ record { level = 0; from = from; to = n + 1; is_chunk = false; postings = ps } ∷ [] in
    let room = subst (λ (v : Levels). count_by (is_of_level 0) v.parts < MOST_SEGMENTS) (sym c.self.view_is) c.requires.room in
    let later = subst (λ (v : Levels). end_of v.place v.parts ≤ n) (sym c.self.view_is) c.requires.later in
    let from = c.end-from.ensures ∙ ap (λ (v : Levels). end_of v.place v.parts) (sym c.self.view_is) in
    let places = recursion_from_All (λ (p : Posting). p.place ≡ n) c.args.buffer c.requires.one_place in
    subst (AreLevels place) (sym (c.in_ok-pushed.ensures ∙ (ap (λ k. made k c.in_ok-new.field-0.value) from ∙ ap (made (end_of place parts)) c.in_ok-new.ensures.ok)))
    (pushed place parts n c.args.buffer c.self.invariant room later places c.all.ensures.order)
