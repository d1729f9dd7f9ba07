use Rattle.std.proofs.Common.{ap, sym, ◌∙◌, ◌≡◌, length, map}
use Rattle.std.proofs.lemmas.List.{length-map}
use Rattle.gr_chunks.specs.Segments.{postings_of}
use Rattle.gr_index.specs.Inside.Parts.{held_of}
use Rattle.gr_index.proofs.PartLemmas.{held-postings, postings-parts_of}
use Rattle.gr_index.proofs.parts.Parts.segments.Goals as goal

pub returns : goal.returns
returns c =
    let ss = c.self.inside.spans.items in
    let gs = c.self.inside.segments.items in
    let e : length ss ≡ length (map held_of gs) = c.self.invariant ∙ sym (length-map gs held_of) in
    ap (map postings_of) c.as_slice.ensures.value ∙ (held-postings gs ∙ (sym (postings-parts_of ss (map held_of gs) e) ∙ ap (map (λ p. p.postings)) c.self.view_is))
