use Rattle.std.proofs.Common.{◌≤◌, ◌<◌, true, List, [], ◌∷◌, ◌++◌, take, drop, refl, sym, ap, subst, ◌∙◌}
use Rattle.std.proofs.lemmas.List.Elements.{recursion_from_All}
use Rattle.gr_postings.specs.declared.posting.Posting.{Posting}
use Rattle.gr_index.specs.Levels.{AreLevels, Levels}
use Rattle.gr_index.specs.Inside.Located.{IsSpanFor}
use Rattle.gr_index.specs.Inside.Parts.{Held, part_of}
use Rattle.gr_index.proofs.ReplacedLemmas.{replaced}
use Rattle.gr_index.proofs.UpLemmas.{span_after}
use Rattle.gr_index.proofs.index.Index.replaced.Goals as goal

pub invariant_of-result : goal.invariant_of-result
invariant_of-result c =
    let parts = c.self.inside.parts in
    let start = c.args.start in
    let stop = c.args.stop in
    let span = subst (λ (v : Levels). IsSpanFor v.place v.parts start stop c.args.span) (sym c.self.view_is) c.requires.span in
    let held : List Posting → Held = λ ps. record { is_chunk = true; postings = ps } in
    let places = recursion_from_All (λ (p : Posting). (c.args.span.from ≤ p.place) × (p.place < c.args.span.to)) c.args.chunk c.requires.places in
    let done = replaced c.self.inside.place parts start stop c.args.span (held c.args.chunk) c.self.invariant span refl places c.is_in_order.ensures in
    subst (AreLevels c.self.inside.place) (sym (c.in_ok-parts.ensures ∙ ap (λ ps. take start parts ++ part_of c.args.span (held ps) ∷ [] ++ drop stop parts) c.in_ok-new.ensures.ok)) done
