use Rattle.std.proofs.Common.{ap, map, ◌∙◌}
use Rattle.std.specs.List.{filter}
use Rattle.gr_postings.specs.Postings.{is_of_term}
use Rattle.gr_index.proofs.PostingLemmas.{all_of-parts}
use Rattle.gr_index.proofs.index.Index.cursor.Goals as goal

pub returns-clause-exact : goal.returns-clause-exact
returns-clause-exact c = ap (filter (is_of_term c.args.term)) (all_of-parts c.segments.result.now c.args.self.now.parts (c.segments.ensures ∙ ap (λ v. map (λ p. p.postings) v.parts) c.self.view_is))
