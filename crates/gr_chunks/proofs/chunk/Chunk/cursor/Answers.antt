use Rattle.std.proofs.Common.{◌<◌, length, subst, sym, ap, ◌∙◌, rules}
use Rattle.std.specs.List.{filter}
use Rattle.std.proofs.lemmas.List.Kept.{IsStrictlySortedBy-filter}
use Rattle.std.proofs.lemmas.List.Sorted.{answers_always}
use Rattle.gr_postings.specs.Postings.{is_of_term, posting_cmp, IsInOrder}
use Rattle.gr_chunks.specs.Inside.Postings.{AreSound}
use Rattle.gr_chunks.specs.Inside.Runs.{postings_in, run_postings}
use Rattle.gr_chunks.proofs.CursorLemmas.{run_found, run_missing, sound_run}
use Rattle.gr_chunks.proofs.chunk.Chunk.cursor.Goals as goal

pub cursor_over-requires-clause-sound : goal.cursor_over-requires-clause-sound
cursor_over-requires-clause-sound c =
    let chunk = c.self.inside in
    let run = c.index.result.now in
    let within = subst (λ rs. c.in-Ok.at < length rs) c.deref.ensures.value c.in-Ok.ensures.bound in
    let sound = sound_run chunk.least chunk.bytes.items chunk.runs.items c.self.invariant.sound c.in-Ok.at run within in
    rw c.deref-in-Ok.ensures.value (subst (λ r. AreSound (run_postings chunk.least chunk.bytes.items r)) (sym c.index.ensures) sound)

pub returns-in-Ok-clause-exact : goal.returns-in-Ok-clause-exact
returns-in-Ok-clause-exact c =
    let chunk = c.self.inside in
    let run = c.index.result.now in
    let found = c.in-Ok.ensures.position (λ r. r.term.0) (answers_always _ _ _ (λ f a r q k. search rules)) run in
    c.cursor_over.ensures
    ∙ (run_found chunk.least chunk.bytes.items c.deref-in-Ok.result.now chunk.runs.items c.deref.result.now c.args.term.0 c.in-Ok.at run c.self.invariant.terms c.deref-in-Ok.ensures.value c.deref.ensures.value c.index.ensures c.in-Ok.ensures.bound found
    ∙ ap (filter (is_of_term c.args.term)) c.self.view_is)

pub returns-in-Ok-clause-order : goal.returns-in-Ok-clause-order
returns-in-Ok-clause-order c =
    let chunk = c.self.inside in
    let run = c.index.result.now in
    let found = c.in-Ok.ensures.position (λ r. r.term.0) (answers_always _ _ _ (λ f a r q k. search rules)) run in
    let is = c.cursor_over.ensures ∙ run_found chunk.least chunk.bytes.items c.deref-in-Ok.result.now chunk.runs.items c.deref.result.now c.args.term.0 c.in-Ok.at run c.self.invariant.terms c.deref-in-Ok.ensures.value c.deref.ensures.value c.index.ensures c.in-Ok.ensures.bound found in
    subst IsInOrder (sym is) (IsStrictlySortedBy-filter posting_cmp (is_of_term c.args.term) (postings_in chunk.least chunk.runs.items chunk.bytes.items) c.self.invariant.order)

pub returns-in-Err-clause-exact : goal.returns-in-Err-clause-exact
returns-in-Err-clause-exact c =
    let chunk = c.self.inside in
    let cut = c.in-Err.ensures.position (λ r. r.term.0) (answers_always _ _ _ (λ f a r q k. search rules)) in
    c.ended.ensures
    ∙ (run_missing chunk.least chunk.bytes.items chunk.runs.items c.deref.result.now c.args.term.0 c.in-Err.field-0 c.self.invariant.terms c.deref.ensures.value cut
    ∙ ap (filter (is_of_term c.args.term)) c.self.view_is)

pub returns-in-Err-clause-order : goal.returns-in-Err-clause-order
returns-in-Err-clause-order c =
    let chunk = c.self.inside in
    let cut = c.in-Err.ensures.position (λ r. r.term.0) (answers_always _ _ _ (λ f a r q k. search rules)) in
    let is = c.ended.ensures ∙ run_missing chunk.least chunk.bytes.items chunk.runs.items c.deref.result.now c.args.term.0 c.in-Err.field-0 c.self.invariant.terms c.deref.ensures.value cut in
    subst IsInOrder (sym is) (IsStrictlySortedBy-filter posting_cmp (is_of_term c.args.term) (postings_in chunk.least chunk.runs.items chunk.bytes.items) c.self.invariant.order)
