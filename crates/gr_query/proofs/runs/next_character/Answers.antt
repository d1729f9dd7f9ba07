use Rattle.gr_query.proofs.Running.{IsUtf8-escaped}
use Rattle.gr_query.proofs.runs.next_character.Goals as goal

pub returns-then-first-eq92-clause-text : goal.returns-then-first-eq92-clause-text
returns-then-first-eq92-clause-text c = IsUtf8-escaped c.in_ok-first.ensures.cases.0 c.if-first-eq92.true c.in_ok-escaped.ensures.cases.0
