use Rattle.gr_query.proofs.Stretches.{run_is, escape_is, front_text, rest_text}
use Rattle.gr_query.proofs.runs.stretch.Goals as goal

pub returns-then-begins_escape-clause-none : goal.returns-then-begins_escape-clause-none
returns-then-begins_escape-clause-none c =
    escape_is c.args.bytes.now (rw (← c.stretch_len.ensures.exact, ← c.split_at.ensures.back, ← c.begins_escape.ensures) c.if-begins_escape.true)

pub returns-else-begins_escape-clause-exact : goal.returns-else-begins_escape-clause-exact
returns-else-begins_escape-clause-exact c =
    let none = run_is c.args.bytes.now (rw (← c.stretch_len.ensures.exact, ← c.split_at.ensures.back, ← c.begins_escape.ensures) c.if-begins_escape.false) in
    rw (c.split_at.ensures.front, c.stretch_len.ensures.exact) none

pub returns-else-begins_escape-clause-text : goal.returns-else-begins_escape-clause-text
returns-else-begins_escape-clause-text c = λ utf8. rw (c.split_at.ensures.front, c.stretch_len.ensures.exact) (front_text c.args.bytes.now utf8)

pub returns-else-begins_escape-clause-rest : goal.returns-else-begins_escape-clause-rest
returns-else-begins_escape-clause-rest c = λ utf8. rw (c.split_at.ensures.front_len, c.stretch_len.ensures.exact) (rest_text c.args.bytes.now utf8)
