-- The bodies of replies that are no list of records.
use Rattle.std.specs.Prelude.{ℕ, List, codes}
use Rattle.std.specs.Fmt.{decimal}
use Rattle.gr_session.specs.declared.reply.Body.{Body}

-- a body as it is written
abbrev pub body_text : Body → List ℕ
body_text Body.True = codes "true"
body_text Body.False = codes "false"
body_text (Body.Rows rows) = decimal rows
