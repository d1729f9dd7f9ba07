-- What a select asks for, by what is shown.
use Rattle.std.proofs.Common.{◌≡◌, ℕ, Result, Ok, Err, IfOk, List, [], ap, subst, reverse}
use Rattle.gr_base.specs.declared.fault.Fault.{Fault}
use Rattle.gr_base.specs.declared.memory.NoMemory.{NoMemory}
use Rattle.gr_cmdline.specs.declared.command.Command.{Command}
use Rattle.gr_db.specs.Db.{Db}
use Rattle.gr_schema.specs.Wishes.{Home}
use Rattle.gr_select.specs.Select.{select}
use Rattle.gr_select.specs.declared.texts.Texts.{Texts}
use Rattle.gr_session.specs.Inside.Kept.{Asks}
use Rattle.gr_session.specs.Meaning.{refused_in}
use Rattle.gr_session.specs.ReplyText.{success_line}
use Rattle.gr_session.specs.Select.{told}
use Rattle.gr_session.specs.declared.asked.Asked.{Asked}
use Rattle.gr_session.specs.declared.form.Form.TheVariants.{Plain}

told-ok : (db : Db) (found : Result (List ℕ) Fault) (body : List ℕ) (asked : Asked) → found ≡ Ok body → asked.changes.items ≡ [] → asked.answer ≡ success_line body → Asks db (told found) asked
told-ok db (Ok text) body asked is none answer = let same : text ≡ body = cc in record { changes = ap reverse none; answer = rw same answer; fit = tt }
told-ok db (Err fault) body asked is none answer = absurd (cc)

told-err : (db : Db) (found : Result (List ℕ) Fault) (fault : Fault) (result : Result Asked NoMemory) → found ≡ Err fault → IfOk result (λ asked. Asks db (refused_in Plain fault) asked) → IfOk result (λ asked. Asks db (told found) asked)
told-err db (Ok body) fault result is asks = absurd (cc)
told-err db (Err why) fault result is asks = let same : fault ≡ why = cc in subst (λ (fault : Fault). IfOk result (λ asked. Asks db (refused_in Plain fault) asked)) same asks

-- what is shown is the answer
pub Asks-told : (db : Db) (home : Home) (command : Command) (texts : Texts) (body : List ℕ) (asked : Asked) → select db home command.args.given texts ≡ Ok body → asked.changes.items ≡ [] → asked.answer ≡ success_line body → Asks db (told (select db home command.args.given texts)) asked
Asks-told db home command texts body asked is none answer = told-ok db (select db home command.args.given texts) body asked is none answer

-- a fault is told
pub Asks-refused : (db : Db) (home : Home) (command : Command) (texts : Texts) (fault : Fault) (result : Result Asked NoMemory) → select db home command.args.given texts ≡ Err fault → IfOk result (λ asked. Asks db (refused_in Plain fault) asked) → IfOk result (λ asked. Asks db (told (select db home command.args.given texts)) asked)
Asks-refused db home command texts fault result is asks = told-err db (select db home command.args.given texts) fault result is asks
