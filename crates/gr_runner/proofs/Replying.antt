-- How a session's replies and places go on.
use Rattle.std.proofs.Common.{◌≡◌, ℕ, ◌+◌, ◌<◌, ◌≤◌, ◌==◌, List, [], ◌∷◌, ◌++◌, length, inl, inr, true, false, refl, add-zero, arith}
use Rattle.std.proofs.lemmas.Bool.{and_parts, and_right, eqb-true, ne_eqb}
use Rattle.std.specs.List.{AllByRecursion}
use Rattle.gr_base.specs.declared.numbers.Limits.{Limits}
use Rattle.gr_db.specs.declared.entry.Entry.{Entry}
use Rattle.gr_session.proofs.ReplyLemmas.{Reply-more}
use Rattle.gr_session.specs.Own.{is_own}
use Rattle.gr_session.specs.Reply.{IsStarved, Reply}
use Rattle.gr_cmdline.specs.declared.command.Item.{Item}
use Rattle.gr_session.specs.declared.session.Done.{Done}
use Rattle.gr_runner.specs.Sessions.{AreAnswered, Climbs, Replies}
use Rattle.gr_runner.specs.declared.report.End.{End}
use Rattle.gr_runner.specs.declared.report.End.TheVariants.{Finished, Read, SourceTooLong, NoMemory}

-- an entry of a later command is not of an earlier one
own_later : (session command before : ℕ) (entry : Entry) → before < command → is_own session command entry ≡ true → is_own session before entry ≡ false
own_later session command before entry below is =
    let parts = and_parts (entry.session.0 == session) (entry.command == command) is in
    let same : entry.command ≡ command = eqb-true entry.command command parts.1 in
    and_right (entry.session.0 == session) (entry.command == before) (ne_eqb entry.command before (λ e. omega arith))

pub all_later : (session command before : ℕ) (entries : List Entry) → before < command → AllByRecursion (λ entry. is_own session command entry ≡ true) entries → AllByRecursion (λ entry. is_own session before entry ≡ false) entries
all_later session command before [] below all = tt
all_later session command before (entry ∷ entries) below all = (own_later session command before entry below all.0, all_later session command before entries below all.1)

-- replies stand where the journal grows by entries of later commands
pub Replies-more : (limits : Limits) (journal more : List Entry) (session command : ℕ) (items : List Item) (dones : List Done) → ((before : ℕ) → before < command + length dones → AllByRecursion (λ entry. is_own session before entry ≡ false) more) → Replies limits journal session command items dones Finished → Replies limits (journal ++ more) session command items dones Finished
Replies-more limits journal more session command items [] others replies = replies
Replies-more limits journal more session command [] (done ∷ dones) others replies = absurd replies
Replies-more limits journal more session command (item ∷ items) (done ∷ dones) others (inl (reply, later)) = inl (
  Reply-more limits journal more session command item done (others command (omega arith)) reply,
  Replies-more limits journal more session (command + 1) items dones (λ before below. others before (omega arith)) later,
)
Replies-more limits journal more session command (item ∷ items) (done ∷ dones) others (inr (starved, last, end)) = absurd (cc)

-- one more reply
pub Replies-push : (limits : Limits) (journal : List Entry) (session command : ℕ) (items : List Item) (dones : List Done) (item : Item) (done : Done) → Replies limits journal session command items dones Finished → Reply limits journal session (command + length dones) item done → Replies limits journal session command (items ++ item ∷ []) (dones ++ done ∷ []) Finished
Replies-push limits journal session command [] [] item done replies reply = inl (rw add-zero at reply, refl)
Replies-push limits journal session command (first ∷ items) [] item done replies reply = absurd (cc)
Replies-push limits journal session command [] (d ∷ dones) item done replies reply = absurd replies
Replies-push limits journal session command (first ∷ items) (d ∷ dones) item done (inl (one, later)) reply =
    let at : command + length (d ∷ dones) ≡ command + 1 + length dones = omega arith in
    inl (one, Replies-push limits journal session (command + 1) items dones item done later (rw at at reply))
Replies-push limits journal session command (first ∷ items) (d ∷ dones) item done (inr (starved, last, end)) reply = absurd (cc)

-- the reply to want of memory is the last, whatever follows
pub Replies-starve : (limits : Limits) (journal : List Entry) (session command : ℕ) (items : List Item) (dones : List Done) (item : Item) (done : Done) (rest : List Item) → Replies limits journal session command items dones Finished → IsStarved journal session (command + length dones) item done → Replies limits journal session command (items ++ item ∷ rest) (dones ++ done ∷ []) NoMemory
Replies-starve limits journal session command [] [] item done rest replies starved = inr (rw add-zero at starved, refl, refl)
Replies-starve limits journal session command (first ∷ items) [] item done rest replies starved = absurd (cc)
Replies-starve limits journal session command [] (d ∷ dones) item done rest replies starved = absurd replies
Replies-starve limits journal session command (first ∷ items) (d ∷ dones) item done rest (inl (one, later)) starved =
    let at : command + length (d ∷ dones) ≡ command + 1 + length dones = omega arith in
    inl (one, Replies-starve limits journal session (command + 1) items dones item done rest later (rw at at starved))
Replies-starve limits journal session command (first ∷ items) (d ∷ dones) item done rest (inr (none, last, end)) starved = absurd (cc)

-- want of memory leaves what follows without replies
pub Replies-stop : (limits : Limits) (journal : List Entry) (session command : ℕ) (items : List Item) (dones : List Done) (rest : List Item) → Replies limits journal session command items dones Finished → Replies limits journal session command (items ++ rest) dones NoMemory
Replies-stop limits journal session command items [] rest replies = tt
Replies-stop limits journal session command [] (done ∷ dones) rest replies = absurd replies
Replies-stop limits journal session command (item ∷ items) (done ∷ dones) rest (inl (reply, later)) = inl (reply, Replies-stop limits journal session (command + 1) items dones rest later)
Replies-stop limits journal session command (item ∷ items) (done ∷ dones) rest (inr (starved, last, end)) = absurd (cc)

answered : (end : End) → AreAnswered [] end
answered Finished = refl
answered (Read faults) = refl
answered (SourceTooLong bytes) = refl
answered NoMemory = tt

-- where each item has its reply, the end may be any
pub Replies-end : (limits : Limits) (journal : List Entry) (session command : ℕ) (items : List Item) (dones : List Done) (end : End) → Replies limits journal session command items dones Finished → Replies limits journal session command items dones end
Replies-end limits journal session command [] [] end replies = answered end
Replies-end limits journal session command (item ∷ items) [] end replies = absurd (cc)
Replies-end limits journal session command [] (done ∷ dones) end replies = absurd replies
Replies-end limits journal session command (item ∷ items) (done ∷ dones) end (inl (reply, later)) = inl (reply, Replies-end limits journal session (command + 1) items dones end later)
Replies-end limits journal session command (item ∷ items) (done ∷ dones) end (inr (starved, last, is)) = absurd (cc)

pub Climbs-raise : (low : ℕ) (dones : List Done) (top higher : ℕ) → top ≤ higher → Climbs low dones top → Climbs low dones higher
Climbs-raise low [] top higher above climbs = omega arith
Climbs-raise low (done ∷ dones) top higher above climbs = (climbs.0, climbs.1, Climbs-raise done.mark dones top higher above climbs.2)

pub Climbs-push : (low : ℕ) (dones : List Done) (top : ℕ) (done : Done) (higher : ℕ) → Climbs low dones top → top ≤ done.from → done.from ≤ done.mark → done.mark ≤ higher → Climbs low (dones ++ done ∷ []) higher
Climbs-push low [] top done higher climbs from order above = (omega arith, order, above)
Climbs-push low (d ∷ dones) top done higher climbs from order above = (climbs.0, climbs.1, Climbs-push d.mark dones top done higher climbs.2 from order above)
