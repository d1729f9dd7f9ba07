-- How a session comes further, by one command and by many.
use Rattle.std.proofs.Common.{◌≡◌, ℕ, ◌+◌, ◌≤◌, ◌==◌, ◌++◌, Result, Ok, Err, None, MatchBool, List, [], ◌∷◌, length, inl, inr, true, false, refl, sym, ap, ◌∙◌, append_assoc, append-nil, zero-add, arith}
use Rattle.std.proofs.lemmas.Bool.{MatchBool-at_true, MatchBool-at_false, and_left, and_parts, and_right, eqb-true, ne_eqb}
use Rattle.std.proofs.lemmas.List.{length_push}
use Rattle.std.specs.List.{AllByRecursion}
use Rattle.std.specs.Result.{IsErr}
use Rattle.gr_base.specs.declared.memory.NoMemory.{NoMemory}
use Rattle.gr_base.specs.declared.numbers.Limits.{Limits}
use Rattle.gr_db.specs.Accepted.{IsAccepted}
use Rattle.gr_db.specs.declared.entry.Entry.{Entry}
use Rattle.gr_root.specs.Root.{Rooted}
use Rattle.gr_session.proofs.OwnLemmas.{own_from-others}
use Rattle.gr_session.specs.Own.{is_own, own}
use Rattle.gr_session.specs.Reply.{IsStarved, Reply}
use Rattle.gr_session.specs.Solo.{Steps}
use Rattle.gr_session.specs.Step.{Standing}
use Rattle.gr_cmdline.specs.declared.command.Item.{Item}
use Rattle.gr_session.specs.declared.session.Done.{Done}
use Rattle.gr_runner.proofs.Lists.{all_append, all_weaker}
use Rattle.gr_runner.proofs.Replying.{all_later, Climbs-push, Climbs-raise, Replies-more, Replies-push, Replies-starve, Replies-stop}
use Rattle.gr_runner.specs.Progress.{Advances, RunsOne, Grows, IsEarlier, IsReady, IsSoFar, Stops}
use Rattle.gr_runner.specs.Served.{IsOfSession}
use Rattle.gr_runner.specs.Sessions.{Climbs, Replies}
use Rattle.gr_runner.specs.declared.report.End.TheVariants.{Finished}

-- what one command did to its session and to the journal, under the limits of both
pub record RunsAt (before after : Standing) (old new : List Entry) (item : Item) (done : Done) : Type 0 where
  pub added : List Entry
  pub grows : new ≡ old ++ added
  pub owned : AllByRecursion (λ entry. is_own before.session before.command entry ≡ true) added
  pub accepted : IsAccepted before.limits old → IsAccepted before.limits new
  pub from : done.from ≡ length old
  pub reply : own before.session before.command old ≡ [] →
      MatchBool after.ended (IsStarved new before.session before.command item done) (Reply before.limits new before.session before.command item done)
  pub limits : after.limits ≡ before.limits
  pub session : after.session ≡ before.session
  pub command : after.command ≡ before.command + 1
  pub mark : after.mark ≡ done.mark
  pub idle : after.going ≡ None

pub runs_at : (before after : Standing) (old new : Rooted) (item : Item) (done : Done) → before.limits ≡ old.limits → Steps before after old new item done → RunsAt before after old.journal new.journal item done
runs_at before after old new item done same steps = record {
  added = steps.added;
  grows = steps.grows;
  owned = steps.owned;
  accepted = λ before. rw same (rw steps.limits at steps.accepted);
  from = steps.from;
  reply = rw same steps.reply;
  limits = steps.limits_same;
  session = steps.session;
  command = steps.command;
  mark = steps.mark;
  idle = steps.idle;
}

later_owned : (number commands : ℕ) (entry : Entry) → IsOfSession number commands entry → IsOfSession number (commands + 1) entry
later_owned number commands entry owned = let below = owned.command in record { session = owned.session; command = omega arith }

later_earlier : (number commands : ℕ) (entry : Entry) → IsEarlier number commands entry → IsEarlier number (commands + 1) entry
later_earlier number commands entry (inl below) = inl below
later_earlier number commands entry (inr owned) = inr (later_owned number commands entry owned)

own_owned : (number command : ℕ) (entry : Entry) → is_own number command entry ≡ true → IsOfSession number (command + 1) entry
own_owned number command entry is =
    let parts = and_parts (entry.session.0 == number) (entry.command == command) is in
    let same : entry.command ≡ command = eqb-true entry.command command parts.1 in
    record { session = eqb-true entry.session.0 number parts.0; command = omega arith }

not_own : (number commands : ℕ) (entry : Entry) → IsEarlier number commands entry → is_own number commands entry ≡ false
not_own number commands entry (inl below) =
    and_left (entry.session.0 == number) (entry.command == commands) (ne_eqb entry.session.0 number (λ e. omega arith))
not_own number commands entry (inr owned) =
    let below = owned.command in
    and_right (entry.session.0 == number) (entry.command == commands) (ne_eqb entry.command commands (λ e. omega arith))

-- the next command owns no entry yet
none_yet : (standing : Standing) (journal : List Entry) (dones : List Done) → IsReady standing journal dones → own standing.session standing.command journal ≡ []
none_yet standing journal dones ready =
    rw ready.counted (own_from-others 0 standing.session (length dones) journal
    (all_weaker (IsEarlier standing.session (length dones)) (λ entry. is_own standing.session (length dones) entry ≡ false) journal (not_own standing.session (length dones)) ready.earlier))

Grows-more : (limits : Limits) (number commands : ℕ) (base old new added : List Entry) → Grows limits number commands base old → new ≡ old ++ added → AllByRecursion (λ entry. is_own number commands entry ≡ true) added → (IsAccepted limits old → IsAccepted limits new) → Grows limits number (commands + 1) base new
Grows-more limits number commands base old new added grown grows owned accepted = record {
  added = grown.added ++ added;
  grows = grows ∙ ap (λ journal. journal ++ added) grown.grows ∙ append_assoc base grown.added added;
  owned = all_append (IsOfSession number (commands + 1)) grown.added added
      (all_weaker (IsOfSession number commands) (IsOfSession number (commands + 1)) grown.added (later_owned number commands) grown.owned)
      (all_weaker (λ entry. is_own number commands entry ≡ true) (IsOfSession number (commands + 1)) added (own_owned number commands) owned);
  accepted = λ before. accepted (grown.accepted before);
}

earlier-more : (number commands : ℕ) (old added : List Entry) → AllByRecursion (IsEarlier number commands) old → AllByRecursion (λ entry. is_own number commands entry ≡ true) added → AllByRecursion (IsEarlier number (commands + 1)) (old ++ added)
earlier-more number commands old added earlier owned = all_append (IsEarlier number (commands + 1)) old added
    (all_weaker (IsEarlier number commands) (IsEarlier number (commands + 1)) old (later_earlier number commands) earlier)
    (all_weaker (λ entry. is_own number commands entry ≡ true) (IsEarlier number (commands + 1)) added (λ entry own. inr (own_owned number commands entry own)) owned)

-- the entries of one command, at its number among the replies
owned_at : (before after : Standing) (old new : List Entry) (item : Item) (done : Done) (dones : List Done) → IsReady before old dones → (steps : RunsAt before after old new item done) → AllByRecursion (λ entry. is_own before.session (length dones) entry ≡ true) steps.added
owned_at before after old new item done dones ready steps = rw ready.counted at steps.owned

-- the replies so far stand where one command's entries follow
replies_kept : (before after : Standing) (old new : List Entry) (item : Item) (done : Done) (dones : List Done) (first : List Item) → IsReady before old dones → RunsAt before after old new item done → Replies before.limits old before.session 0 first dones Finished → Replies before.limits new before.session 0 first dones Finished
replies_kept before after old new item done dones first ready steps replies =
    rw steps.grows (Replies-more before.limits old steps.added before.session 0 first dones
    (λ earlier below. all_later before.session (length dones) earlier steps.added (omega arith) (owned_at before after old new item done dones ready steps)) replies)

grown_on : (before after : Standing) (old new base : List Entry) (item : Item) (done : Done) (dones : List Done) → IsReady before old dones → RunsAt before after old new item done → Grows before.limits before.session (length dones) base old → Grows before.limits before.session (length (dones ++ done ∷ [])) base new
grown_on before after old new base item done dones ready steps grown =
    rw (length_push dones done) (Grows-more before.limits before.session (length dones) base old new steps.added grown steps.grows (owned_at before after old new item done dones ready steps) steps.accepted)

-- one command was run
module _ (before after : Standing) (old new : List Entry) (item : Item) (done : Done) (dones : List Done) (ready : IsReady before old dones) (steps : RunsAt before after old new item done) where
  reply_of : after.ended ≡ false → Reply before.limits new before.session (length dones) item done
  reply_of running = rw ready.counted at (MatchBool-at_false (IsStarved new before.session before.command item done) (Reply before.limits new before.session before.command item done) running (steps.reply (none_yet before old dones ready)))

  starved_of : after.ended ≡ true → IsStarved new before.session (length dones) item done
  starved_of ended = rw ready.counted at (MatchBool-at_true (IsStarved new before.session before.command item done) (Reply before.limits new before.session before.command item done) ended (steps.reply (none_yet before old dones ready)))

  ready_after : after.ended ≡ false → IsReady after new (dones ++ done ∷ [])
  ready_after running =
      let within = (reply_of running).within in
      let mark = steps.mark in
      record {
        running = running;
        idle = steps.idle;
        behind = omega arith;
        counted = steps.command ∙ ap (λ count. count + 1) ready.counted ∙ sym (length_push dones done);
        earlier = rw (steps.session, length_push dones done, steps.grows) (earlier-more before.session (length dones) old steps.added ready.earlier (owned_at before after old new item done dones ready steps));
      }

  climbs_on : (base : List Entry) → done.from ≤ done.mark → Climbs (length base) dones before.mark → (top : ℕ) → done.mark ≤ top → Climbs (length base) (dones ++ done ∷ []) top
  climbs_on base order climbs top above =
      let behind = ready.behind in
      let from = steps.from in
      Climbs-push (length base) dones before.mark done top climbs (omega arith) order above

  further : after.ended ≡ false → (base : List Entry) (first : List Item) → IsSoFar base old before first dones → IsSoFar base new after (first ++ item ∷ []) (dones ++ done ∷ [])
  further running base first so_far =
      let reply = reply_of running in
      record {
        grown = rw (steps.session, steps.limits) (grown_on before after old new base item done dones ready steps so_far.grown);
        replies = rw (steps.session, steps.limits) (Replies-push before.limits new before.session 0 first dones item done (replies_kept before after old new item done dones first ready steps so_far.replies) (rw zero-add reply));
        climbs = rw steps.mark (climbs_on base reply.order so_far.climbs done.mark (omega arith));
      }

  pub advances_one : after.ended ≡ false → Advances before after old new (item ∷ []) dones (dones ++ done ∷ [])
  advances_one running = record { ready = ready_after running; limits = steps.limits; session = steps.session; so_far = further running }

  pub stops_one : after.ended ≡ true → Stops before old new (item ∷ []) dones (dones ++ done ∷ [])
  stops_one ended base first so_far =
      let starved = starved_of ended in
      record {
        grown = grown_on before after old new base item done dones ready steps so_far.grown;
        replies = λ rest. rw (append_assoc first (item ∷ []) rest) (Replies-starve before.limits new before.session 0 first dones item done rest (replies_kept before after old new item done dones first ready steps so_far.replies) (rw zero-add starved));
        climbs = climbs_on base starved.order so_far.climbs (length new) starved.within;
      }

-- where nothing more was run, and no memory was found
pub stops_here : (standing : Standing) (journal : List Entry) (items : List Item) (dones : List Done) → IsReady standing journal dones → Stops standing journal journal items dones dones
stops_here standing journal items dones ready base first so_far =
    let behind = ready.behind in
    record {
      grown = so_far.grown;
      replies = λ rest. rw (append_assoc first items rest) (Replies-stop standing.limits journal standing.session 0 first dones (items ++ rest) so_far.replies);
      climbs = Climbs-raise (length base) dones standing.mark (length journal) behind so_far.climbs;
    }

pub advances_none : (standing : Standing) (journal : List Entry) (dones : List Done) → IsReady standing journal dones → Advances standing standing journal journal [] dones dones
advances_none standing journal dones ready = record { ready = ready; limits = refl; session = refl; so_far = λ base first so_far. rw (append-nil first) so_far }

pub advances_on : (start before after : Standing) (first old new : List Entry) (items more : List Item) (none dones others : List Done) → Advances start before first old items none dones → Advances before after old new more dones others → Advances start after first new (items ++ more) none others
advances_on start before after first old new items more none dones others one two = record {
  ready = two.ready;
  limits = two.limits ∙ one.limits;
  session = two.session ∙ one.session;
  so_far = λ base run so_far. rw (← append_assoc run items more) (two.so_far base (run ++ items) (one.so_far base run so_far));
}

pub stops_on : (start before : Standing) (first old new : List Entry) (items more : List Item) (none dones others : List Done) → Advances start before first old items none dones → Stops before old new more dones others → Stops start first new (items ++ more) none others
stops_on start before first old new items more none dones others one two base run so_far =
    rw (← append_assoc run items more, ← one.session, ← one.limits) (two base (run ++ items) (one.so_far base run so_far))

-- no memory was found for a command
pub runs_one_starved : (before after : Standing) (old new : List Entry) (item : Item) (dones more : List Done) (answer : Result (Unit {0}) NoMemory) → IsErr answer → Stops before old new (item ∷ []) dones more → RunsOne before after old new item dones more answer
runs_one_starved before after old new item dones more (Ok done) failed stops = absurd (cc)
runs_one_starved before after old new item dones more (Err none) failed stops = stops
