-- How far a session has come, and what a stretch of its commands does.
use Rattle.std.specs.Prelude.{ℕ, ◌≡◌, ◌<◌, ◌≤◌, ◌⊎◌, ◌++◌, Bool, false, None, Result, Ok, Err, List, [], ◌∷◌, length}
use Rattle.std.specs.List.{AllByRecursion}
use Rattle.gr_base.specs.declared.memory.NoMemory.{NoMemory}
use Rattle.gr_base.specs.declared.numbers.Limits.{Limits}
use Rattle.gr_db.specs.Accepted.{IsAccepted}
use Rattle.gr_db.specs.declared.entry.Entry.{Entry}
use Rattle.gr_outside.specs.Outside.{Told}
use Rattle.gr_cmdline.specs.Commands.{items_behind}
use Rattle.gr_session.specs.Step.{Standing}
use Rattle.gr_cmdline.specs.Stream.{Stream, items_left}
use Rattle.gr_cmdline.specs.declared.command.Item.{Item}
use Rattle.gr_session.specs.declared.session.Done.{Done}
use Rattle.gr_runner.specs.Served.{IsOfSession}
use Rattle.gr_runner.specs.Sessions.{Climbs, Replies}
use Rattle.gr_runner.specs.Sources.{ReadTo}
use Rattle.gr_runner.specs.declared.report.End.{End}
use Rattle.gr_runner.specs.declared.report.End.TheVariants.{Finished, NoMemory as Starved}

-- an entry of an earlier session, or of this session's first commands
abbrev pub IsEarlier : ℕ → ℕ → Entry → Type 0
IsEarlier number commands entry = (entry.session.0 < number) ⊎ IsOfSession number commands entry

-- the next command can be run: each command so far has its reply, and no entry of it or of a later one stands
pub record IsReady (standing : Standing) (journal : List Entry) (dones : List Done) : Type 0 where
  pub running : standing.ended ≡ false
  pub idle : standing.going ≡ None
  pub behind : standing.mark ≤ length journal
  pub counted : standing.command ≡ length dones
  pub earlier : AllByRecursion (IsEarlier standing.session (length dones)) journal

-- the journal grew by entries of this session's first commands alone, each accepted where it stands
pub record Grows (limits : Limits) (number commands : ℕ) (old new : List Entry) : Type 0 where
  pub added : List Entry
  pub grows : new ≡ old ++ added
  pub owned : AllByRecursion (IsOfSession number commands) added
  pub accepted : IsAccepted limits old → IsAccepted limits new

-- from a journal on, each of these items has its reply
pub record IsSoFar (base journal : List Entry) (standing : Standing) (items : List Item) (dones : List Done) : Type 0 where
  pub grown : Grows standing.limits standing.session (length dones) base journal
  pub replies : Replies standing.limits journal standing.session 0 items dones Finished
  pub climbs : Climbs (length base) dones standing.mark

-- from a journal on, the first of these items have their replies, and no memory was found for those that follow
pub record IsStopped (limits : Limits) (number : ℕ) (base journal : List Entry) (items : List Item) (dones : List Done) : Type 0 where
  pub grown : Grows limits number (length dones) base journal
  pub replies : (rest : List Item) → Replies limits journal number 0 (items ++ rest) dones Starved
  pub climbs : Climbs (length base) dones (length journal)

-- these items were run, each with its reply, and the next command can be run
pub record Advances (before after : Standing) (old new : List Entry) (items : List Item) (dones more : List Done) : Type 0 where
  pub ready : IsReady after new more
  pub limits : after.limits ≡ before.limits
  pub session : after.session ≡ before.session
  pub so_far : (base : List Entry) (first : List Item) → IsSoFar base old before first dones → IsSoFar base new after (first ++ items) more

-- the first of these items were run, until no memory was found
abbrev pub Stops : Standing → List Entry → List Entry → List Item → List Done → List Done → Type 0
Stops before old new items dones more =
    (base : List Entry) (first : List Item) → IsSoFar base old before first dones → IsStopped before.limits before.session base new (first ++ items) more

-- one item was run, with its reply, or no memory was found
abbrev pub RunsOne : Standing → Standing → List Entry → List Entry → Item → List Done → List Done → Result (Unit {0}) NoMemory → Type 0
RunsOne before after old new item dones more (Ok done) = Advances before after old new (item ∷ []) dones more
RunsOne before after old new item dones more (Err none) = Stops before old new (item ∷ []) dones more

-- all items that stand whole in a stream and in a piece that follows were run
pub record RunsAll (stream rest : Stream) (piece : List ℕ) (before after : Standing) (old new : List Entry) (dones more : List Done) : Type 0 where
  pub items : List Item
  pub given : (bytes : List ℕ) (ended : Bool) → items_left stream (piece ++ bytes) ended ≡ items ++ items_left rest bytes ended
  pub same_end : rest.ended ≡ stream.ended
  pub drained : items_behind rest.limit rest.pending rest.bytes rest.ended ≡ []
  pub advances : Advances before after old new items dones more

-- of the items in a stream and in a piece that follows, the first were run, until no memory was found
pub record RunsSome (stream : Stream) (piece : List ℕ) (before : Standing) (old new : List Entry) (dones more : List Done) : Type 0 where
  pub items : List Item
  pub given : (bytes : List ℕ) (ended : Bool) → (others : List Item) × (items_left stream (piece ++ bytes) ended ≡ items ++ others)
  pub stops : Stops before old new items dones more

-- all items that stand whole were run, or no memory was found
abbrev pub RunsPiece : Stream → Stream → List ℕ → Standing → Standing → List Entry → List Entry → List Done → List Done → Result (Unit {0}) NoMemory → Type 0
RunsPiece stream rest piece before after old new dones more (Ok done) = RunsAll stream rest piece before after old new dones more
RunsPiece stream rest piece before after old new dones more (Err none) = RunsSome stream piece before old new dones more

-- a session's source was read so far, and its commands have their replies
pub record RunsSource (limits : Limits) (told : Told) (number : ℕ) (old new : List Entry) (dones : List Done) (end : End) : Type 0 where
  pub grown : Grows limits number (length dones) old new
  pub items : List Item
  pub read : ReadTo limits told end items
  pub replies : Replies limits new number 0 items dones end
  pub climbs : Climbs (length old) dones (length new)
