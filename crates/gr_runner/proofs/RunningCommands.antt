-- How the items of a stream are run, as they stand whole.
use Rattle.std.proofs.Common.{◌≡◌, ℕ, ◌++◌, Bool, Result, Ok, Err, List, [], ◌∷◌, true, false, refl, sym, ap, ◌∙◌, append_assoc, append-nil}
use Rattle.std.specs.Result.{IsErr, is_err}
use Rattle.gr_base.specs.declared.memory.NoMemory.{NoMemory}
use Rattle.gr_db.specs.declared.entry.Entry.{Entry}
use Rattle.gr_session.specs.Step.{Standing}
use Rattle.gr_cmdline.specs.Stream.{GivesItem, IsDrained, Stream, items_left}
use Rattle.gr_cmdline.specs.declared.command.Item.{Item}
use Rattle.gr_session.specs.declared.session.Done.{Done}
use Rattle.gr_runner.proofs.Progressing.{advances_none, advances_on, stops_here, stops_on}
use Rattle.gr_runner.specs.Progress.{Advances, IsReady, RunsAll, RunsPiece, RunsSome, Stops}

-- items of a stream were run, and the others are left
pub record RunsSoFar (stream rest : Stream) (before after : Standing) (old new : List Entry) (dones more : List Done) : Type 0 where
  pub items : List Item
  pub given : (bytes : List ℕ) (ended : Bool) → items_left stream bytes ended ≡ items ++ items_left rest bytes ended
  pub same_end : rest.ended ≡ stream.ended
  pub advances : Advances before after old new items dones more

pub runs_none : (stream : Stream) (standing : Standing) (journal : List Entry) (dones : List Done) → IsReady standing journal dones → RunsSoFar stream stream standing standing journal journal dones dones
runs_none stream standing journal dones ready = record {
  items = [];
  given = λ bytes ended. refl;
  same_end = refl;
  advances = advances_none standing journal dones ready;
}

-- where no item is left, all were run
pub runs_all : (stream rest last : Stream) (before after : Standing) (old new : List Entry) (dones more : List Done) (ended : Bool) → RunsSoFar stream rest before after old new dones more → IsDrained rest last ended → RunsAll stream last [] before after old new dones more
runs_all stream rest last before after old new dones more ended so_far drained = record {
  items = so_far.items;
  given = λ bytes whole. so_far.given bytes whole ∙ ap (λ others. so_far.items ++ others) (sym (drained.kept.items bytes whole));
  same_end = drained.kept.ended ∙ so_far.same_end;
  drained = rw drained.stage drained.none;
  advances = so_far.advances;
}

-- where no memory was found for the next item, the first were run
pub runs_first : (stream rest : Stream) (before after : Standing) (old new : List Entry) (dones more : List Done) → RunsSoFar stream rest before after old new dones more → RunsSome stream [] before old new dones more
runs_first stream rest before after old new dones more so_far = record {
  items = so_far.items ++ [];
  given = λ bytes whole. (items_left rest bytes whole, rw append-nil (so_far.given bytes whole));
  stops = stops_on before after old new new so_far.items [] dones more more so_far.advances (stops_here after new [] more so_far.advances.ready);
}

-- one more item was run
pub runs_more : (stream rest last : Stream) (before after then : Standing) (old new newer : List Entry) (item : Item) (dones more most : List Done) → RunsSoFar stream rest before after old new dones more → GivesItem rest last item → Advances after then new newer (item ∷ []) more most → RunsSoFar stream last before then old newer dones most
runs_more stream rest last before after then old new newer item dones more most so_far gives one = record {
  items = so_far.items ++ item ∷ [];
  given = λ bytes whole. so_far.given bytes whole ∙ ap (λ others. so_far.items ++ others) (gives.items bytes whole) ∙ sym (append_assoc so_far.items (item ∷ []) (items_left last bytes whole));
  same_end = gives.ended ∙ so_far.same_end;
  advances = advances_on before after then old new newer so_far.items (item ∷ []) dones more most so_far.advances one;
}

-- no memory was found for one more item
pub runs_until : (stream rest last : Stream) (before after : Standing) (old new newer : List Entry) (item : Item) (dones more most : List Done) → RunsSoFar stream rest before after old new dones more → GivesItem rest last item → Stops after new newer (item ∷ []) more most → RunsSome stream [] before old newer dones most
runs_until stream rest last before after old new newer item dones more most so_far gives one = record {
  items = so_far.items ++ item ∷ [];
  given = λ bytes whole. (items_left last bytes whole, so_far.given bytes whole ∙ ap (λ others. so_far.items ++ others) (gives.items bytes whole) ∙ sym (append_assoc so_far.items (item ∷ []) (items_left last bytes whole)));
  stops = stops_on before after old new newer so_far.items (item ∷ []) dones more most so_far.advances one;
}

pub runs_piece_starved : (stream rest : Stream) (piece : List ℕ) (before after : Standing) (old new : List Entry) (dones more : List Done) (answer : Result (Unit {0}) NoMemory) → IsErr answer → RunsSome stream piece before old new dones more → RunsPiece stream rest piece before after old new dones more answer
runs_piece_starved stream rest piece before after old new dones more (Ok done) failed some = absurd (cc)
runs_piece_starved stream rest piece before after old new dones more (Err none) failed some = some

left_fed : (stream fed : Stream) (piece : List ℕ) → stream.ended ≡ false → fed ≡ record { limit = stream.limit; pending = stream.pending; bytes = stream.bytes ++ piece; ended = false } → (bytes : List ℕ) (ended : Bool) → items_left stream (piece ++ bytes) ended ≡ items_left fed bytes ended
left_fed stream fed piece going same bytes ended = rw (going, same, append_assoc stream.bytes piece bytes) refl

-- what was run of a stream that took a piece was run of the stream before and of the piece
pub runs_fed : (stream fed rest : Stream) (piece : List ℕ) (before after : Standing) (old new : List Entry) (dones more : List Done) (answer : Result (Unit {0}) NoMemory) → stream.ended ≡ false → fed ≡ record { limit = stream.limit; pending = stream.pending; bytes = stream.bytes ++ piece; ended = false } → RunsPiece fed rest [] before after old new dones more answer → RunsPiece stream rest piece before after old new dones more answer
runs_fed stream fed rest piece before after old new dones more (Ok done) going same runs = record {
  items = runs.items;
  given = λ bytes ended. left_fed stream fed piece going same bytes ended ∙ runs.given bytes ended;
  same_end = runs.same_end ∙ ap (λ whole. whole.ended) same ∙ sym going;
  drained = runs.drained;
  advances = runs.advances;
}
runs_fed stream fed rest piece before after old new dones more (Err none) going same runs = record {
  items = runs.items;
  given = λ bytes ended. ((runs.given bytes ended).0, left_fed stream fed piece going same bytes ended ∙ (runs.given bytes ended).1);
  stops = runs.stops;
}

-- no memory was found for a piece
pub runs_unfed : (stream : Stream) (piece : List ℕ) (standing : Standing) (journal : List Entry) (dones : List Done) → IsReady standing journal dones → RunsSome stream piece standing journal journal dones dones
runs_unfed stream piece standing journal dones ready = record {
  items = [];
  given = λ bytes ended. (items_left stream (piece ++ bytes) ended, refl);
  stops = stops_here standing journal [] dones ready;
}

pub runs_some : (stream rest : Stream) (piece : List ℕ) (before after : Standing) (old new : List Entry) (dones more : List Done) (answer : Result (Unit {0}) NoMemory) → is_err answer ≡ true → RunsPiece stream rest piece before after old new dones more answer → RunsSome stream piece before old new dones more
runs_some stream rest piece before after old new dones more (Ok done) failed runs = absurd (cc)
runs_some stream rest piece before after old new dones more (Err none) failed runs = runs

pub runs_whole : (stream rest : Stream) (piece : List ℕ) (before after : Standing) (old new : List Entry) (dones more : List Done) (answer : Result (Unit {0}) NoMemory) → is_err answer ≡ false → RunsPiece stream rest piece before after old new dones more answer → RunsAll stream rest piece before after old new dones more
runs_whole stream rest piece before after old new dones more (Ok done) failed runs = runs
runs_whole stream rest piece before after old new dones more (Err none) failed runs = absurd (cc)
