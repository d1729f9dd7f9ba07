-- How a session's source is read so far, and how the reading ends.
use Rattle.std.proofs.Common.{◌≡◌, ℕ, ◌+◌, ◌-◌, ◌<◌, ◌≤◌, ◌++◌, Bool, List, [], length, take, drop, min, true, false, refl, sym, ap, ◌∙◌, append_assoc, append-nil, length-append, length-take, add-zero, zero-add, add_assoc, Option, Some, None, inl, arith}
use Rattle.std.proofs.lemmas.List.{drop_all, take-append-drop, take-take, take_at}
use Rattle.std.proofs.KnownBytes.{Consumes-nil, Consumes-trans}
use Rattle.std.specs.Io.KnownBytes.{Consumes, IsAtEnd}
use Rattle.std.specs.List.{AllByRecursion}
use Rattle.gr_base.specs.declared.numbers.SessionNo.{SessionNo}
use Rattle.gr_base.specs.declared.numbers.Limits.{Limits}
use Rattle.gr_db.specs.declared.entry.Entry.{Entry}
use Rattle.gr_outside.specs.Outside.{Told}
use Rattle.gr_cmdline.specs.Commands.{commands, items_behind}
use Rattle.gr_session.specs.Step.{Standing, opened_at}
use Rattle.gr_cmdline.specs.Stream.{Stream, items_left}
use Rattle.gr_cmdline.specs.declared.command.Item.{Item}
use Rattle.gr_session.specs.declared.session.Done.{Done}
use Rattle.gr_runner.proofs.Progressing.{advances_none, advances_on, stops_here, stops_on}
use Rattle.gr_runner.proofs.Lists.{all_weaker}
use Rattle.gr_runner.proofs.Replying.{Climbs-raise, Replies-end}
use Rattle.gr_runner.specs.Progress.{Advances, IsEarlier, IsReady, IsSoFar, IsStopped, RunsAll, RunsSome, RunsSource, Stops}
use Rattle.gr_runner.specs.Served.{Serves}
use Rattle.gr_runner.specs.Sources.{IsTold, ReadTo}
use Rattle.gr_runner.specs.declared.report.End.{End}
use Rattle.gr_runner.specs.declared.report.End.TheVariants.{Finished, Read, SourceTooLong, NoMemory as Starved}

-- a session that has just opened, of which no entry stands
pub record IsOpened (limits : Limits) (start : Standing) (journal : List Entry) : Type 0 where
  pub opened : start ≡ opened_at limits start.session (length journal)
  pub first : AllByRecursion (λ entry. entry.session.0 < start.session) journal

pub ready_opened : (limits : Limits) (start : Standing) (journal : List Entry) (dones : List Done) → dones ≡ [] → IsOpened limits start journal → IsReady start journal dones
ready_opened limits start journal dones none at =
    let mark = ap (λ standing. standing.mark) at.opened in
    record {
      running = ap (λ standing. standing.ended) at.opened;
      idle = ap (λ standing. standing.going) at.opened;
      behind = omega arith;
      counted = rw none (ap (λ standing. standing.command) at.opened);
      earlier = all_weaker (λ entry. entry.session.0 < start.session) (IsEarlier start.session (length dones)) journal (λ entry below. inl below) at.first;
    }

so_far_opened : (limits : Limits) (start : Standing) (journal : List Entry) → IsOpened limits start journal → IsSoFar journal journal start [] []
so_far_opened limits start journal at =
    let mark = ap (λ standing. standing.mark) at.opened in
    record {
      grown = record { added = []; grows = sym (append-nil journal); owned = tt; accepted = λ accepted. accepted };
      replies = refl;
      climbs = omega arith;
    }

-- the bytes told are those given, and others
told_bytes : (told now : Option (List ℕ)) (given : List ℕ) → Consumes told now given → (rest : List ℕ) × IsTold told (given ++ rest)
told_bytes None now given consumed = ([], tt)
told_bytes (Some told) None given consumed = absurd consumed
told_bytes (Some told) (Some now) given consumed = (now, consumed)

-- at the end of the input, the bytes told are those given
told_at_end : (told now : Option (List ℕ)) (given : List ℕ) → Consumes told now given → IsAtEnd now → IsTold told given
told_at_end None now given consumed at_end = tt
told_at_end (Some told) None given consumed at_end = absurd consumed
told_at_end (Some told) (Some now) given consumed at_end = consumed ∙ ap (λ rest. given ++ rest) at_end ∙ append-nil given

-- the bytes given so far are within the limit, the items that stand whole in them were run, and the reader has the rest
pub record IsReading (limits : Limits) (told now : Told) (total : ℕ) (reader : Stream) (start standing : Standing) (old new : List Entry) (dones : List Done) : Type 0 where
  pub given : List ℕ
  pub items : List Item
  pub consumed : Consumes told.left now.left given
  pub same_faults : now.faults ≡ told.faults
  pub reached : (bytes count : ℕ) → now.reaches bytes count → told.reaches (length given + bytes) count
  pub total_is : total ≡ length given
  pub within : total ≤ limits.source
  pub going : reader.ended ≡ false
  pub whole : (bytes : List ℕ) (ended : Bool) → commands limits.line (given ++ bytes) ended ≡ items ++ items_left reader bytes ended
  pub drained : items_behind reader.limit reader.pending reader.bytes false ≡ []
  pub advances : Advances start standing old new items [] dones

-- a session ended for want of memory: its first items were run, and the others of its bytes are left
starves : (limits : Limits) (told : Told) (start : Standing) (old new : List Entry) (dones : List Done) (bytes : List ℕ) (items others : List Item) → IsOpened limits start old → IsTold told.left bytes → commands limits.line bytes true ≡ items ++ others → Stops start old new items [] dones → RunsSource limits told start.session old new dones Starved
starves limits told start old new dones bytes items others at source is stops =
    let same : start.limits ≡ limits = ap (λ standing. standing.limits) at.opened in
    let stopped : IsStopped limits start.session old new items dones = rw same at (stops old [] (so_far_opened limits start old at)) in
    record {
      grown = stopped.grown;
      items = items ++ others;
      read = record { bytes = bytes; source = source; items_are = sym is };
      replies = stopped.replies others;
      climbs = stopped.climbs;
    }

-- a session ended otherwise: each item of what was read was run
ends : (limits : Limits) (told : Told) (start after : Standing) (old new : List Entry) (dones : List Done) (items : List Item) (end : End) → IsOpened limits start old → Advances start after old new items [] dones → ReadTo limits told end items → RunsSource limits told start.session old new dones end
ends limits told start after old new dones items end at advances read =
    let so_far : IsSoFar old new after items dones = advances.so_far old [] (so_far_opened limits start old at) in
    let behind = advances.ready.behind in
    let same : after.limits ≡ limits = advances.limits ∙ ap (λ standing. standing.limits) at.opened in
    record {
      grown = rw (advances.session, same) at so_far.grown;
      items = items;
      read = read;
      replies = Replies-end limits new start.session 0 items dones end (rw (advances.session, same) at so_far.replies);
      climbs = Climbs-raise (length old) dones after.mark (length new) behind so_far.climbs;
    }

-- before the first read
pub reading_none : (limits : Limits) (told : Told) (reader : Stream) (start : Standing) (old : List Entry) (dones : List Done) → reader ≡ record { limit = limits.line; pending = None; bytes = []; ended = false } → dones ≡ [] → IsOpened limits start old → IsReading limits told told 0 reader start start old old dones
reading_none limits told reader start old dones fresh none at = record {
  given = [];
  items = [];
  consumed = Consumes-nil told.left;
  same_faults = refl;
  reached = λ bytes count reached. rw zero-add reached;
  total_is = refl;
  within = omega arith;
  going = ap (λ stream. stream.ended) fresh;
  whole = λ bytes ended. rw fresh refl;
  drained = rw fresh refl;
  advances = rw none (advances_none start old [] (ready_opened limits start old [] refl at));
}

-- no memory was found before the first read
pub ends_unread : (limits : Limits) (told : Told) (start : Standing) (old : List Entry) (dones : List Done) → dones ≡ [] → IsOpened limits start old → RunsSource limits told start.session old old dones Starved
ends_unread limits told start old dones none at =
    let bytes = told_bytes told.left told.left [] (Consumes-nil told.left) in
    starves limits told start old old dones bytes.0 [] (commands limits.line bytes.0 true) at bytes.1 refl
    (rw none (stops_here start old [] [] (ready_opened limits start old [] refl at)))

module _ (limits : Limits) (told now : Told) (total : ℕ) (reader : Stream) (start standing : Standing) (old new : List Entry) (dones : List Done) (at : IsOpened limits start old) (reading : IsReading limits told now total reader start standing old new dones) where
  -- the items that stand whole in the bytes given so far
  items_so_far : reading.items ≡ commands limits.line reading.given false
  items_so_far =
      let is : commands limits.line (reading.given ++ []) false ≡ reading.items ++ items_left reader [] false = reading.whole [] false in
      let none : items_left reader [] false ≡ [] = rw (reading.going, append-nil) reading.drained in
      sym (rw (append-nil, none, append-nil) at is)

  -- a read failed
  pub ends_failed : (count : ℕ) → now.faults < count → now.reaches 0 count → RunsSource limits told start.session old new dones (Read count)
  ends_failed count risen reached =
      let bytes = told_bytes told.left now.left reading.given reading.consumed in
      let within = reading.within in
      ends limits told start standing old new dones reading.items (Read count) at reading.advances (record {
        given = reading.given;
        rest = bytes.0;
        source = bytes.1;
        within = omega (arith, reading.total_is);
        risen = rw reading.same_faults at risen;
        reached = rw add-zero at (reading.reached 0 count reached);
        items_are = items_so_far;
      })

  module _ (after : Option (List ℕ)) (whole rest : Stream) (last : Standing) (newer : List Entry) (more : List Done) (closed : whole ≡ record { limit = reader.limit; pending = reader.pending; bytes = reader.bytes; ended = true }) where
    left_closed : (bytes : List ℕ) (ended : Bool) → items_left whole bytes ended ≡ items_behind reader.limit reader.pending reader.bytes true
    left_closed bytes ended = rw closed refl

    whole_closed : commands limits.line reading.given true ≡ reading.items ++ items_behind reader.limit reader.pending reader.bytes true
    whole_closed =
        let is : commands limits.line (reading.given ++ []) true ≡ reading.items ++ items_left reader [] true = reading.whole [] true in
        let same : items_left reader [] true ≡ items_behind reader.limit reader.pending reader.bytes true = rw (reading.going, append-nil) refl in
        rw (append-nil, same) at is

    -- the source was read to its end
    pub ends_finished : Consumes now.left after [] → IsAtEnd after → RunsAll whole rest [] standing last new newer dones more → RunsSource limits told start.session old newer more Finished
    ends_finished consumed at_end all =
        let none : items_left rest [] true ≡ [] = rw (all.same_end, closed) (rw (all.same_end, closed) at all.drained) in
        let items : items_behind reader.limit reader.pending reader.bytes true ≡ all.items = sym (left_closed [] true) ∙ all.given [] true ∙ ap (λ others. all.items ++ others) none ∙ append-nil all.items in
        let source = Consumes-trans told.left now.left after reading.given [] reading.consumed consumed in
        ends limits told start last old newer more (reading.items ++ all.items) Finished at
        (advances_on start standing last old new newer reading.items all.items [] dones more reading.advances all.advances) (record {
          bytes = reading.given;
          source = told_at_end told.left after reading.given (rw append-nil at source) at_end;
          within = omega (arith, reading.total_is, reading.within);
          items_are = rw items at (sym whole_closed);
        })

    -- no memory was found for what stood at the end
    pub ends_starved_last : Consumes now.left after [] → IsAtEnd after → RunsSome whole [] standing new newer dones more → RunsSource limits told start.session old newer more Starved
    ends_starved_last consumed at_end some =
        let others = some.given [] true in
        let source = Consumes-trans told.left now.left after reading.given [] reading.consumed consumed in
        let is : commands limits.line reading.given true ≡ (reading.items ++ some.items) ++ others.0 =
        whole_closed ∙ ap (λ items. reading.items ++ items) (sym (left_closed [] true) ∙ others.1) ∙ sym (append_assoc reading.items some.items others.0) in
        starves limits told start old newer more reading.given (reading.items ++ some.items) others.0 at (told_at_end told.left after reading.given (rw append-nil at source) at_end) is
        (stops_on start standing old new newer reading.items some.items [] dones more reading.advances some.stops)

  module _ (after : Option (List ℕ)) (rest : Stream) (last : Standing) (newer : List Entry) (more : List Done) (piece skipped : List ℕ) (consumed : Consumes now.left after (piece ++ skipped)) where
    consumed_all : Consumes told.left after (reading.given ++ (piece ++ skipped))
    consumed_all = Consumes-trans told.left now.left after reading.given (piece ++ skipped) reading.consumed consumed

    regroup : (bytes : List ℕ) → (reading.given ++ (piece ++ skipped)) ++ bytes ≡ reading.given ++ (piece ++ (skipped ++ bytes))
    regroup bytes = append_assoc reading.given (piece ++ skipped) bytes ∙ ap (λ others. reading.given ++ others) (append_assoc piece skipped bytes)

    -- no memory was found for a piece
    pub ends_starved : RunsSome reader piece standing new newer dones more → RunsSource limits told start.session old newer more Starved
    ends_starved some =
        let bytes = told_bytes told.left after (reading.given ++ (piece ++ skipped)) consumed_all in
        let others = some.given (skipped ++ bytes.0) true in
        let is : commands limits.line ((reading.given ++ (piece ++ skipped)) ++ bytes.0) true ≡ (reading.items ++ some.items) ++ others.0 =
        ap (λ all. commands limits.line all true) (regroup bytes.0) ∙ reading.whole (piece ++ (skipped ++ bytes.0)) true ∙ ap (λ items. reading.items ++ items) others.1 ∙ sym (append_assoc reading.items some.items others.0) in
        starves limits told start old newer more ((reading.given ++ (piece ++ skipped)) ++ bytes.0) (reading.items ++ some.items) others.0 at bytes.1 is
        (stops_on start standing old new newer reading.items some.items [] dones more reading.advances some.stops)

    whole_further : (all : RunsAll reader rest piece standing last new newer dones more) → (bytes : List ℕ) (ended : Bool) → commands limits.line ((reading.given ++ piece) ++ bytes) ended ≡ (reading.items ++ all.items) ++ items_left rest bytes ended
    whole_further all bytes ended =
        ap (λ text. commands limits.line text ended) (append_assoc reading.given piece bytes) ∙ reading.whole (piece ++ bytes) ended ∙ ap (λ items. reading.items ++ items) (all.given bytes ended) ∙ sym (append_assoc reading.items all.items (items_left rest bytes ended))

    drained_further : (all : RunsAll reader rest piece standing last new newer dones more) → items_behind rest.limit rest.pending rest.bytes false ≡ []
    drained_further all = rw (all.same_end, reading.going) at all.drained

    items_further : (all : RunsAll reader rest piece standing last new newer dones more) → reading.items ++ all.items ≡ commands limits.line (reading.given ++ piece) false
    items_further all =
        let none : items_left rest [] false ≡ [] = rw (all.same_end, reading.going, append-nil) (drained_further all) in
        sym (rw (append-nil, none, append-nil) at (whole_further all [] false))

    -- the source gave more bytes than the limit
    pub ends_too_long : (bytes : ℕ) → limits.source < bytes → bytes ≡ total + length (piece ++ skipped) → total + length piece ≡ limits.source → RunsAll reader rest piece standing last new newer dones more → RunsSource limits told start.session old newer more (SourceTooLong bytes)
    ends_too_long count above count_is full all =
        let bytes = told_bytes told.left after (reading.given ++ (piece ++ skipped)) consumed_all in
        let first : (reading.given ++ (piece ++ skipped)) ++ bytes.0 ≡ (reading.given ++ piece) ++ (skipped ++ bytes.0) = regroup bytes.0 ∙ sym (append_assoc reading.given piece (skipped ++ bytes.0)) in
        let long : length (reading.given ++ piece) ≡ limits.source = simp length-append (omega (arith, reading.total_is)) in
        ends limits told start last old newer more (reading.items ++ all.items) (SourceTooLong count) at
        (advances_on start standing last old new newer reading.items all.items [] dones more reading.advances all.advances) (record {
          bytes = (reading.given ++ (piece ++ skipped)) ++ bytes.0;
          source = bytes.1;
          above = above;
          within = omega (arith, reading.total_is, length-append (reading.given ++ (piece ++ skipped)) bytes.0, length-append reading.given (piece ++ skipped));
          items_are = rw (first, take_at (reading.given ++ piece) (skipped ++ bytes.0) limits.source long) (items_further all);
        })

    -- a piece within the limit was read, and its items were run
    pub reading_on : (later : Told) (total_after : ℕ) → later.left ≡ after → skipped ≡ [] → later.faults ≡ now.faults → ((bytes count : ℕ) → later.reaches bytes count → now.reaches (length piece + bytes) count) → total_after ≡ total + length piece → total_after ≤ limits.source → RunsAll reader rest piece standing last new newer dones more → IsReading limits told later total_after rest start last old newer more
    reading_on later total_after after_is none same_faults reached total_is within all = record {
      given = reading.given ++ piece;
      items = reading.items ++ all.items;
      consumed = rw after_is (rw (none, append-nil) at consumed_all);
      same_faults = same_faults ∙ reading.same_faults;
      reached = λ bytes count can. rw (length-append reading.given piece, add_assoc) (reading.reached (length piece + bytes) count (reached bytes count can));
      total_is = simp length-append (omega (arith, reading.total_is));
      within = within;
      going = all.same_end ∙ reading.going;
      whole = whole_further all;
      drained = drained_further all;
      advances = advances_on start standing last old new newer reading.items all.items [] dones more reading.advances all.advances;
    }

  module _ (after : Option (List ℕ)) (rest : Stream) (last : Standing) (newer : List Entry) (more : List Done) (count kept : ℕ) (room view : List ℕ) (same : view ≡ room) (fits : count ≤ length room) (kept_is : kept ≡ min count (limits.source - total)) (read : Consumes now.left after (take count room)) where
    below : kept ≤ count
    below = omega arith

    long : length (take kept view) ≡ kept
    long = rw (same, length-take) (omega (arith, below))

    pieces : take kept view ++ drop kept (take count room) ≡ take count room
    pieces = rw same (ap (λ front. front ++ drop kept (take count room)) (sym (take-take kept count room below)) ∙ take-append-drop kept (take count room))

    read_in_pieces : Consumes now.left after (take kept view ++ drop kept (take count room))
    read_in_pieces = rw pieces read

    pub piece_starved : RunsSome reader (take kept view) standing new newer dones more → RunsSource limits told start.session old newer more Starved
    piece_starved some = ends_starved after rest last newer more (take kept view) (drop kept (take count room)) read_in_pieces some

    pub piece_too_long : limits.source < total + count → RunsAll reader rest (take kept view) standing last new newer dones more → RunsSource limits told start.session old newer more (SourceTooLong (total + count))
    piece_too_long above all =
        let within = reading.within in
        ends_too_long after rest last newer more (take kept view) (drop kept (take count room)) read_in_pieces (total + count) above
        (rw (pieces, length-take) (omega arith)) (rw long (omega arith)) all

    pub piece_read : (later : Told) → later.left ≡ after → total + count ≤ limits.source → later.faults ≡ now.faults → ((bytes failed : ℕ) → later.reaches bytes failed → now.reaches (count + bytes) failed) → RunsAll reader rest (take kept view) standing last new newer dones more → IsReading limits told later (total + count) rest start last old newer more
    piece_read later after_is within same_faults reached all =
        let whole : kept ≡ count = omega arith in
        let length_is : length (take kept view) ≡ count = long ∙ whole in
        reading_on after rest last newer more (take kept view) (drop kept (take count room)) read_in_pieces later (total + count) after_is
        (drop_all kept (take count room) (rw length-take (omega arith))) same_faults (λ bytes failed can. rw length_is (reached bytes failed can)) (rw length_is refl) within all

-- the log of a session that was run
pub serves : (limits : Limits) (told : Told) (number : SessionNo) (phase opened : ℕ) (old new : List Entry) (dones list : List Done) (end : End) → opened ≡ length old → list ≡ dones → RunsSource limits told number.0 old new dones end → Serves limits told number.0 phase old new (record { number = number; phase = phase; opened = opened; done = list; end = end })
serves limits told number phase opened old new dones list end at same runs = record {
  added = runs.grown.added;
  grows = runs.grown.grows;
  owned = rw same runs.grown.owned;
  accepted = runs.grown.accepted;
  number_is = refl;
  phase_is = refl;
  opened_is = at;
  holds = record {
    items = runs.items;
    read = runs.read;
    replies = rw same runs.replies;
    climbs = rw (at, same) runs.climbs;
  };
}
