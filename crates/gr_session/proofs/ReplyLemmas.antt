-- A reply means the same where the journal grows by entries of others.
use Rattle.std.proofs.Common.{◌≡◌, ℕ, ◌≤◌, false, List, ◌++◌, length, take, ◌⊎◌, inl, inr, ap, arith, length-append}
use Rattle.std.proofs.lemmas.List.{take-append-le}
use Rattle.std.specs.List.{AllByRecursion}
use Rattle.gr_base.specs.declared.numbers.Limits.{Limits}
use Rattle.gr_cmdline.specs.declared.command.Item.{Item}
use Rattle.gr_db.specs.Apply.{replay}
use Rattle.gr_db.specs.declared.entry.Entry.{Entry}
use Rattle.gr_session.specs.Commands.{meaning_of}
use Rattle.gr_session.specs.Own.{is_own, own}
use Rattle.gr_session.specs.Parsed.{parsed_as}
use Rattle.gr_session.specs.declared.parsed.Parsed.{Parsed}
use Rattle.gr_session.specs.Reply.{IsStarved, IsStopped, IsWhole, OwnsFirst, Reply, meaning_at}
use Rattle.gr_session.specs.declared.session.Done.{Done}
use Rattle.gr_session.proofs.OwnLemmas.{own-more}

within-more : (journal more : List Entry) (mark : ℕ) → mark ≤ length journal → mark ≤ length (journal ++ more)
within-more journal more mark within = omega (arith, length-append journal more)

-- a longer journal that shows the same: the same entries of the command's own, the same meaning where it was read, and the same entries up to the mark
record ShowsSame (journal longer : List Entry) (session command : ℕ) (parsed : Parsed) (done : Done) : Type 0 where
  own : own session command longer ≡ own session command journal
  read : meaning_at longer parsed done ≡ meaning_at journal parsed done
  marked : take done.mark longer ≡ take done.mark journal

ShowsSame-more : (journal more : List Entry) (session command : ℕ) (parsed : Parsed) (done : Done) → AllByRecursion (λ entry. is_own session command entry ≡ false) more → done.from ≤ done.mark → done.mark ≤ length journal → ShowsSame journal (journal ++ more) session command parsed done
ShowsSame-more journal more session command parsed done others order within = record {
  own = own-more journal more session command others;
  read = ap (λ entries. meaning_of (replay entries) parsed) (take-append-le done.from journal more (omega arith));
  marked = take-append-le done.mark journal more within;
}

OwnsFirst-same : (journal longer : List Entry) (session command : ℕ) (parsed : Parsed) (done : Done) (made : ℕ) → ShowsSame journal longer session command parsed done → OwnsFirst journal session command parsed done made → OwnsFirst longer session command parsed done made
OwnsFirst-same journal longer session command parsed done made same owns = record {
  count = rw same.own owns.count;
  entries = rw (same.own, same.read) owns.entries;
  places = rw same.own owns.places;
}

IsWhole-same : (journal longer : List Entry) (session command : ℕ) (parsed : Parsed) (done : Done) (made : ℕ) → ShowsSame journal longer session command parsed done → IsWhole journal session command parsed done made → IsWhole longer session command parsed done made
IsWhole-same journal longer session command parsed done made same whole = record {
  all = rw same.read whole.all;
  mark = rw same.own whole.mark;
  text = rw same.read whole.text;
}

IsStopped-same : (limits : Limits) (journal longer : List Entry) (session command : ℕ) (parsed : Parsed) (done : Done) (made : ℕ) → ShowsSame journal longer session command parsed done → IsStopped limits journal session command parsed done made → IsStopped limits longer session command parsed done made
IsStopped-same limits journal longer session command parsed done made same stopped = record {
  change = stopped.change;
  next = rw same.read stopped.next;
  fault = stopped.fault;
  first = rw same.marked stopped.first;
  text = rw same.read stopped.text;
}

answers-same : (limits : Limits) (journal longer : List Entry) (session command : ℕ) (parsed : Parsed) (done : Done) (made : ℕ) → ShowsSame journal longer session command parsed done
    → IsWhole journal session command parsed done made ⊎ IsStopped limits journal session command parsed done made → IsWhole longer session command parsed done made ⊎ IsStopped limits longer session command parsed done made
answers-same limits journal longer session command parsed done made same (inl whole) = inl (IsWhole-same journal longer session command parsed done made same whole)
answers-same limits journal longer session command parsed done made same (inr stopped) = inr (IsStopped-same limits journal longer session command parsed done made same stopped)

-- a reply stands where the journal grows so
pub Reply-more : (limits : Limits) (journal more : List Entry) (session command : ℕ) (item : Item) (done : Done) → AllByRecursion (λ entry. is_own session command entry ≡ false) more → Reply limits journal session command item done → Reply limits (journal ++ more) session command item done
Reply-more limits journal more session command item done others reply =
    let parsed : Parsed = parsed_as item reply.texts in
    let same : ShowsSame journal (journal ++ more) session command parsed done = ShowsSame-more journal more session command parsed done others reply.order reply.within in
    record {
      texts = reply.texts;
      read = reply.read;
      made = reply.made;
      order = reply.order;
      within = within-more journal more done.mark reply.within;
      owns = OwnsFirst-same journal (journal ++ more) session command parsed done reply.made same reply.owns;
      answers = answers-same limits journal (journal ++ more) session command parsed done reply.made same reply.answers;
    }

-- and so does the reply to want of memory
pub IsStarved-more : (journal more : List Entry) (session command : ℕ) (item : Item) (done : Done) → AllByRecursion (λ entry. is_own session command entry ≡ false) more → IsStarved journal session command item done → IsStarved (journal ++ more) session command item done
IsStarved-more journal more session command item done others starved =
    let parsed : Parsed = parsed_as item starved.texts in
    let same : ShowsSame journal (journal ++ more) session command parsed done = ShowsSame-more journal more session command parsed done others starved.order starved.within in
    record {
      texts = starved.texts;
      made = starved.made;
      read = starved.read;
      order = starved.order;
      within = within-more journal more done.mark starved.within;
      owns = OwnsFirst-same journal (journal ++ more) session command parsed done starved.made same starved.owns;
      text = rw same.read starved.text;
    }
