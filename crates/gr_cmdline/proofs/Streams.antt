-- What a reader of commands gives, from the line that stands first.
use Rattle.std.proofs.Common.{◌≡◌, ℕ, ◌+◌, ◌<◌, ◌≤◌, Bool, true, false, cond, List, [], ◌∷◌, ◌++◌, Option, Some, None, is_some, length, take, drop, option_to_list, refl, sym, ap, subst, ◌∙◌, inl, inr, ⊎_elim, append_assoc, eq-eqb, arith}
use Rattle.std.proofs.lemmas.List.{take-append-drop, take_all, length-drop}
use Rattle.std.proofs.lemmas.Bool.{ne_eqb}
use Rattle.memchr.specs.Find.{IsFirstByte, is_byte}
use Rattle.gr_cmdline.specs.Commands.{Outcome, is_line_end, IsItem, items_behind, outcome_of}
use Rattle.gr_cmdline.specs.Line.{without_return}
use Rattle.gr_cmdline.specs.LoadData.{Waiting, loaded}
use Rattle.gr_cmdline.specs.Inside.Buffered.{Buffered, HasNoLine, StandsFirst, buffered_in, first_outcome, first_text, behind_first_line}
use Rattle.gr_cmdline.specs.Stream.{Gives, GivesItem, IsSameLeft, Stream, items_left, size}
use Rattle.gr_cmdline.specs.declared.command.Item.{Item}
use Rattle.gr_cmdline.specs.declared.command.Next.{Next}
use Rattle.gr_cmdline.specs.declared.command.Next.TheVariants.{Item as Given, NeedMore, End, NoMemory}
use Rattle.gr_cmdline.proofs.Found.{IsOpen, IsClear-none, IsClear-some, drop-found}
use Rattle.gr_cmdline.proofs.Lines.{items_behind-end, items_behind-last, items_behind-line, items_behind-open}

-- a line that ends at a line feed
pub StandsFirst-found : (buffered : Buffered) (n : ℕ) → IsFirstByte (is_byte 10) buffered.bytes (Some n) → StandsFirst buffered n (n + 1)
StandsFirst-found buffered n found = record {
  whole = IsClear-some is_line_end buffered.bytes n found;
  ends = inl (refl, drop-found buffered.bytes n found);
  some = omega arith;
  within = omega (arith, found.0.high);
}

-- the last line, which has no line feed
pub StandsFirst-last : (buffered : Buffered) (n : ℕ) → buffered.ended ≡ true → 0 < n → n ≡ length buffered.bytes → IsFirstByte (is_byte 10) buffered.bytes None → StandsFirst buffered n n
StandsFirst-last buffered n ended some all none = record {
  whole = let same : take n buffered.bytes ≡ buffered.bytes = take_all n buffered.bytes (omega arith) in rw same (IsClear-none is_line_end buffered.bytes none);
  ends = inr (ended, all, refl);
  some = some;
  within = omega arith;
}

nil : (bytes : List ℕ) → length bytes ≤ 0 → bytes ≡ []
nil [] none = refl
nil (c ∷ cs) none = absurd (omega arith)

-- no line feed, and the text goes on
pub HasNoLine-open : (buffered : Buffered) → buffered.ended ≡ false → IsFirstByte (is_byte 10) buffered.bytes None → HasNoLine buffered
HasNoLine-open buffered goes_on none = record { whole = IsClear-none is_line_end buffered.bytes none; empty = λ ended. cc }

-- no line feed, and nothing is left
pub HasNoLine-empty : (buffered : Buffered) (n : ℕ) → n ≡ length buffered.bytes → n ≤ 0 → IsFirstByte (is_byte 10) buffered.bytes None → HasNoLine buffered
HasNoLine-empty buffered n all none absent = record { whole = IsClear-none is_line_end buffered.bytes absent; empty = λ ended. nil buffered.bytes (omega arith) }

-- the items that are left, by the parts of a stream
abbrev left_of : ℕ → Option Waiting → List ℕ → Bool → List ℕ → Bool → List Item
left_of limit load bytes stage more ended = items_left (record { limit = limit; pending = load; bytes = bytes; ended = stage }) more ended

-- what the first line gives, where it ends at a line feed or at the text's end
first_text-found : (bytes : List ℕ) (line past : ℕ) → past ≡ line + 1 → first_text bytes line past ≡ without_return (take line bytes)
first_text-found bytes line past further = ap (λ (b : Bool). cond b (take line bytes) (without_return (take line bytes))) (ne_eqb line past (λ same. omega arith))

first_text-last : (bytes : List ℕ) (line past : ℕ) → past ≡ line → first_text bytes line past ≡ take line bytes
first_text-last bytes line past same = ap (λ (b : Bool). cond b (take line bytes) (without_return (take line bytes))) (eq-eqb line past (sym same))

-- what is left before a line, by what it gives
abbrev Leaves : ℕ → Option Waiting → List ℕ → Bool → List ℕ → Bool → List ℕ → Outcome → Type 0
Leaves limit load bytes stage more ended rest t = left_of limit load bytes stage more ended ≡ option_to_list t.item ++ left_of limit t.load rest stage more ended

left_of-found : (limit : ℕ) (load : Option Waiting) (bytes more : List ℕ) (line past : ℕ) (stage ended : Bool) → IsOpen (take line bytes) → drop line bytes ≡ 10 ∷ drop past bytes
    → Leaves limit load bytes stage more ended (drop past bytes) (outcome_of limit load (without_return (take line bytes)))
left_of-found limit load bytes more line past true ended whole end =
    let split : bytes ≡ take line bytes ++ 10 ∷ drop past bytes = sym (take-append-drop line bytes) ∙ ap (λ rest. take line bytes ++ rest) end in
    ap (λ all. items_behind limit load all true) split ∙ items_behind-line limit load (take line bytes) (drop past bytes) true whole
left_of-found limit load bytes more line past false ended whole end =
    let split : bytes ++ more ≡ take line bytes ++ 10 ∷ (drop past bytes ++ more) =
    ap (λ all. all ++ more) (sym (take-append-drop line bytes) ∙ ap (λ rest. take line bytes ++ rest) end) ∙ append_assoc (take line bytes) (10 ∷ drop past bytes) more in
    ap (λ all. items_behind limit load all ended) split ∙ items_behind-line limit load (take line bytes) (drop past bytes ++ more) ended whole

left_of-last : (limit : ℕ) (load : Option Waiting) (bytes more : List ℕ) (line past : ℕ) (stage ended : Bool) → IsOpen (take line bytes) → stage ≡ true → line ≡ length bytes → past ≡ line
    → Leaves limit load bytes stage more ended (drop past bytes) (outcome_of limit load (take line bytes))
left_of-last limit load bytes more line past stage ended whole is_end all same =
    let all_taken : take line bytes ≡ bytes = take_all line bytes (omega arith) in
    let none : drop past bytes ≡ [] = nil (drop past bytes) (omega (arith, length-drop past bytes)) in
    let t = outcome_of limit load bytes in
    rw (is_end, none, all_taken) (items_behind-last limit load bytes (rw all_taken at whole) ∙ ap (λ items. option_to_list t.item ++ items) (sym (items_behind-end limit t.load)))

-- the item of the first line, if any, comes before those of the rest
items_left-StandsFirst : (stream : Stream) (line past : ℕ) → StandsFirst (buffered_in stream) line past → (more : List ℕ) (ended : Bool) → items_left stream more ended ≡ option_to_list (first_outcome stream line past).item ++ items_left (behind_first_line stream line past) more ended
items_left-StandsFirst stream line past first more ended =
    let Goal : List ℕ → Type 0 = λ text. Leaves stream.limit stream.pending stream.bytes stream.ended more ended (drop past stream.bytes) (outcome_of stream.limit stream.pending text) in
    ⊎_elim
    (λ end. subst Goal (sym (first_text-found stream.bytes line past end.0)) (left_of-found stream.limit stream.pending stream.bytes more line past stream.ended ended first.whole end.1))
    (λ last. subst Goal (sym (first_text-last stream.bytes line past last.2)) (left_of-last stream.limit stream.pending stream.bytes more line past stream.ended ended first.whole last.0 last.1 last.2))
    first.ends

-- a load that waits or none
pending_size : (load : Option Waiting) → cond (is_some load) 1 0 ≤ 1
pending_size None = omega arith
pending_size (Some waiting) = omega arith

-- a line leaves less
pub size-behind_first_line : (stream : Stream) (line past : ℕ) → StandsFirst (buffered_in stream) line past → size (behind_first_line stream line past) < size stream
size-behind_first_line stream line past first = omega (arith, length-drop past stream.bytes, first.some, first.within, pending_size (first_outcome stream line past).load)

-- only lines that give nothing were behind_first_line
pub record Along (old now : Stream) : Type 0 where
  pub same : IsSameLeft old now
  pub smaller : size now ≤ size old

pub Along-pass : (old now : Stream) (line past : ℕ) → Along old now → StandsFirst (buffered_in now) line past → None ≡ (first_outcome now line past).item → Along old (behind_first_line now line past)
Along-pass old now line past along first item = record {
  same = record {
    ended = along.same.ended;
    items = λ more ended.
        ap (λ found. option_to_list found ++ items_left (behind_first_line now line past) more ended) item
        ∙ sym (items_left-StandsFirst now line past first more ended) ∙ along.same.items more ended;
  };
  smaller = omega (arith, along.smaller, size-behind_first_line now line past first);
}

-- the first line's item is given
pub GivesItem-pass : (old now : Stream) (line past : ℕ) (item : Item) → Along old now → StandsFirst (buffered_in now) line past → Some item ≡ (first_outcome now line past).item → IsItem item → GivesItem old (behind_first_line now line past) item
GivesItem-pass old now line past item along first given is_item =
    record {
      is_item = is_item;
      ended = along.same.ended;
      items = λ more ended.
          sym (along.same.items more ended) ∙ items_left-StandsFirst now line past first more ended
          ∙ ap (λ found. option_to_list found ++ items_left (behind_first_line now line past) more ended) (sym given);
      smaller = omega (arith, along.smaller, size-behind_first_line now line past first);
    }

-- no line is left, and more can come
pub Gives-more : (now : Stream) → HasNoLine (buffered_in now) → now.ended ≡ false → Gives now now NeedMore
Gives-more now none goes_on = record {
  kept = record { ended = refl; items = λ more ended. refl };
  stage = goes_on;
  none = items_behind-open now.limit now.pending now.bytes none.whole;
}

-- no line is left where the text has ended, and no load waits
pub Gives-end : (now : Stream) → HasNoLine (buffered_in now) → now.ended ≡ true → now.pending ≡ None → Gives now now End
Gives-end now none is_end idle = record {
  kept = record { ended = refl; items = λ more ended. refl };
  stage = is_end;
  none = rw (none.empty is_end, idle) (items_behind-end now.limit None);
}

-- the stream without the load that waited
abbrev pub unloaded : Stream → Stream
unloaded stream = record { limit = stream.limit; pending = None; bytes = stream.bytes; ended = stream.ended }

-- no line is left where the text has ended, and a load waits
pub GivesItem-unfinished : (now : Stream) (waiting : Waiting) (item : Item) → HasNoLine (buffered_in now) → now.ended ≡ true → now.pending ≡ Some waiting → item ≡ loaded waiting false → IsItem item → GivesItem now (unloaded now) item
GivesItem-unfinished now waiting item none is_end waits is is_item =
    record {
      is_item = is_item;
      ended = refl;
      items = λ more ended.
          let last : items_behind now.limit now.pending now.bytes true ≡ loaded waiting false ∷ [] = rw (none.empty is_end, waits) (items_behind-end now.limit (Some waiting)) in
          let rest : items_behind now.limit None now.bytes true ≡ [] = rw (none.empty is_end) (items_behind-end now.limit None) in
          rw is_end (last ∙ ap (λ first. first ∷ []) (sym is) ∙ ap (λ items. item ∷ items) (sym rest));
      smaller = rw waits (omega arith);
    }

-- what is given behind lines that give nothing
pub Gives-along : (old now new : Stream) (item : Next) → Along old now → Gives now new item → Gives old new item
Gives-along old now new item along = go item
  where
    follow : IsSameLeft now new → IsSameLeft old new
    follow same = record { ended = same.ended ∙ along.same.ended; items = λ more ended. same.items more ended ∙ along.same.items more ended }

    one : (item : Item) → GivesItem now new item → GivesItem old new item
    one item gives = record {
      is_item = gives.is_item;
      ended = gives.ended ∙ along.same.ended;
      items = λ more ended. sym (along.same.items more ended) ∙ gives.items more ended;
      smaller = omega (arith, along.smaller, gives.smaller);
    }

    go : (item : Next) → Gives now new item → Gives old new item
    go (Given item) gives = one item gives
    go NeedMore gives = record { kept = follow gives.kept; stage = gives.stage; none = gives.none }
    go End gives = record { kept = follow gives.kept; stage = gives.stage; none = gives.none }
    go NoMemory same = follow same
