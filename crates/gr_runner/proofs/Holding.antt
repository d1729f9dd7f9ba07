-- Texts that are put behind what is held, and written in large pieces.
use Rattle.std.proofs.Common.{◌≡◌, ℕ, ◌<◌, ◌+◌, Result, Ok, Err, List, [], ◌++◌, length, drop, get_or, refl, sym, ap, ◌∙◌, append_assoc, append-nil}
use Rattle.std.proofs.KnownBytes.{Appends-nil}
use Rattle.std.specs.List.{flat_map}
use Rattle.std.specs.Result.{IsErr}
use Rattle.gr_outside.specs.Outside.{Taken}
use Rattle.gr_outside.specs.declared.failed.Failed.{Failed}
use Rattle.gr_runner.specs.Written.{IsCutOff, IsPut, IsWrittenWhole, Puts, Writes}
use Rattle.gr_runner.proofs.Writing.{IsWriting, begun, cut, parts_from, written, wrote}

-- what is held grew by the text, and nothing was written
pub put_held : (before : Taken) (held text after : List ℕ) → after ≡ held ++ text → IsPut before before held after text
put_held before held text after is = record { piece = []; all = sym is; taken = Appends-nil before.bytes; same = refl }

-- the room was full: it was written, and the rest is held
pub put_full : (before after : Taken) (held full text first rest now : List ℕ) → text ≡ first ++ rest → full ≡ held ++ first → IsWrittenWhole before after full → now ≡ rest → IsPut before after held now text
put_full before after held full text first rest now split is whole same = record {
  piece = full;
  all = ap (λ other. held ++ other) split ∙ sym (append_assoc held first rest) ∙ ap (λ front. front ++ rest) (sym is) ∙ ap (λ other. full ++ other) (sym same);
  taken = whole.taken;
  same = whole.same;
}

-- the room was full, and a write of it failed
pub put_full_cut : (before after : Taken) (held full text first rest : List ℕ) → text ≡ first ++ rest → full ≡ held ++ first → IsCutOff before after full → IsCutOff before after (held ++ text)
put_full_cut before after held full text first rest split is off =
    let begin : IsWriting before before (held ++ text) (full ++ rest) = rw (split, is, append_assoc) (begun before (held ++ (first ++ rest))) in
    cut before before after (held ++ text) full rest begin off

-- the room was written, and the rest after it
module _ (before between after : Taken) (held full text first rest : List ℕ) (split : text ≡ first ++ rest) (is : full ≡ held ++ first) (whole : IsWrittenWhole before between full) where
  written_full : IsWriting before between (held ++ text) rest
  written_full =
      let begin : IsWriting before before (held ++ text) (full ++ rest) = rw (split, is, append_assoc) (begun before (held ++ (first ++ rest))) in
      wrote before before between (held ++ text) full rest begin whole

  pub put_whole : IsWrittenWhole between after rest → IsPut before after held [] text
  put_whole more =
      let writing : IsWriting before between (held ++ text) (rest ++ []) = rw append-nil written_full in
      let all : IsWriting before after (held ++ text) [] = wrote before between after (held ++ text) rest [] writing more in
      record { piece = all.piece; all = all.text_is; taken = all.taken; same = all.same }

  pub put_cut : IsCutOff between after rest → IsCutOff before after (held ++ text)
  put_cut off =
      let writing : IsWriting before between (held ++ text) (rest ++ []) = rw append-nil written_full in
      cut before between after (held ++ text) rest [] writing off

-- the text at a place was put behind what is held
pub part_put : {X : Type 0} (text_of : X → List ℕ) (before now next : Taken) (all : List ℕ) (parts : List X) (place : ℕ) (part : X) (held held_after text : List ℕ) → IsWriting before now all (held ++ flat_map text_of (drop place parts)) → place < length parts → part ≡ get_or parts place part → text ≡ text_of part → IsPut now next held held_after text → IsWriting before next all (held_after ++ flat_map text_of (drop (place + 1) parts))
part_put text_of before now next all parts place part held held_after text writing within is same put =
    let rest : List ℕ = flat_map text_of (drop (place + 1) parts) in
    let there : held ++ flat_map text_of (drop place parts) ≡ put.piece ++ (held_after ++ rest) =
    ap (λ other. held ++ other) (parts_from text_of parts place part within is ∙ ap (λ other. other ++ rest) (sym same)) ∙ sym (append_assoc held text rest) ∙ ap (λ front. front ++ rest) put.all ∙ append_assoc put.piece held_after rest in
    wrote before now next all put.piece (held_after ++ rest) (rw there at writing) (record { taken = put.taken; same = put.same })

-- a write failed as the text at a place was put
pub part_put_cut : {X : Type 0} (text_of : X → List ℕ) (before now next : Taken) (all : List ℕ) (parts : List X) (place : ℕ) (part : X) (held text : List ℕ) → IsWriting before now all (held ++ flat_map text_of (drop place parts)) → place < length parts → part ≡ get_or parts place part → text ≡ text_of part → IsCutOff now next (held ++ text) → IsCutOff before next all
part_put_cut text_of before now next all parts place part held text writing within is same off =
    let rest : List ℕ = flat_map text_of (drop (place + 1) parts) in
    let there : held ++ flat_map text_of (drop place parts) ≡ (held ++ text) ++ rest =
    ap (λ other. held ++ other) (parts_from text_of parts place part within is ∙ ap (λ other. other ++ rest) (sym same)) ∙ sym (append_assoc held text rest) in
    cut before now next all (held ++ text) rest (rw there at writing) off

-- where a put ended in an error, that is what was answered
pub put_answered : (before after : Taken) (held held_after text : List ℕ) (answer : Result (Unit {0}) Failed) → IsErr answer → IsCutOff before after (held ++ text) → Puts before after held held_after text answer
put_answered before after held held_after text (Ok none) error off = cc
put_answered before after held held_after text (Err failed) error off = off

-- all texts were put
pub put_all : (before after : Taken) (held held_after text : List ℕ) → IsWriting before after (held ++ text) (held_after ++ []) → IsPut before after held held_after text
put_all before after held held_after text writing = record { piece = writing.piece; all = writing.text_is ∙ ap (λ other. writing.piece ++ other) (append-nil held_after); taken = writing.taken; same = writing.same }

-- what is held at the end was written, or not
pub last_written : (before now after : Taken) (text held : List ℕ) (answer : Result (Unit {0}) Failed) → IsWriting before now text (held ++ []) → Writes now after held answer → Writes before after text answer
last_written before now after text held (Ok done) writing whole = written before after text [] (wrote before now after text held [] writing whole) refl
last_written before now after text held (Err failed) writing off = cut before now after text held [] writing off

-- the rest of a text that filled the room was written by itself, or not
pub rest_written : (before between after : Taken) (held full text first rest now : List ℕ) (answer : Result (Unit {0}) Failed) → text ≡ first ++ rest → full ≡ held ++ first → IsWrittenWhole before between full → now ≡ [] → Writes between after rest answer → Puts before after held now text answer
rest_written before between after held full text first rest now (Ok done) split is whole none more = rw none (put_whole before between after held full text first rest split is whole more)
rest_written before between after held full text first rest now (Err failed) split is whole none off = put_cut before between after held full text first rest split is whole off
