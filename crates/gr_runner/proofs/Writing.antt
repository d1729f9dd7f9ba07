-- A text that is written piece by piece.
use Rattle.std.proofs.Common.{◌≡◌, ℕ, ◌<◌, ◌-◌, ◌+◌, Result, Ok, Err, List, [], ◌++◌, length, take, drop, get_or, refl, sym, ap, ◌∙◌, arith, append_assoc, append-nil, take-append-drop}
use Rattle.std.proofs.lemmas.List.{drop_more, take_rest}
use Rattle.std.proofs.KnownBytes.{Appends-kept, Appends-nil, Appends-trans}
use Rattle.std.specs.Io.KnownBytes.{Appends, Keeps}
use Rattle.std.specs.List.{flat_map}
use Rattle.std.specs.Result.{IsErr}
use Rattle.gr_outside.specs.Outside.{Taken}
use Rattle.gr_outside.specs.declared.failed.Failed.{Failed}
use Rattle.gr_runner.specs.Written.{HasFailed, IsCutOff, IsWrittenWhole, Writes}

-- of a text all but the rest was written, and no write failed
pub record IsWriting (before now : Taken) (text rest : List ℕ) : Type 0 where
  pub piece : List ℕ
  pub text_is : text ≡ piece ++ rest
  pub taken : Appends before.bytes now.bytes piece
  pub same : now.faults ≡ before.faults

-- nothing was written yet
pub begun : (before : Taken) (text : List ℕ) → IsWriting before before text text
begun before text = record { piece = []; text_is = refl; taken = Appends-nil before.bytes; same = refl }

-- the next part is written whole
pub wrote : (before now next : Taken) (text part rest : List ℕ) → IsWriting before now text (part ++ rest) → IsWrittenWhole now next part → IsWriting before next text rest
wrote before now next text part rest writing whole = record {
  piece = writing.piece ++ part;
  text_is = writing.text_is ∙ sym (append_assoc writing.piece part rest);
  taken = Appends-trans before.bytes now.bytes next.bytes writing.piece part writing.taken whole.taken;
  same = whole.same ∙ writing.same;
}

-- the next part is cut off
pub cut : (before now next : Taken) (text part rest : List ℕ) → IsWriting before now text (part ++ rest) → IsCutOff now next part → IsCutOff before next text
cut before now next text part rest writing off = record {
  piece = writing.piece ++ off.piece;
  rest = off.rest ++ rest;
  text_is = writing.text_is ∙ ap (λ other. writing.piece ++ (other ++ rest)) off.text_is ∙ ap (λ other. writing.piece ++ other) (append_assoc off.piece off.rest rest) ∙ sym (append_assoc writing.piece off.piece (off.rest ++ rest));
  taken = Appends-trans before.bytes now.bytes next.bytes writing.piece off.piece writing.taken off.taken;
  risen = omega (arith, writing.same, off.risen);
}

-- nothing is left to write
pub written : (before now : Taken) (text rest : List ℕ) → IsWriting before now text rest → rest ≡ [] → IsWrittenWhole before now text
written before now text rest writing none =
    let same : text ≡ writing.piece = writing.text_is ∙ ap (λ other. writing.piece ++ other) none ∙ append-nil writing.piece in
    record { taken = rw same writing.taken; same = writing.same }

-- a call that takes some of what is left
pub took : (before now next : Taken) (text rest : List ℕ) (taken : ℕ) → IsWriting before now text rest → Appends now.bytes next.bytes (take taken rest) → next.faults ≡ now.faults → IsWriting before next text (take (length rest - taken) (drop taken rest))
took before now next text rest taken writing appends same =
    let cut_there : IsWriting before now text (take taken rest ++ drop taken rest) = rw (take-append-drop taken rest) writing in
    rw (take_rest rest taken) (wrote before now next text (take taken rest) (drop taken rest) cut_there (record { taken = appends; same = same }))

-- a call that fails
pub failed : (before now next : Taken) (text rest : List ℕ) → IsWriting before now text rest → Keeps now.bytes next.bytes → HasFailed now next → IsCutOff before next text
failed before now next text rest writing keeps risen = record {
  piece = writing.piece;
  rest = rest;
  text_is = writing.text_is;
  taken = Appends-kept before.bytes now.bytes next.bytes writing.piece writing.taken keeps;
  risen = omega (arith, writing.same, risen);
}

-- the parts from a place on begin with the part there
pub parts_from : {X : Type 0} (text_of : X → List ℕ) (parts : List X) (place : ℕ) (part : X) → place < length parts → part ≡ get_or parts place part → flat_map text_of (drop place parts) ≡ text_of part ++ flat_map text_of (drop (place + 1) parts)
parts_from text_of parts place part within is =
    ap (flat_map text_of) (drop_more parts place part within) ∙ ap (λ other. text_of other ++ flat_map text_of (drop (place + 1) parts)) (sym is)

-- where a call ended in an error, that is what was answered
pub answered : (before after : Taken) (text : List ℕ) (answer : Result (Unit {0}) Failed) → IsErr answer → IsCutOff before after text → Writes before after text answer
answered before after text (Ok none) error off = cc
answered before after text (Err failed) error off = off

-- the part at a place is written whole
pub part_wrote : {X : Type 0} (text_of : X → List ℕ) (before now next : Taken) (parts : List X) (place : ℕ) (part : X) (text : List ℕ) → IsWriting before now (flat_map text_of parts) (flat_map text_of (drop place parts)) → place < length parts → part ≡ get_or parts place part → text ≡ text_of part → IsWrittenWhole now next text → IsWriting before next (flat_map text_of parts) (flat_map text_of (drop (place + 1) parts))
part_wrote text_of before now next parts place part text writing within is same whole =
    let there : IsWriting before now (flat_map text_of parts) (text_of part ++ flat_map text_of (drop (place + 1) parts)) = rw (← parts_from text_of parts place part within is) writing in
    let of_part : IsWrittenWhole now next (text_of part) = rw (← same) whole in
    wrote before now next (flat_map text_of parts) (text_of part) (flat_map text_of (drop (place + 1) parts)) there of_part

-- the part at a place is cut off
pub part_cut : {X : Type 0} (text_of : X → List ℕ) (before now next : Taken) (parts : List X) (place : ℕ) (part : X) (text : List ℕ) → IsWriting before now (flat_map text_of parts) (flat_map text_of (drop place parts)) → place < length parts → part ≡ get_or parts place part → text ≡ text_of part → IsCutOff now next text → IsCutOff before next (flat_map text_of parts)
part_cut text_of before now next parts place part text writing within is same off =
    let there : IsWriting before now (flat_map text_of parts) (text_of part ++ flat_map text_of (drop (place + 1) parts)) = rw (← parts_from text_of parts place part within is) writing in
    let of_part : IsCutOff now next (text_of part) = rw (← same) off in
    cut before now next (flat_map text_of parts) (text_of part) (flat_map text_of (drop (place + 1) parts)) there of_part
