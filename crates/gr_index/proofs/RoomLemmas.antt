-- Room in a level, by the room in the level above and a fold.
use Rattle.std.proofs.Common.{◌≡◌, ℕ, ◌+◌, ◌<◌, ◌≤◌, Bool, refl, sym, subst, ◌∙◌, arith}
use Rattle.std.specs.List.{count_by}
use Rattle.gr_base.specs.declared.numbers.RecordId.{RecordId}
use Rattle.gr_index.specs.declared.limits.TheConstants.{FOLDED_SEGMENTS, MOST_SEGMENTS}
use Rattle.gr_index.specs.Added.{HasRoom}
use Rattle.gr_index.specs.Levels.{Levels, end_of, is_of_level}
use Rattle.gr_index.specs.Inside.Room.{Folds, HasRoomAt}

pub room_there : (lives : RecordId → ℕ → Bool) (level : ℕ) (old new : Levels) → count_by (is_of_level level) old.parts < MOST_SEGMENTS → new ≡ old → HasRoomAt lives level old new
room_there lives level old new l e =
    subst (HasRoomAt lives level old) (sym e)
    (record {
      has = HasRoom.There level old.parts l;
      same_place = refl;
      same_end = refl;
      room = l;
      lower = λ k h. refl;
    })

pub room_folded : (lives : RecordId → ℕ → Bool) (level next : ℕ) (old mid new : Levels) → next ≡ level + 1 → MOST_SEGMENTS ≤ count_by (is_of_level level) old.parts → count_by (is_of_level level) old.parts ≤ MOST_SEGMENTS → HasRoomAt lives next old mid → Folds lives level mid new → HasRoomAt lives level old new
room_folded lives level next old mid new e full few h f =
    let same = h.lower level (omega (arith, e)) in
    let fewer = f.fewer in
    record {
      has = HasRoom.Folded level old.parts mid.parts new.parts full (subst (λ n. HasRoom lives n old.parts mid.parts) e h.has) f.folds;
      same_place = f.same_place ∙ h.same_place;
      same_end = f.same_end ∙ h.same_end;
      room = omega (arith, same, fewer, few);
      lower = λ k l. f.lower k l ∙ h.lower k (omega (arith, l, e));
    }
