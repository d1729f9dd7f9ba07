-- What a read of a source in memory does to its bytes and to the pairs that it can reach.
use Rattle.std.proofs.Common.{◌≡◌, ℕ, ◌+◌, ◌<◌, ◌≤◌, suc, min, true, false, List, [], ◌++◌, length, take, drop, refl, add-suc, suc-add, arith, length-drop, take-append-drop}
use Rattle.std.proofs.Math.Seq.{drop-drop}
use Rattle.std.proofs.lemmas.List.{drop_all}
use Rattle.gr_outside.specs.Memory.{CanReach, Reading, is_failing, next_call}

-- the bytes moved and those after them are the bytes that were left
pub moved_then_left : (bytes room : List ℕ) (at given : ℕ)
    → take given room ≡ take given (drop at bytes)
    → drop at bytes ≡ take given room ++ drop (at + given) bytes
moved_then_left bytes room at given moved = rw (moved, ← drop-drop given at bytes, take-append-drop) refl

-- a read that had room and gave nothing was at the end
pub nothing_at_end : (bytes : List ℕ) (at given room largest : ℕ)
    → given ≡ min room (min largest (length (drop at bytes)))
    → 0 < largest → given ≡ 0 → 0 < room
    → drop (at + given) bytes ≡ []
nothing_at_end bytes at given room largest amount some nothing has_room =
    drop_all (at + given) bytes (omega (arith, amount, length-drop at bytes))

-- a failing call leads to no pair that was out of reach
pub reach_after_failure : (source : Reading) (bytes count : ℕ)
    → is_failing source.failing source.call ≡ true
    → CanReach (record source { call = next_call source.call; faults = source.faults + 1 }) bytes count
    → CanReach source bytes count
reach_after_failure source bytes count fails after = record {
  failed = suc after.failed;
  gave = after.gave;
  failing = rw (add-suc after.gave after.failed, fails) (omega (arith, after.failing));
  counted = omega (arith, after.counted);
  given = after.given;
  within = after.within;
}

-- nor does a call that gives
pub reach_after_given : (source : Reading) (given bytes count : ℕ)
    → is_failing source.failing source.call ≡ false
    → given ≤ source.largest
    → given ≤ length source.left
    → CanReach (record source { left = drop given source.left; call = next_call source.call }) bytes count
    → CanReach source (given + bytes) count
reach_after_given source given bytes count goes small enough after = record {
  failed = after.failed;
  gave = suc after.gave;
  failing = rw (suc-add after.gave after.failed, goes) (omega (arith, after.failing));
  counted = after.counted;
  given = omega (arith, after.given);
  within = omega (arith, after.within, length-drop given source.left);
}
