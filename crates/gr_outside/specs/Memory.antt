-- Sources and sinks in memory: which calls fail, how much the others move, and what those to come can give.
use Rattle.std.specs.Prelude.{ℕ, ◌≡◌, ◌+◌, ◌*◌, ◌-◌, ◌^◌, ◌≤◌, ◌==◌, min, Bool, false, if◌then◌else◌, Result, Ok, Err, Some, List, [], ◌++◌, length, take, drop, zero, suc}
use Rattle.std.proofs.Common.{arith, refl, sym, add-zero}
use Rattle.std.specs.List.{list_any}
use Rattle.gr_outside.specs.Outside.{Taken, Told}
use Rattle.gr_outside.specs.declared.failed.Failed.{Failed}

-- whether the call of this number is to fail
abbrev pub is_failing : List ℕ → ℕ → Bool
is_failing failing call = list_any (λ number. number == call) failing

-- the number of the call after this one; the last number of 64 bits stands for all beyond it
abbrev pub next_call : ℕ → ℕ
next_call call = min (call + 1) (2 ^ 64 - 1)

-- how many of the next calls are to fail
abbrev pub failures_among : List ℕ → ℕ → ℕ → ℕ
failures_among failing call zero = 0
failures_among failing call (suc more) =
    (if is_failing failing call then 1 else 0) + failures_among failing (next_call call) more

-- ---- sources

-- a source in memory: the bytes left, the failing calls, the next call, the most given in a call, and the faults so far
pub record Reading : Type 0 where
  pub left : List ℕ
  pub failing : List ℕ
  pub call : ℕ
  pub largest : ℕ
  pub faults : ℕ

-- a source in memory before its first call
abbrev pub reading_from : List ℕ → List ℕ → ℕ → Reading
reading_from bytes failing largest = record { left = bytes; failing = failing; call = 0; largest = largest; faults = 0 }

-- some number of calls leads there: the failing ones among them were counted and gave nothing, and each other gave at most the largest piece, of what was left
pub record CanReach (source : Reading) (bytes count : ℕ) : Type 0 where
  pub failed : ℕ
  pub gave : ℕ
  pub failing : failed ≡ failures_among source.failing source.call (gave + failed)
  pub counted : count ≡ source.faults + failed
  pub given : bytes ≤ gave * source.largest
  pub within : bytes ≤ length source.left

-- no call at all leads to where the source is
pub reaches_at_once : (source : Reading) → CanReach source 0 source.faults
reaches_at_once source = record { failed = 0; gave = 0; failing = refl; counted = sym (add-zero source.faults); given = omega arith; within = omega arith }

-- what a source in memory tells
abbrev pub told_by : Reading → Told
told_by source = record { left = Some source.left; faults = source.faults; reaches = CanReach source }

-- how many bytes a call that does not fail gives: as many as the room, the largest piece and the bytes left allow
abbrev pub given_to : Reading → ℕ → ℕ
given_to source room = min room (min source.largest (length source.left))

-- a read fails exactly where its call is to fail, and otherwise gives what it can
abbrev pub read_answer : Reading → ℕ → Result ℕ Failed
read_answer source room =
    if is_failing source.failing source.call then Err (record { faults = source.faults + 1 }) else Ok (given_to source room)

-- a source after a read: a failure was counted, or what was given is no longer left
abbrev pub after_read : Reading → ℕ → Reading
after_read source room =
    if is_failing source.failing source.call
    then record source { call = next_call source.call; faults = source.faults + 1 }
    else record source { left = drop (given_to source room) source.left; call = next_call source.call }

-- ---- sinks

-- a sink in memory: the bytes taken, the failing calls, the next call, the most taken in a call, and the faults so far
pub record Writing : Type 0 where
  pub taken : List ℕ
  pub failing : List ℕ
  pub call : ℕ
  pub largest : ℕ
  pub faults : ℕ

-- a sink in memory before its first call
abbrev pub writing_with : List ℕ → ℕ → Writing
writing_with failing largest = record { taken = []; failing = failing; call = 0; largest = largest; faults = 0 }

-- what a sink in memory took
abbrev pub taken_by : Writing → Taken
taken_by sink = record { bytes = Some sink.taken; faults = sink.faults }

-- a write took the whole piece, or its first bytes where it is above the largest; its call is none of those that are to fail
pub record TakesPiece (old new : Writing) (piece : List ℕ) (taken : ℕ) : Type 0 where
  pub unfailing : is_failing old.failing old.call ≡ false
  pub amount : taken ≡ min (length piece) old.largest
  pub after : new ≡ record old { taken = old.taken ++ take taken piece; call = next_call old.call }

-- a write failed: this was counted, and nothing was taken
pub record TakesNothing (old new : Writing) (failed : Failed) : Type 0 where
  pub told : failed.faults ≡ old.faults + 1
  pub after : new ≡ record old { call = next_call old.call; faults = old.faults + 1 }

-- a write takes what it can, unless its call is to fail or no memory is found for what it takes, which counts as a failure too
abbrev pub Writes : Writing → Writing → List ℕ → Result ℕ Failed → Type 0
Writes old new piece (Ok taken) = TakesPiece old new piece taken
Writes old new piece (Err failed) = TakesNothing old new failed
