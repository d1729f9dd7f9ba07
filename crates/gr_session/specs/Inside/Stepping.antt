-- What the parts of a session's steps do.
use Rattle.std.specs.Prelude.{ℕ, ◌≡◌, ◌-◌, ◌^◌, ◌<◌, None, IfSome, List}
use Rattle.gr_base.specs.declared.fault.Fault.{Fault}
use Rattle.gr_session.specs.Inside.Kept.{IsSpare, IsWaiting}
use Rattle.gr_session.specs.Step.{AsksNext, Ends, Going, HoldsAfterLast, HoldsWhereRefused, Standing, going_on}
use Rattle.gr_session.specs.declared.session.Session.TheInside.{Inside as Session}
use Rattle.gr_session.specs.declared.session.Step.{Step}
use Rattle.gr_session.specs.declared.session.Step.TheVariants.{Publish, Done as Finished}

-- a session of which the command under way is taken up, to go on with it
abbrev pub taken_up : Standing → Standing
taken_up standing =
    record { limits = standing.limits; session = standing.session; command = standing.command; mark = standing.mark; ended = standing.ended; going = None }

-- a command is done, with its session left so
abbrev pub IsFinished : Standing → Standing → ℕ → ℕ → List ℕ → Step → Type 0
IsFinished new left from mark text (Publish entry) = ⊥
IsFinished new left from mark text (Finished done) = (new ≡ left) × (done ≡ record { from = from; mark = mark; text = text })

-- a command asks for its next entry, or is done where it has come to
abbrev pub Proceeds : Standing → Standing → Going → Step → Type 0
Proceeds old new going (Publish entry) = (new ≡ going_on old going) × AsksNext old going entry
Proceeds old new going (Finished done) = Ends old new going going.reached done (HoldsAfterLast old going done)

-- a command is done, of which an entry was refused with this fault
abbrev pub Stops : Standing → Standing → Going → Fault → ℕ → Step → Type 0
Stops old new going fault mark (Publish entry) = ⊥
Stops old new going fault mark (Finished done) = Ends old new going mark done (HoldsWhereRefused old going fault done)

-- a session's replies to want of memory, and the command under way, which can still be counted
pub record IsReady (session : Session) : Type 0 where
  pub spare : IfSome session.spare IsSpare
  pub going : IfSome session.going IsWaiting
  pub countable : IfSome session.going (λ command. session.command < 2 ^ 64 - 1)
