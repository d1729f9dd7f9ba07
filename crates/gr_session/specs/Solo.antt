-- What one command does on one thread, to its session and to the newest state.
use Rattle.std.specs.Prelude.{◌≡◌, ◌+◌, true, MatchBool, None, List, [], ◌++◌, length}
use Rattle.std.specs.List.{AllByRecursion}
use Rattle.gr_cmdline.specs.declared.command.Item.{Item}
use Rattle.gr_db.specs.Accepted.{IsAccepted}
use Rattle.gr_db.specs.declared.entry.Entry.{Entry}
use Rattle.gr_root.specs.Root.{Rooted}
use Rattle.gr_session.specs.Own.{is_own, own}
use Rattle.gr_session.specs.Reply.{IsStarved, Reply}
use Rattle.gr_session.specs.Step.{Standing}
use Rattle.gr_session.specs.declared.session.Done.{Done}

-- one command was run: the journal grew by its own entries alone, and its reply holds there
pub record Steps (before after : Standing) (old new : Rooted) (item : Item) (done : Done) : Type 0 where
  pub added : List Entry
  pub grows : new.journal ≡ old.journal ++ added
  pub limits : new.limits ≡ old.limits
  pub owned : AllByRecursion (λ entry. is_own before.session before.command entry ≡ true) added
  pub accepted : IsAccepted new.limits new.journal
  pub from : done.from ≡ length old.journal
  pub reply : own before.session before.command old.journal ≡ [] →
      MatchBool after.ended (IsStarved new.journal before.session before.command item done) (Reply old.limits new.journal before.session before.command item done)
  pub limits_same : after.limits ≡ before.limits
  pub session : after.session ≡ before.session
  pub command : after.command ≡ before.command + 1
  pub mark : after.mark ≡ done.mark
  pub idle : after.going ≡ None
