use Rattle.std.proofs.Common.{◌≡◌, ◌++◌, drop}
use Rattle.gr_db.specs.Wants.{all_added, all_wanted, first_full}
use Rattle.gr_root.specs.Inside.Sound.{AreFormed, AreWithin}
use Rattle.gr_root.specs.Inside.Walk.{IsOnTheWay}
use Rattle.gr_root.proofs.walk.walk.Given as goal

-- what is left to be wanted comes to what all wants come to
abbrev pub invariant-loop-want : goal.invariant-loop-want
invariant-loop-want l = IsOnTheWay l.limit l.schema l.initial.tables l.tables l.wants (drop l.want-index l.wants) l.added.items
