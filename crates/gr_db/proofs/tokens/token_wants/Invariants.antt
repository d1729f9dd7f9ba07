use Rattle.std.proofs.Common.{◌≡◌, ◌++◌, take}
use Rattle.std.specs.List.{flat_map}
use Rattle.gr_db.specs.Wants.{key_wants}
use Rattle.gr_db.proofs.tokens.token_wants.Given as goal

-- the wants so far are those of the keys so far
abbrev pub invariant-loop-new : goal.invariant-loop-new
invariant-loop-new l = l.wants.items ≡ flat_map (λ new. key_wants l.schema new.want) (take l.new-index l.news)
