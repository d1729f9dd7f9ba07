-- What seats know, and how the steps change it.
use Rattle.std.specs.Prelude.{ℕ, ◌+◌, ◌-◌, List, [], ◌∷◌, ◌++◌, length, nat_lt, if◌then◌else◌}
use Rattle.std.specs.List.{range_with_len}
use Rattle.gr_turn.specs.declared.view.Stage.TheVariants.{Idle, Waits, Serves}
use Rattle.gr_turn.specs.declared.view.View.{View}
use Rattle.gr_turn.specs.Known.{all_shares, longer}

-- the shorter of two lists, where `longer` gives the other one
abbrev pub shorter : {I : Type 0} → List I → List I → List I
shorter xs ys = if nat_lt (length xs) (length ys) then xs else ys

module _ {I F : Type 0} where
  -- the first seat
  abbrev pub beginning : List I → F → View I F
  beginning entries fixed = record { seen = entries; told = []; own = range_with_len 0 (length entries); shares = all_shares; fixed = fixed; stage = Idle }

  -- a seat that was joined into another
  abbrev pub spent : F → View I F
  spent fixed = record { seen = []; told = []; own = []; shares = 0; fixed = fixed; stage = Idle }

  abbrev pub waiting : ℕ → View I F → View I F
  waiting number v = record v { stage = Waits number }

  abbrev pub serving : ℕ → List I → View I F → View I F
  serving number entries v = record v { seen = entries; stage = Serves number }

  abbrev pub raised : List I → View I F → View I F
  raised entries v = record v { seen = entries; own = v.own ++ length v.seen ∷ [] }

  abbrev pub idle : View I F → View I F
  idle v = record v { stage = Idle }

  abbrev pub parted : View I F → View I F
  parted v = record v { shares = v.shares - 1 }

  abbrev pub apart : View I F → View I F
  apart v = record v { own = []; shares = 1; stage = Idle }

  abbrev pub joined : View I F → View I F → View I F
  joined v w = record v { seen = longer v.seen w.seen; told = shorter v.seen w.seen; own = v.own ++ w.own; shares = v.shares + w.shares }
