-- What contracts see of a pass: one thread's part in the list that a turn keeps.
use Rattle.std.specs.Prelude.{ℕ, ◌≡◌, ◌+◌, ◌-◌, ◌^◌, ◌<◌, ◌==◌, Bool, true, false, List, [], ◌∷◌, ◌++◌, length, count_by, Contains, nat_lt, if◌then◌else◌}
use Rattle.std.specs.List.{range_with_len}
use Rattle.atomic_table.specs.Seated.{TableId}

-- which turn it is, with the fixed part of each value that it ever has
pub record Identity (F : Type 0) : Type 0 where
  pub table : TableId
  pub fixed : F

-- a pass: its turn, the list that it has seen, the places of the entries that it gave or a pass joined into it gave, its shares of the turn, and whether it holds the turn
pub record Known (I F : Type 0) : Type 0 where
  pub turn : Identity F
  pub seen : List I
  pub own : List ℕ
  pub shares : ℕ
  pub holds : Bool

-- the shares of all passes of a turn together: a pass that has so many is the only one
abbrev pub all_shares : ℕ
all_shares = 2 ^ 64

-- the list starts with these entries
pub record StartsWith {I : Type 0} (entries front : List I) : Type 0 where
  pub more : List I
  pub is : entries ≡ front ++ more

-- the list is these entries and one more
pub record IsOneLonger {I : Type 0} (entries front : List I) : Type 0 where
  pub entry : I
  pub is : entries ≡ front ++ entry ∷ []

-- the longer of two lists
abbrev pub longer : {I : Type 0} → List I → List I → List I
longer xs ys = if nat_lt (length xs) (length ys) then ys else xs

module _ {I F : Type 0} where
  -- the first pass of a turn: it has seen the whole list, each place is its own, and so are all shares
  abbrev pub first_pass : Identity F → List I → Known I F
  first_pass turn entries = record { turn = turn; seen = entries; own = range_with_len 0 (length entries); shares = all_shares; holds = false }

  -- a pass that has given one share to another
  abbrev pub parted : Known I F → Known I F
  parted pass = record pass { shares = pass.shares - 1 }

  -- that other one, which has seen as much and has no own place
  abbrev pub newcomer : Known I F → Known I F
  newcomer pass = record pass { own = []; shares = 1 }

  -- a pass that took the turn and saw this list
  abbrev pub holding : List I → Known I F → Known I F
  holding entries pass = record pass { seen = entries; holds = true }

  -- a pass that gave the turn back
  abbrev pub resting : Known I F → Known I F
  resting pass = record pass { holds = false }

  -- a pass that gave the turn back with one entry more, whose place is the length before it
  abbrev pub grown : List I → Known I F → Known I F
  grown entries pass = record pass { seen = entries; own = pass.own ++ length pass.seen ∷ []; holds = false }

  -- a pass that took in another: it has seen the longer list, and has the own places and the shares of both
  abbrev pub joined : Known I F → Known I F → Known I F
  joined into other = record into { seen = longer into.seen other.seen; own = into.own ++ other.own; shares = into.shares + other.shares }

-- how often a place stands among these
abbrev pub times : ℕ → List ℕ → ℕ
times place places = count_by (λ other. other == place) places

-- how often a place stands in a list of this length
abbrev pub once_below : ℕ → ℕ → ℕ
once_below place n = if nat_lt place n then 1 else 0

-- each place is below this length
abbrev pub AreBelow : List ℕ → ℕ → Type 0
AreBelow places n = (place : ℕ) → Contains places place → place < n

-- no place stands in both lists
abbrev pub AreApart : List ℕ → List ℕ → Type 0
AreApart places others = (place : ℕ) → Contains places place → ¬ (Contains others place)

-- each place below this length stands among these
abbrev pub HasEach : List ℕ → ℕ → Type 0
HasEach places n = (place : ℕ) → place < n → Contains places place

-- each place below this length stands among these once, and nothing else does
abbrev pub HasEachOnce : List ℕ → ℕ → Type 0
HasEachOnce places n = (place : ℕ) → times place places ≡ once_below place n
