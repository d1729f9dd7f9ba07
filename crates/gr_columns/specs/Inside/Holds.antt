-- What one cell holds.
use Rattle.std.specs.Prelude.{◌≤ℤ◌, ◌<ℤ◌, ◌^◌, ⊤, ℤ, pos, neg_ℤ}
use Rattle.gr_values.specs.declared.value.Cell.{Cell}

-- a whole number of 64 bits with a sign
pub record IsSigned (number : ℤ) : Type 0 where
  pub low : neg_ℤ (pos (2 ^ 63)) ≤ℤ number
  pub high : number <ℤ pos (2 ^ 63)

-- a whole number of 64 bits from 0 on
pub record IsUnsigned (number : ℤ) : Type 0 where
  pub low : pos 0 ≤ℤ number
  pub high : number <ℤ pos (2 ^ 64)

-- a number of 64 bits with a sign
abbrev pub HoldsSigned : Cell → Type 0
HoldsSigned (Cell.Int number) = IsSigned number
HoldsSigned _ = ⊥

-- a number of 64 bits from 0 on
abbrev pub HoldsUnsigned : Cell → Type 0
HoldsUnsigned (Cell.Int number) = IsUnsigned number
HoldsUnsigned _ = ⊥

-- a truth value
abbrev pub HoldsTruth : Cell → Type 0
HoldsTruth (Cell.Bool truth) = ⊤
HoldsTruth _ = ⊥

-- a text
abbrev pub HoldsText : Cell → Type 0
HoldsText (Cell.Text text) = ⊤
HoldsText _ = ⊥

-- a reference
abbrev pub HoldsRef : Cell → Type 0
HoldsRef (Cell.Ref id) = ⊤
HoldsRef _ = ⊥

-- references
abbrev pub HoldsRefList : Cell → Type 0
HoldsRefList (Cell.RefList ids) = ⊤
HoldsRefList _ = ⊥

-- numbers
abbrev pub HoldsIntList : Cell → Type 0
HoldsIntList (Cell.IntList numbers) = ⊤
HoldsIntList _ = ⊥

-- texts
abbrev pub HoldsTextList : Cell → Type 0
HoldsTextList (Cell.TextList texts) = ⊤
HoldsTextList _ = ⊥
