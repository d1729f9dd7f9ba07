-- Which values stand in a cell of a shape, and which keys are keys of a type.
use Rattle.std.specs.Prelude.{◌≡◌, ◌≤◌, ℕ, ◌^◌, ℤ, pos, neg_ℤ, ◌≤ℤ◌, ◌<ℤ◌, true, false, is_some, List, length, Some, None, MatchOption, IsUtf8, ⊤}
use Rattle.std.specs.List.{AllByRecursion}
use Rattle.gr_base.specs.declared.limits.TheConstants.{LONGEST_KEY, LONGEST_VECTOR}
use Rattle.gr_values.specs.declared.data_type.DataType.{DataType}
use Rattle.gr_values.specs.declared.data_type.Range.{Range}
use Rattle.gr_values.specs.declared.data_type.DataType.TheVariants.{ShortText}
use Rattle.gr_values.specs.declared.data_type.Shape.{Shape}
use Rattle.gr_values.specs.declared.value.Key.{Key}
use Rattle.gr_values.specs.declared.value.Cell.{Cell}
use Rattle.gr_values.specs.declared.value.Given.{Given}
use Rattle.gr_values.specs.Types.{is_bool, range_of, text_limit}

-- a number of the range
pub record IsIn (range : Range) (z : ℤ) : Type 0 where
  pub low : range.least ≤ℤ z
  pub high : z ≤ℤ range.greatest

-- a range of whole numbers of 64 bits
pub record IsNarrow (range : Range) : Type 0 where
  pub low : neg_ℤ (pos (2 ^ 63)) ≤ℤ range.least
  pub high : range.greatest <ℤ pos (2 ^ 64)

-- a text of no more bytes than the limit
pub record IsTextWithin (limit : ℕ) (s : List ℕ) : Type 0 where
  pub utf8 : IsUtf8 s
  pub within : length s ≤ limit

-- a number in the type's range
abbrev pub IsWhole : DataType → ℤ → Type 0
IsWhole of z = MatchOption (range_of of) ⊥ (λ range. IsIn range z)

-- a text within the type's limit
abbrev pub IsTextOf : DataType → List ℕ → Type 0
IsTextOf of s = MatchOption (text_limit of) ⊥ (λ limit. IsTextWithin limit s)

-- a number or a text of the type
abbrev pub IsItemOf : DataType → Key → Type 0
IsItemOf of (Key.Number z) = IsWhole of z
IsItemOf of (Key.Text s) = IsTextOf of s

-- a text that is a key of the type
pub record IsTextKey (of : DataType) (s : List ℕ) : Type 0 where
  pub short : of ≡ ShortText
  pub utf8 : IsUtf8 s
  pub given : 1 ≤ length s
  pub within : length s ≤ LONGEST_KEY

-- a key of the type
abbrev pub IsKeyOf : DataType → Key → Type 0
IsKeyOf of (Key.Number z) = IsWhole of z
IsKeyOf of (Key.Text s) = IsTextKey of s

-- a list of such elements, of which there are not too many
pub record IsListOf {T : Type 0} (P : T → Type 0) (xs : List T) : Type 0 where
  pub few : length xs ≤ LONGEST_VECTOR
  pub each : AllByRecursion P xs

-- one value that is no reference
pub record IsPlain (shape : Shape) : Type 0 where
  pub one : shape.list ≡ false
  pub plain : shape.reference ≡ false

-- one reference
pub record IsReference (shape : Shape) : Type 0 where
  pub one : shape.list ≡ false
  pub reference : shape.reference ≡ true

-- a list of values that are no references
pub record IsPlainList (shape : Shape) : Type 0 where
  pub list : shape.list ≡ true
  pub plain : shape.reference ≡ false

-- a list of references
pub record IsReferenceList (shape : Shape) : Type 0 where
  pub list : shape.list ≡ true
  pub reference : shape.reference ≡ true

-- the value has the shape, and keeps the ranges and limits of its type
abbrev pub Fits : Shape → Given → Type 0
Fits shape (Given.Bool b) = IsPlain shape × (is_bool shape.of ≡ true)
Fits shape (Given.Int z) = IsPlain shape × IsWhole shape.of z
Fits shape (Given.Text s) = IsPlain shape × IsTextOf shape.of s
Fits shape (Given.Ref None) = IsReference shape
Fits shape (Given.Ref (Some key)) = IsReference shape × IsKeyOf shape.of key
Fits shape (Given.RefList keys) = IsReferenceList shape × IsListOf (IsKeyOf shape.of) keys
Fits shape (Given.IntList zs) = IsPlainList shape × (is_some (range_of shape.of) ≡ true) × IsListOf (IsWhole shape.of) zs
Fits shape (Given.TextList texts) = IsPlainList shape × (is_some (text_limit shape.of) ≡ true) × IsListOf (IsTextOf shape.of) texts

-- the cell has the shape, and keeps the ranges and limits of its type
abbrev pub IsCellOf : Shape → Cell → Type 0
IsCellOf shape (Cell.Bool truth) = IsPlain shape × (is_bool shape.of ≡ true)
IsCellOf shape (Cell.Int number) = IsPlain shape × IsWhole shape.of number
IsCellOf shape (Cell.Text text) = IsPlain shape × IsTextOf shape.of text
IsCellOf shape (Cell.Ref id) = IsReference shape
IsCellOf shape (Cell.RefList ids) = IsReferenceList shape × IsListOf (λ id. ⊤) ids
IsCellOf shape (Cell.IntList numbers) = IsPlainList shape × (is_some (range_of shape.of) ≡ true) × IsListOf (IsWhole shape.of) numbers
IsCellOf shape (Cell.TextList texts) = IsPlainList shape × (is_some (text_limit shape.of) ≡ true) × IsListOf (IsTextOf shape.of) texts
