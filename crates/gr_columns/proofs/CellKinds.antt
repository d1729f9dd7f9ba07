-- Which kind of cell a shape takes.
use Rattle.std.proofs.Common.{◌≡◌, ℤ, ℕ, Bool, true, false, List, get_or, refl, sym, ap, ◌∙◌, subst, arith, rules}
use Rattle.std.specs.Prelude.{⊤, is_some}
use Rattle.std.proofs.lemmas.Int.{ints}
use Rattle.gr_values.specs.declared.data_type.DataType.{DataType}
use Rattle.gr_values.specs.declared.data_type.DataType.TheVariants.{Bool as Truth, Int8, Int16, Int32, Int64, UInt8, UInt16, UInt32, UInt64, ShortText, Text, LongText}
use Rattle.gr_values.specs.declared.data_type.Shape.{Shape}
use Rattle.gr_values.specs.declared.value.Cell.{Cell}
use Rattle.gr_values.specs.Defaults.{default_of, list_default, plain_default}
use Rattle.gr_values.specs.Fits.{IsTextOf, IsWhole}
use Rattle.gr_values.specs.Types.{is_bool, range_of, text_limit, IsShape}
use Rattle.gr_columns.specs.declared.kept.Kept.{Kept}
use Rattle.gr_columns.specs.declared.kept.Kept.TheVariants.{Signed, Unsigned, Truths, Texts, Refs, RefLists, IntLists, TextLists}
use Rattle.gr_values.specs.Fits.{IsCellOf}
use Rattle.gr_columns.specs.Inside.Holds.{HoldsIntList, HoldsRef, HoldsRefList, HoldsSigned, HoldsText, HoldsTextList, HoldsTruth, HoldsUnsigned, IsSigned, IsUnsigned}
use Rattle.gr_columns.specs.Inside.Kept.{blank_cell, is_wide, HasLanes, IsKeptOf, IsNewKept, Takes}

-- a whole number
abbrev pub HoldsInt : Cell → Type 0
HoldsInt (Cell.Int number) = ⊤
HoldsInt _ = ⊥

-- the second cell holds what the first one holds
abbrev pub IsSameKind : Cell → Cell → Type 0
IsSameKind (Cell.Bool truth) cell = HoldsTruth cell
IsSameKind (Cell.Int number) cell = HoldsInt cell
IsSameKind (Cell.Text text) cell = HoldsText cell
IsSameKind (Cell.Ref id) cell = HoldsRef cell
IsSameKind (Cell.RefList ids) cell = HoldsRefList cell
IsSameKind (Cell.IntList numbers) cell = HoldsIntList cell
IsSameKind (Cell.TextList texts) cell = HoldsTextList cell

-- a whole number's type has a range, and is not that of truth values
whole_type : (of : DataType) (number : ℤ) → IsWhole of number → (is_bool of ≡ false) × (is_some (range_of of) ≡ true)
whole_type Truth number is = absurd is
whole_type Int8 number is = (refl, refl)
whole_type Int16 number is = (refl, refl)
whole_type Int32 number is = (refl, refl)
whole_type Int64 number is = (refl, refl)
whole_type UInt8 number is = (refl, refl)
whole_type UInt16 number is = (refl, refl)
whole_type UInt32 number is = (refl, refl)
whole_type UInt64 number is = (refl, refl)
whole_type ShortText number is = absurd is
whole_type Text number is = absurd is
whole_type LongText number is = absurd is

-- a text's type has no range, and is not that of truth values
text_type : (of : DataType) (text : List ℕ) → IsTextOf of text → (is_bool of ≡ false) × (is_some (range_of of) ≡ false)
text_type Truth text is = absurd is
text_type Int8 text is = absurd is
text_type Int16 text is = absurd is
text_type Int32 text is = absurd is
text_type Int64 text is = absurd is
text_type UInt8 text is = absurd is
text_type UInt16 text is = absurd is
text_type UInt32 text is = absurd is
text_type UInt64 text is = absurd is
text_type ShortText text is = (refl, refl)
text_type Text text is = (refl, refl)
text_type LongText text is = (refl, refl)

-- a type with a limit of texts has no range
limit_type : (of : DataType) → is_some (text_limit of) ≡ true → is_some (range_of of) ≡ false
limit_type Truth is = refl
limit_type Int8 is = absurd cc
limit_type Int16 is = absurd cc
limit_type Int32 is = absurd cc
limit_type Int64 is = absurd cc
limit_type UInt8 is = absurd cc
limit_type UInt16 is = absurd cc
limit_type UInt32 is = absurd cc
limit_type UInt64 is = absurd cc
limit_type ShortText is = refl
limit_type Text is = refl
limit_type LongText is = refl

-- a cell of a shape holds what the shape's default holds
pub same_kind : (shape : Shape) (cell : Cell) → IsCellOf shape cell → IsSameKind (default_of shape) cell
same_kind shape (Cell.Bool truth) is = rw (is.0.one, is.0.plain, is.1) tt
same_kind shape (Cell.Int number) is = let type = whole_type shape.of number is.1 in rw (is.0.one, is.0.plain, type.0, type.1) tt
same_kind shape (Cell.Text text) is = let type = text_type shape.of text is.1 in rw (is.0.one, is.0.plain, type.0, type.1) tt
same_kind shape (Cell.Ref id) is = rw (is.one, is.reference) tt
same_kind shape (Cell.RefList ids) is = rw (is.0.list, is.0.reference) tt
same_kind shape (Cell.IntList numbers) is = rw (is.0.list, is.0.plain, is.1) tt
same_kind shape (Cell.TextList texts) is = let type = limit_type shape.of is.1 in rw (is.0.list, is.0.plain, type) tt

-- a whole number of a type that does not need 64 bits from 0 on
signed_fits : (of : DataType) (number : ℤ) → is_wide of ≡ false → IsWhole of number → IsSigned number
signed_fits Truth number narrow is = absurd is
signed_fits Int8 number narrow is = record { low = omega (arith, ints, is.low); high = omega (arith, ints, is.high) }
signed_fits Int16 number narrow is = record { low = omega (arith, ints, is.low); high = omega (arith, ints, is.high) }
signed_fits Int32 number narrow is = record { low = omega (arith, ints, is.low); high = omega (arith, ints, is.high) }
signed_fits Int64 number narrow is = record { low = omega (arith, ints, is.low); high = omega (arith, ints, is.high) }
signed_fits UInt8 number narrow is = record { low = omega (arith, ints, is.low); high = omega (arith, ints, is.high) }
signed_fits UInt16 number narrow is = record { low = omega (arith, ints, is.low); high = omega (arith, ints, is.high) }
signed_fits UInt32 number narrow is = record { low = omega (arith, ints, is.low); high = omega (arith, ints, is.high) }
signed_fits UInt64 number narrow is = absurd cc
signed_fits ShortText number narrow is = absurd is
signed_fits Text number narrow is = absurd is
signed_fits LongText number narrow is = absurd is

-- a whole number of the type that does
unsigned_fits : (of : DataType) (number : ℤ) → is_wide of ≡ true → IsWhole of number → IsUnsigned number
unsigned_fits Truth number wide is = absurd is
unsigned_fits Int8 number wide is = absurd cc
unsigned_fits Int16 number wide is = absurd cc
unsigned_fits Int32 number wide is = absurd cc
unsigned_fits Int64 number wide is = absurd cc
unsigned_fits UInt8 number wide is = absurd cc
unsigned_fits UInt16 number wide is = absurd cc
unsigned_fits UInt32 number wide is = absurd cc
unsigned_fits UInt64 number wide is = record { low = is.low; high = omega (arith, ints, is.high) }
unsigned_fits ShortText number wide is = absurd is
unsigned_fits Text number wide is = absurd is
unsigned_fits LongText number wide is = absurd is

-- a cell of a shape that holds a number holds one of 64 bits with a sign
holds_signed : (shape : Shape) (cell : Cell) → is_wide shape.of ≡ false → IsCellOf shape cell → HoldsInt cell → HoldsSigned cell
holds_signed shape (Cell.Bool truth) narrow is held = held
holds_signed shape (Cell.Int number) narrow is held = signed_fits shape.of number narrow is.1
holds_signed shape (Cell.Text text) narrow is held = held
holds_signed shape (Cell.Ref id) narrow is held = held
holds_signed shape (Cell.RefList ids) narrow is held = held
holds_signed shape (Cell.IntList numbers) narrow is held = held
holds_signed shape (Cell.TextList texts) narrow is held = held

-- the same for 64 bits from 0 on
holds_unsigned : (shape : Shape) (cell : Cell) → is_wide shape.of ≡ true → IsCellOf shape cell → HoldsInt cell → HoldsUnsigned cell
holds_unsigned shape (Cell.Bool truth) wide is held = held
holds_unsigned shape (Cell.Int number) wide is held = unsigned_fits shape.of number wide is.1
holds_unsigned shape (Cell.Text text) wide is held = held
holds_unsigned shape (Cell.Ref id) wide is held = held
holds_unsigned shape (Cell.RefList ids) wide is held = held
holds_unsigned shape (Cell.IntList numbers) wide is held = held
holds_unsigned shape (Cell.TextList texts) wide is held = held

-- a cell that is of the blank cell's kind is taken
taken : (shape : Shape) (kept : Kept) (cell : Cell) → HasLanes shape.of kept → IsCellOf shape cell → IsSameKind (blank_cell kept) cell → Takes kept cell
taken shape (Signed numbers) cell lanes is same = holds_signed shape cell lanes is same
taken shape (Unsigned numbers) cell lanes is same = holds_unsigned shape cell lanes is same
taken shape (Truths truths) cell lanes is same = same
taken shape (Texts texts) cell lanes is same = same
taken shape (Refs ids) cell lanes is same = same
taken shape (RefLists lists) cell lanes is same = same
taken shape (IntLists lists) cell lanes is same = same
taken shape (TextLists lists) cell lanes is same = same

-- what is kept for a shape takes each cell of the shape
pub takes : (shape : Shape) (kept : Kept) (cell : Cell) → IsKeptOf shape kept → IsCellOf shape cell → Takes kept cell
takes shape kept cell are is = taken shape kept cell are.lanes is (subst (λ (blank : Cell). IsSameKind blank cell) (sym are.blank) (same_kind shape cell is))

-- the default of each shape, by its parts, is a cell of it
plain_fits : (of : DataType) → IsCellOf (record { list = false; of = of; reference = false }) (plain_default of)
plain_fits Truth = (record { one = refl; plain = refl }, refl)
plain_fits Int8 = (record { one = refl; plain = refl }, record { low = omega (arith, ints); high = omega (arith, ints) })
plain_fits Int16 = (record { one = refl; plain = refl }, record { low = omega (arith, ints); high = omega (arith, ints) })
plain_fits Int32 = (record { one = refl; plain = refl }, record { low = omega (arith, ints); high = omega (arith, ints) })
plain_fits Int64 = (record { one = refl; plain = refl }, record { low = omega (arith, ints); high = omega (arith, ints) })
plain_fits UInt8 = (record { one = refl; plain = refl }, record { low = omega (arith, ints); high = omega (arith, ints) })
plain_fits UInt16 = (record { one = refl; plain = refl }, record { low = omega (arith, ints); high = omega (arith, ints) })
plain_fits UInt32 = (record { one = refl; plain = refl }, record { low = omega (arith, ints); high = omega (arith, ints) })
plain_fits UInt64 = (record { one = refl; plain = refl }, record { low = omega (arith, ints); high = omega (arith, ints) })
plain_fits ShortText = (record { one = refl; plain = refl }, record { utf8 = search rules; within = omega arith })
plain_fits Text = (record { one = refl; plain = refl }, record { utf8 = search rules; within = omega arith })
plain_fits LongText = (record { one = refl; plain = refl }, record { utf8 = search rules; within = omega arith })

list_fits : (of : DataType) → is_bool of ≡ false → IsCellOf (record { list = true; of = of; reference = false }) (list_default (record { list = true; of = of; reference = false }))
list_fits Truth is = absurd cc
list_fits Int8 is = (record { list = refl; plain = refl }, refl, record { few = omega arith; each = tt })
list_fits Int16 is = (record { list = refl; plain = refl }, refl, record { few = omega arith; each = tt })
list_fits Int32 is = (record { list = refl; plain = refl }, refl, record { few = omega arith; each = tt })
list_fits Int64 is = (record { list = refl; plain = refl }, refl, record { few = omega arith; each = tt })
list_fits UInt8 is = (record { list = refl; plain = refl }, refl, record { few = omega arith; each = tt })
list_fits UInt16 is = (record { list = refl; plain = refl }, refl, record { few = omega arith; each = tt })
list_fits UInt32 is = (record { list = refl; plain = refl }, refl, record { few = omega arith; each = tt })
list_fits UInt64 is = (record { list = refl; plain = refl }, refl, record { few = omega arith; each = tt })
list_fits ShortText is = (record { list = refl; plain = refl }, refl, record { few = omega arith; each = tt })
list_fits Text is = (record { list = refl; plain = refl }, refl, record { few = omega arith; each = tt })
list_fits LongText is = (record { list = refl; plain = refl }, refl, record { few = omega arith; each = tt })

default_fits_by : (list reference : Bool) (of : DataType) → IsShape (record { list = list; of = of; reference = reference }) → IsCellOf (record { list = list; of = of; reference = reference }) (default_of (record { list = list; of = of; reference = reference }))
default_fits_by true true of is = (record { list = refl; reference = refl }, record { few = omega arith; each = tt })
default_fits_by true false of is = list_fits of (is.no_bools refl)
default_fits_by false true of is = record { one = refl; reference = refl }
default_fits_by false false of is = plain_fits of

-- what keeps no cell yet is for its shape
pub new_kept : (shape : Shape) (kept : Kept) → IsShape shape → IsNewKept shape kept → IsKeptOf shape kept
new_kept shape kept is new = record {
  blank = new.blank;
  lanes = new.lanes;
  fits = λ i. subst (IsCellOf shape) (sym (ap (λ cells. get_or cells i (blank_cell kept)) new.none ∙ new.blank)) (default_fits_by shape.list shape.reference shape.of is);
}
