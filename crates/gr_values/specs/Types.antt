-- What each type takes: ranges of whole numbers, limits of texts, and which types are keys.
use Rattle.std.specs.Prelude.{◌≡◌, ℕ, pos, neg_ℤ, Bool, true, false, Option, Some, None}
use Rattle.gr_base.specs.declared.limits.TheConstants.{LONGEST_LONG_TEXT, LONGEST_MIDDLE_TEXT, LONGEST_SHORT_TEXT}
use Rattle.gr_values.specs.declared.data_type.DataType.{DataType}
use Rattle.gr_values.specs.declared.data_type.DataType.TheVariants.{Bool as Truth, Int8, Int16, Int32, Int64, UInt8, UInt16, UInt32, UInt64, ShortText, Text, LongText}
use Rattle.gr_values.specs.declared.data_type.Range.{Range}
use Rattle.gr_values.specs.declared.data_type.Shape.{Shape}

-- the range of a whole number type
abbrev pub range_of : DataType → Option Range
range_of Truth = None
range_of Int8 = Some (record { least = neg_ℤ (pos 128); greatest = pos 127 })
range_of Int16 = Some (record { least = neg_ℤ (pos 32768); greatest = pos 32767 })
range_of Int32 = Some (record { least = neg_ℤ (pos 2147483648); greatest = pos 2147483647 })
range_of Int64 = Some (record { least = neg_ℤ (pos 9223372036854775808); greatest = pos 9223372036854775807 })
range_of UInt8 = Some (record { least = pos 0; greatest = pos 255 })
range_of UInt16 = Some (record { least = pos 0; greatest = pos 65535 })
range_of UInt32 = Some (record { least = pos 0; greatest = pos 4294967295 })
range_of UInt64 = Some (record { least = pos 0; greatest = pos 18446744073709551615 })
range_of ShortText = None
range_of Text = None
range_of LongText = None

-- how many bytes a text of this type has at most
abbrev pub text_limit : DataType → Option ℕ
text_limit Truth = None
text_limit Int8 = None
text_limit Int16 = None
text_limit Int32 = None
text_limit Int64 = None
text_limit UInt8 = None
text_limit UInt16 = None
text_limit UInt32 = None
text_limit UInt64 = None
text_limit ShortText = Some LONGEST_SHORT_TEXT
text_limit Text = Some LONGEST_MIDDLE_TEXT
text_limit LongText = Some LONGEST_LONG_TEXT

-- whether this is the type of `true` and `false`
abbrev pub is_bool : DataType → Bool
is_bool Truth = true
is_bool Int8 = false
is_bool Int16 = false
is_bool Int32 = false
is_bool Int64 = false
is_bool UInt8 = false
is_bool UInt16 = false
is_bool UInt32 = false
is_bool UInt64 = false
is_bool ShortText = false
is_bool Text = false
is_bool LongText = false

-- keys are whole numbers or short texts
abbrev pub is_key_type : DataType → Bool
is_key_type Truth = false
is_key_type Int8 = true
is_key_type Int16 = true
is_key_type Int32 = true
is_key_type Int64 = true
is_key_type UInt8 = true
is_key_type UInt16 = true
is_key_type UInt32 = true
is_key_type UInt64 = true
is_key_type ShortText = true
is_key_type Text = false
is_key_type LongText = false

-- references are by keys, and no list holds `true` and `false`
pub record IsShape (shape : Shape) : Type 0 where
  pub by_key : shape.reference ≡ true → is_key_type shape.of ≡ true
  pub no_bools : shape.list ≡ true → is_bool shape.of ≡ false
