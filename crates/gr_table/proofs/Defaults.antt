-- The default of each shape is a cell of it.
use Rattle.std.proofs.Common.{◌≡◌, true, false, Bool, refl, arith, rules}
use Rattle.std.proofs.lemmas.Int.{ints}
use Rattle.gr_values.specs.declared.data_type.DataType.{DataType}
use Rattle.gr_values.specs.declared.data_type.DataType.TheVariants.{Bool as Truth, Int8, Int16, Int32, Int64, UInt8, UInt16, UInt32, UInt64, ShortText, Text, LongText}
use Rattle.gr_values.specs.declared.data_type.Shape.{Shape}
use Rattle.gr_values.specs.Defaults.{default_of, list_default, plain_default}
use Rattle.gr_values.specs.Types.{is_bool, IsShape}
use Rattle.gr_values.specs.Fits.{IsCellOf}

-- the default of each shape, by its parts, is a cell of it
plain_fits : (of : DataType) → IsCellOf (record { list = false; of = of; reference = false }) (plain_default of)
plain_fits Truth = (record { one = refl; plain = refl }, refl)
plain_fits Int8 = (record { one = refl; plain = refl }, record { low = omega (arith, ints); high = omega (arith, ints) })
plain_fits Int16 = (record { one = refl; plain = refl }, record { low = omega (arith, ints); high = omega (arith, ints) })
plain_fits Int32 = (record { one = refl; plain = refl }, record { low = omega (arith, ints); high = omega (arith, ints) })
plain_fits Int64 = (record { one = refl; plain = refl }, record { low = omega (arith, ints); high = omega (arith, ints) })
plain_fits UInt8 = (record { one = refl; plain = refl }, record { low = omega (arith, ints); high = omega (arith, ints) })
plain_fits UInt16 = (record { one = refl; plain = refl }, record { low = omega (arith, ints); high = omega (arith, ints) })
plain_fits UInt32 = (record { one = refl; plain = refl }, record { low = omega (arith, ints); high = omega (arith, ints) })
plain_fits UInt64 = (record { one = refl; plain = refl }, record { low = omega (arith, ints); high = omega (arith, ints) })
plain_fits ShortText = (record { one = refl; plain = refl }, record { utf8 = search rules; within = omega arith })
plain_fits Text = (record { one = refl; plain = refl }, record { utf8 = search rules; within = omega arith })
plain_fits LongText = (record { one = refl; plain = refl }, record { utf8 = search rules; within = omega arith })

list_fits : (of : DataType) → is_bool of ≡ false → IsCellOf (record { list = true; of = of; reference = false }) (list_default (record { list = true; of = of; reference = false }))
list_fits Truth is = absurd cc
list_fits Int8 is = (record { list = refl; plain = refl }, refl, record { few = omega arith; each = tt })
list_fits Int16 is = (record { list = refl; plain = refl }, refl, record { few = omega arith; each = tt })
list_fits Int32 is = (record { list = refl; plain = refl }, refl, record { few = omega arith; each = tt })
list_fits Int64 is = (record { list = refl; plain = refl }, refl, record { few = omega arith; each = tt })
list_fits UInt8 is = (record { list = refl; plain = refl }, refl, record { few = omega arith; each = tt })
list_fits UInt16 is = (record { list = refl; plain = refl }, refl, record { few = omega arith; each = tt })
list_fits UInt32 is = (record { list = refl; plain = refl }, refl, record { few = omega arith; each = tt })
list_fits UInt64 is = (record { list = refl; plain = refl }, refl, record { few = omega arith; each = tt })
list_fits ShortText is = (record { list = refl; plain = refl }, refl, record { few = omega arith; each = tt })
list_fits Text is = (record { list = refl; plain = refl }, refl, record { few = omega arith; each = tt })
list_fits LongText is = (record { list = refl; plain = refl }, refl, record { few = omega arith; each = tt })

default_fits_by : (list reference : Bool) (of : DataType) → IsShape (record { list = list; of = of; reference = reference }) → IsCellOf (record { list = list; of = of; reference = reference }) (default_of (record { list = list; of = of; reference = reference }))
default_fits_by true true of is = (record { list = refl; reference = refl }, record { few = omega arith; each = tt })
default_fits_by true false of is = list_fits of (is.no_bools refl)
default_fits_by false true of is = record { one = refl; reference = refl }
default_fits_by false false of is = plain_fits of

-- the default is a cell of its shape
pub default_fits : (shape : Shape) → IsShape shape → IsCellOf shape (default_of shape)
default_fits shape is = default_fits_by shape.list shape.reference shape.of is
