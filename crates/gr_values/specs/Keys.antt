-- Keys that are written as texts.
use Rattle.std.specs.Prelude.{ℕ, ◌==◌, ◌&&◌, not, ℤ, pos, neg_ℤ, if◌then◌else◌, List, [], ◌∷◌, length, Option, Some, None, Result}
use Rattle.std.specs.Option.{ok_or, option_map}
use Rattle.std.specs.Char.{is_ascii_digit}
use Rattle.std.specs.List.{list_all}
use Rattle.std.specs.Str.{byte}
use Rattle.std.specs.Str.Parse.{digits_value}
use Rattle.gr_base.specs.Failure.{result_map, result_then}
use Rattle.gr_base.specs.declared.fault.FaultKind.{FaultKind}
use Rattle.gr_base.specs.declared.fault.FaultKind.TheVariants.{BadValue}
use Rattle.gr_base.specs.declared.limits.TheConstants.{LONGEST_KEY}
use Rattle.gr_values.specs.declared.data_type.DataType.{DataType}
use Rattle.gr_values.specs.declared.data_type.Range.{Range}
use Rattle.gr_values.specs.declared.value.Key.{Key}
use Rattle.gr_values.specs.Types.{range_of}
use Rattle.gr_values.specs.Values.{in_range, not_empty, within}

-- the number that one decimal digit or more write
abbrev pub digits_text : List ℕ → Option ℕ
digits_text ds = if not (length ds == 0) && list_all is_ascii_digit ds then Some (digits_value 10 ds) else None

-- the number that decimal digits write, with a minus before them or not
abbrev pub whole_text : List ℕ → Option ℤ
whole_text [] = None
whole_text (c ∷ cs) = if c == byte "-" then option_map (λ n. neg_ℤ (pos n)) (digits_text cs) else option_map pos (digits_text (c ∷ cs))

-- a number of the range, written in decimal
abbrev pub number_key : Range → List ℕ → Result Key FaultKind
number_key range text = result_map Key.Number (result_then (in_range range) (ok_or (whole_text text) BadValue))

-- a text that may be a key
abbrev pub short_key : List ℕ → Result Key FaultKind
short_key text = result_then not_empty (result_map Key.Text (within LONGEST_KEY text))

-- a number of this range; without a range the text itself
abbrev pub text_key_by : Option Range → List ℕ → Result Key FaultKind
text_key_by (Some range) text = number_key range text
text_key_by None text = short_key text

-- the key that a text writes
abbrev pub text_key : DataType → List ℕ → Result Key FaultKind
text_key of text = text_key_by (range_of of) text
