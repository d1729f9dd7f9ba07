-- What a value of JSON is as a cell or as a key of a type, or why it is refused.
use Rattle.std.specs.Prelude.{◌≡◌, ℕ, ◌&&◌, not, nat_lt, ℤ, pos, int_le, Bool, true, false, if◌then◌else◌, List, [], ◌∷◌, length, filter, Option, Some, None, Result, Ok, Err}
use Rattle.serde_json.specs.Data.{Num, unsigned, negative, float, Data, null, boolean, number, string, array, object, Items, no_items, item}
use Rattle.serde_json.specs.Events.{items_len}
use Rattle.gr_base.specs.Failure.{result_map, result_then}
use Rattle.gr_base.specs.declared.fault.FaultKind.{FaultKind}
use Rattle.gr_base.specs.declared.fault.FaultKind.TheVariants.{BadValue, EmptyKey, FloatRefused, OutOfRange, TooLong}
use Rattle.gr_base.specs.declared.limits.TheConstants.{LONGEST_VECTOR}
use Rattle.gr_values.specs.declared.data_type.DataType.{DataType}
use Rattle.gr_values.specs.declared.data_type.Range.{Range}
use Rattle.gr_values.specs.declared.data_type.Shape.{Shape}
use Rattle.gr_values.specs.declared.value.Key.{Key}
use Rattle.gr_values.specs.declared.value.Given.{Given}
use Rattle.gr_values.specs.Types.{is_bool, range_of, text_limit}

-- what a number is refused for where no number is taken
abbrev pub fault_of_number : Num → FaultKind
fault_of_number (unsigned n) = BadValue
fault_of_number (negative z) = BadValue
fault_of_number (float f) = FloatRefused

-- what a value is refused for where another kind is taken
abbrev pub unlike : Data → FaultKind
unlike null = BadValue
unlike (boolean b) = BadValue
unlike (number n) = fault_of_number n
unlike (string s) = BadValue
unlike (array ds) = BadValue
unlike (object ms) = BadValue

-- a whole number of 64 bits
abbrev pub whole_of : Num → Result ℤ FaultKind
whole_of (unsigned n) = Ok (pos n)
whole_of (negative z) = Ok z
whole_of (float f) = Err FloatRefused

-- a number within the range
abbrev pub in_range : Range → ℤ → Result ℤ FaultKind
in_range range z = if int_le range.least z && int_le z range.greatest then Ok z else Err OutOfRange

-- a whole number within the range
abbrev pub number_of : Range → Data → Result ℤ FaultKind
number_of range null = Err BadValue
number_of range (boolean b) = Err BadValue
number_of range (number n) = result_then (in_range range) (whole_of n)
number_of range (string s) = Err BadValue
number_of range (array ds) = Err BadValue
number_of range (object ms) = Err BadValue

-- a text of no more bytes than the limit
abbrev pub within : ℕ → List ℕ → Result (List ℕ) FaultKind
within limit s = if nat_lt limit (length s) then Err TooLong else Ok s

-- a string of no more bytes than the limit
abbrev pub text_of : ℕ → Data → Result (List ℕ) FaultKind
text_of limit null = Err BadValue
text_of limit (boolean b) = Err BadValue
text_of limit (number n) = Err (fault_of_number n)
text_of limit (string s) = within limit s
text_of limit (array ds) = Err BadValue
text_of limit (object ms) = Err BadValue

-- a number of this range, or a text of this limit; a type with neither takes none of them
abbrev pub item_by : Option Range → Option ℕ → Data → Result Key FaultKind
item_by (Some range) limit d = result_map Key.Number (number_of range d)
item_by None (Some limit) d = result_map Key.Text (text_of limit d)
item_by None None d = Err (unlike d)

-- a number or a text of this type
abbrev pub item_of : DataType → Data → Result Key FaultKind
item_of of d = item_by (range_of of) (text_limit of) d

-- `true` or `false`
abbrev pub truth_of : Data → Result Bool FaultKind
truth_of null = Err BadValue
truth_of (boolean b) = Ok b
truth_of (number n) = Err (fault_of_number n)
truth_of (string s) = Err BadValue
truth_of (array ds) = Err BadValue
truth_of (object ms) = Err BadValue

-- whether this is the empty text
abbrev pub is_empty_text : Key → Bool
is_empty_text (Key.Number z) = false
is_empty_text (Key.Text []) = true
is_empty_text (Key.Text (c ∷ cs)) = false

-- the empty text refers to nothing
abbrev pub referred : Key → Option Key
referred key = if is_empty_text key then None else Some key

-- a number or a text as a value
abbrev pub given_of : Key → Given
given_of (Key.Number z) = Given.Int z
given_of (Key.Text s) = Given.Text s

-- one value of the shape
abbrev pub scalar_of : Shape → Data → Result Given FaultKind
scalar_of shape d =
    if shape.reference then result_map (λ key. Given.Ref (referred key)) (item_of shape.of d)
    else (if is_bool shape.of then result_map Given.Bool (truth_of d) else result_map given_of (item_of shape.of d))

-- each element as this reads it, in order, or the fault of the first that is refused
abbrev pub items_of : {T : Type 0} → (Data → Result T FaultKind) → Items → Result (List T) FaultKind
items_of read no_items = Ok []
items_of read (item d ds) = result_then (λ x. result_map (λ xs. x ∷ xs) (items_of read ds)) (read d)

-- the keys that refer to something
abbrev pub references : List Key → List Key
references keys = filter (λ key. not (is_empty_text key)) keys

-- the numbers or the texts of an array; a type with neither takes no list
abbrev pub plain_list_by : Option Range → Option ℕ → Items → Result Given FaultKind
plain_list_by (Some range) limit ds = result_map Given.IntList (items_of (number_of range) ds)
plain_list_by None (Some limit) ds = result_map Given.TextList (items_of (text_of limit) ds)
plain_list_by None None ds = Err BadValue

-- the elements of an array
abbrev pub elements_of : Shape → Items → Result Given FaultKind
elements_of shape ds =
    if shape.reference then result_map (λ keys. Given.RefList (references keys)) (items_of (item_of shape.of) ds)
    else plain_list_by (range_of shape.of) (text_limit shape.of) ds

-- a list of the shape; its length is looked at before its elements
abbrev pub list_of : Shape → Data → Result Given FaultKind
list_of shape null = Err BadValue
list_of shape (boolean b) = Err BadValue
list_of shape (number n) = Err (fault_of_number n)
list_of shape (string s) = Err BadValue
list_of shape (array ds) = if nat_lt LONGEST_VECTOR (items_len ds) then Err TooLong else elements_of shape ds
list_of shape (object ms) = Err BadValue

-- a list or one value
abbrev pub value_of : Shape → Data → Result Given FaultKind
value_of shape d = if shape.list then list_of shape d else scalar_of shape d

-- a cell of the shape; null is none
abbrev pub cell_of : Shape → Data → Result (Option Given) FaultKind
cell_of shape null = Ok None
cell_of shape (boolean b) = result_map Some (value_of shape (boolean b))
cell_of shape (number n) = result_map Some (value_of shape (number n))
cell_of shape (string s) = result_map Some (value_of shape (string s))
cell_of shape (array ds) = result_map Some (value_of shape (array ds))
cell_of shape (object ms) = result_map Some (value_of shape (object ms))

-- a key is no empty text
abbrev pub not_empty : Key → Result Key FaultKind
not_empty key = if is_empty_text key then Err EmptyKey else Ok key

-- a key of this type
abbrev pub key_of : DataType → Data → Result Key FaultKind
key_of of d = result_then not_empty (item_of of d)
