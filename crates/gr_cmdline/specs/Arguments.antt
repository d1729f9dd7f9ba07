-- What is given to a command: its parameters with their values.
use Rattle.std.specs.Prelude.{ℕ, ◌≡◌, Bool, true, nat_lt, is_some, IfSome, IsUtf8, Option, Some, None, option_map, List, [], ◌∷◌, find, length}
use Rattle.std.specs.List.{AllByRecursion, list_all}
use Rattle.gr_cmdline.specs.Names.{is_same}
use Rattle.gr_cmdline.specs.declared.param.Param.{Param}
use Rattle.gr_cmdline.specs.declared.param.Param.TheVariants.{Values}

-- the suffix of a path and the values that are given, each where it is not empty
pub record Arguments : Type 0 where
  pub suffix : Option (List ℕ)
  pub given : List (Param × List ℕ)

-- the value of a parameter, where one is given
abbrev pub value_of : List (Param × List ℕ) → Param → Option (List ℕ)
value_of given param = option_map (λ value. value.1) (find (λ value. is_same value.0 param) given)

-- whether a parameter is given
abbrev pub is_given : List (Param × List ℕ) → Param → Bool
is_given given param = is_some (value_of given param)

-- a text that counts as not given where it is empty
abbrev pub unless_empty : List ℕ → Option (List ℕ)
unless_empty [] = None
unless_empty (c ∷ cs) = Some (c ∷ cs)

-- load data as a value, where there are some
abbrev pub data_value : Option (List ℕ) → List (Param × List ℕ)
data_value None = []
data_value (Some text) = (Values, text) ∷ []

-- whether a text has a byte
abbrev pub is_filled : List ℕ → Bool
is_filled text = nat_lt 0 (length text)

-- whether no value is empty
abbrev pub are_filled : List (Param × List ℕ) → Bool
are_filled given = list_all (λ value. is_filled value.1) given

-- UTF-8, and at least one byte
pub record IsText (bytes : List ℕ) : Type 0 where
  pub utf8 : IsUtf8 bytes
  pub filled : is_filled bytes ≡ true

-- the suffix and all values are such texts
pub record AreTexts (arguments : Arguments) : Type 0 where
  pub suffix : IfSome arguments.suffix IsText
  pub given : AllByRecursion (λ value. IsText value.1) arguments.given
