-- What is given to a command, value by value.
use Rattle.std.proofs.Common.{◌≡◌, ℕ, IfSome, IsUtf8, true, false, cond, List, [], ◌∷◌, ◌++◌, length, Option, Some, None, is_some, option_map, find, refl, sym, ap, ◌∙◌, arith, lt-ltb}
use Rattle.std.proofs.lemmas.List.{append-nil}
use Rattle.std.proofs.lemmas.Bool.{false≢true}
use Rattle.std.proofs.lemmas.List.Folds.{find-append}
use Rattle.std.specs.List.{AllByRecursion}
use Rattle.std.specs.Option.{option_or}
use Rattle.gr_cmdline.specs.Arguments.{IsText, data_value, unless_empty, is_filled, is_given, value_of}
use Rattle.gr_cmdline.specs.Names.{is_same}
use Rattle.gr_cmdline.specs.declared.param.Param.{Param}
use Rattle.gr_cmdline.specs.declared.param.Param.TheVariants.{Values}

-- a value in front of others
given-cons : (value : Param × List ℕ) (others : List (Param × List ℕ)) (param : Param) → is_given (value ∷ others) param ≡ cond (is_same value.0 param) true (is_given others param)
given-cons value others param =
    elim (is_same value.0 param) as (λ b. is_some (option_map (λ (found : Param × List ℕ). found.1) (cond b (Some value) (find (λ value. is_same value.0 param) others))) ≡ cond b true (is_given others param)) [ true ↦ refl | false ↦ refl ]

-- load data are given
loaded_given : (given : List (Param × List ℕ)) (text : List ℕ) → is_given (given ++ (Values, text) ∷ []) Values ≡ true
loaded_given [] text = refl
loaded_given (value ∷ others) text =
    given-cons value (others ++ (Values, text) ∷ []) Values
    ∙ elim (is_same value.0 Values) as (λ b. cond b true (is_given (others ++ (Values, text) ∷ []) Values) ≡ true) [ true ↦ refl | false ↦ loaded_given others text ]

-- where no values are given there are no load data
pub not_loaded : (given : List (Param × List ℕ)) (text : Option (List ℕ)) → is_given (given ++ data_value text) Values ≡ false → given ++ data_value text ≡ given
not_loaded given None none = append-nil given
not_loaded given (Some text) none = absurd (false≢true (sym none ∙ loaded_given given text))

-- the first of two answers
option_or-map : (first second : Option (Param × List ℕ)) → option_map (λ (value : Param × List ℕ). value.1) (option_or first second) ≡ option_or (option_map (λ (value : Param × List ℕ). value.1) first) (option_map (λ (value : Param × List ℕ). value.1) second)
option_or-map None second = refl
option_or-map (Some value) second = refl

value_of-append : (given others : List (Param × List ℕ)) (param : Param) → value_of (given ++ others) param ≡ option_or (value_of given param) (value_of others param)
value_of-append given others param =
    ap (option_map (λ (value : Param × List ℕ). value.1)) (find-append (λ (value : Param × List ℕ). is_same value.0 param) given others)
    ∙ option_or-map (find (λ value. is_same value.0 param) given) (find (λ value. is_same value.0 param) others)

-- a value that is given first
pub value_of-first : (given others : List (Param × List ℕ)) (param : Param) (value : List ℕ) → Some value ≡ value_of given param → Some value ≡ value_of (given ++ others) param
value_of-first given others param value is = ap (λ found. option_or found (value_of others param)) is ∙ sym (value_of-append given others param)

-- a value that is not given first
pub value_of-second : (given others : List (Param × List ℕ)) (param : Param) → None ≡ value_of given param → value_of others param ≡ value_of (given ++ others) param
value_of-second given others param is = ap (λ found. option_or found (value_of others param)) is ∙ sym (value_of-append given others param)

-- values that are texts, and others behind them
pub texts-append : (given others : List (Param × List ℕ)) → AllByRecursion (λ (value : Param × List ℕ). IsText value.1) given → AllByRecursion (λ (value : Param × List ℕ). IsText value.1) others → AllByRecursion (λ (value : Param × List ℕ). IsText value.1) (given ++ others)
texts-append [] others texts more = more
texts-append (value ∷ given) others texts more = (texts.0, texts-append given others texts.1 more)

-- a text that is given is not empty
pub IsText-given : (text : List ℕ) → IsUtf8 text → IfSome (unless_empty text) IsText
IsText-given [] utf8 = tt
IsText-given (c ∷ cs) utf8 = record { utf8 = utf8; filled = lt-ltb 0 (length (c ∷ cs)) (omega arith) }

-- load data that are text
pub texts-data : (text : List ℕ) → IsUtf8 text → AllByRecursion (λ (value : Param × List ℕ). IsText value.1) (data_value (unless_empty text))
texts-data [] utf8 = tt
texts-data (c ∷ cs) utf8 = (IsText-given (c ∷ cs) utf8, tt)

-- a text that is not empty is given
pub unless_empty-filled : (text : List ℕ) → is_filled text ≡ true → unless_empty text ≡ Some text
unless_empty-filled [] filled = cc
unless_empty-filled (c ∷ cs) filled = refl
