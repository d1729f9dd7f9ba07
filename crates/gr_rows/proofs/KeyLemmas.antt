-- The key of a row: an empty key is refused without a name.
use Rattle.std.proofs.Common.{◌≡◌, ◌≢◌, ℕ, Bool, true, false, cond, List, [], length, nat_lt, Option, Some, None, Result, Ok, Err, refl, sym, ap, ◌∙◌}
use Rattle.serde_json.specs.Data.{Num, unsigned, negative, float, Data, null, boolean, number, string, array, object}
use Rattle.gr_base.specs.Failure.{result_map, result_then}
use Rattle.gr_base.specs.declared.fault.Fault.{Fault}
use Rattle.gr_base.specs.declared.fault.FaultKind.{FaultKind}
use Rattle.gr_base.specs.declared.fault.FaultKind.TheVariants.{EmptyKey, OutOfRange, TooLong}
use Rattle.gr_values.specs.Types.{range_of, text_limit}
use Rattle.gr_values.specs.Values.{fault_of_number, is_empty_text, item_by, item_of, key_of, not_empty, number_of, text_of, unlike}
use Rattle.gr_values.specs.declared.data_type.DataType.{DataType}
use Rattle.gr_values.specs.declared.data_type.Range.{Range}
use Rattle.gr_values.specs.declared.value.Key.{Key}
use Rattle.gr_rows.specs.Inside.Keys.{key_fault_name}
use Rattle.gr_rows.specs.Members.{filled_key, in_member, row_fault}
use Rattle.gr_rows.specs.Names.{key_name}

-- nothing is refused for an empty key
abbrev NotEmptyKey : {T : Type 0} → Result T FaultKind → Type 0
NotEmptyKey r = r ≢ Err EmptyKey

mapped : {T U : Type 0} (f : T → U) (r : Result T FaultKind) → NotEmptyKey r → NotEmptyKey (result_map f r)
mapped f (Ok x) other e = absurd (cc)
mapped f (Err kind) other e = other (ap Err (let same : kind ≡ EmptyKey = cc in same))

of_number : (n : Num) → NotEmptyKey {T = List ℕ} (Err (fault_of_number n))
of_number (unsigned n) e = absurd (cc)
of_number (negative z) e = absurd (cc)
of_number (float f) e = absurd (cc)

of_unlike : (d : Data) → NotEmptyKey {T = Key} (Err (unlike d))
of_unlike (number (unsigned n)) e = absurd (cc)
of_unlike (number (negative z)) e = absurd (cc)
of_unlike (number (float f)) e = absurd (cc)
of_unlike null e = absurd (cc)
of_unlike (boolean b) e = absurd (cc)
of_unlike (string s) e = absurd (cc)
of_unlike (array ds) e = absurd (cc)
of_unlike (object ms) e = absurd (cc)

by_test : {T : Type 0} (b : Bool) (x : T) (kind : FaultKind) → kind ≢ EmptyKey → NotEmptyKey (cond b (Ok x) (Err kind))
by_test true x kind other e = absurd (cc)
by_test false x kind other e = other (let same : kind ≡ EmptyKey = cc in same)

by_limit : {T : Type 0} (b : Bool) (x : T) (kind : FaultKind) → kind ≢ EmptyKey → NotEmptyKey (cond b (Err kind) (Ok x))
by_limit true x kind other e = other (let same : kind ≡ EmptyKey = cc in same)
by_limit false x kind other e = absurd (cc)

of_range : (range : Range) (d : Data) → NotEmptyKey (number_of range d)
of_range range (number (unsigned n)) e = by_test _ _ OutOfRange (λ h. absurd (cc)) e
of_range range (number (negative z)) e = by_test _ _ OutOfRange (λ h. absurd (cc)) e
of_range range (number (float f)) e = absurd (cc)
of_range range null e = absurd (cc)
of_range range (boolean b) e = absurd (cc)
of_range range (string s) e = absurd (cc)
of_range range (array ds) e = absurd (cc)
of_range range (object ms) e = absurd (cc)

of_text : (limit : ℕ) (d : Data) → NotEmptyKey (text_of limit d)
of_text limit (number n) e = of_number n e
of_text limit (string s) e = by_limit (nat_lt limit (length s)) s TooLong (λ h. absurd (cc)) e
of_text limit null e = absurd (cc)
of_text limit (boolean b) e = absurd (cc)
of_text limit (array ds) e = absurd (cc)
of_text limit (object ms) e = absurd (cc)

of_item : (range : Option Range) (limit : Option ℕ) (d : Data) → NotEmptyKey (item_by range limit d)
of_item (Some range) limit d = mapped Key.Number (number_of range d) (of_range range d)
of_item None (Some limit) d = mapped Key.Text (text_of limit d) (of_text limit d)
of_item None None d = of_unlike d

named : (kind : FaultKind) → kind ≢ EmptyKey → key_fault_name kind ≡ key_name
named EmptyKey other = absurd (other refl)
named _ other = refl

abbrev meant_key : ℕ → Result Key FaultKind → Result Key Fault
meant_key row item = result_then (filled_key row) (in_member row key_name item)

found_by : (row : ℕ) (key : Key) (empty : Bool) (found : Key) → is_empty_text key ≡ empty → cond {A = Result Key FaultKind} empty (Err EmptyKey) (Ok key) ≡ Ok found
    → cond {A = Result Key Fault} empty (Err (row_fault EmptyKey row [])) (Ok key) ≡ Ok found
found_by row key true found is e = absurd (cc)
found_by row key false found is e = ap Ok (let same : key ≡ found = cc in same)

-- a key that is found
pub key_found : (row : ℕ) (of : DataType) (d : Data) (key : Key) → key_of of d ≡ Ok key → result_then (filled_key row) (in_member row key_name (item_of of d)) ≡ Ok key
key_found row of d key e = go (item_of of d) e
  where
    go : (item : Result Key FaultKind) → result_then not_empty item ≡ Ok key → meant_key row item ≡ Ok key
    go (Ok found) e = found_by row found (is_empty_text found) key refl e
    go (Err kind) e = absurd (cc)

refused_by : (row : ℕ) (key : Key) (empty : Bool) (kind : FaultKind) → cond {A = Result Key FaultKind} empty (Err EmptyKey) (Ok key) ≡ Err kind
    → cond {A = Result Key Fault} empty (Err (row_fault EmptyKey row [])) (Ok key) ≡ Err (row_fault kind row (key_fault_name kind))
refused_by row key true kind e = ap (λ k. Err (row_fault k row (key_fault_name k))) (let same : EmptyKey ≡ kind = cc in same)
refused_by row key false kind e = absurd (cc)

-- a key that is refused
pub key_refused : (row : ℕ) (of : DataType) (d : Data) (kind : FaultKind) → key_of of d ≡ Err kind
    → result_then (filled_key row) (in_member row key_name (item_of of d)) ≡ Err (row_fault kind row (key_fault_name kind))
key_refused row of d kind e = go (item_of of d) (of_item (range_of of) (text_limit of) d) e
  where
    go : (item : Result Key FaultKind) → NotEmptyKey item → result_then not_empty item ≡ Err kind → meant_key row item ≡ Err (row_fault kind row (key_fault_name kind))
    go (Ok found) other e = refused_by row found (is_empty_text found) kind e
    go (Err k) other e =
        let same : k ≡ kind = cc in
        ap (λ k. Err (row_fault k row key_name)) same ∙ ap (λ name. Err (row_fault kind row name)) (sym (named kind (λ h. other (ap Err (same ∙ h)))))
