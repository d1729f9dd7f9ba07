-- The references of an array that have been read, without the empty texts among them.
use Rattle.std.proofs.Common.{◌≡◌, ℕ, Bool, true, false, not, cond, List, [], ◌∷◌, ◌++◌, Ok, refl, ap, sym, ◌∙◌, arith}
use Rattle.std.proofs.lemmas.List.Elements.{filter-append}
use Rattle.std.specs.List.{AllByRecursion}
use Rattle.serde_json.specs.Data.{Items}
use Rattle.serde_json.specs.View.{view}
use Rattle.serde_json.specs.declared.value.Value.{Value}
use Rattle.gr_values.specs.declared.data_type.DataType.{DataType}
use Rattle.gr_values.specs.declared.data_type.DataType.TheVariants.{ShortText, Text, LongText}
use Rattle.gr_values.specs.declared.value.Key.{Key}
use Rattle.gr_values.specs.Fits.{IsItemOf, IsKeyOf, IsTextOf, IsTextKey}
use Rattle.gr_values.specs.Types.{is_key_type}
use Rattle.gr_values.specs.Values.{is_empty_text, item_of, references}
use Rattle.gr_values.proofs.Reading.{AreRead, AreRead-more}

-- these keys are kept of the elements that were read
pub record AreKept (of : DataType) (all : Items) (keys : List Key) (left : List Value) : Type 0 where
  pub read : List Key
  pub taken : AreRead (item_of of) all read left
  pub kept : keys ≡ references read

-- one more key is read
pub references-push : (read : List Key) (key : Key) → references (read ++ key ∷ []) ≡ references read ++ references (key ∷ [])
references-push read key = filter-append (λ key. not (is_empty_text key)) read (key ∷ [])

text_key : (of : DataType) (c : ℕ) (cs : List ℕ) → is_key_type of ≡ true → IsTextOf of (c ∷ cs) → IsTextKey of (c ∷ cs)
text_key ShortText c cs key text = record { short = refl; utf8 = text.utf8; given = omega arith; within = text.within }
text_key Text c cs key text = absurd (cc)
text_key LongText c cs key text = absurd (cc)
text_key _ c cs key text = absurd text

-- a number or a text of a key type is a key, unless it is the empty text
pub IsKeyOf-item : (of : DataType) (key : Key) → is_key_type of ≡ true → IsItemOf of key → is_empty_text key ≡ false → IsKeyOf of key
IsKeyOf-item of (Key.Number z) kind item given = item
IsKeyOf-item of (Key.Text []) kind item given = absurd (cc)
IsKeyOf-item of (Key.Text (c ∷ cs)) kind item given = text_key of c cs kind item

one_key : (of : DataType) (key : Key) → is_key_type of ≡ true → IsItemOf of key → (empty : Bool) → is_empty_text key ≡ empty → AllByRecursion (IsKeyOf of) (cond (not empty) (key ∷ []) [])
one_key of key kind item true e = tt
one_key of key kind item false e = (IsKeyOf-item of key kind item e, tt)

-- keys of the type, and one more
pub keys-more : (of : DataType) (keys : List Key) (key : Key) → is_key_type of ≡ true → IsItemOf of key → AllByRecursion (IsKeyOf of) keys → AllByRecursion (IsKeyOf of) (keys ++ references (key ∷ []))
keys-more of [] key kind item each = one_key of key kind item (is_empty_text key) refl
keys-more of (first ∷ keys) key kind item each = (each.0, keys-more of keys key kind item each.1)

-- one more element was read
pub AreKept-more : {of : DataType} {all : Items} {keys more : List Key} {value : Value} {left : List Value} (key : Key)
    → item_of of (view value) ≡ Ok key → more ≡ keys ++ references (key ∷ []) → AreKept of all keys (value ∷ left) → AreKept of all more left
AreKept-more key found pushed before = record {
  read = before.read ++ key ∷ [];
  taken = AreRead-more key found before.taken;
  kept = pushed ∙ ap (λ keys. keys ++ references (key ∷ [])) before.kept ∙ sym (references-push before.read key);
}
