-- Values that stand in a cell can be shown.
use Rattle.std.proofs.Common.{◌≡◌, ℕ, true, List, [], ◌∷◌, Option, Some, None, IsUtf8}
use Rattle.std.specs.List.{AllByRecursion}
use Rattle.std.specs.Option.{MatchOption}
use Rattle.gr_values.specs.declared.data_type.DataType.{DataType}
use Rattle.gr_values.specs.declared.data_type.Shape.{Shape}
use Rattle.gr_values.specs.declared.value.Key.{Key}
use Rattle.gr_values.specs.declared.value.Given.{Given}
use Rattle.gr_values.specs.Fits.{Fits, IsKeyOf, IsTextOf, IsTextWithin}
use Rattle.gr_values.specs.Shown.{IsKeyText, IsShowable}
use Rattle.gr_values.specs.Types.{is_key_type, text_limit}

utf8-within : (s : List ℕ) (limit : Option ℕ) → MatchOption limit ⊥ (λ limit. IsTextWithin limit s) → IsUtf8 s
utf8-within s None h = absurd h
utf8-within s (Some limit) h = h.utf8

IsUtf8-text : (of : DataType) (s : List ℕ) → IsTextOf of s → IsUtf8 s
IsUtf8-text of s h = utf8-within s (text_limit of) h

IsKeyText-key : (of : DataType) (key : Key) → IsKeyOf of key → IsKeyText key
IsKeyText-key of (Key.Number z) h = tt
IsKeyText-key of (Key.Text s) h = h.utf8

each : {X : Type 0} {P Q : X → Type 0} → ((x : X) → P x → Q x) → (xs : List X) → AllByRecursion P xs → AllByRecursion Q xs
each weaker [] all = tt
each weaker (x ∷ xs) all = (weaker x all.0, each weaker xs all.1)

-- a value of a shape, where the type of keys is known
pub IsShowable-Fits : (of : DataType) (shape : Shape) (given : Given) → is_key_type of ≡ true → Fits shape given → IsShowable (Some of) given
IsShowable-Fits of shape (Given.Bool b) keyed fits = tt
IsShowable-Fits of shape (Given.Int z) keyed fits = tt
IsShowable-Fits of shape (Given.Text s) keyed fits = IsUtf8-text shape.of s fits.1
IsShowable-Fits of shape (Given.Ref None) keyed fits = keyed
IsShowable-Fits of shape (Given.Ref (Some key)) keyed fits = IsKeyText-key shape.of key fits.1
IsShowable-Fits of shape (Given.RefList keys) keyed fits = each (IsKeyText-key shape.of) keys fits.1.each
IsShowable-Fits of shape (Given.IntList zs) keyed fits = tt
IsShowable-Fits of shape (Given.TextList texts) keyed fits = each (IsUtf8-text shape.of) texts fits.2.each
