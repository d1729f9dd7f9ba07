-- The table of a name, by its number.
use Rattle.std.proofs.Common.{◌≡◌, ℕ, ◌<◌, true, Option, Some, None, is_some, List, [], length, slice_get, position, refl, ap, subst}
use Rattle.std.proofs.lemmas.List.Quantifiers.{position-Some}
use Rattle.std.proofs.lemmas.Option.{slice_get-get_or}
use Rattle.std.specs.Option.{option_map}
use Rattle.std.specs.Str.{bytes_eq}
use Rattle.gr_base.specs.declared.numbers.TableNo.{TableNo}
use Rattle.gr_schema.specs.Schema.{SchemaDef, table_at, table_named, table_no}
use Rattle.gr_schema.specs.Wishes.{home_named, home_of}
use Rattle.gr_schema.specs.declared.definition.TableDef.{TableDef}
use Rattle.gr_schema.specs.declared.definition.TableKind.TheVariants.{NoKey}

nothing : TableDef
nothing = record { name = []; kind = NoKey; key = None; tokenizer = None; columns = [] }

-- a table that was found by its name stands at its number
pub there : (schema : SchemaDef) (name : List ℕ) (number : TableNo) → table_named schema name ≡ Some number → is_some (table_at schema number) ≡ true
there schema name number e = go (position (λ table. bytes_eq table.name name) schema.tables) refl e
  where
    go : (o : Option ℕ) → position (λ table. bytes_eq table.name name) schema.tables ≡ o → option_map table_no o ≡ Some number → is_some (table_at schema number) ≡ true
    go None is e = absurd (cc)
    go (Some n) is e =
        let same : table_no n ≡ number = cc in
        let within : n < length schema.tables = (position-Some (λ (table : TableDef). bytes_eq table.name name) schema.tables n nothing is).0 in
        let at : is_some (slice_get schema.tables n) ≡ true = ap is_some (slice_get-get_or schema.tables n nothing within) in
        subst (λ (number : TableNo). is_some (table_at schema number) ≡ true) same at

-- what is there has a definition
pub some-from : {X : Type 0} (o : Option X) → is_some o ≡ true → (x : X) × (o ≡ Some x)
some-from None e = absurd (cc)
some-from (Some x) e = (x, refl)

-- the table that is named is that at its number
pub named-at : (schema : SchemaDef) (name : List ℕ) (number : TableNo) (home : TableDef) → table_named schema name ≡ Some number → table_at schema number ≡ Some home → home_named schema name ≡ Some (home_of number home)
named-at schema name number home named at = rw (named, at) refl

-- where no table has the name there is none
pub named-nowhere : (schema : SchemaDef) (name : List ℕ) → table_named schema name ≡ None → home_named schema name ≡ None
named-nowhere schema name none = rw none refl
