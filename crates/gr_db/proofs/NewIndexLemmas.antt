-- The tokens that a new index wants, record by record and source by source.
use Rattle.std.proofs.Common.{◌≡◌, ℕ, ◌+◌, ◌<◌, suc, Option, Some, None, List, [], ◌∷◌, ◌++◌, get_or, length, slice_get, take, refl, ap, sym, ◌∙◌, arith}
use Rattle.std.proofs.lemmas.List.{append-nil, append_assoc, take_more}
use Rattle.std.proofs.lemmas.List.Concat.{flat_map-append}
use Rattle.std.proofs.lemmas.List.Elements.{filter_map-append}
use Rattle.std.proofs.lemmas.Option.{slice_get-get_or}
use Rattle.std.specs.List.{filter_map, flat_map}
use Rattle.std.specs.Option.{option_and_then, option_flatten, option_map_or}
use Rattle.gr_base.specs.declared.numbers.ColumnNo.{ColumnNo}
use Rattle.gr_base.specs.declared.numbers.TableNo.{TableNo}
use Rattle.gr_db.specs.Wants.{index_wants, source_wants, text_in, text_of_cell, text_of_key}
use Rattle.gr_db.specs.declared.want.Want.{Want}
use Rattle.gr_expr.specs.Tables.{Record, Records, record_in}
use Rattle.gr_schema.specs.Schema.{SchemaDef}
use Rattle.gr_values.specs.declared.path.Field.{Field}

-- the text of the key of a record, where it is there
pub text-of-key : (o : Option Record) → option_and_then text_of_key (option_and_then (λ found. found.key) o) ≡ option_and_then (λ found. text_in found Field.Key) o
text-of-key None = refl
text-of-key (Some found) = refl

-- the text of a cell of a record, where it is there
pub text-of-cell : (column : ColumnNo) (o : Option Record)
    → option_and_then text_of_cell (option_and_then (λ found. option_flatten (slice_get found.cells column.0)) o) ≡ option_and_then (λ found. text_in found (Field.Column column)) o
text-of-cell column None = refl
text-of-cell column (Some found) = refl

-- a record that is not there has no text of its id
pub text-of-id : (o : Option Record) → None ≡ option_and_then (λ found. text_in found Field.Id) o
text-of-id None = refl
text-of-id (Some found) = refl

-- the tokens of a source, by its text
pub source-by-text : (schema : SchemaDef) (index : TableNo × ColumnNo) (source : Field) (o : Option Record)
    → option_map_or (λ text. index_wants schema text index) (option_and_then (λ found. text_in found source) o) [] ≡ option_map_or (λ found. source_wants schema index found source) o []
source-by-text schema index source None = refl
source-by-text schema index source (Some found) = refl

none-wanted : (sources : List Field) → flat_map (λ (source : Field). let none : List Want = [] in none) sources ≡ []
none-wanted [] = refl
none-wanted (source ∷ sources) = none-wanted sources

-- the tokens of all sources, source by source
pub record-by-source : (schema : SchemaDef) (index : TableNo × ColumnNo) (sources : List Field) (o : Option Record)
    → flat_map (λ source. option_map_or (λ found. source_wants schema index found source) o []) sources ≡ option_map_or (λ found. flat_map (source_wants schema index found) sources) o []
record-by-source schema index sources None = none-wanted sources
record-by-source schema index sources (Some found) = refl

record-at : (records : Records) (i : ℕ) → i < length records → record_in records (i + 1) ≡ get_or records i None
record-at records i within =
    let next : i + 1 ≡ suc i = omega arith in
    ap (record_in records) next ∙ ap option_flatten (slice_get-get_or records i None within)

one-record : {Y : Type 0} (f : Record → List Y) (o : Option Record) → flat_map f (filter_map (λ found. found) (o ∷ [])) ≡ option_map_or f o []
one-record f None = refl
one-record f (Some found) = append-nil (f found)

-- what is gathered of the records that are there, with the next one
pub records-more : {Y : Type 0} (f : Record → List Y) (init old new : List Y) (records : Records) (i : ℕ) → i < length records
    → old ≡ init ++ flat_map f (filter_map (λ found. found) (take i records)) → new ≡ old ++ option_map_or f (record_in records (i + 1)) []
    → new ≡ init ++ flat_map f (filter_map (λ found. found) (take (i + 1) records))
records-more f init old new records i within before step =
    let one = get_or records i None in
    let more : take (i + 1) records ≡ take i records ++ one ∷ [] = take_more records i None within in
    let parts : filter_map (λ (found : Option Record). found) (take i records ++ one ∷ []) ≡ filter_map (λ found. found) (take i records) ++ filter_map (λ found. found) (one ∷ []) = filter_map-append (λ (found : Option Record). found) (take i records) (one ∷ []) in
    let joined : flat_map f (filter_map (λ found. found) (take i records) ++ filter_map (λ found. found) (one ∷ [])) ≡ flat_map f (filter_map (λ found. found) (take i records)) ++ flat_map f (filter_map (λ found. found) (one ∷ [])) = flat_map-append f (filter_map (λ found. found) (take i records)) (filter_map (λ found. found) (one ∷ [])) in
    step ∙ ap (λ o. old ++ option_map_or f o []) (record-at records i within)
    ∙ ap (λ ys. ys ++ option_map_or f one []) before ∙ append_assoc init (flat_map f (filter_map (λ found. found) (take i records))) (option_map_or f one [])
    ∙ ap (λ ys. init ++ (flat_map f (filter_map (λ found. found) (take i records)) ++ ys)) (sym (one-record f one))
    ∙ ap (λ ys. init ++ ys) (sym joined)
    ∙ ap (λ ys. init ++ flat_map f ys) (sym parts)
    ∙ ap (λ rs. init ++ flat_map f (filter_map (λ found. found) rs)) (sym more)

-- what is gathered of elements, with the next one
pub elements-more : {X Y : Type 0} (f : X → List Y) (init old new : List Y) (xs : List X) (i : ℕ) (d : X) → i < length xs
    → old ≡ init ++ flat_map f (take i xs) → new ≡ old ++ f (get_or xs i d) → new ≡ init ++ flat_map f (take (i + 1) xs)
elements-more f init old new xs i d within before step =
    let one = get_or xs i d in
    let more : take (i + 1) xs ≡ take i xs ++ one ∷ [] = take_more xs i d within in
    let joined : flat_map f (take i xs ++ one ∷ []) ≡ flat_map f (take i xs) ++ flat_map f (one ∷ []) = flat_map-append f (take i xs) (one ∷ []) in
    let single : flat_map f (one ∷ []) ≡ f one = append-nil (f one) in
    step ∙ ap (λ ys. ys ++ f one) before ∙ append_assoc init (flat_map f (take i xs)) (f one)
    ∙ ap (λ ys. init ++ (flat_map f (take i xs) ++ ys)) (sym single)
    ∙ ap (λ ys. init ++ ys) (sym joined)
    ∙ ap (λ zs. init ++ flat_map f zs) (sym more)
