-- The records that entries touched: their numbers, and the entries again.
use Rattle.std.proofs.Common.{◌≡◌, ℕ, ◌+◌, ◌<◌, ◌≤◌, ◌==◌, ◌⊎◌, inl, inr, zero, suc, Bool, true, false, cond, Option, Some, None, is_some, List, [], ◌∷◌, ◌++◌, filter, get_or, length, map, slice_get, drop, take, ◌-◌, refl, ap, sym, ◌∙◌, arith, subst}
use Rattle.std.proofs.lemmas.Bool.Decides.{nat_tests}
use lib.Dec.{eqb}
use Rattle.std.proofs.lemmas.List.{append-nil}
use Rattle.std.proofs.lemmas.List.Concat.{flat_map-append}
use Rattle.std.proofs.lemmas.List.Filters.{dedup_is}
use Rattle.std.proofs.lemmas.List.Kept.{Contains-dedup_nat, Contains-from_dedup}
use Rattle.std.proofs.lemmas.List.Sorted.{Contains-permutation, IsPermutation-sym}
use Rattle.std.proofs.lemmas.Map.Keys.{IsStrictlyIncreasing-dedup}
use Rattle.std.proofs.lemmas.List.Elements.{Contains-append_cases, Contains-append_left, Contains-append_right}
use Rattle.std.proofs.lemmas.Option.{slice_get-get_or}
use Rattle.std.specs.List.{Contains, dedup, flat_map}
use Rattle.std.specs.Option.{option_and_then, option_map_or}
use Rattle.std.specs.List.Sorted.{IsPermutation, IsSorted, IsStrictlyIncreasing}
use Rattle.std.specs.Ordering.{nat_cmp}
use Rattle.gr_base.specs.declared.numbers.RecordId.{RecordId}
use Rattle.gr_base.specs.declared.numbers.TableNo.{TableNo}
use Rattle.gr_db.specs.Apply.{replay}
use Rattle.gr_db.specs.Changed.{AreChanged, IsTouched, Place, touched}
use Rattle.gr_db.specs.declared.entry.Entry.{Entry}
use Rattle.gr_expr.specs.Tables.{record_id}
use Rattle.gr_root.specs.Inside.Sound.{AreFormed, AreTouched, records_in}
use Rattle.gr_root.specs.Inside.Touched.{AreOnce, numbers_in}
use Rattle.gr_root.specs.Inside.Walk.{db_of}
use Rattle.gr_root.specs.Readers.{table_of_db}
use Rattle.gr_root.proofs.CreateLemmas.{as-many}
use Rattle.gr_root.proofs.TablesLemmas.{IsFormed, formed-at, records-at}
use Rattle.gr_schema.specs.Paths.{key_type}
use Rattle.gr_schema.specs.Schema.{SchemaDef, table_at}
use Rattle.gr_schema.specs.declared.definition.TableDef.{TableDef}
use Rattle.gr_table.specs.Masks.{is_whole_column}
use Rattle.gr_table.specs.Table.{TableOf}
use Rattle.gr_values.specs.declared.data_type.DataType.{DataType}
use Rattle.gr_values.specs.declared.data_type.Shape.{Shape}
use Rattle.gr_base.specs.declared.numbers.ColumnNo.{ColumnNo}
use Rattle.gr_db.specs.Db.{Db, shapes_at, shapes_of}
use Rattle.gr_expr.specs.Tables.{Records, records_of}

-- Lists

contains-first : {X : Type 0} (x : X) (xs : List X) → Contains (x ∷ xs) x
contains-first x xs = (0, omega arith, refl)

contains-later : {X : Type 0} (x y : X) (xs : List X) → Contains xs y → Contains (x ∷ xs) y
contains-later x y xs there = Contains-append_right (x ∷ []) xs y there

contains-cases : {X : Type 0} (x y : X) (xs : List X) → Contains (x ∷ xs) y → (x ≡ y) ⊎ Contains xs y
contains-cases x y xs (zero, within, is) = inl is
contains-cases x y xs (suc k, within, is) = inr (k, omega arith, is)

contains-none : {X : Type 0} (y : X) → Contains [] y → ⊥
contains-none y there = let within : there.0 < 0 = there.1 in omega arith

-- what stands behind a place
get-drop : {X : Type 0} (n i : ℕ) (xs : List X) → slice_get (drop n xs) i ≡ slice_get xs (n + i)
get-drop zero i xs = ap (slice_get xs) (let same : i ≡ 0 + i = omega arith in same)
get-drop (suc n) i [] = refl
get-drop (suc n) i (x ∷ xs) = get-drop n i xs ∙ ap (slice_get (x ∷ xs)) (let same : suc (n + i) ≡ suc n + i = omega arith in same)

-- one more item
take-next : {X : Type 0} (xs : List X) (i : ℕ) (x : X) → slice_get xs i ≡ Some x → take (i + 1) xs ≡ take i xs ++ x ∷ []
take-next {X = X} xs i x there = ap (λ n. take n xs) (let next : i + 1 ≡ suc i = omega arith in next) ∙ go xs i there
  where
    go : (ys : List X) (n : ℕ) → slice_get ys n ≡ Some x → take (suc n) ys ≡ take n ys ++ x ∷ []
    go [] n at = absurd cc
    go (y ∷ ys) zero at = let same : y ≡ x = cc in ap (λ z. z ∷ []) same
    go (y ∷ ys) (suc n) at = ap (λ zs. y ∷ zs) (go ys n at)

-- an item whose image has it
pub record HasImage {X Y : Type 0} (f : X → List Y) (xs : List X) (y : Y) : Type 0 where
  pub at : ℕ
  pub item : X
  pub stands : slice_get xs at ≡ Some item
  pub has : Contains (f item) y

image-from : {X Y : Type 0} (f : X → List Y) (xs : List X) (y : Y) → Contains (flat_map f xs) y → HasImage f xs y
image-from f [] y there = absurd (contains-none y there)
image-from f (x ∷ xs) y there = elim (Contains-append_cases (f x) (flat_map f xs) y there) [
  | inl here ↦ record { at = zero; item = x; stands = refl; has = here }
  | inr later ↦ let rest = image-from f xs y later in record { at = suc rest.at; item = rest.item; stands = rest.stands; has = rest.has }
]

image-to : {X Y : Type 0} (f : X → List Y) (xs : List X) (y : Y) (n : ℕ) (x : X) → slice_get xs n ≡ Some x → Contains (f x) y → Contains (flat_map f xs) y
image-to f [] y n x stands has = absurd cc
image-to {X = X} f (first ∷ xs) y zero x stands has =
    let same : first ≡ x = cc in
    Contains-append_left (f first) (flat_map f xs) y (subst (λ (z : X). Contains (f z) y) (sym same) has)
image-to f (first ∷ xs) y (suc n) x stands has = Contains-append_right (f first) (flat_map f xs) y (image-to f xs y n x stands has)

-- lists of one length have items at the same places
as-long : {X Y : Type 0} (xs : List X) (ys : List Y) (n : ℕ) (x : X) → length xs ≡ length ys → slice_get xs n ≡ Some x → (y : Y) × (slice_get ys n ≡ Some y)
as-long [] ys n x long there = absurd cc
as-long (first ∷ xs) [] n x long there = absurd (omega arith)
as-long (first ∷ xs) (y ∷ ys) zero x long there = (y, refl)
as-long (first ∷ xs) (y ∷ ys) (suc n) x long there = as-long xs ys n x (omega arith) there

-- Numbers of a table's records

number-step : (table : TableNo) (place : Place) (places : List Place) (n : ℕ) (b : Bool) → (place.0.0 == table.0) ≡ b
    → ((n : ℕ) → Contains (numbers_in table places) n → (let one : Place = (table, record_id n) in Contains places one))
    → Contains (map (λ (p : Place). p.1.0) (cond b (place ∷ filter (λ (p : Place). p.0.0 == table.0) places) (filter (λ (p : Place). p.0.0 == table.0) places))) n
    → (let one : Place = (table, record_id n) in Contains (place ∷ places) one)
number-step table place places n true is rest there = elim (contains-cases place.1.0 n (numbers_in table places) there) [
  | inl same ↦
      let number : place.0.0 ≡ table.0 = grind (arith, nat_tests) in
      let one : Place = (table, record_id n) in
      let itself : ◌≡◌ {A = Place} place one = λ i. (let t : TableNo = record { 0 = number i } in t, record_id (same i)) in
      subst (Contains (place ∷ places)) itself (contains-first place places)
  | inr later ↦ let one : Place = (table, record_id n) in contains-later place one places (rest n later)
]
number-step table place places n false is rest there = let one : Place = (table, record_id n) in contains-later place one places (rest n there)

number-from : (table : TableNo) (places : List Place) (n : ℕ) → Contains (numbers_in table places) n → (let one : Place = (table, record_id n) in Contains places one)
number-from table [] n there = absurd (contains-none n there)
number-from table (place ∷ places) n there = number-step table place places n (place.0.0 == table.0) refl (number-from table places) there

number-here : (table : TableNo) (places : List Place) (n : ℕ) → (let one : Place = (table, record_id n) in Contains (numbers_in table (one ∷ places)) n)
number-here table places n =
    let same : (table.0 == table.0) ≡ true = grind (arith, nat_tests) in
    subst (λ (b : Bool). let one : Place = (table, record_id n) in Contains (map (λ (p : Place). p.1.0) (cond b (one ∷ filter (λ (p : Place). p.0.0 == table.0) places) (filter (λ (p : Place). p.0.0 == table.0) places))) n) (sym same)
    (contains-first n (numbers_in table places))

number-later : (table : TableNo) (place : Place) (places : List Place) (n : ℕ) (b : Bool) → Contains (numbers_in table places) n
    → Contains (map (λ (p : Place). p.1.0) (cond b (place ∷ filter (λ (p : Place). p.0.0 == table.0) places) (filter (λ (p : Place). p.0.0 == table.0) places))) n
number-later table place places n true there = contains-later place.1.0 n (numbers_in table places) there
number-later table place places n false there = there

number-to : (table : TableNo) (places : List Place) (n : ℕ) → (let one : Place = (table, record_id n) in Contains places one) → Contains (numbers_in table places) n
number-to table [] n there = let one : Place = (table, record_id n) in absurd (contains-none one there)
number-to table (place ∷ places) n there =
    let one : Place = (table, record_id n) in
    elim (contains-cases place one places there) [
      | inl same ↦ subst (λ (p : Place). Contains (numbers_in table (p ∷ places)) n) (sym same) (number-here table places n)
      | inr later ↦ number-later table place places n (place.0.0 == table.0) (number-to table places n later)
    ]

numbers-append : (table : TableNo) (some more : List Place) → numbers_in table (some ++ more) ≡ numbers_in table some ++ numbers_in table more
numbers-append table [] more = refl
numbers-append table (place ∷ some) more =
    let rest = numbers-append table some more in
    elim (place.0.0 == table.0) as (λ b. map (λ (p : Place). p.1.0) (cond b (place ∷ filter (λ (p : Place). p.0.0 == table.0) (some ++ more)) (filter (λ (p : Place). p.0.0 == table.0) (some ++ more)))
    ≡ map (λ (p : Place). p.1.0) (cond b (place ∷ filter (λ (p : Place). p.0.0 == table.0) some) (filter (λ (p : Place). p.0.0 == table.0) some)) ++ numbers_in table more) [
      | true ↦ ap (λ ns. place.1.0 ∷ ns) rest
      | false ↦ rest
    ]

-- one more place of the table
pub number-more : (table : TableNo) (places : List Place) (i : ℕ) (place : Place) → slice_get places i ≡ Some place → (place.0.0 == table.0) ≡ true → numbers_in table (take (i + 1) places) ≡ numbers_in table (take i places) ++ place.1.0 ∷ []
number-more table places i place there is =
    ap (numbers_in table) (take-next places i place there) ∙ numbers-append table (take i places) (place ∷ [])
    ∙ ap (λ b. numbers_in table (take i places) ++ map (λ (p : Place). p.1.0) (cond b (place ∷ []) [])) is

-- one more place of another table
pub number-other : (table : TableNo) (places : List Place) (i : ℕ) (place : Place) → slice_get places i ≡ Some place → (place.0.0 == table.0) ≡ false → numbers_in table (take (i + 1) places) ≡ numbers_in table (take i places)
number-other table places i place there is =
    ap (numbers_in table) (take-next places i place there) ∙ numbers-append table (take i places) (place ∷ [])
    ∙ ap (λ b. numbers_in table (take i places) ++ map (λ (p : Place). p.1.0) (cond b (place ∷ []) [])) is
    ∙ append-nil (numbers_in table (take i places))

-- the numbers of one more list of places
pub gathered-more : (table : TableNo) (touched : List (List Place)) (from i : ℕ) (places : List Place) (numbers : List ℕ) → slice_get touched (from + i) ≡ Some places
    → numbers ≡ flat_map (numbers_in table) (take i (drop from touched)) → numbers ++ numbers_in table places ≡ flat_map (numbers_in table) (take (i + 1) (drop from touched))
gathered-more table touched from i places numbers there before =
    let later : List (List Place) = drop from touched in
    ap (λ ns. ns ++ numbers_in table places) before
    ∙ ap (λ ns. flat_map (numbers_in table) (take i later) ++ ns) (sym (append-nil (numbers_in table places)))
    ∙ sym (flat_map-append (numbers_in table) (take i later) (places ∷ []))
    ∙ ap (flat_map (numbers_in table)) (sym (take-next later i places (get-drop from i touched ∙ there)))

-- there is a list at each place
pub gathered-none : (touched : List (List Place)) (n : ℕ) → n < length touched → slice_get touched n ≡ None → ⊥
gathered-none touched n within none =
    let both : Some (get_or touched n []) ≡ None = sym (slice_get-get_or touched n [] within) ∙ none in
    cc both

-- numbers that were sorted, and of which each was kept once
pub once-of : (numbers sorted kept : List ℕ) → IsPermutation numbers sorted → IsSorted nat_cmp sorted → kept ≡ dedup eqb sorted → AreOnce numbers kept
once-of numbers sorted kept moved ordered are = record {
  ascending = subst IsStrictlyIncreasing (sym are) (IsStrictlyIncreasing-dedup sorted ordered);
  sound = λ n there. Contains-permutation sorted numbers n (IsPermutation-sym numbers sorted moved) (Contains-from_dedup eqb sorted n (subst (λ (ns : List ℕ). Contains ns n) are there));
  complete = λ n there. subst (λ (ns : List ℕ). Contains ns n) (sym are) (Contains-dedup_nat sorted n (Contains-permutation numbers sorted n moved there));
}

-- The entries again

-- a number that is gathered is of a record that a later entry touched
gathered-touched : (journal : List Entry) (places : List (List Place)) (table : TableNo) (from n : ℕ) → AreTouched journal places → Contains (flat_map (numbers_in table) (drop from places)) n → IsTouched journal table from (record_id n)
gathered-touched journal places table from n kept there =
    let image = image-from (numbers_in table) (drop from places) n there in
    let place : ℕ = from + image.at in
    let stands : slice_get places place ≡ Some image.item = sym (get-drop from image.at places) ∙ image.stands in
    let entry = as-long places journal place image.item kept.long stands in
    let both : Some image.item ≡ Some (touched (replay (take place journal)) entry.0.change) = sym stands ∙ kept.each place entry.0 entry.1 in
    let same : image.item ≡ touched (replay (take place journal)) entry.0.change = cc both in
    record {
      place = place;
      late = omega arith;
      entry = entry.0;
      stands = entry.1;
      touches = let one : Place = (table, record_id n) in subst (λ (ps : List Place). Contains ps one) same (number-from table image.item n image.has);
    }

-- and each of these is gathered
touched-gathered : (journal : List Entry) (places : List (List Place)) (table : TableNo) (from n : ℕ) → AreTouched journal places → IsTouched journal table from (record_id n) → Contains (flat_map (numbers_in table) (drop from places)) n
touched-gathered journal places table from n kept is =
    let ones : List Place = touched (replay (take is.place journal)) is.entry.change in
    let late : from ≤ is.place = is.late in
    let split : from + (is.place - from) ≡ is.place = omega arith in
    let stands : slice_get (drop from places) (is.place - from) ≡ Some ones = get-drop from (is.place - from) places ∙ ap (slice_get places) split ∙ kept.each is.place is.entry is.stands in
    image-to (numbers_in table) (drop from places) n (is.place - from) ones stands (number-to table ones n is.touches)

-- Ids

numbers-back : (ns : List ℕ) → map (λ (id : RecordId). id.0) (map record_id ns) ≡ ns
numbers-back [] = refl
numbers-back (n ∷ ns) = ap (λ ms. n ∷ ms) (numbers-back ns)

id-from : (ns : List ℕ) (id : RecordId) → Contains (map record_id ns) id → Contains ns id.0
id-from [] id there = absurd (contains-none id there)
id-from (n ∷ ns) id there = elim (contains-cases (record_id n) id (map record_id ns) there) [
  | inl same ↦ subst (Contains (n ∷ ns)) (ap (λ (i : RecordId). i.0) same) (contains-first n ns)
  | inr later ↦ contains-later n id.0 ns (id-from ns id later)
]

id-to : (ns : List ℕ) (id : RecordId) → Contains ns id.0 → Contains (map record_id ns) id
id-to [] id there = absurd (contains-none id.0 there)
id-to (n ∷ ns) id there = elim (contains-cases n id.0 ns there) [
  | inl same ↦ subst (Contains (record_id n ∷ map record_id ns)) (ap record_id same) (contains-first (record_id n) (map record_id ns))
  | inr later ↦ contains-later (record_id n) id (map record_id ns) (id-to ns id later)
]

-- the ids of the numbers that were gathered, each once
pub changed-ids : (journal : List Entry) (places : List (List Place)) (table : TableNo) (from : ℕ) (numbers sorted : List ℕ) (ids : List RecordId) → AreTouched journal places
    → numbers ≡ flat_map (numbers_in table) (drop from places) → AreOnce numbers sorted → ids ≡ map record_id sorted → AreChanged journal table from ids
changed-ids journal places table from numbers sorted ids kept gathered each are = record {
  ascending = subst IsStrictlyIncreasing (sym (ap (map (λ (id : RecordId). id.0)) are ∙ numbers-back sorted)) each.ascending;
  sound = λ id there. gathered-touched journal places table from id.0 kept
      (subst (λ (ns : List ℕ). Contains ns id.0) gathered (each.sound id.0 (id-from sorted id (subst (λ (is : List RecordId). Contains is id) are there))));
  complete = λ id is. subst (λ (is : List RecordId). Contains is id) (sym are)
      (id-to sorted id (each.complete id.0 (subst (λ (ns : List ℕ). Contains ns id.0) (sym gathered) (touched-gathered journal places table from id.0 kept is))));
}

-- Tables of a state

-- the database of a schema and tables that a journal made
pub db-is : (schema : SchemaDef) (tables : List TableOf) (db : Db) → schema ≡ db.schema → records_in tables ≡ db.tables → db_of schema tables ≡ db
db-is schema tables db same_schema same_tables = λ i. let one : Db = record { schema = same_schema i; tables = same_tables i } in one

-- a table that is there is the one of its number in the database
pub table-seen : (schema : SchemaDef) (tables : List TableOf) (n : TableNo) (table : TableOf) → slice_get tables n.0 ≡ Some table → AreFormed schema tables → table ≡ table_of_db (db_of schema tables) n
table-seen schema tables n table there formed =
    let home = as-long tables schema.tables n.0 table (as-many schema tables formed) there in
    let at : IsFormed schema tables n home.0 = formed-at schema tables n home.0 formed home.1 in
    let both : Some table ≡ Some at.table = sym there ∙ at.there in
    let same : table ≡ at.table = cc both in
    let key : table.key ≡ key_type schema n = ap (λ (t : TableOf). t.key) same ∙ at.key ∙ sym (ap (option_and_then (λ (def : TableDef). def.key)) home.1) in
    let shapes : table.shapes ≡ shapes_at schema n = ap (λ (t : TableOf). t.shapes) same ∙ at.shapes in
    let records : table.records ≡ records_of (records_in tables) n = sym (records-at tables n table there) in
    λ i. let one : TableOf = record { key = key i; shapes = shapes i; records = records i } in one

none-by : (schema : SchemaDef) (tables : List TableOf) (n : TableNo) (column : ColumnNo) (o : Option TableDef) → slice_get tables n.0 ≡ None → AreFormed schema tables → table_at schema n ≡ o → is_whole_column (option_map_or (shapes_of schema) o []) column ≡ false
none-by schema tables n column None none formed is = refl
none-by schema tables n column (Some home) none formed is =
    let at : IsFormed schema tables n home = formed-at schema tables n home formed is in
    let both : Some at.table ≡ None = sym at.there ∙ none in
    absurd cc

-- a table that is not there has no column of whole numbers
pub none-seen : (schema : SchemaDef) (tables : List TableOf) (n : TableNo) (column : ColumnNo) → slice_get tables n.0 ≡ None → AreFormed schema tables → is_whole_column (shapes_at schema n) column ≡ false
none-seen schema tables n column none formed = none-by schema tables n column (table_at schema n) none formed refl
