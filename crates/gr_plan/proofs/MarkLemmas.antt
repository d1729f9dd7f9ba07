-- A table of which it is known which records are there; they have no key and no cells.
use Rattle.std.proofs.Common.{◌≡◌, ℕ, zero, suc, ◌-◌, ◌<◌, Bool, true, false, List, [], ◌∷◌, Option, Some, None, is_some, get_or, length, map, slice_get, refl, sym, ap, subst, ◌∙◌, arith}
use Rattle.std.specs.Prelude.{if◌then◌else◌}
use Rattle.std.proofs.lemmas.Option.{slice_get-map, unwrap_or-slice_get}
use Rattle.std.specs.List.{position_or_len}
use Rattle.std.specs.Option.{option_and_then, option_flatten, option_map, option_map_or, unwrap_or}
use Rattle.gr_base.specs.declared.numbers.ColumnNo.{ColumnNo}
use Rattle.gr_base.specs.declared.numbers.RecordId.{RecordId}
use Rattle.gr_base.specs.declared.numbers.TableNo.{TableNo}
use Rattle.gr_expr.specs.Tables.{Record, Records, cell_at, has_key, id_in, key_at, record_at, record_in, records_of}
use Rattle.gr_values.specs.declared.value.Key.{Key}

abbrev marked : Bool → Option Record
marked alive = if alive then Some (record { key = None; cells = [] }) else None

abbrev pub marks : List Bool → List Records
marks alive = map marked alive ∷ []

-- no record, or one without key and cells
abbrev IsBare : Option Record → Type 0
IsBare None = Unit {0}
IsBare (Some found) = (found.key ≡ None) × (found.cells ≡ [])

bare-mark : (alive : Option Bool) → IsBare (option_flatten (option_map marked alive))
bare-mark None = tt
bare-mark (Some true) = (refl, refl)
bare-mark (Some false) = tt

bare-in : (alive : List Bool) (id : ℕ) → IsBare (record_in (map marked alive) id)
bare-in alive zero = tt
bare-in alive (suc n) = subst (λ found. IsBare (option_flatten found)) (sym (slice_get-map marked alive n)) (bare-mark (slice_get alive n))

bare-none : (id : ℕ) → IsBare (record_in [] id)
bare-none zero = tt
bare-none (suc n) = tt

bare-of : (alive : List Bool) (table id : ℕ) → IsBare (record_in (option_map_or (λ records. records) (slice_get (marks alive) table) []) id)
bare-of alive zero id = bare-in alive id
bare-of alive (suc table) id = bare-none id

-- a bare record has no key and no cell
keyless : (found : Option Record) → IsBare found → option_and_then (λ (found : Record). found.key) found ≡ None
keyless None bare = refl
keyless (Some found) bare = bare.0

cellless : (column : ℕ) (found : Option Record) → IsBare found → option_and_then (λ (found : Record). option_flatten (slice_get found.cells column)) found ≡ None
cellless column None bare = refl
cellless column (Some found) bare = ap (λ cells. option_flatten (slice_get cells column)) bare.1

pub marks-keyless : (alive : List Bool) (table : TableNo) (id : RecordId) → None ≡ key_at (marks alive) table id
marks-keyless alive table id = sym (keyless (record_at (marks alive) table id) (bare-of alive table.0 id.0))

pub marks-cellless : (alive : List Bool) (table : TableNo) (id : RecordId) (column : ColumnNo) → None ≡ cell_at (marks alive) table id column
marks-cellless alive table id column = sym (cellless column.0 (record_at (marks alive) table id) (bare-of alive table.0 id.0))

-- no record has a key that is looked for
keyed-nowhere : (key : Key) (alive : List Bool) → position_or_len (has_key key) (map marked alive) ≡ length (map marked alive)
keyed-nowhere key [] = refl
keyed-nowhere key (true ∷ alive) = omega (arith, keyed-nowhere key alive)
keyed-nowhere key (false ∷ alive) = omega (arith, keyed-nowhere key alive)

nowhere : (key : Key) (records : Records) → position_or_len (has_key key) records ≡ length records → None ≡ id_in records key
nowhere key records none = grind arith

found-nowhere : (key : Key) (alive : List Bool) (table : ℕ) → None ≡ id_in (option_map_or (λ records. records) (slice_get (marks alive) table) []) key
found-nowhere key alive zero = nowhere key (map marked alive) (keyed-nowhere key alive)
found-nowhere key alive (suc table) = refl

pub marks-unfound : (alive : List Bool) (table : TableNo) (key : Key) → None ≡ id_in (records_of (marks alive) table) key
marks-unfound alive table key = found-nowhere key alive table.0

-- which records are there
alive-mark : (alive : Option Bool) → unwrap_or alive false ≡ is_some (option_flatten (option_map marked alive))
alive-mark None = refl
alive-mark (Some true) = refl
alive-mark (Some false) = refl

alive-in : (alive : List Bool) (id : ℕ) → 0 < id → get_or alive (id - 1) false ≡ is_some (record_in (map marked alive) id)
alive-in alive zero some = absurd (omega (arith, some))
alive-in alive (suc n) some =
    let before : suc n - 1 ≡ n = omega arith in
    rw (before, slice_get-map marked alive n) (sym (unwrap_or-slice_get alive n false) ∙ alive-mark (slice_get alive n))

alive-of : (alive : List Bool) (table id : ℕ) → table ≡ 0 → 0 < id → get_or alive (id - 1) false ≡ is_some (record_in (option_map_or (λ records. records) (slice_get (marks alive) table) []) id)
alive-of alive zero id here some = alive-in alive id some
alive-of alive (suc table) id here some = absurd (omega (arith, here))

pub marks-alive : (alive : List Bool) (table : TableNo) (id : RecordId) → table.0 ≡ 0 → 0 < id.0 → get_or alive (id.0 - 1) false ≡ is_some (record_at (marks alive) table id)
marks-alive alive table id here some = alive-of alive table.0 id.0 here some
