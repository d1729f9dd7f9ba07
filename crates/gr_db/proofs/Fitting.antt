-- The paths of a schema fit each database that fits the schema, or one that has grown from it.
use Rattle.std.proofs.Common.{ℕ, ◌≡◌, Bool, true, false, cond, ◌&&◌, Option, Some, None, is_some, MatchOption, List, [], ◌∷◌, slice_get, refl, sym, ap, subst, ◌∙◌}
use Rattle.std.proofs.lemmas.Option.{MatchOption-at_some, none-some, same_Some, option_and_then_some}
use Rattle.std.specs.List.{slice_split}
use Rattle.std.specs.Option.{option_and_then, option_flatten, option_map}
use Rattle.std.specs.Str.{bytes_eq}
use Rattle.gr_base.specs.declared.numbers.ColumnNo.{ColumnNo}
use Rattle.gr_base.specs.declared.numbers.RecordId.{RecordId}
use Rattle.gr_base.specs.declared.numbers.TableNo.{TableNo}
use Rattle.gr_db.specs.Db.{Db, kind_shape, role_shape}
use Rattle.gr_db.specs.Fitting.{FitsTable, IsFitting}
use Rattle.gr_db.specs.Keys.{IsKeyFor}
use Rattle.gr_db.proofs.Grows.{longer, shape-stays, slice_get-left, table-stays}
use Rattle.gr_expr.specs.Fits.{EachCell, EachKey, FitHops, FitsField, FitsPath, FitsTarget, IsRef}
use Rattle.gr_expr.specs.Paths.{hops_table}
use Rattle.gr_expr.specs.Tables.{Record, Records, record_at}
use Rattle.gr_schema.specs.Paths.{End, Way, after_hop, column_end, field_end, hop_named, id_type, is_dot, key_type, kind_end, path_from, path_of, plain_end, reference_end, referred, role_end, way_along}
use Rattle.gr_schema.specs.Schema.{Extends, SchemaDef, column_in, column_named, is_keyed, table_at}
use Rattle.gr_schema.specs.Sound.{IsColumn, IsKind, IsRole, IsSound, IsTable}
use Rattle.gr_schema.specs.Wishes.{can_be_referred_to}
use Rattle.gr_schema.specs.Words.{id_name, key_name}
use Rattle.gr_schema.specs.declared.definition.ColumnDef.{ColumnDef}
use Rattle.gr_schema.specs.declared.definition.Role.{Role}
use Rattle.gr_schema.specs.declared.definition.Role.TheVariants.{Scalar, Vector, Index}
use Rattle.gr_schema.specs.declared.definition.TableDef.{TableDef}
use Rattle.gr_values.specs.Fits.{IsCellOf, IsKeyOf}
use Rattle.gr_values.specs.declared.data_type.DataType.{DataType}
use Rattle.gr_values.specs.declared.data_type.Kind.{Kind}
use Rattle.gr_values.specs.declared.data_type.Kind.TheVariants.{Plain, Reference}
use Rattle.gr_values.specs.declared.data_type.Shape.{Shape}
use Rattle.gr_values.specs.declared.path.Field.{Field}
use Rattle.gr_values.specs.declared.path.Field.TheVariants.{Id, Key, Column}
use Rattle.gr_values.specs.declared.path.Hop.{Hop}
use Rattle.gr_values.specs.declared.path.Path.{Path}
use Rattle.gr_values.specs.declared.value.Cell.{Cell}
use Rattle.gr_values.specs.declared.value.Key.{Key as KeyValue}

-- what is there
option_map_some : {A B P : Type 0} (f : A → B) (o : Option A) (y : B) → option_map f o ≡ Some y → ((x : A) → o ≡ Some x → f x ≡ y → P) → P
option_map_some f None y e k = absurd (none-some y e)
option_map_some f (Some x) y e k = k x refl (same_Some _ _ e)

some_of : {A : Type 0} (o : Option A) → is_some o ≡ true → (x : A) × (o ≡ Some x)
some_of None e = absurd (cc)
some_of (Some x) e = (x, refl)

first_true : (a b : Bool) → (a && b) ≡ true → a ≡ true
first_true true b e = refl
first_true false b e = e

-- the key of a record of a keyed table
key_there : (home : TableDef) (type : DataType) (key : Option KeyValue) → home.key ≡ Some type → IsKeyFor home key → MatchOption key ⊥ (IsKeyOf type)
key_there home type None e none = absurd (none-some type (sym none ∙ e))
key_there home type (Some key) e fits = MatchOption-at_some ⊥ (λ type. IsKeyOf type key) type e fits

-- a cell of single references is a reference
IsRef-cell : (shape : Shape) (cell : Cell) → shape.list ≡ false → shape.reference ≡ true → IsCellOf shape cell → IsRef cell
IsRef-cell shape (Cell.Bool truth) one reference h = let e = h.0.plain in absurd (cc)
IsRef-cell shape (Cell.Int number) one reference h = let e = h.0.plain in absurd (cc)
IsRef-cell shape (Cell.Text text) one reference h = let e = h.0.plain in absurd (cc)
IsRef-cell shape (Cell.Ref id) one reference h = tt
IsRef-cell shape (Cell.RefList ids) one reference h = let e = h.0.list in absurd (cc)
IsRef-cell shape (Cell.IntList numbers) one reference h = let e = h.0.list in absurd (cc)
IsRef-cell shape (Cell.TextList texts) one reference h = let e = h.0.list in absurd (cc)

IsRef-there : (shape : Shape) (cell : Option Cell) → shape.list ≡ false → shape.reference ≡ true → MatchOption cell ⊥ (IsCellOf shape) → MatchOption cell ⊥ IsRef
IsRef-there shape None one reference h = h
IsRef-there shape (Some cell) one reference h = IsRef-cell shape cell one reference h

-- a field of a table fits its records
pub record FitsEnd (tables : List Records) (table : TableNo) (end : End) : Type 0 where
  pub field : FitsField tables table end.shape end.last
  pub target : FitsTarget tables end.shape end.to

-- hops from a table, and the field to which they lead
pub record FitsWay (tables : List Records) (table : TableNo) (way : Way) : Type 0 where
  pub hops : FitHops tables table way.through
  pub end : FitsEnd tables (hops_table table way.through) way.end

module _ (db : Db) (fits : IsFitting db) where
  -- the cells of a data column
  cells_now : (table : TableNo) (home : TableDef) (column : ColumnNo) (def : ColumnDef) (shape : Shape) → table_at db.schema table ≡ Some home → column_in home column ≡ Some def
      → role_shape db.schema def.role ≡ Some shape → EachCell db.tables table column (IsCellOf shape)
  cells_now table home column def shape there here is id some =
      let found = some_of (record_at db.tables table id) some in
      subst (λ o. MatchOption (option_and_then (λ found. option_flatten (slice_get found.cells column.0)) o) ⊥ (IsCellOf shape)) (sym found.1)
      ((fits.records table home id found.0 there found.1).cells column def shape here is)

  -- the keys of a keyed table
  keys_now : (table : TableNo) (home : TableDef) (type : DataType) → table_at db.schema table ≡ Some home → home.key ≡ Some type → EachKey db.tables table (IsKeyOf type)
  keys_now table home type there keyed id some =
      let found = some_of (record_at db.tables table id) some in
      subst (λ o. MatchOption (option_and_then (λ found. found.key) o) ⊥ (IsKeyOf type)) (sym found.1)
      (key_there home type found.0.key keyed (fits.records table home id found.0 there found.1).keyed)

  -- the type of the keys of a table that can be referred to
  keyed_type : (to : TableNo) → IsKind db.schema (Reference to) → (type : DataType) × (key_type db.schema to ≡ Some type)
  keyed_type to kind =
      let type = some_of kind.0.key (first_true (is_keyed kind.0) _ kind.2) in
      (type.0, ap (option_and_then (λ def. def.key)) kind.1 ∙ type.1)

  -- a column of single references
  hop-fits : (table : TableNo) (home : TableDef) (column : ColumnNo) (def : ColumnDef) (role : Role) (hop : Hop) → table_at db.schema table ≡ Some home
      → column_in home column ≡ Some def → def.role ≡ role → IsRole db.schema table home role → option_map (λ to. record { column = column; to = to }) (referred role) ≡ Some hop
      → EachCell db.tables table hop.column IsRef
  hop-fits table home column def (Scalar (Plain type)) hop there here is sound e = absurd (none-some hop e)
  hop-fits table home column def (Scalar (Reference to)) hop there here is sound e =
      let type = keyed_type to sound.1 in
      let shape : role_shape db.schema def.role ≡ Some (record { list = false; of = type.0; reference = true }) =
      ap (role_shape db.schema) is ∙ ap (option_map (λ key. record { list = false; of = key; reference = true })) type.1 in
      let cells : EachCell db.tables table column (IsCellOf (record { list = false; of = type.0; reference = true })) = cells_now table home column def _ there here shape in
      subst (λ hop. EachCell db.tables table hop.column IsRef) (same_Some _ _ e) (λ id some. IsRef-there _ _ refl refl (cells id some))
  hop-fits table home column def (Vector kind) hop there here is sound e = absurd (none-some hop e)
  hop-fits table home column def (Index target sources position section) hop there here is sound e = absurd (none-some hop e)

  -- a path along a way
  pub path_from-fits : (table : TableNo) (way : Way) → FitsWay db.tables table way → FitsPath db.tables (path_from table way)
  path_from-fits table way way_fits = record { hops = way_fits.hops; field = way_fits.end.field; target = way_fits.end.target }

-- the paths of a schema from which the one of a database has grown
module _ (db : Db) (fits : IsFitting db) (schema : SchemaDef) (grown : Extends db.schema schema) where
  -- the cells of a data column
  pub each_cell : (table : TableNo) (home : TableDef) (column : ColumnNo) (def : ColumnDef) (shape : Shape) → table_at schema table ≡ Some home → column_in home column ≡ Some def
      → role_shape schema def.role ≡ Some shape → EachCell db.tables table column (IsCellOf shape)
  each_cell table home column def shape there here is =
      let stays = table-stays db.schema schema grown table home there in
      cells_now db fits table (longer home stays.0) column def shape stays.1 (slice_get-left home.columns stays.0 column.0 def here) (shape-stays db.schema schema grown def.role shape is)

  -- the keys of a keyed table
  pub each_key : (table : TableNo) (home : TableDef) (type : DataType) → table_at schema table ≡ Some home → home.key ≡ Some type → EachKey db.tables table (IsKeyOf type)
  each_key table home type there keyed =
      let stays = table-stays db.schema schema grown table home there in
      keys_now db fits table (longer home stays.0) type stays.1 keyed

  -- the keys of the table that a column refers to
  each_target : (to : TableNo) (type : DataType) → key_type schema to ≡ Some type → EachKey db.tables to (IsKeyOf type)
  each_target to type e = option_and_then_some (λ def. def.key) (table_at schema to) type e (λ home there keyed. each_key to home type there keyed)

  -- a column of values of a kind
  kind_end-fits : (table : TableNo) (home : TableDef) (column : ColumnNo) (def : ColumnDef) (list : Bool) (kind : Kind) (end : End) → table_at schema table ≡ Some home
      → column_in home column ≡ Some def → role_shape schema def.role ≡ kind_shape schema list kind → kind_end schema (Column column) list kind ≡ Some end
      → FitsEnd db.tables table end
  kind_end-fits table home column def list (Plain type) end there here shape e =
      subst (FitsEnd db.tables table) (same_Some _ _ e) (record { field = each_cell table home column def _ there here shape; target = refl })
  kind_end-fits table home column def list (Reference to) end there here shape e =
      option_map_some (reference_end (Column column) list to) (key_type schema to) end e
      (λ type keyed is. subst (FitsEnd db.tables table) is
      (record {
        field = each_cell table home column def (record { list = list; of = type; reference = true }) there here
            (shape ∙ ap (option_map (λ key. record { list = list; of = key; reference = true })) keyed);
        target = each_target to type keyed;
      }))

  -- a data column
  pub role_end-fits : (table : TableNo) (home : TableDef) (column : ColumnNo) (def : ColumnDef) (role : Role) (end : End) → table_at schema table ≡ Some home
      → column_in home column ≡ Some def → def.role ≡ role → role_end schema (Column column) role ≡ Some end → FitsEnd db.tables table end
  role_end-fits table home column def (Scalar kind) end there here is e = kind_end-fits table home column def false kind end there here (ap (role_shape schema) is) e
  role_end-fits table home column def (Vector kind) end there here is e = kind_end-fits table home column def true kind end there here (ap (role_shape schema) is) e
  role_end-fits table home column def (Index target sources position section) end there here is e = absurd (none-some end e)

  column_end-fits : (table : TableNo) (home : TableDef) (name : List ℕ) (end : End) → table_at schema table ≡ Some home → column_end schema home name ≡ Some end
      → FitsEnd db.tables table end
  column_end-fits table home name end there e =
      option_and_then_some (λ column. option_and_then (λ def. role_end schema (Column column) def.role) (column_in home column)) (column_named home name) end e
      (λ column named e. option_and_then_some (λ def. role_end schema (Column column) def.role) (column_in home column) end e
      (λ def here e. role_end-fits table home column def def.role end there here refl e))

  -- a field by its name
  pub field_end-fits : (table : TableNo) (home : TableDef) (name : List ℕ) (end : End) → table_at schema table ≡ Some home → field_end schema home name ≡ Some end
      → FitsEnd db.tables table end
  field_end-fits table home name end there e = by_name (bytes_eq name id_name) (bytes_eq name key_name) e
    where
      by_name : (is_id is_key : Bool) → cond is_id (Some (plain_end Id false id_type)) (cond is_key (option_map (plain_end Key false) home.key) (column_end schema home name)) ≡ Some end
          → FitsEnd db.tables table end
      by_name true is_key e = subst (FitsEnd db.tables table) (same_Some _ _ e) (record { field = tt; target = refl })
      by_name false true e =
          option_map_some (plain_end Key false) home.key end e
          (λ type keyed is. subst (FitsEnd db.tables table) is (record { field = each_key table home type there keyed; target = refl }))
      by_name false false e = column_end-fits table home name end there e

  hop_named-fits : (table : TableNo) (home : TableDef) (name : List ℕ) (hop : Hop) → table_at schema table ≡ Some home → hop_named home name ≡ Some hop
      → EachCell db.tables table hop.column IsRef
  hop_named-fits table home name hop there e =
      option_and_then_some (λ column. option_and_then (λ def. option_map (λ to. record { column = column; to = to }) (referred def.role)) (column_in home column)) (column_named home name) hop e
      (λ column named e. option_and_then_some (λ def. option_map (λ to. record { column = column; to = to }) (referred def.role)) (column_in home column) hop e
      (λ def here e.
      let stays = table-stays db.schema schema grown table home there in
      let stands : column_in (longer home stays.0) column ≡ Some def = slice_get-left home.columns stays.0 column.0 def here in
      hop-fits db fits table (longer home stays.0) column def def.role hop stays.1 stands refl ((fits.sound.tables table.0 (longer home stays.0) stays.1).columns column.0 def stands).role e))

  -- a way along names
  pub way_along-fits : (table : TableNo) (names : List (List ℕ)) (way : Way) → way_along schema table names ≡ Some way → FitsWay db.tables table way
  way_along-fits table [] way e = absurd (none-some way e)
  way_along-fits table (last ∷ []) way e =
      option_map_some (λ end. record { through = []; end = end }) (option_and_then (λ home. field_end schema home last) (table_at schema table)) way e
      (λ end e is. option_and_then_some (λ home. field_end schema home last) (table_at schema table) end e
      (λ home there e. subst (FitsWay db.tables table) is (record { hops = tt; end = field_end-fits table home last end there e })))
  way_along-fits table (name ∷ next ∷ names) way e =
      option_and_then_some (λ hop. option_map (after_hop hop) (way_along schema hop.to (next ∷ names))) (option_and_then (λ home. hop_named home name) (table_at schema table)) way e
      (λ hop named e. option_map_some (after_hop hop) (way_along schema hop.to (next ∷ names)) way e
      (λ rest along is. option_and_then_some (λ home. hop_named home name) (table_at schema table) hop named
      (λ home there named.
      let more = way_along-fits hop.to (next ∷ names) rest along in
      subst (FitsWay db.tables table) is (record { hops = (hop_named-fits table home name hop there named, more.hops); end = more.end }))))

  -- a path that a text writes
  pub path_of-fits : (table : TableNo) (text : List ℕ) (path : Path) → path_of schema table text ≡ Some path → FitsPath db.tables path
  path_of-fits table text path e =
      option_map_some (path_from table) (way_along schema table (slice_split is_dot text)) path e
      (λ way along is. subst (FitsPath db.tables) is (path_from-fits db fits table way (way_along-fits table _ way along)))
