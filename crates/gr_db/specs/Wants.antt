-- Which records an entry wants to be there, in order: it finds each by its key, or adds it.
use Rattle.std.specs.Prelude.{ℕ, ◌+◌, ◌==◌, Bool, false, if◌then◌else◌, Option, Some, None, is_some, List, [], ◌∷◌, ◌++◌, length, map, filter, fold, nat_lt, slice_get}
use Rattle.std.specs.List.{filter_map, flat_map}
use Rattle.std.specs.Option.{option_and_then, option_flatten, option_map_or}
use Rattle.gr_base.specs.declared.numbers.ColumnNo.{ColumnNo}
use Rattle.gr_base.specs.declared.numbers.RecordId.{RecordId}
use Rattle.gr_base.specs.declared.numbers.TableNo.{TableNo}
use Rattle.gr_db.specs.Db.{Db, changed_table, shapes_at, with_record}
use Rattle.gr_db.specs.declared.want.Added.{Added}
use Rattle.gr_db.specs.declared.want.Want.{Want}
use Rattle.gr_expr.specs.Tables.{Record, id_in, record_id, records_of}
use Rattle.gr_schema.specs.Index.{is_on}
use Rattle.gr_schema.specs.Schema.{SchemaDef, column_at, table_at}
use Rattle.gr_schema.specs.declared.definition.Role.{Role}
use Rattle.gr_schema.specs.declared.definition.Role.TheVariants.{Scalar, Vector, Index}
use Rattle.gr_tokens.specs.Tokens.{tokens}
use Rattle.gr_values.specs.declared.data_type.Kind.{Kind}
use Rattle.gr_values.specs.declared.data_type.Kind.TheVariants.{Plain, Reference}
use Rattle.gr_values.specs.declared.path.Field.{Field}
use Rattle.gr_values.specs.declared.value.Cell.{Cell}
use Rattle.gr_values.specs.declared.value.Given.{Given}
use Rattle.gr_values.specs.declared.value.Key.{Key}

-- Finding and adding

-- whether a wanted record is there already
abbrev pub is_there : Db → Want → Bool
is_there db want = option_map_or (λ key. is_some (id_in (records_of db.tables want.table) key)) want.key false

-- the database with a record added for a want
abbrev pub added : Db → Want → Db
added db want = changed_table want.table (with_record (shapes_at db.schema want.table) want.key) db

-- the database after a want: the record is found, or it is added
abbrev pub wanted : Db → Want → Db
wanted db want = if is_there db want then db else added db want

-- the database after wants, one after the other
abbrev pub all_wanted : Db → List Want → Db
all_wanted db wants = fold wanted db wants

-- how many ids were given in a table
abbrev pub given_in : Db → TableNo → ℕ
given_in db table = length (records_of db.tables table)

-- the table in which the first id would be needed that the limit does not give, or none
abbrev pub first_full : ℕ → Db → List Want → Option TableNo
first_full limit db [] = None
first_full limit db (want ∷ wants) =
    if is_there db want then first_full limit db wants
    else if given_in db want.table == limit then Some want.table
    else first_full limit (added db want) wants

-- the records that wants add, in order
abbrev pub all_added : Db → List Want → List Added
all_added db [] = []
all_added db (want ∷ wants) =
    if is_there db want then all_added db wants
    else record { want = want; id = record_id (given_in db want.table + 1) } ∷ all_added (added db want) wants

-- Tokens

-- the index columns on a field, in order of making
abbrev pub indexes_on : SchemaDef → TableNo → Field → List (TableNo × ColumnNo)
indexes_on schema table field = filter (is_on schema table field) schema.indexes

-- the tokens of a text that an index wants in its lexicon, in the text's order; on a table that is no lexicon it wants none
abbrev pub index_wants : SchemaDef → List ℕ → TableNo × ColumnNo → List Want
index_wants schema text index =
    option_map_or
    (λ home. option_map_or (λ tokenizer. map (λ token. record { table = index.0; key = Some (Key.Text token) }) (tokens tokenizer text)) home.tokenizer [])
    (table_at schema index.0)
    []

-- the tokens that a field's text wants, for each index on the field in order of making
abbrev pub text_wants : SchemaDef → TableNo → Field → List ℕ → List Want
text_wants schema table field text = flat_map (index_wants schema text) (indexes_on schema table field)

-- the text that a key is
abbrev pub text_of_key : Key → Option (List ℕ)
text_of_key (Key.Number number) = None
text_of_key (Key.Text text) = Some text

-- the tokens that the key of an added record wants
abbrev pub key_wants : SchemaDef → Want → List Want
key_wants schema want = option_map_or (text_wants schema want.table Field.Key) (option_and_then text_of_key want.key) []

-- What a put wants

-- a value that is given to a column
abbrev pub Setting : Type 0
Setting = ColumnNo × Given

-- a setting put before the first one of a higher column
abbrev pub placed : Setting → List Setting → List Setting
placed setting [] = setting ∷ []
placed setting (other ∷ others) = if nat_lt setting.0.0 other.0.0 then setting ∷ other ∷ others else other ∷ placed setting others

-- settings by ascending column number
abbrev pub by_column : List Setting → List Setting
by_column [] = []
by_column (setting ∷ settings) = placed setting (by_column settings)

-- the keys that a value refers to, in order
abbrev pub keys_in : Given → List Key
keys_in (Given.Bool truth) = []
keys_in (Given.Int number) = []
keys_in (Given.Text text) = []
keys_in (Given.Ref None) = []
keys_in (Given.Ref (Some key)) = key ∷ []
keys_in (Given.RefList keys) = keys
keys_in (Given.IntList numbers) = []
keys_in (Given.TextList texts) = []

-- the table that values of a kind refer to
abbrev pub target_of : Kind → Option TableNo
target_of (Plain type) = None
target_of (Reference to) = Some to

-- the table that a column refers to
abbrev pub role_target : Role → Option TableNo
role_target (Scalar kind) = target_of kind
role_target (Vector kind) = target_of kind
role_target (Index target sources position section) = None

-- the table that a column refers to, by its number
abbrev pub column_target : SchemaDef → TableNo → ColumnNo → Option TableNo
column_target schema table column = option_and_then (λ def. role_target def.role) (column_at schema table column)

-- the records that a setting refers to
abbrev pub reference_wants : SchemaDef → TableNo → Setting → List Want
reference_wants schema table setting =
    option_map_or
    (λ to. map (λ key. record { table = to; key = Some key }) (keys_in setting.1))
    (column_target schema table setting.0)
    []

-- the tokens that a setting wants: those of one text
abbrev pub setting_wants : SchemaDef → TableNo → Setting → List Want
setting_wants schema table (column, Given.Bool truth) = []
setting_wants schema table (column, Given.Int number) = []
setting_wants schema table (column, Given.Text text) = text_wants schema table (Field.Column column) text
setting_wants schema table (column, Given.Ref key) = []
setting_wants schema table (column, Given.RefList keys) = []
setting_wants schema table (column, Given.IntList numbers) = []
setting_wants schema table (column, Given.TextList texts) = []

-- the records that a put wants: its own, and those that its settings refer to, column by column
abbrev pub record_wants : SchemaDef → TableNo → Option Key → List Setting → List Want
record_wants schema table key settings = record { table = table; key = key } ∷ flat_map (reference_wants schema table) (by_column settings)

-- the tokens that a put wants: those of the keys of records that it adds, in order of adding, and then those of its settings, column by column
abbrev pub token_wants : SchemaDef → TableNo → List Setting → List Added → List Want
token_wants schema table settings news =
    flat_map (λ new. key_wants schema new.want) news ++ flat_map (setting_wants schema table) (by_column settings)

-- all that a put wants
abbrev pub put_wants : Db → TableNo → Option Key → List Setting → List Want
put_wants db table key settings =
    let records = record_wants db.schema table key settings in
    records ++ token_wants db.schema table settings (all_added db records)

-- What a new index wants

-- the text that a cell holds
abbrev pub text_of_cell : Cell → Option (List ℕ)
text_of_cell (Cell.Bool truth) = None
text_of_cell (Cell.Int number) = None
text_of_cell (Cell.Text text) = Some text
text_of_cell (Cell.Ref id) = None
text_of_cell (Cell.RefList ids) = None
text_of_cell (Cell.IntList numbers) = None
text_of_cell (Cell.TextList texts) = None

-- the text of a record's field: of its key, or of its cell in a column
abbrev pub text_in : Record → Field → Option (List ℕ)
text_in found Field.Id = None
text_in found Field.Key = option_and_then text_of_key found.key
text_in found (Field.Column column) = option_and_then text_of_cell (option_flatten (slice_get found.cells column.0))

-- the tokens of a record's source that an index wants
abbrev pub source_wants : SchemaDef → TableNo × ColumnNo → Record → Field → List Want
source_wants schema index found source = option_map_or (λ text. index_wants schema text index) (text_in found source) []

-- the tokens that a new index wants: for each record of its target by rising id, those of its sources in their order
abbrev pub new_index_wants : Db → TableNo × ColumnNo → Role → List Want
new_index_wants db index (Scalar kind) = []
new_index_wants db index (Vector kind) = []
new_index_wants db index (Index target sources position section) =
    flat_map
    (λ found. flat_map (source_wants db.schema index found) sources)
    (filter_map (λ found. found) (records_of db.tables target))
