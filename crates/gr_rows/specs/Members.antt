-- What the members of a row put into a table.
use Rattle.std.specs.Prelude.{ℕ, if◌then◌else◌, Option, Some, None, Result, Ok, Err, List, [], ◌∷◌}
use Rattle.std.specs.Option.{ok_or, option_and_then, option_map}
use Rattle.serde_json.specs.Data.{Data, null, boolean, number, string, array, object, Items, no_items, item, Members, no_members, member}
use Rattle.gr_base.specs.Failure.{result_map, result_then}
use Rattle.gr_base.specs.declared.fault.Fault.{Fault}
use Rattle.gr_base.specs.declared.fault.FaultKind.{FaultKind}
use Rattle.gr_base.specs.declared.fault.FaultKind.TheVariants.{BadRow, EmptyKey, KeyGiven, MissingKey, NoSuchColumn}
use Rattle.gr_db.specs.Wants.{Setting}
use Rattle.gr_schema.specs.Schema.{SchemaDef}
use Rattle.gr_schema.specs.declared.definition.TableDef.{TableDef}
use Rattle.gr_values.specs.Values.{cell_of, is_empty_text, item_of}
use Rattle.gr_values.specs.declared.data_type.DataType.{DataType}
use Rattle.gr_values.specs.declared.value.Key.{Key}
use Rattle.gr_rows.specs.Names.{is_key_name, key_name, slot_named}
use Rattle.gr_rows.specs.declared.put.Put.{Put}
use Rattle.gr_rows.specs.declared.slot.Slot.{Slot}

-- a member of a row: its name and its value
abbrev pub Member : Type 0
Member = List ℕ × Data

-- the members of an object; they stand by ascending bytes of their names
abbrev pub members_in : Members → List Member
members_in no_members = []
members_in (member name value others) = (name, value) ∷ members_in others

-- the elements of an array under the names of their places; there must be as many
abbrev pub members_by : List (List ℕ) → Items → Option (List Member)
members_by [] no_items = Some []
members_by [] (item value values) = None
members_by (name ∷ names) no_items = None
members_by (name ∷ names) (item value values) = option_map (λ others. (name, value) ∷ others) (members_by names values)

-- the members of a row: those of an object, or of an array where the names of its places are known
abbrev pub members_of : Option (List (List ℕ)) → Data → Option (List Member)
members_of names null = None
members_of names (boolean b) = None
members_of names (number n) = None
members_of names (string s) = None
members_of names (array values) = option_and_then (λ known. members_by known values) names
members_of names (object members) = Some (members_in members)

-- a fault in a row, counted from 1
abbrev pub row_fault : FaultKind → ℕ → List ℕ → Fault
row_fault kind row name = record { kind = kind; row = Some row; at = None; name = name }

-- what was read of a member, or its fault with the row and the member's name
abbrev pub in_member : {T : Type 0} → ℕ → List ℕ → Result T FaultKind → Result T Fault
in_member row name (Ok read) = Ok read
in_member row name (Err kind) = Err (row_fault kind row name)

-- a value that is given; null is none
abbrev pub value_given : Data → Option Data
value_given null = None
value_given (boolean b) = Some (boolean b)
value_given (number n) = Some (number n)
value_given (string s) = Some (string s)
value_given (array values) = Some (array values)
value_given (object members) = Some (object members)

-- the value at `_key`, where one is given
abbrev pub key_value : List Member → Option Data
key_value [] = None
key_value (first ∷ others) = if is_key_name first.0 then value_given first.1 else key_value others

-- a key, which is no empty text
abbrev pub filled_key : ℕ → Key → Result Key Fault
filled_key row key = if is_empty_text key then Err (row_fault EmptyKey row []) else Ok key

-- the key of a row, given the type of the table's keys and the value at `_key`
abbrev pub row_key : ℕ → Option DataType → Option Data → Result (Option Key) Fault
row_key row None None = Ok None
row_key row None (Some value) = Err (row_fault KeyGiven row [])
row_key row (Some type) None = Err (row_fault MissingKey row [])
row_key row (Some type) (Some value) = result_map Some (result_then (filled_key row) (in_member row key_name (item_of type value)))

-- what a member sets in what its name stands for; the key is no setting, and null sets nothing
abbrev pub slot_setting : ℕ → List ℕ → Data → Slot → Result (Option Setting) Fault
slot_setting row name value Slot.Key = Ok None
slot_setting row name value (Slot.Column column shape) =
    in_member row name (result_map (option_map (λ given. (column, given))) (cell_of shape value))

-- what a member sets
abbrev pub member_setting : SchemaDef → TableDef → ℕ → Member → Result (Option Setting) Fault
member_setting schema home row one =
    result_then (slot_setting row one.0 one.1) (ok_or (slot_named schema home one.0) (row_fault NoSuchColumn row one.0))

-- a setting, where there is one, before others
abbrev pub before : Option Setting → List Setting → List Setting
before None settings = settings
before (Some setting) settings = setting ∷ settings

-- what members set, in their order, or the first fault among them
abbrev pub settings_of : SchemaDef → TableDef → ℕ → List Member → Result (List Setting) Fault
settings_of schema home row [] = Ok []
settings_of schema home row (first ∷ others) =
    result_then (λ setting. result_map (before setting) (settings_of schema home row others)) (member_setting schema home row first)

-- the put that members ask for; the key comes before the other members
abbrev pub put_of : SchemaDef → TableDef → ℕ → List Member → Result Put Fault
put_of schema home row members =
    result_then
    (λ key. result_map (λ settings. record { key = key; settings = settings }) (settings_of schema home row members))
    (row_key row home.key (key_value members))

-- the put that a row asks for
abbrev pub row_put : SchemaDef → TableDef → Option (List (List ℕ)) → ℕ → Data → Result Put Fault
row_put schema home names row value =
    result_then (put_of schema home row) (ok_or (members_of names value) (row_fault BadRow row []))
