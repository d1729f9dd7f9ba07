-- The put that members ask for, from their key and what they set.
use Rattle.std.proofs.Common.{◌≡◌, ℕ, List, Option, Some, Result, Ok, Err, MatchOption, refl, sym, subst}
use Rattle.serde_json.specs.Data.{Data}
use Rattle.gr_base.specs.Failure.{result_map}
use Rattle.gr_base.specs.declared.failure.Failure.{Failure}
use Rattle.gr_base.specs.declared.fault.Fault.{Fault}
use Rattle.gr_base.specs.declared.fault.FaultKind.{FaultKind}
use Rattle.gr_base.specs.declared.numbers.ColumnNo.{ColumnNo}
use Rattle.gr_base.specs.declared.numbers.TableNo.{TableNo}
use Rattle.gr_db.specs.Entry.{IsSetting}
use Rattle.gr_db.specs.Wants.{Setting}
use Rattle.gr_schema.specs.Schema.{SchemaDef, table_at}
use Rattle.gr_schema.specs.declared.definition.TableDef.{TableDef}
use Rattle.gr_values.specs.Fits.{Fits}
use Rattle.gr_values.specs.declared.data_type.Shape.{Shape}
use Rattle.gr_values.specs.declared.value.Given.{Given}
use Rattle.gr_values.specs.declared.value.Key.{Key}
use Rattle.gr_rows.specs.Inside.Told.{Tells}
use Rattle.gr_rows.specs.Members.{Member, in_member, key_value, put_of, row_key, settings_of}
use Rattle.gr_rows.specs.Names.{slot_named}
use Rattle.gr_rows.specs.declared.put.Put.{Put}
use Rattle.gr_rows.specs.declared.slot.Slot.{Slot}
use Rattle.gr_rows.proofs.SlotLemmas.{column_slot_named, shaped_at}
use Rattle.gr_rows.proofs.Telling.{err_map, err_then, map_told, then_told}

module _ (schema : SchemaDef) (home : TableDef) (row : ℕ) (members : List Member) where
  abbrev with_settings : Option Key → Result Put Fault
  with_settings key = result_map (λ settings. record { key = key; settings = settings }) (settings_of schema home row members)

  -- the key is refused
  pub key_fails : (given : Option Data) (r : Result (Option Key) (Failure Fault)) (why : Failure Fault) → given ≡ key_value members → Tells r (row_key row home.key given)
      → r ≡ Err why → Tells {T = Put} (Err why) (put_of schema home row members)
  key_fails given r why same told is =
      err_then r (row_key row home.key (key_value members)) (subst (λ g. Tells r (row_key row home.key g)) same told) with_settings why is

  -- what is set is refused
  pub settings_fail : (given : Option Data) (r : Result (Option Key) (Failure Fault)) (key : Option Key) (meant : Result (List Setting) Fault) (s : Result (List Setting) (Failure Fault)) (why : Failure Fault)
      → given ≡ key_value members → Tells r (row_key row home.key given) → r ≡ Ok key → meant ≡ settings_of schema home row members → Tells s meant → s ≡ Err why
      → Tells {T = Put} (Err why) (put_of schema home row members)
  settings_fail given r key meant s why same told is sets settings fails =
      then_told r (row_key row home.key (key_value members)) (subst (λ g. Tells r (row_key row home.key g)) same told) with_settings key (Err why) is
      (err_map s (settings_of schema home row members) (subst (λ m. Tells s m) sets settings) (λ settings. record { key = key; settings = settings }) why fails)

  -- the put is made
  pub put_made : (given : Option Data) (r : Result (Option Key) (Failure Fault)) (key : Option Key) (meant : Result (List Setting) Fault) (s : Result (List Setting) (Failure Fault)) (settings : List Setting)
      → given ≡ key_value members → Tells r (row_key row home.key given) → r ≡ Ok key → meant ≡ settings_of schema home row members → Tells s meant → s ≡ Ok settings
      → Tells {T = Put} (Ok (record { key = key; settings = settings })) (put_of schema home row members)
  put_made given r key meant s settings same told is sets read found =
      then_told r (row_key row home.key (key_value members)) (subst (λ g. Tells r (row_key row home.key g)) same told) with_settings key (Ok (record { key = key; settings = settings })) is
      (map_told s (settings_of schema home row members) (subst (λ m. Tells s m) sets read) (λ settings. record { key = key; settings = settings }) settings found)

-- what is made of what is read of a member
pub in_member-map : {T U : Type 0} (f : T → U) (row : ℕ) (name : List ℕ) (r : Result T FaultKind) → result_map f (in_member row name r) ≡ in_member row name (result_map f r)
in_member-map f row name (Ok read) = refl
in_member-map f row name (Err kind) = refl

-- a value of a column's shape
pub setting_fits : (schema : SchemaDef) (table : TableNo) (home : TableDef) (name : List ℕ) (column : ColumnNo) (shape : Shape) (given : Given) → table_at schema table ≡ Some home
    → slot_named schema home name ≡ Some (Slot.Column column shape) → Fits shape given → IsSetting schema table (column, given)
setting_fits schema table home name column shape given there slot fits =
    subst (λ o. MatchOption o ⊥ (λ shape. Fits shape given)) (sym (shaped_at schema table home column shape there (column_slot_named schema home name column shape slot).shaped)) fits
