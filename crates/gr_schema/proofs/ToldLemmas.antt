-- The texts that faults tell are UTF-8 where those of the wish are.
use Rattle.std.proofs.Common.{ℕ, ◌≡◌, Bool, true, false, cond, List, [], ◌∷◌, refl, sym, ap, subst, ◌∙◌}
use Rattle.std.specs.Prelude.{None, Some, Option, IsUtf8, codes}
use Rattle.std.specs.Option.{option_map_or}
use Rattle.std.specs.List.{AllByRecursion}
use Rattle.std.proofs.lemmas.Option.{none-some, same_Some}
use Rattle.gr_base.specs.Fault.{fault_named}
use Rattle.gr_base.specs.declared.fault.Fault.{Fault}
use Rattle.gr_base.specs.declared.fault.FaultKind.TheVariants.{NoSuchTable}
use Rattle.gr_schema.specs.Schema.{SchemaDef}
use Rattle.gr_schema.specs.Wishes.{Home, IsTextColumn, IsTextTable, column_fault, column_rules, first_fault, home_named, table_fault, table_rules}
use Rattle.gr_schema.specs.declared.wish.ColumnWish.{ColumnWish}
use Rattle.gr_schema.specs.declared.wish.TableWish.{TableWish}

-- the first fault of some tells what they tell
first_told : (rules : List (Bool × Fault)) (fault : Fault) → AllByRecursion (λ rule. IsUtf8 rule.1.name) rules → first_fault rules ≡ Some fault → IsUtf8 fault.name
first_told [] fault all e = absurd (none-some fault e)
first_told (rule ∷ rules) fault all e = go rule.0 (first_told rules fault all.1) e
  where
    go : (b : Bool) → (first_fault rules ≡ Some fault → IsUtf8 fault.name) → cond b (Some rule.1) (first_fault rules) ≡ Some fault → IsUtf8 fault.name
    go true further e = subst (λ (f : Fault). IsUtf8 f.name) (same_Some rule.1 fault e) all.0
    go false further e = further e

parameter_told : IsUtf8 (codes "default_tokenizer")
unfolding lib.Utf8.encode
parameter_told = (codes "default_tokenizer", (refl, refl))

pub table_told : (schema : SchemaDef) (wish : TableWish) (fault : Fault) → IsTextTable wish → table_fault schema wish ≡ Some fault → IsUtf8 fault.name
table_told schema wish fault text e = first_told (table_rules schema wish) fault (text.name, (text.name, (text.flags, (text.key_type, (parameter_told, (text.key_type, tt)))))) e

pub column_told : (schema : SchemaDef) (wish : ColumnWish) (fault : Fault) → IsTextColumn wish → column_fault schema wish ≡ Some fault → IsUtf8 fault.name
column_told schema wish fault text e = go (home_named schema wish.table) e
  where
    go : (o : Option Home) → option_map_or (λ home. first_fault (column_rules schema home wish)) o (Some (fault_named NoSuchTable wish.table)) ≡ Some fault → IsUtf8 fault.name
    go None e = subst (λ (f : Fault). IsUtf8 f.name) (same_Some (fault_named NoSuchTable wish.table) fault e) text.table
    go (Some home) e = first_told (column_rules schema home wish) fault (text.name, (text.name, (text.flags, (text.kind, (text.source, tt))))) e
