-- Tables that are loaded.
use Rattle.gr_base.specs.declared.numbers.TableNo.{TableNo}
use Rattle.gr_db.specs.Entry.{IsHome}
use Rattle.gr_schema.specs.Schema.{SchemaDef}
use Rattle.gr_schema.specs.Sound.{IsSound}
use Rattle.gr_schema.specs.declared.definition.TableDef.{TableDef}

-- a table of a sound schema that is no lexicon
pub record IsTarget (schema : SchemaDef) (table : TableNo) (home : TableDef) : Type 0 where
  pub home_there : IsHome schema table home
  pub sound : IsSound schema
