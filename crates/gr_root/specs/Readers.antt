-- What is read of a state: the records of one of its tables.
use Rattle.std.specs.Prelude.{List}
use Rattle.gr_base.specs.declared.numbers.TableNo.{TableNo}
use Rattle.gr_db.specs.Db.{Db, shapes_at}
use Rattle.gr_expr.specs.Tables.{records_of}
use Rattle.gr_schema.specs.Paths.{key_type}
use Rattle.gr_table.specs.Table.{TableOf}

-- a table of a database, with the type of its keys, the shapes of its columns and its records
abbrev pub table_of_db : Db → TableNo → TableOf
table_of_db db table = record { key = key_type db.schema table; shapes = shapes_at db.schema table; records = records_of db.tables table }
