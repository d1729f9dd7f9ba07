use Rattle.std.proofs.Common.{[], refl, subst, sym}
use Rattle.std.proofs.lemmas.Option.{none-some}
use Rattle.gr_db.specs.Db.{empty}
use Rattle.gr_db.specs.Fitting.{IsFitting}
use Rattle.gr_schema.specs.Schema.{no_tables}
use Rattle.gr_schema.specs.Sound.{IsSound}
use Rattle.gr_dump.proofs.tests.a_dump_of_no_tables_is_empty.Goals as goal

no_tables-sound : IsSound no_tables
no_tables-sound = record {
  tables = λ n table there. absurd (none-some table there);
  listed = λ index at. absurd (none-some index at.1);
  complete = λ index at. absurd (none-some at.column at.there);
  once = λ i j index there other. absurd (none-some index there);
}

-- a database without tables fits its schema
empty-fits : IsFitting empty
empty-fits = record { sound = no_tables-sound; tables = refl; records = λ table home id found there at. absurd (none-some home there) }

pub dump-requires : goal.dump-requires
dump-requires g c = subst (λ schema. IsFitting (record { schema = schema; tables = [] })) (sym c.new-schema.ensures) empty-fits
