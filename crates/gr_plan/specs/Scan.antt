-- The records that a condition finds.
use Rattle.std.specs.Prelude.{ℕ, ◌+◌, ◌==◌, if◌then◌else◌, Some, None, List, [], ◌∷◌, ◌++◌}
use Rattle.gr_base.specs.declared.numbers.RecordId.{RecordId}
use Rattle.gr_base.specs.declared.numbers.TableNo.{TableNo}
use Rattle.gr_expr.specs.Score.{score_of}
use Rattle.gr_expr.specs.Tables.{Records, record_id, records_of}
use Rattle.gr_expr.specs.declared.typed.Expr.{Expr}
use Rattle.gr_hits.specs.Hits.{Hit}

-- a record of this score; one of score 0 is no hit
abbrev pub hit_of : RecordId → ℕ → List Hit
hit_of id score = if score == 0 then [] else (id, score) ∷ []

-- the hits among records, whose ids count on from this one
abbrev pub scan_from : List Records → Expr → ℕ → Records → List Hit
scan_from tables condition id [] = []
scan_from tables condition id (None ∷ records) = scan_from tables condition (id + 1) records
scan_from tables condition id (Some found ∷ records) =
    hit_of (record_id id) (score_of tables (record_id id) condition) ++ scan_from tables condition (id + 1) records

-- the records of a table whose score is above 0, by ascending id, with their scores
abbrev pub scan : List Records → TableNo → Expr → List Hit
scan tables table condition = scan_from tables condition 1 (records_of tables table)
