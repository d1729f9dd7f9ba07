use Rattle.std.proofs.Common.{◌≡◌, ◌≤◌, ◌<◌, ◌+◌, ◌++◌, ◌∷◌, [], true, false, is_some, length, take, arith, ap, sym, ◌∙◌}
use Rattle.std.proofs.lemmas.List.{take_all}
use Rattle.std.proofs.lemmas.Result.{IfOk-weaker}
use Rattle.gr_dump.specs.Inside.Begun.{is_later, led}
use Rattle.gr_dump.specs.Loads.{rows_from}
use Rattle.gr_expr.specs.Tables.{Records, record_id, record_in, records_of}
use Rattle.gr_print.specs.Block.{row_text}
use Rattle.gr_dump.proofs.LoadLemmas.{is_later-more, load-ended, load-more, rows-alive, rows-dead}
use Rattle.gr_dump.proofs.loads.with_load.Goals as goal
use Rattle.gr_dump.proofs.loads.with_load.Goals.{then-is_alive+in_ok-text, else-is_alive}

pub loop-n-preserved : goal.loop-n-preserved
loop-n-preserved g c =
    let tables = g.R.Rows.tables c.args.rows.now in
    let columns = c.args.columns.now in
    let records : Records = records_of tables c.args.table in
    let n = c.loop-n.n in
    let here : n < length records = omega arith in
    elim c.if-is_alive.branch [
      | then-is_alive+in_ok-text w ↦
          let row = row_text tables columns (record_id (n + 1), 0) in
          let alive : is_some (record_in records (n + 1)) ≡ true = sym w.if-is_alive.ensures in
          let more = rows-alive tables columns records n here alive in
          let text : c.if-is_alive.text.items ≡ w.in_ok-text.text.items = cc in
          let later : c.if-is_alive.later ≡ true = cc in
          record {
            later = later ∙ sym (ap (is_later false) more ∙ is_later-more false (rows_from tables columns 1 (take n records)) row);
            text =
                text
                ∙ load-more c.args.home.now columns (rows_from tables columns 1 (take n records)) (rows_from tables columns 1 (take (n + 1) records)) row c.loop-n.later c.args.text.items
                c.loop-n.text.items w.in_ok-text.text.items c.loop-n.invariant.later c.loop-n.invariant.text more w.in_ok-text.ensures;
          }
      | else-is_alive w ↦
          let dead : is_some (record_in records (n + 1)) ≡ false = sym w.if-is_alive.ensures in
          let same = rows-dead tables columns records n here dead in
          let text : c.if-is_alive.text.items ≡ c.loop-n.text.items = cc in
          let later : c.if-is_alive.later ≡ c.loop-n.later = cc in
          record {
            later = later ∙ c.loop-n.invariant.later ∙ ap (is_later false) (sym same);
            text = text ∙ c.loop-n.invariant.text ∙ ap (λ rows. c.args.text.items ++ led c.args.home.now columns false rows) (sym same);
          }
    ]

pub returns-then-later : goal.returns-then-later
returns-then-later g c =
    let tables = g.R.Rows.tables c.args.rows.now in
    let records : Records = records_of tables c.args.table in
    let end : length records ≤ c.loop-n.n = omega arith in
    let all : take c.loop-n.n records ≡ records = take_all c.loop-n.n records end in
    let known : true ≡ is_later false (rows_from tables c.args.columns.now 1 records) =
    sym c.if-later.true ∙ c.loop-n.invariant.later ∙ ap (λ rs. is_later false (rows_from tables c.args.columns.now 1 rs)) all in
    let so_far : c.loop-n.text.items ≡ c.args.text.items ++ led c.args.home.now c.args.columns.now false (rows_from tables c.args.columns.now 1 records) =
    c.loop-n.invariant.text ∙ ap (λ rs. c.args.text.items ++ led c.args.home.now c.args.columns.now false (rows_from tables c.args.columns.now 1 rs)) all in
    IfOk-weaker c.with_bytes.result (λ made. made.items ≡ c.loop-n.text.items ++ 10 ∷ 93 ∷ 10 ∷ []) _
    (λ made same. load-ended c.args.home.now c.args.columns.now (rows_from tables c.args.columns.now 1 records) true c.args.text.items c.loop-n.text.items made.items known so_far same) c.with_bytes.ensures
