use Rattle.std.proofs.Common.{◌∙◌, ap}
use Rattle.gr_db.proofs.Fitting.{path_of-fits}
use Rattle.gr_db.proofs.Grows.{extends-itself}
use Rattle.gr_schema.specs.Paths.{path_of}
use Rattle.gr_sort.proofs.KeyLemmas.{path_found}
use Rattle.gr_sort.proofs.keys.path_named.Goals as goal

pub returns-else-path-clause-fit : goal.returns-else-path-clause-fit
returns-else-path-clause-fit c =
    let table = c.args.table in
    let text = c.as_bytes.result.now in
    let path = c.in_ok-path.path in
    let there = path_found c.args.schema.now table text path c.in_ok-path.ensures in
    record {
      fits = λ db same fits. path_of-fits db fits db.schema (extends-itself db.schema) table text path (ap (λ schema. path_of schema table text) same ∙ there);
      single = c.if-path.false;
    }
