use Rattle.std.proofs.Common.{sym, subst}
use Rattle.std.proofs.lemmas.Result.{IfOk-weaker}
use Rattle.std.specs.List.{AllByRecursion}
use Rattle.std.specs.Option.{option_copied}
use Rattle.gr_base.specs.Failure.{Answers}
use Rattle.gr_print.specs.Columns.{columns, default_names, listed}
use Rattle.gr_print.specs.Fits.{IsPrintable}
use Rattle.gr_print.specs.Inside.Named.{ArePrintable}
use Rattle.gr_print.proofs.NamedLemmas.{Adds-all}
use Rattle.gr_print.proofs.out_column.columns.Goals as goal

pub returns-in-Some-clause-exact : goal.returns-in-Some-clause-exact
returns-in-Some-clause-exact c = λ home there.
    subst (λ text. Answers c.listed_columns.result (columns c.args.schema.now c.args.table home (option_copied text))) (sym c.in-Some.is)
    (Adds-all c.args.schema.now c.args.table (listed c.in-Some.text.now) c.listed_columns.result c.listed_columns.ensures.exact)

pub returns-in-Some-clause-fit : goal.returns-in-Some-clause-fit
returns-in-Some-clause-fit c = λ db same fits.
    IfOk-weaker c.listed_columns.result (ArePrintable c.args.schema.now) (AllByRecursion (IsPrintable db.tables)) (λ columns printable. printable db same fits) c.listed_columns.ensures.fit

pub returns-in-None-clause-exact : goal.returns-in-None-clause-exact
returns-in-None-clause-exact c = λ home there.
    subst (λ text. Answers c.default_columns.result (columns c.args.schema.now c.args.table home (option_copied text))) (sym c.in-None.is)
    (Adds-all c.args.schema.now c.args.table (default_names home) c.default_columns.result (c.default_columns.ensures.exact home there))

pub returns-in-None-clause-fit : goal.returns-in-None-clause-fit
returns-in-None-clause-fit c = λ db same fits.
    IfOk-weaker c.default_columns.result (ArePrintable c.args.schema.now) (AllByRecursion (IsPrintable db.tables)) (λ columns printable. printable db same fits) c.default_columns.ensures.fit
