-- What of columns can be printed.
use Rattle.std.proofs.Common.{Bool, true, false, cond, List, [], ◌∷◌, ◌++◌, filter}
use Rattle.std.specs.List.{AllByRecursion}
use Rattle.std.specs.Prelude.{IsUtf8}
use Rattle.gr_expr.specs.Tables.{Records}
use Rattle.gr_print.specs.Fits.{IsPrintable}
use Rattle.gr_print.specs.declared.out_column.OutColumn.{OutColumn}

-- columns that can be printed
pub printable-append : (tables : List Records) (xs ys : List OutColumn) → AllByRecursion (IsPrintable tables) xs → AllByRecursion (IsPrintable tables) ys → AllByRecursion (IsPrintable tables) (xs ++ ys)
printable-append tables [] ys all more = more
printable-append tables (x ∷ xs) ys all more = (all.0, printable-append tables xs ys all.1 more)

-- those that are kept of them
one-kept : (tables : List Records) (kept : Bool) (x : OutColumn) (xs : List OutColumn) → IsPrintable tables x → AllByRecursion (IsPrintable tables) xs → AllByRecursion (IsPrintable tables) (cond kept (x ∷ xs) xs)
one-kept tables true x xs one all = (one, all)
one-kept tables false x xs one all = all

pub printable-kept : (tables : List Records) (keep : OutColumn → Bool) (xs : List OutColumn) → AllByRecursion (IsPrintable tables) xs → AllByRecursion (IsPrintable tables) (filter keep xs)
printable-kept tables keep [] all = tt
printable-kept tables keep (x ∷ xs) all = one-kept tables (keep x) x (filter keep xs) all.0 (printable-kept tables keep xs all.1)

-- their names are texts
pub printable-names : (tables : List Records) (xs : List OutColumn) → AllByRecursion (IsPrintable tables) xs → AllByRecursion (λ column. IsUtf8 column.name) xs
printable-names tables [] all = tt
printable-names tables (x ∷ xs) all = (all.0.name, printable-names tables xs all.1)
