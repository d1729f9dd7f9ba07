-- The condition of a select, by its texts.
use Rattle.std.specs.Prelude.{◌∷◌, [], if◌then◌else◌, is_some, Option, Some, None, Result, Ok, Err, List}
use Rattle.gr_ast.specs.declared.ast.Ast.{Ast}
use Rattle.gr_ast.specs.declared.columns.MatchColumn.{MatchColumn}
use Rattle.gr_ast.specs.declared.operators.Join.TheVariants.{And}
use Rattle.gr_base.specs.Failure.{result_map, result_then}
use Rattle.gr_base.specs.declared.fault.Fault.{Fault}
use Rattle.gr_base.specs.declared.numbers.TableNo.{TableNo}
use Rattle.gr_bind.specs.Columns.{columns_checked, fault_at}
use Rattle.gr_bind.specs.Typing.{typed}
use Rattle.gr_cmdline.specs.Names.{param_name}
use Rattle.gr_cmdline.specs.declared.param.Param.{Param}
use Rattle.gr_cmdline.specs.declared.param.Param.TheVariants.{Filter, MatchColumns, Query}
use Rattle.gr_expr.specs.declared.typed.Expr.{Expr}
use Rattle.gr_expr.specs.declared.typed.Expr.TheVariants.{All, Chain}
use Rattle.gr_expr.specs.declared.typed.JoinedExpr.{JoinedExpr, roll-JoinedExpr}
use Rattle.gr_schema.specs.Schema.{SchemaDef}
use Rattle.gr_select.specs.declared.texts.Texts.{Texts}
use Rattle.gr_text.specs.declared.fault.TextRefusal.{TextRefusal}

-- a fault in a parameter's text: one that has a place is told by the parameter's name
abbrev pub in_text : Param → Fault → Fault
in_text param fault = if is_some fault.at then record { kind = fault.kind; row = fault.row; at = fault.at; name = param_name param } else fault

-- what was found in a parameter's text, or its fault
abbrev pub told_in : {T : Type 0} → Param → Result T Fault → Result T Fault
told_in param (Ok found) = Ok found
told_in param (Err fault) = Err (in_text param fault)

-- that match columns, where they are given, can be searched; or the fault of their text, then of their types
abbrev pub columns_told : SchemaDef → TableNo → Option (Result (List MatchColumn) TextRefusal) → Result (Unit {0}) Fault
columns_told schema table None = Ok tt
columns_told schema table (Some (Ok columns)) = columns_checked schema table columns
columns_told schema table (Some (Err refusal)) = Err (fault_at refusal.kind refusal.at)

-- the match columns, where they are given
abbrev pub columns_in : Option (Result (List MatchColumn) TextRefusal) → Option (List MatchColumn)
columns_in None = None
columns_in (Some (Ok columns)) = Some columns
columns_in (Some (Err refusal)) = None

-- a query or a filter, where it is given; or the fault of its text, then of its types
abbrev pub condition_told : SchemaDef → TableNo → Option (List MatchColumn) → Option (Result Ast TextRefusal) → Result (Option Expr) Fault
condition_told schema table columns None = Ok None
condition_told schema table columns (Some (Ok tree)) = result_map (λ condition. Some condition) (typed schema table columns tree)
condition_told schema table columns (Some (Err refusal)) = Err (fault_at refusal.kind refusal.at)

-- what a filter adds to a query
abbrev pub and : Expr → JoinedExpr
and filter = roll-JoinedExpr (record { join = And; of = filter })

-- a query and a filter, joined by And, the query first; with neither, all records
abbrev pub both : Option Expr → Option Expr → Expr
both None None = All
both (Some query) None = query
both None (Some filter) = filter
both (Some query) (Some filter) = Chain query (and filter ∷ [])

-- the condition, or the first fault: of the match columns, then of the query, then of the filter
abbrev pub condition : SchemaDef → TableNo → Texts → Result Expr Fault
condition schema table texts =
    result_then
    (λ searched. result_then
    (λ query. result_map (both query) (told_in Filter (condition_told schema table None texts.filter)))
    (told_in Query (condition_told schema table (columns_in texts.columns) texts.query)))
    (told_in MatchColumns (columns_told schema table texts.columns))
