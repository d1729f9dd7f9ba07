-- The condition that a tree means fits each database that fits the schema.
use Rattle.std.proofs.Common.{◌≡◌, ℕ, Bool, true, false, cond, List, [], ◌∷◌, ◌++◌, map, pos, neg_ℤ, IsUtf8, refl, sym, ap, subst, ◌∙◌}
use Rattle.std.proofs.lemmas.Option.{none-some, option_and_then_some, same_Some}
use Rattle.std.specs.Prelude.{IfOk, Option, Some, None, Result, Ok, Err, not}
use Rattle.std.specs.List.{AllByRecursion, cons_option, filter_map, list_any, slice_split}
use Rattle.std.specs.Option.{ok_or, option_and_then, option_map}
use Rattle.gr_ast.specs.Made.{IsMade, IsMadeLayer}
use Rattle.gr_ast.specs.Trees.{Layer, LinkLayer, TermLayer}
use Rattle.gr_ast.specs.declared.ast.Ast.{Ast, out-roll-Ast, roll-Ast}
use Rattle.gr_ast.specs.declared.ast.Ast.TheFolds.{ind-Ast, map-Ast}
use Rattle.gr_ast.specs.declared.ast.Ast.TheOpen.{Ast-F}
use Rattle.gr_ast.specs.declared.ast.Combined.{Combined, out-roll-Combined, roll-Combined}
use Rattle.gr_ast.specs.declared.ast.Joined.{Joined, out-roll-Joined, roll-Joined}
use Rattle.gr_ast.specs.declared.columns.MatchColumn.{MatchColumn}
use Rattle.gr_ast.specs.declared.operators.Arith.{Arith}
use Rattle.gr_ast.specs.declared.operators.FieldOp.{FieldOp}
use Rattle.gr_ast.specs.declared.operators.Join.{Join}
use Rattle.gr_ast.specs.declared.operators.Seek.{Seek}
use Rattle.gr_base.specs.Failure.{Answers, result_map, result_then}
use Rattle.gr_base.specs.Fault.{fault_named}
use Rattle.gr_base.specs.declared.compare.Cmp.{Cmp}
use Rattle.gr_base.specs.declared.failure.Failure.{Failure}
use Rattle.gr_base.specs.declared.fault.Fault.{Fault}
use Rattle.gr_base.specs.declared.fault.FaultKind.TheVariants.{BadNumber, NoSuchColumn, TypeMismatch}
use Rattle.gr_base.specs.declared.numbers.TableNo.{TableNo}
use Rattle.gr_bind.proofs.Levels.{combined_of_is, joined_of_is, level, part_is}
use Rattle.gr_bind.proofs.Opening.{Parts, link_part, term_part, tree_layer, tree_parts}
use Rattle.gr_bind.proofs.Rows.{same_ok}
use Rattle.gr_bind.proofs.Telling.{there}
use Rattle.gr_bind.specs.Columns.{by_path, by_tokenizer, column_by, column_typed, columns_typed, end_at, fault_at, field_path, index_columns, index_named, path_columns, source_column, takes_text}
use Rattle.gr_bind.specs.Inside.Parts.{IsMadeLink, IsMadeTerm, combined_of, joined_of}
use Rattle.gr_bind.specs.Kinds.{condition_of, is_compared, is_ordered, is_plain, is_same_kind, is_sought, is_sought_in, kind_of, path_in, path_kind, term_of}
use Rattle.gr_bind.specs.Typing.{Part, between, calculation, chain, columns_given, combined, comparison, condition, each, end_part, field, in_values, is_tested, is_value, joined, leaf, literal_for, named, part, part_of, search, sought_path, sought_value, taken, takes_word, term_where, tested, truth_named, typed, value_where, whole, word, word_leaf}
use Rattle.gr_bind.specs.declared.column.Column.{Column}
use Rattle.gr_bind.specs.declared.operand.Operand.{Operand}
use Rattle.gr_bind.specs.declared.operand.ValueKind.{ValueKind}
use Rattle.gr_bind.specs.declared.operand.ValueKind.TheVariants.{Whole, Text, Truth, WholeVec, TextVec}
use Rattle.gr_db.proofs.Fitting.{FitsEnd, each_key, path_from-fits, path_of-fits, role_end-fits}
use Rattle.gr_db.specs.Db.{Db}
use Rattle.gr_db.specs.Fitting.{IsFitting}
use Rattle.gr_expr.specs.Fits.{AnyCombined, AnyJoined, Fits, FitsExprLayer, FitsPath, FitsSeek, FitsTermLayer, FitsWeighted, IsWritten}
use Rattle.gr_expr.specs.Inside.Parts.{FitsCombined, FitsJoined, FitsTerm}
use Rattle.gr_expr.specs.declared.typed.CombinedTerm.{CombinedTerm, every_made-CombinedTerm, roll-CombinedTerm}
use Rattle.gr_expr.specs.declared.typed.Expr.{Expr, every_made-Expr}
use Rattle.gr_expr.specs.declared.typed.Expr.TheOpen.{Expr-F, Term-F}
use Rattle.gr_expr.specs.declared.typed.Expr.TheVariants as expr
use Rattle.gr_expr.specs.declared.typed.JoinedExpr.{JoinedExpr, every_made-JoinedExpr, roll-JoinedExpr}
use Rattle.gr_expr.specs.declared.typed.Literal.{Literal}
use Rattle.gr_expr.specs.declared.typed.SeekLeaf.{SeekLeaf}
use Rattle.gr_expr.specs.declared.typed.Term.{Term, every_made-Term}
use Rattle.gr_expr.specs.declared.typed.Term.TheVariants as term
use Rattle.gr_expr.specs.declared.typed.WeightedLeaf.{WeightedLeaf}
use Rattle.gr_schema.specs.Fields.{only}
use Rattle.gr_schema.specs.Paths.{End, is_dot, path_from, path_of, plain_end, role_end}
use Rattle.gr_schema.specs.Schema.{Extends, SchemaDef, column_in, table_at}
use Rattle.gr_schema.specs.declared.definition.TableDef.{TableDef}
use Rattle.gr_tokens.specs.declared.tokenizer.Tokenizer.{Tokenizer}
use Rattle.gr_values.specs.Keys.{whole_text}
use Rattle.gr_values.specs.declared.path.Field.{Field}
use Rattle.gr_values.specs.declared.path.Path.{Path}

-- What is found where one thing goes on with another

then_ok : {T U P : Type 0} (f : T → Result U Fault) (m : Result T Fault) (y : U) → result_then f m ≡ Ok y → ((x : T) → m ≡ Ok x → f x ≡ Ok y → P) → P
then_ok f (Ok x) y e k = k x refl e
then_ok f (Err w) y e k = absurd (cc)

map_ok : {T U P : Type 0} (f : T → U) (m : Result T Fault) (y : U) → result_map f m ≡ Ok y → ((x : T) → m ≡ Ok x → f x ≡ y → P) → P
map_ok f (Ok x) y e k = k x refl (same_ok (f x) y e)
map_ok f (Err w) y e k = absurd (cc)

option_map_some : {A B P : Type 0} (f : A → B) (o : Option A) (y : B) → option_map f o ≡ Some y → ((x : A) → o ≡ Some x → f x ≡ y → P) → P
option_map_some f None y e k = absurd (none-some y e)
option_map_some f (Some x) y e k = k x refl (same_Some _ _ e)

only_some : {X : Type 0} (p : X → Bool) (o : Option X) (x : X) → only p o ≡ Some x → o ≡ Some x
only_some p None x e = e
only_some {X = X} p (Some y) x e = go (p y) e
  where
    go : (b : Bool) → cond b (Some y) None ≡ Some x → ◌≡◌ {A = Option X} (Some y) (Some x)
    go true e = e
    go false e = absurd (none-some x e)

each_all : {X Y : Type 0} (made : X → Result Y Fault) (P : X → Type 0) (Q : Y → Type 0) → ((x : X) (y : Y) → P x → made x ≡ Ok y → Q y) → (xs : List X) → AllByRecursion P xs → (ys : List Y) → each made xs ≡ Ok ys → AllByRecursion Q ys
each_all made P Q h [] all ys e = subst (AllByRecursion Q) (same_ok [] ys e) tt
each_all made P Q h (x ∷ xs) all ys e =
    then_ok (λ y. result_map (λ zs. y ∷ zs) (each made xs)) (made x) ys e
    (λ y was e. map_ok (λ zs. y ∷ zs) (each made xs) ys e
    (λ zs found is. subst (AllByRecursion Q) is (h x y all.0 was, each_all made P Q h xs all.1 zs found)))

filter_map_all : {X Y : Type 0} (h : X → Option Y) (Q : Y → Type 0) → ((x : X) (y : Y) → h x ≡ Some y → Q y) → (xs : List X) → AllByRecursion Q (filter_map h xs)
filter_map_all h Q k [] = tt
filter_map_all {Y = Y} h Q k (x ∷ xs) = go (h x) (k x) (filter_map_all h Q k xs)
  where
    go : (o : Option Y) → ((y : Y) → o ≡ Some y → Q y) → AllByRecursion Q (filter_map h xs) → AllByRecursion Q (cons_option o (filter_map h xs))
    go None f more = more
    go (Some y) f more = (f y refl, more)

append_all : {X : Type 0} (P : X → Type 0) (xs ys : List X) → AllByRecursion P xs → AllByRecursion P ys → AllByRecursion P (xs ++ ys)
append_all P [] ys all more = more
append_all P (x ∷ xs) ys all more = (all.0, append_all P xs ys all.1 more)

-- elements, each with what holds of it
hold : {X : Type 0} (P : X → Type 0) (xs : List X) → AllByRecursion P xs → (held : List ((x : X) × P x)) × (map (λ e. e.0) held ≡ xs)
hold P [] all = ([], refl)
hold P (x ∷ xs) all =
    let more = hold P xs all.1 in
    ((x, all.0) ∷ more.0, ap (λ ys. x ∷ ys) more.1)

module _ (db : Db) (fits : IsFitting db) (schema : SchemaDef) (grown : Extends db.schema schema) where
  -- an operand fits
  abbrev FitsOperand : Operand → Type 0
  FitsOperand (Operand.Path path) = FitsPath db.tables path
  FitsOperand (Operand.Literal literal) = IsWritten literal
  FitsOperand (Operand.Number number) = FitsTerm db.tables number
  FitsOperand (Operand.Condition condition) = Fits db.tables condition

  -- what a part means fits, and the value that it writes is a text of UTF-8
  record FitsPart (of : Part) : Type 0 where
    operand : (o : Operand) → of.typed ≡ Ok o → FitsOperand o
    written : (l : Literal) → of.literal ≡ Some l → IsWritten l

  -- Conditions and terms of what fits

  made_flag : (path : Path) → FitsPath db.tables path → Fits db.tables (expr.Flag path)
  made_flag path h = subst (Fits db.tables) (expr.rolls-Flag path) (every_made-Expr (FitsExprLayer db.tables) (FitsTermLayer db.tables) AnyCombined AnyJoined (Expr-F.Flag path) (Expr-F.Flag path) refl h)

  made_truth : (truth : Bool) → Fits db.tables (expr.Truth truth)
  made_truth truth = subst (Fits db.tables) (expr.rolls-Truth truth) (every_made-Expr (FitsExprLayer db.tables) (FitsTermLayer db.tables) AnyCombined AnyJoined (Expr-F.«Expr::Truth» truth) (Expr-F.«Expr::Truth» truth) refl tt)

  made_all : Fits db.tables expr.All
  made_all = subst (Fits db.tables) expr.rolls-All (every_made-Expr (FitsExprLayer db.tables) (FitsTermLayer db.tables) AnyCombined AnyJoined Expr-F.All Expr-F.All refl tt)

  made_seek : (of : SeekLeaf) → FitsSeek db.tables of → Fits db.tables (expr.Seek of)
  made_seek of h = subst (Fits db.tables) (expr.rolls-Seek of) (every_made-Expr (FitsExprLayer db.tables) (FitsTermLayer db.tables) AnyCombined AnyJoined (Expr-F.Seek of) (Expr-F.Seek of) refl h)

  made_weighted : (leaves : List WeightedLeaf) → AllByRecursion (FitsWeighted db.tables) leaves → Fits db.tables (expr.Weighted leaves)
  made_weighted leaves h = subst (Fits db.tables) (expr.rolls-Weighted leaves) (every_made-Expr (FitsExprLayer db.tables) (FitsTermLayer db.tables) AnyCombined AnyJoined (Expr-F.Weighted leaves) (Expr-F.Weighted leaves) refl h)

  made_chain : (left : Expr) (others : List JoinedExpr) → Fits db.tables left → AllByRecursion (FitsJoined db.tables) others → Fits db.tables (expr.Chain left others)
  made_chain left others h all =
      let l = hold (FitsJoined db.tables) others all in
      subst (Fits db.tables) (expr.rolls-Chain left others) (every_made-Expr (FitsExprLayer db.tables) (FitsTermLayer db.tables) AnyCombined AnyJoined (Expr-F.Chain left others) (Expr-F.Chain (left, h) l.0) (ap (Expr-F.Chain left) l.1) tt)

  made_not : (of : Expr) → Fits db.tables of → Fits db.tables (expr.Not of)
  made_not of h = subst (Fits db.tables) (expr.rolls-Not of) (every_made-Expr (FitsExprLayer db.tables) (FitsTermLayer db.tables) AnyCombined AnyJoined (Expr-F.Not of) (Expr-F.Not (of, h)) refl tt)

  made_compare : (cmp : Cmp) (left right : Term) → FitsTerm db.tables left → FitsTerm db.tables right → Fits db.tables (expr.Compare cmp left right)
  made_compare cmp left right h k = subst (Fits db.tables) (expr.rolls-Compare cmp left right) (every_made-Expr (FitsExprLayer db.tables) (FitsTermLayer db.tables) AnyCombined AnyJoined (Expr-F.Compare cmp left right) (Expr-F.Compare cmp (left, h) (right, k)) refl tt)

  made_between : (value low : Term) (wl : Bool) (high : Term) (wh : Bool) → FitsTerm db.tables value → FitsTerm db.tables low → FitsTerm db.tables high → Fits db.tables (expr.Between value low wl high wh)
  made_between value low wl high wh h k l = subst (Fits db.tables) (expr.rolls-Between value low wl high wh) (every_made-Expr (FitsExprLayer db.tables) (FitsTermLayer db.tables) AnyCombined AnyJoined (Expr-F.Between value low wl high wh) (Expr-F.Between (value, h) (low, k) wl (high, l) wh) refl tt)

  made_in_values : (value : Term) (others : List Term) → FitsTerm db.tables value → AllByRecursion (FitsTerm db.tables) others → Fits db.tables (expr.InValues value others)
  made_in_values value others h all =
      let l = hold (FitsTerm db.tables) others all in
      subst (Fits db.tables) (expr.rolls-InValues value others) (every_made-Expr (FitsExprLayer db.tables) (FitsTermLayer db.tables) AnyCombined AnyJoined (Expr-F.InValues value others) (Expr-F.InValues (value, h) l.0) (ap (Expr-F.InValues value) l.1) tt)

  made_link : (join : Join) (of : Expr) → Fits db.tables of → FitsJoined db.tables (roll-JoinedExpr (record { join = join; of = of }))
  made_link join of h = every_made-JoinedExpr (FitsExprLayer db.tables) (FitsTermLayer db.tables) AnyCombined AnyJoined (record { join = join; of = of }) (record { join = join; of = (of, h) }) refl tt

  made_term : (arith : Arith) (of : Term) → FitsTerm db.tables of → FitsCombined db.tables (roll-CombinedTerm (record { arith = arith; of = of }))
  made_term arith of h = every_made-CombinedTerm (FitsExprLayer db.tables) (FitsTermLayer db.tables) AnyCombined AnyJoined (record { arith = arith; of = of }) (record { arith = arith; of = (of, h) }) refl tt

  made_literal : (literal : Literal) → IsWritten literal → FitsTerm db.tables (term.Literal literal)
  made_literal literal h = subst (FitsTerm db.tables) (term.rolls-Literal literal) (every_made-Term (FitsExprLayer db.tables) (FitsTermLayer db.tables) AnyCombined AnyJoined (Term-F.Literal literal) (Term-F.Literal literal) refl h)

  made_cell : (path : Path) → FitsPath db.tables path → FitsTerm db.tables (term.Cell path)
  made_cell path h = subst (FitsTerm db.tables) (term.rolls-Cell path) (every_made-Term (FitsExprLayer db.tables) (FitsTermLayer db.tables) AnyCombined AnyJoined (Term-F.Cell path) (Term-F.Cell path) refl h)

  made_holds : (of : Expr) → Fits db.tables of → FitsTerm db.tables (term.Truth of)
  made_holds of h = subst (FitsTerm db.tables) (term.rolls-Truth of) (every_made-Term (FitsExprLayer db.tables) (FitsTermLayer db.tables) AnyCombined AnyJoined (Term-F.«Term::Truth» of) (Term-F.«Term::Truth» (of, h)) refl tt)

  made_calc : (left : Term) (others : List CombinedTerm) → FitsTerm db.tables left → AllByRecursion (FitsCombined db.tables) others → FitsTerm db.tables (term.Calc left others)
  made_calc left others h all =
      let l = hold (FitsCombined db.tables) others all in
      subst (FitsTerm db.tables) (term.rolls-Calc left others) (every_made-Term (FitsExprLayer db.tables) (FitsTermLayer db.tables) AnyCombined AnyJoined (Term-F.Calc left others) (Term-F.Calc (left, h) l.0) (ap (Term-F.Calc left) l.1) tt)

  made_minus : (of : Term) → FitsTerm db.tables of → FitsTerm db.tables (term.Minus of)
  made_minus of h = subst (FitsTerm db.tables) (term.rolls-Minus of) (every_made-Term (FitsExprLayer db.tables) (FitsTermLayer db.tables) AnyCombined AnyJoined (Term-F.Minus of) (Term-F.Minus (of, h)) refl tt)

  -- Operands as what they are taken for

  term_fits : (o : Operand) → FitsOperand o → FitsTerm db.tables (term_of o)
  term_fits (Operand.Path path) h = made_cell path h
  term_fits (Operand.Literal literal) h = made_literal literal h
  term_fits (Operand.Number number) h = h
  term_fits (Operand.Condition condition) h = made_holds condition h

  condition_fits : (o : Operand) (e : Expr) → FitsOperand o → condition_of o ≡ Some e → Fits db.tables e
  condition_fits (Operand.Path path) e h is = go (is_same_kind (path_kind path) Truth) is
    where
      go : (b : Bool) → cond b (Some (expr.Flag path)) None ≡ Some e → Fits db.tables e
      go true is = subst (Fits db.tables) (same_Some _ _ is) (made_flag path h)
      go false is = absurd (none-some e is)
  condition_fits (Operand.Literal (Literal.Number number)) e h is = absurd (none-some e is)
  condition_fits (Operand.Literal (Literal.Text text)) e h is = absurd (none-some e is)
  condition_fits (Operand.Literal (Literal.Truth truth)) e h is = subst (Fits db.tables) (same_Some _ _ is) (made_truth truth)
  condition_fits (Operand.Number number) e h is = absurd (none-some e is)
  condition_fits (Operand.Condition condition) e h is = subst (Fits db.tables) (same_Some _ _ is) h

  path_fits : (o : Operand) (path : Path) → FitsOperand o → path_in o ≡ Some path → FitsPath db.tables path
  path_fits (Operand.Path path) p h is = subst (FitsPath db.tables) (same_Some _ _ is) h
  path_fits (Operand.Literal literal) p h is = absurd (none-some p is)
  path_fits (Operand.Number number) p h is = absurd (none-some p is)
  path_fits (Operand.Condition condition) p h is = absurd (none-some p is)

  where_fits : (takes : ValueKind → Bool) (o : Operand) (t : Term) → FitsOperand o → term_where takes o ≡ Some t → FitsTerm db.tables t
  where_fits takes o t h is = go (takes (kind_of o)) is
    where
      go : (b : Bool) → cond b (Some (term_of o)) None ≡ Some t → FitsTerm db.tables t
      go true is = subst (FitsTerm db.tables) (same_Some _ _ is) (term_fits o h)
      go false is = absurd (none-some t is)

  value_fits : (takes : ValueKind → Bool) (o : Operand) (v : ValueKind × Term) → FitsOperand o → value_where takes o ≡ Some v → FitsTerm db.tables v.1
  value_fits takes o v h is =
      option_map_some (λ value. (kind_of o, value)) (term_where takes o) v is
      (λ t was same. subst (λ (v : ValueKind × Term). FitsTerm db.tables v.1) same (where_fits takes o t h was))

  taken_fits : {X : Type 0} (meant : Operand → Option X) (Q : X → Type 0) → ((o : Operand) (x : X) → FitsOperand o → meant o ≡ Some x → Q x) → (of : Part) → FitsPart of → (x : X) → taken meant of ≡ Ok x → Q x
  taken_fits meant Q h of fit x e =
      then_ok (λ operand. ok_or (meant operand) (fault_at TypeMismatch of.at)) of.typed x e
      (λ o was is. h o x (fit.operand o was) (there (meant o) (fault_at TypeMismatch of.at) x is))

  condition_part : (of : Part) → FitsPart of → (e : Expr) → condition of ≡ Ok e → Fits db.tables e
  condition_part of fit e is = taken_fits condition_of (Fits db.tables) condition_fits of fit e is

  term_part_of : (takes : ValueKind → Bool) (of : Part) → FitsPart of → (t : Term) → taken (term_where takes) of ≡ Ok t → FitsTerm db.tables t
  term_part_of takes of fit t is = taken_fits (term_where takes) (FitsTerm db.tables) (where_fits takes) of fit t is

  value_part : (takes : ValueKind → Bool) (of : Part) → FitsPart of → (v : ValueKind × Term) → taken (value_where takes) of ≡ Ok v → FitsTerm db.tables v.1
  value_part takes of fit v is = taken_fits (value_where takes) (λ v. FitsTerm db.tables v.1) (value_fits takes) of fit v is

  -- a part that is no value that is written
  plain : (at : ℕ) (meant : Result Operand Fault) → ((o : Operand) → meant ≡ Ok o → FitsOperand o) → FitsPart (part at meant)
  plain at meant h = record { operand = h; written = λ l e. absurd (none-some l e) }

  refused_fits : (w : Fault) (o : Operand) → ◌≡◌ {A = Result Operand Fault} (Err w) (Ok o) → FitsOperand o
  refused_fits w o e = absurd (cc)

  -- What operators make of what fits

  joined_fits : (link : Join × Part) (j : JoinedExpr) → FitsPart link.1 → joined link ≡ Ok j → FitsJoined db.tables j
  joined_fits link j fit e =
      map_ok (λ of. roll-JoinedExpr (record { join = link.0; of = of })) (condition link.1) j e
      (λ c was is. subst (FitsJoined db.tables) is (made_link link.0 c (condition_part link.1 fit c was)))

  combined_fits : (next : Arith × Part) (c : CombinedTerm) → FitsPart next.1 → combined next ≡ Ok c → FitsCombined db.tables c
  combined_fits next c fit e =
      map_ok (λ of. roll-CombinedTerm (record { arith = next.0; of = of })) (whole next.1) c e
      (λ t was is. subst (FitsCombined db.tables) is (made_term next.0 t (term_part_of (is_same_kind Whole) next.1 fit t was)))

  chain_fits : (first : Part) (rest : List (Join × Part)) → FitsPart first → AllByRecursion (λ link. FitsPart link.1) rest → (o : Operand) → chain first rest ≡ Ok o → FitsOperand o
  chain_fits first rest fit all o e =
      then_ok (λ left. result_map (λ others. Operand.Condition (expr.Chain left others)) (each joined rest)) (condition first) o e
      (λ left was e. map_ok (λ others. Operand.Condition (expr.Chain left others)) (each joined rest) o e
      (λ others found is. subst FitsOperand is
      (made_chain left others (condition_part first fit left was) (each_all joined (λ link. FitsPart link.1) (FitsJoined db.tables) joined_fits rest all others found))))

  calculation_fits : (first : Part) (rest : List (Arith × Part)) → FitsPart first → AllByRecursion (λ next. FitsPart next.1) rest → (o : Operand) → calculation first rest ≡ Ok o → FitsOperand o
  calculation_fits first rest fit all o e =
      then_ok (λ left. result_map (λ others. Operand.Number (term.Calc left others)) (each combined rest)) (whole first) o e
      (λ left was e. map_ok (λ others. Operand.Number (term.Calc left others)) (each combined rest) o e
      (λ others found is. subst FitsOperand is
      (made_calc left others (term_part_of (is_same_kind Whole) first fit left was) (each_all combined (λ next. FitsPart next.1) (FitsCombined db.tables) combined_fits rest all others found))))

  not_fits : (of : Part) → FitsPart of → (o : Operand) → result_map (λ inner. Operand.Condition (expr.Not inner)) (condition of) ≡ Ok o → FitsOperand o
  not_fits of fit o e =
      map_ok (λ inner. Operand.Condition (expr.Not inner)) (condition of) o e (λ c was is. subst FitsOperand is (made_not c (condition_part of fit c was)))

  minus_fits : (of : Part) → FitsPart of → (o : Operand) → result_map (λ inner. Operand.Number (term.Minus inner)) (whole of) ≡ Ok o → FitsOperand o
  minus_fits of fit o e =
      map_ok (λ inner. Operand.Number (term.Minus inner)) (whole of) o e (λ t was is. subst FitsOperand is (made_minus t (term_part_of (is_same_kind Whole) of fit t was)))

  negative_written : (digits : Option ℕ) (l : Literal) → option_map (λ n. Literal.Number (neg_ℤ (pos n))) digits ≡ Some l → IsWritten l
  negative_written None l e = absurd (none-some l e)
  negative_written (Some n) l e = subst IsWritten (same_Some _ _ e) tt

  comparison_fits : (cmp : Cmp) (left right : Part) → FitsPart left → FitsPart right → (o : Operand) → comparison cmp left right ≡ Ok o → FitsOperand o
  comparison_fits cmp left right fit fit_2 o e =
      then_ok (λ (first : ValueKind × Term). result_map (λ second. Operand.Condition (expr.Compare cmp first.1 second)) (taken (term_where (is_same_kind first.0)) right)) (taken (value_where (is_compared cmp)) left) o e
      (λ first was e. map_ok (λ second. Operand.Condition (expr.Compare cmp first.1 second)) (taken (term_where (is_same_kind first.0)) right) o e
      (λ second found is. subst FitsOperand is
      (made_compare cmp first.1 second (value_part (is_compared cmp) left fit first was) (term_part_of (is_same_kind first.0) right fit_2 second found))))

  between_fits : (at : ℕ) (args : List Part) → AllByRecursion FitsPart args → (o : Operand) → between at args ≡ Ok o → FitsOperand o
  between_fits at [] all o e = refused_fits _ o e
  between_fits at (a ∷ []) all o e = refused_fits _ o e
  between_fits at (a ∷ b ∷ []) all o e = refused_fits _ o e
  between_fits at (a ∷ b ∷ c ∷ []) all o e = refused_fits _ o e
  between_fits at (a ∷ b ∷ c ∷ d ∷ []) all o e = refused_fits _ o e
  between_fits at (value ∷ low ∷ with_low ∷ high ∷ with_high ∷ []) all o e =
      then_ok (λ (v : ValueKind × Term). result_then (λ l. result_then (λ wl. result_then (λ h. result_map (λ wh. Operand.Condition (expr.Between v.1 l wl h wh)) (end_part with_high)) (taken (term_where (is_same_kind v.0)) high)) (end_part with_low)) (taken (term_where (is_same_kind v.0)) low)) (taken (value_where is_ordered) value) o e
      (λ v was e. then_ok (λ l. result_then (λ wl. result_then (λ h. result_map (λ wh. Operand.Condition (expr.Between v.1 l wl h wh)) (end_part with_high)) (taken (term_where (is_same_kind v.0)) high)) (end_part with_low)) (taken (term_where (is_same_kind v.0)) low) o e
      (λ l was_l e. then_ok (λ wl. result_then (λ h. result_map (λ wh. Operand.Condition (expr.Between v.1 l wl h wh)) (end_part with_high)) (taken (term_where (is_same_kind v.0)) high)) (end_part with_low) o e
      (λ wl was_wl e. then_ok (λ h. result_map (λ wh. Operand.Condition (expr.Between v.1 l wl h wh)) (end_part with_high)) (taken (term_where (is_same_kind v.0)) high) o e
      (λ h was_h e. map_ok (λ wh. Operand.Condition (expr.Between v.1 l wl h wh)) (end_part with_high) o e
      (λ wh was_wh is. subst FitsOperand is
      (made_between v.1 l wl h wh (value_part is_ordered value all.0 v was) (term_part_of (is_same_kind v.0) low all.1.0 l was_l) (term_part_of (is_same_kind v.0) high all.1.1.1.0 h was_h)))))))
  between_fits at (a ∷ b ∷ c ∷ d ∷ f ∷ g ∷ more) all o e = refused_fits _ o e

  in_values_fits : (at : ℕ) (args : List Part) → AllByRecursion FitsPart args → (o : Operand) → in_values at args ≡ Ok o → FitsOperand o
  in_values_fits at [] all o e = refused_fits _ o e
  in_values_fits at (value ∷ others) all o e =
      then_ok (λ (first : ValueKind × Term). result_map (λ rest. Operand.Condition (expr.InValues first.1 rest)) (each (taken (term_where (is_same_kind first.0))) others)) (taken (value_where is_plain) value) o e
      (λ first was e. map_ok (λ rest. Operand.Condition (expr.InValues first.1 rest)) (each (taken (term_where (is_same_kind first.0))) others) o e
      (λ rest found is. subst FitsOperand is
      (made_in_values first.1 rest (value_part is_plain value all.0 first was)
      (each_all (taken (term_where (is_same_kind first.0))) FitsPart (FitsTerm db.tables) (λ of t fit is. term_part_of (is_same_kind first.0) of fit t is) others all.1 rest found))))

  sought_fits : (seek : Seek) (o : Operand) (path : Path) → FitsOperand o → sought_path seek o ≡ Some path → FitsPath db.tables path
  sought_fits seek o path h is = path_fits o path h (only_some (is_sought seek) (path_in o) path is)

  sought_written : (path : Path) (of : Part) → FitsPart of → (l : Literal) → sought_value path of ≡ Ok l → IsWritten l
  sought_written path of fit l e =
      then_ok (λ operand. ok_or (only (is_sought_in path) of.literal) (fault_at TypeMismatch of.at)) of.typed l e
      (λ o was is. fit.written l (only_some (is_sought_in path) of.literal l (there (only (is_sought_in path) of.literal) (fault_at TypeMismatch of.at) l is)))

  search_fits : (seek : Seek) (left right : Part) → FitsPart left → FitsPart right → (o : Operand) → search schema seek left right ≡ Ok o → FitsOperand o
  search_fits seek left right fit fit_2 o e =
      then_ok (λ path. result_map (λ value. Operand.Condition (expr.Seek (leaf schema path seek value))) (sought_value path right)) (taken (sought_path seek) left) o e
      (λ path was e. map_ok (λ value. Operand.Condition (expr.Seek (leaf schema path seek value))) (sought_value path right) o e
      (λ value found is. subst FitsOperand is
      (made_seek (leaf schema path seek value) (record { path = taken_fits (sought_path seek) (FitsPath db.tables) (sought_fits seek) left fit path was; value = sought_written path right fit_2 value found }))))

  -- Names and words

  named_fits : (table : TableNo) (text : List ℕ) (path : Path) → named schema table text ≡ Ok path → FitsPath db.tables path
  named_fits table text path e = path_of-fits db fits schema grown table text path (there (path_of schema table text) (fault_named NoSuchColumn text) path e)

  path_operand : (table : TableNo) (text : List ℕ) (o : Operand) → result_map Operand.Path (named schema table text) ≡ Ok o → FitsOperand o
  path_operand table text o e =
      map_ok Operand.Path (named schema table text) o e (λ path was is. subst FitsOperand is (named_fits table text path was))

  literal_written : (at : ℕ) (kind : ValueKind) (text : List ℕ) → IsUtf8 text → (l : Literal) → literal_for at kind text ≡ Ok l → IsWritten l
  literal_written at Whole text utf8 l e =
      option_map_some Literal.Number (only is_value (whole_text text)) l (there _ (fault_at BadNumber at) l e) (λ n was is. subst IsWritten is tt)
  literal_written at WholeVec text utf8 l e =
      option_map_some Literal.Number (only is_value (whole_text text)) l (there _ (fault_at BadNumber at) l e) (λ n was is. subst IsWritten is tt)
  literal_written at Truth text utf8 l e =
      option_map_some Literal.Truth (truth_named text) l (there _ (fault_at TypeMismatch at) l e) (λ n was is. subst IsWritten is tt)
  literal_written at Text text utf8 l e = subst IsWritten (same_ok _ _ e) utf8
  literal_written at TextVec text utf8 l e = subst IsWritten (same_ok _ _ e) utf8

  tested_fits : (path : Path) (test : FieldOp) (l : Literal) → FitsPath db.tables path → IsWritten l → Fits db.tables (tested schema path test l)
  tested_fits path (FieldOp.Compare cmp) l fit written = made_compare cmp (term.Cell path) (term.Literal l) (made_cell path fit) (made_literal l written)
  tested_fits path (FieldOp.Find seek) l fit written = made_seek (leaf schema path seek l) (record { path = fit; value = written })

  field_fits : (table : TableNo) (at : ℕ) (name : List ℕ) (test : FieldOp) (text : List ℕ) → IsUtf8 text → (o : Operand) → field schema table at name test text ≡ Ok o → FitsOperand o
  field_fits table at name test text utf8 o e =
      then_ok (λ path. result_then (λ taken_path. result_map (λ literal. Operand.Condition (tested schema taken_path test literal)) (literal_for at (path_kind taken_path) text)) (ok_or (only (is_tested test) (Some path)) (fault_at TypeMismatch at))) (named schema table name) o e
      (λ path was e. then_ok (λ taken_path. result_map (λ literal. Operand.Condition (tested schema taken_path test literal)) (literal_for at (path_kind taken_path) text)) (ok_or (only (is_tested test) (Some path)) (fault_at TypeMismatch at)) o e
      (λ taken_path was_2 e. map_ok (λ literal. Operand.Condition (tested schema taken_path test literal)) (literal_for at (path_kind taken_path) text) o e
      (λ literal found is. subst FitsOperand is
      (tested_fits taken_path test literal
      (subst (FitsPath db.tables) (same_Some _ _ (only_some (is_tested test) (Some path) taken_path (there (only (is_tested test) (Some path)) (fault_at TypeMismatch at) taken_path was_2))) (named_fits table name path was))
      (literal_written at (path_kind taken_path) text utf8 literal found)))))

  -- a match column fits
  abbrev FitsColumn : Column → Type 0
  FitsColumn column = FitsPath db.tables column.path

  abbrev FitsGiven : Option (List Column) → Type 0
  FitsGiven None = Unit {0}
  FitsGiven (Some columns) = AllByRecursion FitsColumn columns

  leaves_fit : (seek : Seek) (text : List ℕ) → IsUtf8 text → (columns : List Column) → AllByRecursion FitsColumn columns → AllByRecursion (FitsWeighted db.tables) (map (word_leaf seek text) columns)
  leaves_fit seek text utf8 [] all = tt
  leaves_fit seek text utf8 (column ∷ columns) all = (record { path = all.0; value = utf8 }, leaves_fit seek text utf8 columns all.1)

  word_fits : (columns : Option (List Column)) → FitsGiven columns → (at : ℕ) (seek : Seek) (text : List ℕ) → IsUtf8 text → (o : Operand) → word columns at seek text ≡ Ok o → FitsOperand o
  word_fits None given at seek text utf8 o e = refused_fits _ o e
  word_fits (Some columns) given at seek text utf8 o e = go (list_any (λ column. not (takes_word seek column)) columns) e
    where
      go : (b : Bool) → cond b (Err (fault_at TypeMismatch at)) (Ok (Operand.Condition (expr.Weighted (map (word_leaf seek text) columns)))) ≡ Ok o → FitsOperand o
      go true e = refused_fits _ o e
      go false e = subst FitsOperand (same_ok _ _ e) (made_weighted (map (word_leaf seek text) columns) (leaves_fit seek text utf8 columns given))

  -- Match columns

  end_fits : (table : TableNo) (home : TableDef) (last : Field) (end : End) → table_at schema table ≡ Some home → end_at schema home last ≡ Some end → FitsEnd db.tables table end
  end_fits table home Field.Id end there_is e = absurd (none-some end e)
  end_fits table home Field.Key end there_is e =
      option_map_some (plain_end Field.Key false) home.key end e
      (λ type keyed is. subst (FitsEnd db.tables table) is (record { field = each_key db fits schema grown table home type there_is keyed; target = refl }))
  end_fits table home (Field.Column column) end there_is e =
      option_and_then_some (λ def. role_end schema (Field.Column column) def.role) (column_in home column) end e
      (λ def here e. role_end-fits db fits schema grown table home column def def.role end there_is here refl e)

  source_fits : (table : TableNo) (weight : ℕ) (tokenizer : Tokenizer) (source : Field) (column : Column) → source_column schema table weight tokenizer source ≡ Some column → FitsColumn column
  source_fits table weight tokenizer source column e =
      option_map_some (λ path. record { weight = weight; path = path; by = by_tokenizer tokenizer }) (field_path schema table source) column e
      (λ path was is. subst FitsColumn is
      (option_map_some (λ end. path_from table (record { through = []; end = end })) (option_and_then (λ home. end_at schema home source) (table_at schema table)) path was
      (λ end found same. subst (FitsPath db.tables) same
      (option_and_then_some (λ home. end_at schema home source) (table_at schema table) end found
      (λ home there_is e. path_from-fits db fits table (record { through = []; end = end }) (record { hops = tt; end = end_fits table home source end there_is e }))))))

  index_fits : (table : TableNo) (of : MatchColumn) (cs : List Column) → index_columns schema table of ≡ Ok cs → AllByRecursion FitsColumn cs
  index_fits table of cs e =
      option_map_some (λ (index : Tokenizer × List Field). filter_map (source_column schema table of.weight index.0) index.1) (index_named schema table (slice_split is_dot of.path)) cs
      (there (option_map (λ (index : Tokenizer × List Field). filter_map (source_column schema table of.weight index.0) index.1) (index_named schema table (slice_split is_dot of.path))) (fault_named NoSuchColumn of.path) cs e)
      (λ index was is. subst (AllByRecursion FitsColumn) is (filter_map_all (source_column schema table of.weight index.0) FitsColumn (source_fits table of.weight index.0) index.1))

  path_column_fits : (of : MatchColumn) (path : Path) → FitsPath db.tables path → (cs : List Column) → path_columns schema of path ≡ Ok cs → AllByRecursion FitsColumn cs
  path_column_fits of path fit cs e = go (takes_text path) e
    where
      go : (b : Bool) → cond b (Ok (record { weight = of.weight; path = path; by = by_path schema path } ∷ [])) (Err (fault_at TypeMismatch of.at)) ≡ Ok cs → AllByRecursion FitsColumn cs
      go true e = subst (AllByRecursion FitsColumn) (same_ok _ _ e) (fit, tt)
      go false e = absurd (cc)

  column_fits : (table : TableNo) (of : MatchColumn) (cs : List Column) → column_typed schema table of ≡ Ok cs → AllByRecursion FitsColumn cs
  column_fits table of cs e = go (path_of schema table of.path) refl e
    where
      go : (o : Option Path) → path_of schema table of.path ≡ o → column_by schema table of o ≡ Ok cs → AllByRecursion FitsColumn cs
      go None was e = index_fits table of cs e
      go (Some path) was e = path_column_fits of path (path_of-fits db fits schema grown table of.path path was) cs e

  columns_fit : (table : TableNo) (ofs : List MatchColumn) (cs : List Column) → columns_typed schema table ofs ≡ Ok cs → AllByRecursion FitsColumn cs
  columns_fit table [] cs e = subst (AllByRecursion FitsColumn) (same_ok [] cs e) tt
  columns_fit table (of ∷ ofs) cs e =
      then_ok (λ first. result_map (λ others. first ++ others) (columns_typed schema table ofs)) (column_typed schema table of) cs e
      (λ first was e. map_ok (λ others. first ++ others) (columns_typed schema table ofs) cs e
      (λ others found is. subst (AllByRecursion FitsColumn) is (append_all FitsColumn first others (column_fits table of first was) (columns_fit table ofs others found))))

  given_fits : (table : TableNo) (columns : Option (List MatchColumn)) (given : Option (List Column)) → columns_given schema table columns ≡ Ok given → FitsGiven given
  given_fits table None given e = subst FitsGiven (same_ok None given e) tt
  given_fits table (Some ofs) given e = map_ok Some (columns_typed schema table ofs) given e (λ cs was is. subst FitsGiven is (columns_fit table ofs cs was))

  -- The tree

  module _ (table : TableNo) (given : Option (List Column)) (columns_fit : FitsGiven given) where
    abbrev FitsTree : Ast → Type 0
    FitsTree d = IsMade d → FitsPart (part_of schema table given d)

    abbrev FitsNext : Combined → Type 0
    FitsNext d = IsMadeTerm d → FitsPart (combined_of schema table given d).1

    abbrev FitsLink : Joined → Type 0
    FitsLink d = IsMadeLink d → FitsPart (joined_of schema table given d).1

    abbrev HeldTree : Type 0
    HeldTree = (d : Ast) × FitsTree d

    abbrev HeldNext : Type 0
    HeldNext = (d : Combined) × FitsNext d

    abbrev HeldLink : Type 0
    HeldLink = (d : Joined) × FitsLink d

    trees_fit : (ds : List HeldTree) → AllByRecursion IsMade (map (λ e. e.0) ds) → AllByRecursion FitsPart (map (part_of schema table given) (map (λ e. e.0) ds))
    trees_fit [] all = tt
    trees_fit (d ∷ ds) all = (d.1 all.0, trees_fit ds all.1)

    nexts_fit : (ds : List HeldNext) → AllByRecursion IsMadeTerm (map (λ e. e.0) ds) → AllByRecursion (λ next. FitsPart next.1) (map (combined_of schema table given) (map (λ e. e.0) ds))
    nexts_fit [] all = tt
    nexts_fit (d ∷ ds) all = (d.1 all.0, nexts_fit ds all.1)

    links_fit : (ds : List HeldLink) → AllByRecursion IsMadeLink (map (λ e. e.0) ds) → AllByRecursion (λ link. FitsPart link.1) (map (joined_of schema table given) (map (λ e. e.0) ds))
    links_fit [] all = tt
    links_fit (d ∷ ds) all = (d.1 all.0, links_fit ds all.1)

    abbrev flat : Ast-F HeldTree HeldNext HeldLink → Layer
    flat y = map-Ast HeldTree HeldNext HeldLink Ast Combined Joined (λ e. e.0) (λ e. e.0) (λ e. e.0) y

    level_fits : (y : Ast-F HeldTree HeldNext HeldLink) → IsMadeLayer (flat y) → Parts (flat y) → FitsPart (level schema table given (flat y))
    level_fits (Ast-F.Chain at first rest) here parts = plain at _ (chain_fits _ _ (first.1 parts.0) (links_fit rest parts.1))
    level_fits (Ast-F.Not at of) here parts = plain at _ (not_fits _ (of.1 parts))
    level_fits (Ast-F.Minus at of) here parts = record { operand = minus_fits _ (of.1 parts); written = negative_written (part_of schema table given of.0).digits }
    level_fits (Ast-F.Compare at cmp left right) here parts = plain at _ (comparison_fits cmp _ _ (left.1 parts.0) (right.1 parts.1))
    level_fits (Ast-F.Find at seek left right) here parts = plain at _ (search_fits seek _ _ (left.1 parts.0) (right.1 parts.1))
    level_fits (Ast-F.Calc at first rest) here parts = plain at _ (calculation_fits _ _ (first.1 parts.0) (nexts_fit rest parts.1))
    level_fits (Ast-F.Between at args) here parts = plain at _ (between_fits at _ (trees_fit args parts))
    level_fits (Ast-F.InValues at args) here parts = plain at _ (in_values_fits at _ (trees_fit args parts))
    level_fits (Ast-F.Path at text) here parts = plain at _ (path_operand table text)
    level_fits (Ast-F.Number at value) here parts = record { operand = λ o e. subst FitsOperand (same_ok _ _ e) tt; written = λ l e. subst IsWritten (same_Some _ _ e) tt }
    level_fits (Ast-F.Text at bytes) here parts = record { operand = λ o e. subst FitsOperand (same_ok _ _ e) here; written = λ l e. subst IsWritten (same_Some _ _ e) here }
    level_fits (Ast-F.Truth at value) here parts = record { operand = λ o e. subst FitsOperand (same_ok _ _ e) tt; written = λ l e. subst IsWritten (same_Some _ _ e) tt }
    level_fits (Ast-F.All at) here parts = plain at _ (λ o e. subst FitsOperand (same_ok _ _ e) made_all)
    level_fits (Ast-F.Word at seek text) here parts = plain at _ (word_fits given columns_fit at seek text here.1)
    level_fits (Ast-F.FieldTest at path test text) here parts = plain at _ (field_fits table at path test text here.1)

    tree_fits : (d : Ast) → FitsTree d
    tree_fits = ind-Ast FitsTree FitsNext FitsLink
        (λ x y is made.
        subst FitsPart (sym (part_is schema table given (roll-Ast x) ∙ ap (level schema table given) (out-roll-Ast x)))
        (subst (λ (z : Layer). FitsPart (level schema table given z)) is
        (level_fits y
        (subst IsMadeLayer (out-roll-Ast x ∙ sym is) (tree_layer (roll-Ast x) made))
        (subst Parts (out-roll-Ast x ∙ sym is) (tree_parts (roll-Ast x) made)))))
        (λ x y is made.
        subst (λ (p : Arith × Part). FitsPart p.1) (sym (combined_of_is schema table given (roll-Combined x)))
        (subst (λ (z : TermLayer). IsMade z.of → FitsPart (part_of schema table given z.of)) (is ∙ sym (out-roll-Combined x)) y.of.1 (term_part (roll-Combined x) made)))
        (λ x y is made.
        subst (λ (p : Join × Part). FitsPart p.1) (sym (joined_of_is schema table given (roll-Joined x)))
        (subst (λ (z : LinkLayer). IsMade z.of → FitsPart (part_of schema table given z.of)) (is ∙ sym (out-roll-Joined x)) y.of.1 (link_part (roll-Joined x) made)))

  typed_fits : (table : TableNo) (columns : Option (List MatchColumn)) (tree : Ast) → IsMade tree → (e : Expr) → typed schema table columns tree ≡ Ok e → Fits db.tables e
  typed_fits table columns tree made e is =
      then_ok (λ given. condition (part_of schema table given tree)) (columns_given schema table columns) e is
      (λ given was is. condition_part (part_of schema table given tree) (tree_fits table given (given_fits table columns given was) tree made) e is)

-- what is answered, where it is what is meant
pub answer_fits : (schema : SchemaDef) (table : TableNo) (columns : Option (List MatchColumn)) (tree : Ast) → IsMade tree → (r : Result Expr (Failure Fault)) → Answers r (typed schema table columns tree)
    → (db : Db) → Extends db.schema schema → IsFitting db → IfOk r (Fits db.tables)
answer_fits schema table columns tree made (Ok e) answers db grown fits = typed_fits db fits schema grown table columns tree made e (answers.found e refl)
answer_fits schema table columns tree made (Err f) answers db grown fits = tt
