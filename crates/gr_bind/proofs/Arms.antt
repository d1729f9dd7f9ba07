-- What an operator tells of its parts is told of its tree.
use Rattle.std.proofs.Common.{◌≡◌, ℕ, Bool, List, [], ◌∷◌, get_or, length, map, pos, sym, ap, subst, ◌∙◌}
use Rattle.std.specs.Prelude.{Result, Ok, Err}
use Rattle.gr_ast.specs.Trees.{Layer, place_of}
use Rattle.gr_ast.specs.declared.ast.Ast.{Ast, roll-Ast}
use Rattle.gr_ast.specs.declared.ast.Ast.TheFolds.{map-Ast}
use Rattle.gr_ast.specs.declared.ast.Ast.TheOpen.{Ast-F}
use Rattle.gr_ast.specs.declared.ast.Ast.TheVariants as ast
use Rattle.gr_ast.specs.declared.ast.Combined.{Combined, out-Combined}
use Rattle.gr_ast.specs.declared.ast.Joined.{Joined, out-Joined}
use Rattle.gr_ast.specs.declared.operators.Arith.{Arith}
use Rattle.gr_ast.specs.declared.operators.FieldOp.{FieldOp}
use Rattle.gr_ast.specs.declared.operators.Join.{Join}
use Rattle.gr_ast.specs.declared.operators.Seek.{Seek}
use Rattle.gr_base.specs.Failure.{result_map, result_then}
use Rattle.gr_base.specs.declared.compare.Cmp.{Cmp}
use Rattle.gr_base.specs.declared.failure.Failure.{Failure}
use Rattle.gr_base.specs.declared.fault.Fault.{Fault}
use Rattle.gr_base.specs.declared.fault.FaultKind.TheVariants.{TypeMismatch}
use Rattle.gr_bind.proofs.Arguments.{five_parts, other_than_five}
use Rattle.gr_bind.proofs.Levels.{combined_of_is, each_map, joined_of_is, literal_is, place_is, told_at}
use Rattle.gr_bind.proofs.Ranges.{same_then}
use Rattle.gr_bind.proofs.Telling.{then_as_err, then_told}
use Rattle.gr_bind.specs.Columns.{fault_at}
use Rattle.gr_bind.specs.Inside.Folded.{among_at, between_at, combined_part, joined_part, link_at, part_at, term_at, value_at}
use Rattle.gr_bind.specs.Inside.Literals.{literal_of}
use Rattle.gr_bind.specs.Inside.Parts.{combined_of, joined_of}
use Rattle.gr_bind.specs.Inside.Placed.{IsPart}
use Rattle.gr_bind.specs.Inside.Told.{Tells}
use Rattle.gr_bind.specs.Kinds.{is_plain, is_same_kind}
use Rattle.gr_bind.specs.Typing.{Part, between, calculation, chain, combined, comparison, condition, each, field, in_values, joined, named, part_of, search, step, taken, term_where, value_where, whole, word}
use Rattle.gr_bind.specs.declared.binder.Binder.{Binder}
use Rattle.gr_bind.specs.declared.operand.Operand.{Operand}
use Rattle.gr_bind.specs.declared.operand.ValueKind.{ValueKind}
use Rattle.gr_bind.specs.declared.part.TypedPart.{TypedPart}
use Rattle.gr_expr.specs.declared.typed.CombinedTerm.{CombinedTerm}
use Rattle.gr_expr.specs.declared.typed.Expr.TheVariants as expr
use Rattle.gr_expr.specs.declared.typed.JoinedExpr.{JoinedExpr}
use Rattle.gr_expr.specs.declared.typed.Literal.{Literal}
use Rattle.gr_expr.specs.declared.typed.Term.{Term}
use Rattle.gr_expr.specs.declared.typed.Term.TheVariants as term

module _ (binder : Binder) where
  abbrev of_tree : Ast → Part
  of_tree = part_at binder

  abbrev of_link : Joined → Join × Part
  of_link = joined_part binder

  abbrev of_term : Combined → Arith × Part
  of_term = combined_part binder

  links_are : of_link ≡ joined_of binder.schema.now binder.table binder.columns
  unfolding part_at joined_part
  links_are = λ i link. sym (joined_of_is binder.schema.now binder.table binder.columns link) i

  terms_are : of_term ≡ combined_of binder.schema.now binder.table binder.columns
  unfolding part_at combined_part
  terms_are = λ i term. sym (combined_of_is binder.schema.now binder.table binder.columns term) i

  -- what is told of a level, with the parts in it in their places, is told of its tree
  told_level : (d : Ast) (layer : Layer) (r : Result Operand (Failure Fault)) → d ≡ roll-Ast layer
      → Tells r (step binder.schema.now binder.table binder.columns (map-Ast Ast Combined Joined Part (Arith × Part) (Join × Part) of_tree of_term of_link layer)).typed → Tells r (of_tree d).typed
  unfolding part_at
  told_level d layer r is told =
      told_at binder.schema.now binder.table binder.columns d layer r is
      (subst (λ (f : Joined → Join × Part). Tells r (step binder.schema.now binder.table binder.columns (map-Ast Ast Combined Joined Part (Arith × Part) (Join × Part) of_tree (combined_of binder.schema.now binder.table binder.columns) f layer)).typed) links_are
      (subst (λ (f : Combined → Arith × Part). Tells r (step binder.schema.now binder.table binder.columns (map-Ast Ast Combined Joined Part (Arith × Part) (Join × Part) of_tree f of_link layer)).typed) terms_are told))

  -- a tree with its place is its part
  pub part_with : (d : Ast) (at : ℕ) (operand : Result Operand (Failure Fault)) → at ≡ place_of d → Tells operand (of_tree d).typed → IsPart (record { at = at; operand = operand }) (of_tree d)
  unfolding part_at
  part_with d at operand place told = record { told = told; place = place ∙ sym (place_is binder.schema.now binder.table binder.columns d) }

  -- the value that a tree writes is that of its part
  pub written : (d : Ast) → literal_of d ≡ (of_tree d).literal
  unfolding part_at
  written d = sym (literal_is binder.schema.now binder.table binder.columns d)

  moved : (typed : TypedPart) (x of : Ast) → x ≡ of → IsPart typed (of_tree x) → IsPart typed (of_tree of)
  moved typed x of same is = subst (λ (y : Ast). IsPart typed (of_tree y)) same is

  pub as_part : (d : Ast) (typed : TypedPart) → IsPart typed (of_tree d) → IsPart typed (part_of binder.schema.now binder.table binder.columns d)
  unfolding part_at
  as_part d typed is = is

  -- a condition behind what joins it, a number behind its sign, and a value of a kind
  pub link_told : (d : Joined) (r : Result JoinedExpr (Failure Fault)) → Tells r (joined ((out-Joined d).join, of_tree (out-Joined d).of)) → Tells r (link_at binder d)
  unfolding joined_part link_at
  link_told d r told = told

  pub term_told : (d : Combined) (r : Result CombinedTerm (Failure Fault)) → Tells r (combined ((out-Combined d).arith, of_tree (out-Combined d).of)) → Tells r (term_at binder d)
  unfolding combined_part term_at
  term_told d r told = told

  pub value_told : (kind : ValueKind) (d : Ast) (r : Result Term (Failure Fault)) → Tells r (taken (term_where (is_same_kind kind)) (of_tree d)) → Tells r (value_at binder kind d)
  unfolding value_at
  value_told kind d r told = told

  all_links : (others : Result (List JoinedExpr) (Failure Fault)) (xs links : List Joined) → xs ≡ links → Tells others (each (link_at binder) xs) → Tells others (each joined (map of_link links))
  unfolding link_at
  all_links others xs links same told =
      subst (λ (m : Result (List JoinedExpr) Fault). Tells others m) (ap (each (link_at binder)) same ∙ sym (each_map joined of_link links)) told

  all_terms : (others : Result (List CombinedTerm) (Failure Fault)) (xs terms : List Combined) → xs ≡ terms → Tells others (each (term_at binder) xs) → Tells others (each combined (map of_term terms))
  unfolding term_at
  all_terms others xs terms same told =
      subst (λ (m : Result (List CombinedTerm) Fault). Tells others m) (ap (each (term_at binder)) same ∙ sym (each_map combined of_term terms)) told

  -- the arguments of `between`
  pub range_told : (at : ℕ) (args : List Ast) (a b c d e : Ast) (r : Result Operand (Failure Fault)) → length args ≡ 5 → a ≡ get_or args 0 a → b ≡ get_or args 1 b → c ≡ get_or args 2 c → d ≡ get_or args 3 d → e ≡ get_or args 4 e
      → Tells r (between at (of_tree a ∷ of_tree b ∷ of_tree c ∷ of_tree d ∷ of_tree e ∷ [])) → Tells r (between_at binder at args)
  unfolding between_at
  range_told at args a b c d e r n p q s t u told =
      subst (λ (ps : List Part). Tells r (between at ps)) (five_parts of_tree args a b c d e n p q s t u) told

  pub range_refused : (at : ℕ) (args : List Ast) (r : Result Operand (Failure Fault)) → (length args ≡ 5 → ⊥) → Tells r (Err (fault_at TypeMismatch at)) → Tells r (between_at binder at args)
  unfolding between_at
  range_refused at args r n told =
      subst (λ (m : Result Operand Fault). Tells r m) (sym (other_than_five of_tree at args n)) told

  -- the arguments of `in_values`
  abbrev with_others : List Ast → ValueKind × Term → Result Operand Fault
  with_others others first = result_map (λ rest. Operand.Condition (expr.InValues first.1 rest)) (each (value_at binder first.0) others)

  among_is : (at : ℕ) (args : List Ast) (a : Ast) (others : List Ast) → args ≡ a ∷ others → result_then (with_others others) (taken (value_where is_plain) (of_tree a)) ≡ among_at binder at args
  unfolding among_at value_at
  among_is at args a others is =
      same_then
      (with_others others)
      (λ (first : ValueKind × Term). result_map (λ rest. Operand.Condition (expr.InValues first.1 rest)) (each (taken (term_where (is_same_kind first.0))) (map of_tree others)))
      (taken (value_where is_plain) (of_tree a))
      (λ first. ap (result_map (λ rest. Operand.Condition (expr.InValues first.1 rest))) (sym (each_map (taken (term_where (is_same_kind first.0))) of_tree others)))
      ∙ ap (λ xs. in_values at (map of_tree xs)) (sym is)

  pub among_told : (at : ℕ) (args : List Ast) (a : Ast) (others : List Ast) → args ≡ a ∷ others
      → (first : Result (ValueKind × Term) (Failure Fault)) → Tells first (taken (value_where is_plain) (of_tree a)) → (kind : ValueKind) (value : Term) → first ≡ Ok (kind, value)
      → (r : Result Operand (Failure Fault)) → Tells r (with_others others (kind, value)) → Tells r (among_at binder at args)
  among_told at args a others is first told kind value found r tells =
      subst (λ (m : Result Operand Fault). Tells r m) (among_is at args a others is)
      (then_told first (taken (value_where is_plain) (of_tree a)) told (with_others others) (kind, value) r found tells)

  pub among_stopped : (at : ℕ) (args : List Ast) (a : Ast) (others : List Ast) → args ≡ a ∷ others
      → (first : Result (ValueKind × Term) (Failure Fault)) → Tells first (taken (value_where is_plain) (of_tree a)) → (e : Failure Fault) → first ≡ Err e
      → (r : Result Operand (Failure Fault)) → r ≡ Err e → Tells r (among_at binder at args)
  among_stopped at args a others is first told e failed r answer =
      subst (λ (m : Result Operand Fault). Tells r m) (among_is at args a others is)
      (then_as_err first (taken (value_where is_plain) (of_tree a)) told (with_others others) r e failed answer)

  pub among_none : (at : ℕ) (args : List Ast) (r : Result Operand (Failure Fault)) → args ≡ [] → Tells r (Err (fault_at TypeMismatch at)) → Tells r (among_at binder at args)
  unfolding among_at
  among_none at args r is told =
      subst (λ (xs : List Ast). Tells r (in_values at (map of_tree xs))) (sym is) told

  module _ (d : Ast) (r : Result Operand (Failure Fault)) where
    pub chain_arm : (at : ℕ) (first : Ast) (rest : List Joined) → d ≡ ast.Chain at first rest
        → (typed : TypedPart) (x : Ast) → x ≡ first → IsPart typed (of_tree x)
        → (others : Result (List JoinedExpr) (Failure Fault)) (links : List Joined) → links ≡ rest → Tells others (each (link_at binder) links)
        → ((part : Part) → (rest : List (Join × Part)) → IsPart typed part → Tells others (each joined rest) → Tells r (chain part rest)) → Tells r (of_tree d).typed
    chain_arm at first rest is typed x same part others links as_rest told tells =
        told_level d (Ast-F.Chain at first rest) r (is ∙ sym (ast.rolls-Chain at first rest))
        (tells (of_tree first) (map of_link rest) (moved typed x first same part) (all_links others links rest as_rest told))

    pub calc_arm : (at : ℕ) (first : Ast) (rest : List Combined) → d ≡ ast.Calc at first rest
        → (typed : TypedPart) (x : Ast) → x ≡ first → IsPart typed (of_tree x)
        → (others : Result (List CombinedTerm) (Failure Fault)) (terms : List Combined) → terms ≡ rest → Tells others (each (term_at binder) terms)
        → ((part : Part) → (rest : List (Arith × Part)) → IsPart typed part → Tells others (each combined rest) → Tells r (calculation part rest)) → Tells r (of_tree d).typed
    calc_arm at first rest is typed x same part others terms as_rest told tells =
        told_level d (Ast-F.Calc at first rest) r (is ∙ sym (ast.rolls-Calc at first rest))
        (tells (of_tree first) (map of_term rest) (moved typed x first same part) (all_terms others terms rest as_rest told))

    pub not_arm : (at : ℕ) (of : Ast) → d ≡ ast.Not at of → (typed : TypedPart) (x : Ast) → x ≡ of → IsPart typed (of_tree x)
        → ((part : Part) → IsPart typed part → Tells r (result_map (λ inner. Operand.Condition (expr.Not inner)) (condition part))) → Tells r (of_tree d).typed
    not_arm at of is typed x same part tells =
        told_level d (Ast-F.Not at of) r (is ∙ sym (ast.rolls-Not at of)) (tells (of_tree of) (moved typed x of same part))

    pub minus_arm : (at : ℕ) (of : Ast) → d ≡ ast.Minus at of → (typed : TypedPart) (x : Ast) → x ≡ of → IsPart typed (of_tree x)
        → ((part : Part) → IsPart typed part → Tells r (result_map (λ inner. Operand.Number (term.Minus inner)) (whole part))) → Tells r (of_tree d).typed
    minus_arm at of is typed x same part tells =
        told_level d (Ast-F.Minus at of) r (is ∙ sym (ast.rolls-Minus at of)) (tells (of_tree of) (moved typed x of same part))

    pub compare_arm : (at : ℕ) (cmp : Cmp) (left right : Ast) → d ≡ ast.Compare at cmp left right
        → (first : TypedPart) (x : Ast) → x ≡ left → IsPart first (of_tree x) → (second : TypedPart) (y : Ast) → y ≡ right → IsPart second (of_tree y)
        → ((p : Part) → (q : Part) → IsPart first p → IsPart second q → Tells r (comparison cmp p q)) → Tells r (of_tree d).typed
    compare_arm at cmp left right is first x same part second y same_2 part_2 tells =
        told_level d (Ast-F.Compare at cmp left right) r (is ∙ sym (ast.rolls-Compare at cmp left right))
        (tells (of_tree left) (of_tree right) (moved first x left same part) (moved second y right same_2 part_2))

    pub find_arm : (at : ℕ) (seek : Seek) (left right : Ast) → d ≡ ast.Find at seek left right
        → (first : TypedPart) (x : Ast) → x ≡ left → IsPart first (of_tree x) → (second : TypedPart) (y : Ast) → y ≡ right → IsPart second (of_tree y)
        → ((p : Part) → (q : Part) → IsPart first p → IsPart second q → literal_of y ≡ q.literal → Tells r (search binder.schema.now seek p q)) → Tells r (of_tree d).typed
    find_arm at seek left right is first x same part second y same_2 part_2 tells =
        told_level d (Ast-F.Find at seek left right) r (is ∙ sym (ast.rolls-Find at seek left right))
        (tells (of_tree left) (of_tree right) (moved first x left same part) (moved second y right same_2 part_2) (ap literal_of same_2 ∙ written right))

    pub between_arm : (at : ℕ) (args xs : List Ast) → d ≡ ast.Between at args → xs ≡ args → Tells r (between_at binder at xs) → Tells r (of_tree d).typed
    unfolding between_at
    between_arm at args xs is same told =
        told_level d (Ast-F.Between at args) r (is ∙ sym (ast.rolls-Between at args)) (subst (λ (ys : List Ast). Tells r (between at (map of_tree ys))) same told)

    pub among_arm : (at : ℕ) (args xs : List Ast) → d ≡ ast.InValues at args → xs ≡ args → Tells r (among_at binder at xs) → Tells r (of_tree d).typed
    unfolding among_at
    among_arm at args xs is same told =
        told_level d (Ast-F.InValues at args) r (is ∙ sym (ast.rolls-InValues at args)) (subst (λ (ys : List Ast). Tells r (in_values at (map of_tree ys))) same told)

    pub path_arm : (at : ℕ) (text : List ℕ) → d ≡ ast.Path at text → Tells r (result_map Operand.Path (named binder.schema.now binder.table text)) → Tells r (of_tree d).typed
    path_arm at text is told = told_level d (Ast-F.Path at text) r (is ∙ sym (ast.rolls-Path at text)) told

    pub number_arm : (at value : ℕ) → d ≡ ast.Number at value → Tells r (Ok (Operand.Literal (Literal.Number (pos value)))) → Tells r (of_tree d).typed
    number_arm at value is told = told_level d (Ast-F.Number at value) r (is ∙ sym (ast.rolls-Number at value)) told

    pub text_arm : (at : ℕ) (bytes : List ℕ) → d ≡ ast.Text at bytes → Tells r (Ok (Operand.Literal (Literal.Text bytes))) → Tells r (of_tree d).typed
    text_arm at bytes is told = told_level d (Ast-F.Text at bytes) r (is ∙ sym (ast.rolls-Text at bytes)) told

    pub truth_arm : (at : ℕ) (value : Bool) → d ≡ ast.Truth at value → Tells r (Ok (Operand.Literal (Literal.Truth value))) → Tells r (of_tree d).typed
    truth_arm at value is told = told_level d (Ast-F.Truth at value) r (is ∙ sym (ast.rolls-Truth at value)) told

    pub all_arm : (at : ℕ) → d ≡ ast.All at → Tells r (Ok (Operand.Condition expr.All)) → Tells r (of_tree d).typed
    all_arm at is told = told_level d (Ast-F.All at) r (is ∙ sym (ast.rolls-All at)) told

    pub word_arm : (at : ℕ) (seek : Seek) (text : List ℕ) → d ≡ ast.Word at seek text → Tells r (word binder.columns at seek text) → Tells r (of_tree d).typed
    word_arm at seek text is told = told_level d (Ast-F.Word at seek text) r (is ∙ sym (ast.rolls-Word at seek text)) told

    pub field_arm : (at : ℕ) (path : List ℕ) (test : FieldOp) (text : List ℕ) → d ≡ ast.FieldTest at path test text → Tells r (field binder.schema.now binder.table at path test text) → Tells r (of_tree d).typed
    field_arm at path test text is told = told_level d (Ast-F.FieldTest at path test text) r (is ∙ sym (ast.rolls-FieldTest at path test text)) told
