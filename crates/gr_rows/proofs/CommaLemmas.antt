-- Where the last comma and the last bracket of load data stand.
use Rattle.std.proofs.Common.{◌≡◌, ℕ, suc, ◌<◌, ◌≢◌, ◌&&◌, Bool, false, true, List, [], ◌∷◌, ◌++◌, length, take, drop, get_or, Option, Some, None, option_map, MatchOption, Bor, sym, ap, refl, ◌∙◌, arith, lit<}
use Rattle.std.proofs.lemmas.Bool.{ne_eqb}
use Rattle.std.proofs.lemmas.List.{take-append-drop}
use Rattle.std.proofs.lemmas.Str.Pattern.{NoCharPasses-char, drop_at_char, IsSplitOnceResult, split_parts}
use Rattle.std.specs.List.{list_all}
use Rattle.std.specs.Str.Pattern.{RFindsChar, SplitsAroundMatch}
use Rattle.gr_rows.specs.Text.{around_last_comma, closes, is_white}

-- the byte c stands nowhere in these bytes
abbrev Lacks : ℕ → List ℕ → Type 0
Lacks c bytes = (i : ℕ) → i < length bytes → get_or bytes i 0 ≢ c

later : (c first : ℕ) (bytes : List ℕ) → Lacks c (first ∷ bytes) → Lacks c bytes
later c first bytes lacks i within = lacks (suc i) (omega arith)

no_comma : (bytes : List ℕ) → Lacks 44 bytes → around_last_comma bytes ≡ None
no_comma [] lacks = refl
no_comma (c ∷ cs) lacks = rw (no_comma cs (later 44 c cs lacks), ne_eqb c 44 (lacks 0 (omega arith)))

comma_between : (before after : List ℕ) → Lacks 44 after → around_last_comma (before ++ 44 ∷ after) ≡ Some (before, after)
comma_between [] after lacks = rw (no_comma after lacks)
comma_between (c ∷ before) after lacks = rw (comma_between before after lacks)

-- what `rsplit_once` gives at a comma
pub parts_at_comma : (text : List ℕ) (parts : Option (Bor (List ℕ) × Bor (List ℕ)))
    → MatchOption parts (RFindsChar 44 text None) (λ x. SplitsAroundMatch (RFindsChar 44) text x.0.now x.1.now)
    → option_map (λ x. (x.0.now, x.1.now)) parts ≡ around_last_comma text
parts_at_comma text None found = sym (no_comma text (λ i within. NoCharPasses-char 44 text i found (lit< tt) within))
parts_at_comma text (Some x) found =
    let at : drop found.0 text ≡ 44 ∷ drop found.1 text = drop_at_char 44 text found.0 found.1 found.2.1 (lit< tt) in
    let whole : take found.0 text ++ (44 ∷ drop found.1 text) ≡ text = rw (← at) (take-append-drop found.0 text) in
    let lacks : Lacks 44 (drop found.1 text) = λ i within. NoCharPasses-char 44 (drop found.1 text) i found.2.0 (lit< tt) within in
    let cut : around_last_comma text ≡ Some (take found.0 text, drop found.1 text) = ap around_last_comma (sym whole) ∙ comma_between (take found.0 text) (drop found.1 text) lacks in
    rw (found.3, found.4) (sym cut)

no_bracket : (bytes : List ℕ) → Lacks 93 bytes → closes bytes ≡ false
no_bracket [] lacks = refl
no_bracket (c ∷ cs) lacks = rw (ne_eqb c 93 (lacks 0 (omega arith)), no_bracket cs (later 93 c cs lacks)) (and_false (is_white c))
  where
    and_false : (b : Bool) → (b && false) ≡ false
    and_false true = refl
    and_false false = refl

bracket_between : (before after : List ℕ) → Lacks 93 before → closes (before ++ 93 ∷ after) ≡ (list_all is_white before && list_all is_white after)
bracket_between [] after lacks = refl
bracket_between (c ∷ before) after lacks = rw (ne_eqb c 93 (lacks 0 (omega arith)), bracket_between before after (later 93 c before lacks)) (and_assoc (is_white c) (list_all is_white before) (list_all is_white after))
  where
    and_assoc : (a b c : Bool) → (a && (b && c)) ≡ ((a && b) && c)
    and_assoc true b c = refl
    and_assoc false b c = refl

-- whether what `split_once` gives at a bracket is white space
abbrev pub blank_parts : Option (Bor (List ℕ) × Bor (List ℕ)) → Bool
blank_parts None = false
blank_parts (Some x) = list_all is_white x.0.now && list_all is_white x.1.now

pub closes_by_parts : (text : List ℕ) (parts : Option (Bor (List ℕ) × Bor (List ℕ))) → IsSplitOnceResult 93 text parts → closes text ≡ blank_parts parts
closes_by_parts text None found = no_bracket text (split_parts 93 text None found (lit< tt))
closes_by_parts text (Some x) found =
    let parts = split_parts 93 text (Some x) found (lit< tt) in
    ap closes parts.0 ∙ bracket_between x.0.now x.1.now parts.1
