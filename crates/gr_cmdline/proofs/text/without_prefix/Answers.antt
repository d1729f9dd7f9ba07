use Rattle.std.proofs.Common.{◌≡◌, ◌==◌, ℕ, Bool, true, false, cond, List, Option, Some, None, drop, length, option_map, ap, subst, sym, ◌∙◌}
use Rattle.std.specs.Prelude.{MatchOption}
use Rattle.std.specs.Borrow.{Bor}
use Rattle.std.specs.List.{starts_with}
use Rattle.std.specs.Str.{IsCharBoundary}
use Rattle.std.specs.Str.Pattern.{FindsTextPrefix, StripsPrefix}
use Rattle.std.proofs.lemmas.Str.Pattern.{starts_text}
use Rattle.gr_cmdline.proofs.text.without_prefix.Goals as goal

-- the clause of `strip_prefix` at a text
stripped : (front text : List ℕ) (r : Option (Bor (List ℕ))) → MatchOption r (FindsTextPrefix front text None) (λ x. StripsPrefix (FindsTextPrefix front) text x.now)
    → option_map (λ rest. rest.now) r ≡ cond (starts_with ◌==◌ text front) (Some (drop (length front) text)) None
stripped front text None none = ap (λ (b : Bool). cond b (Some (drop (length front) text)) None) (starts_text false front text none)
stripped front text (Some rest) (n, found, is, long) =
    ap Some (is ∙ ap (λ count. drop count text) found.0)
    ∙ ap (λ (b : Bool). cond b (Some (drop (length front) text)) None) (starts_text true front text (n, found, subst (λ count. IsCharBoundary text count) (sym found.0) found.2))

pub returns : goal.returns
returns c = stripped c.args.front.now c.args.text.now c.strip_prefix.result c.strip_prefix.ensures.cases
