-- Blocks, each behind a comma.
use Rattle.std.proofs.Common.{◌≡◌, ℕ, ◌+◌, ◌<◌, List, [], ◌∷◌, ◌++◌, length, map, take, get_or, sym, ap, ◌∙◌}
use Rattle.std.proofs.lemmas.List.{append-nil, flat_map_more, map-append, take_more}
use Rattle.std.specs.List.{flat_map, join_with_byte}
use Rattle.gr_select.specs.Inside.Layouts.{behind_comma}
use Rattle.gr_values.specs.Shown.{bracketed}

-- one block more
pub blocks-more : {X : Type 0} (block : X → List ℕ) (before : List ℕ) (xs : List X) (i : ℕ) (d x : X) (mid new made : List ℕ) → i < length xs → x ≡ get_or xs i d
    → mid ≡ before ++ flat_map behind_comma (map block (take i xs)) → made ≡ block x → new ≡ mid ++ behind_comma made → new ≡ before ++ flat_map behind_comma (map block (take (i + 1) xs))
blocks-more block before xs i d x mid new made here is so_far shown written =
    let taken : take (i + 1) xs ≡ take i xs ++ x ∷ [] = take_more xs i d here ∙ ap (λ y. take i xs ++ y ∷ []) (sym is) in
    written ∙ ap (λ text. text ++ behind_comma made) so_far ∙ ap (λ text. (before ++ flat_map behind_comma (map block (take i xs))) ++ behind_comma text) shown
    ∙ flat_map_more behind_comma before (map block (take i xs)) (block x)
    ∙ ap (λ ys. before ++ flat_map behind_comma ys) (sym (map-append block (take i xs) (x ∷ [])))
    ∙ ap (λ ys. before ++ flat_map behind_comma (map block ys)) (sym taken)

-- texts with commas between them
joined : (text : List ℕ) (texts : List (List ℕ)) → join_with_byte 44 (text ∷ texts) ≡ text ++ flat_map behind_comma texts
joined text [] = sym (append-nil text)
joined text (next ∷ texts) = ap (λ more. text ++ 44 ∷ more) (joined next texts)

-- a text and others, each of these behind a comma, in brackets
pub bracketed-first : (text : List ℕ) (texts : List (List ℕ)) → ((([] ++ 91 ∷ []) ++ text) ++ flat_map behind_comma texts) ++ 93 ∷ [] ≡ bracketed (text ∷ texts)
bracketed-first text texts = ap (λ more. 91 ∷ (more ++ 93 ∷ [])) (sym (joined text texts))
