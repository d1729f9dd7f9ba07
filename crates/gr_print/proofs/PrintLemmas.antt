-- What the tokens of nested arrays print.
use Rattle.std.proofs.Common.{◌≡◌, ℕ, Bool, true, false, cond, ◌&&◌, List, [], ◌∷◌, ◌++◌, map, append_assoc, refl, ap, sym, ◌∙◌}
use Rattle.std.proofs.lemmas.List.{append-nil}
use Rattle.std.specs.List.{flat_map, join_with_byte}
use Rattle.json.specs.Print.{begins, ends, print, print_from, separator, token_text}
use Rattle.json.specs.Token.{Token, begin_array, end_array}
use Rattle.gr_print.specs.Inside.Tokens.{array_of}
use Rattle.gr_values.specs.Shown.{bracketed}

-- the comma after a value
abbrev pub comma : Bool → List ℕ
comma after = cond after (44 ∷ []) []

-- tokens that are one value, and its text
pub record Shows (ts : List Token) (text : List ℕ) : Type 0 where
  pub within : (after : Bool) (rest : List Token) → print_from after (ts ++ rest) ≡ comma after ++ (text ++ print_from true rest)

-- tokens that are the elements of an array, and their texts
abbrev pub tails : List (List ℕ) → List ℕ
tails [] = []
tails (text ∷ texts) = 44 ∷ join_with_byte 44 (text ∷ texts)

pub record ShowsEach (ts : List Token) (texts : List (List ℕ)) : Type 0 where
  pub first : (rest : List Token) → print_from false (ts ++ end_array ∷ rest) ≡ join_with_byte 44 texts ++ 93 ∷ print_from true rest
  pub later : (rest : List Token) → print_from true (ts ++ end_array ∷ rest) ≡ tails texts ++ 93 ∷ print_from true rest

and-true : (b : Bool) → (b && true) ≡ b
and-true true = refl
and-true false = refl

-- one token
pub Shows-token : (t : Token) (text : List ℕ) → begins t ≡ true → ends t ≡ true → token_text t ≡ text → Shows (t ∷ []) text
unfolding print_from
Shows-token t text whole done shows = record {
  within = λ after rest.
      ap (λ b. cond (after && b) (44 ∷ []) [] ++ (token_text t ++ print_from (ends t) rest)) whole
      ∙ ap (λ b. comma b ++ (token_text t ++ print_from (ends t) rest)) (and-true after)
      ∙ ap (λ b. comma after ++ (token_text t ++ print_from b rest)) done
      ∙ ap (λ s. comma after ++ (s ++ print_from true rest)) shows;
}

-- no elements
pub ShowsEach-none : ShowsEach [] []
unfolding print_from
ShowsEach-none = record { first = λ rest. refl; later = λ rest. refl }

join-cons : (text : List ℕ) (texts : List (List ℕ)) → join_with_byte 44 (text ∷ texts) ≡ text ++ tails texts
join-cons text [] = sym (append-nil text)
join-cons text (next ∷ texts) = refl

-- an element before others
pub ShowsEach-one : (ts us : List Token) (text : List ℕ) (texts : List (List ℕ)) → Shows ts text → ShowsEach us texts → ShowsEach (ts ++ us) (text ∷ texts)
ShowsEach-one ts us text texts one more =
    let opened : (after : Bool) (rest : List Token) → print_from after ((ts ++ us) ++ end_array ∷ rest) ≡ comma after ++ (join_with_byte 44 (text ∷ texts) ++ 93 ∷ print_from true rest) =
    λ after rest.
    ap (print_from after) (append_assoc ts us (end_array ∷ rest))
    ∙ one.within after (us ++ end_array ∷ rest)
    ∙ ap (λ s. comma after ++ (text ++ s)) (more.later rest)
    ∙ ap (λ s. comma after ++ s) (sym (append_assoc text (tails texts) (93 ∷ print_from true rest)))
    ∙ ap (λ s. comma after ++ (s ++ 93 ∷ print_from true rest)) (sym (join-cons text texts)) in
    record { first = opened false; later = opened true }

-- an array of them
pub Shows-array : (ts : List Token) (texts : List (List ℕ)) → ShowsEach ts texts → Shows (begin_array ∷ (ts ++ end_array ∷ [])) (bracketed texts)
unfolding print_from
Shows-array ts texts each = record {
  within = λ after rest.
      ap (λ us. separator after begin_array ++ 91 ∷ print_from false us) (append_assoc ts (end_array ∷ []) rest)
      ∙ ap (λ b. comma b ++ 91 ∷ print_from false (ts ++ end_array ∷ rest)) (and-true after)
      ∙ ap (λ s. comma after ++ 91 ∷ s) (each.first rest)
      ∙ ap (λ s. comma after ++ 91 ∷ s) (sym (append_assoc (join_with_byte 44 texts) (93 ∷ []) (print_from true rest)));
}

-- elements, each by itself
pub ShowsEach-map : {X : Type 0} (tokens : X → List Token) (text : X → List ℕ) (shows : (x : X) → Shows (tokens x) (text x)) (xs : List X) → ShowsEach (flat_map tokens xs) (map text xs)
ShowsEach-map tokens text shows [] = ShowsEach-none
ShowsEach-map tokens text shows (x ∷ xs) = ShowsEach-one (tokens x) (flat_map tokens xs) (text x) (map text xs) (shows x) (ShowsEach-map tokens text shows xs)

pub Shows-array_of : {X : Type 0} (tokens : X → List Token) (text : X → List ℕ) (shows : (x : X) → Shows (tokens x) (text x)) (xs : List X) → Shows (array_of tokens xs) (bracketed (map text xs))
Shows-array_of tokens text shows xs = Shows-array (flat_map tokens xs) (map text xs) (ShowsEach-map tokens text shows xs)

-- elements of one token each
pub ShowsEach-tokens : {X : Type 0} (token : X → Token) (text : X → List ℕ) (shows : (x : X) → Shows (token x ∷ []) (text x)) (xs : List X) → ShowsEach (map token xs) (map text xs)
ShowsEach-tokens token text shows [] = ShowsEach-none
ShowsEach-tokens token text shows (x ∷ xs) = ShowsEach-one (token x ∷ []) (map token xs) (text x) (map text xs) (shows x) (ShowsEach-tokens token text shows xs)

-- a text that stands alone
pub print-Shows : (ts : List Token) (text : List ℕ) → Shows ts text → print ts ≡ text
unfolding print_from
print-Shows ts text shows = ap print (sym (append-nil ts)) ∙ shows.within false [] ∙ append-nil text
