-- What a search for a line feed says of the bytes before it, where the first ones were searched before.
use Rattle.std.proofs.Common.{◌≡◌, ℕ, Bool, ◌+◌, ◌-◌, ◌<◌, ◌≤◌, ◌⊎◌, true, false, List, ◌∷◌, Option, Some, None, All, length, take, drop, get_or, sym, ap, subst, ◌∙◌, add-one, drop-cons, ⊎_elim, arith}
use Rattle.std.proofs.lemmas.List.{drop-drop, drop-take, get_or-drop, get_or-take, length-drop, length-take-le, take_rest}
use Rattle.std.proofs.lemmas.Bool.{cases_lt, cases_Bool, eqb-true, false≢true}
use Rattle.std.proofs.lemmas.List.Elements.{All-drop, All-from_get_or, All-get_or, All-nil, All-take}
use Rattle.std.specs.Ordering.{nat_cmp, ord_max}
use Rattle.std.proofs.lemmas.Bool.Decides.{nat_tests}
use Rattle.memchr.specs.Find.{IsFirstByte, is_byte}
use Rattle.gr_cmdline.specs.Commands.{is_line_end}

-- no byte passes a test
abbrev pub IsClear : (ℕ → Bool) → List ℕ → Type 0
IsClear test bytes = All (λ c. test c ≡ false) bytes

-- no byte is a line feed
abbrev pub IsOpen : List ℕ → Type 0
IsOpen bytes = IsClear is_line_end bytes

absent : (bytes : List ℕ) (seen k : ℕ) → seen ≤ length bytes → k < seen → IsOpen (take seen bytes) → is_byte 10 (get_or bytes k 0) ≡ true → ⊥
absent bytes seen k within below clear found =
    let long : k < length (take seen bytes) = rw (length-take-le seen bytes within) below in
    let none : is_line_end (get_or bytes k 0) ≡ false = rw (get_or-take seen bytes k 0 below) at (All-get_or (λ c. is_line_end c ≡ false) (take seen bytes) k 0 long clear) in
    false≢true (sym none ∙ found)

moved : (bytes : List ℕ) (seen k : ℕ) → seen ≤ k → get_or (drop seen bytes) (k - seen) 0 ≡ get_or bytes k 0
moved bytes seen k low = get_or-drop seen bytes (k - seen) 0 ∙ ap (λ n. get_or bytes n 0) (let e : seen + (k - seen) ≡ k = omega arith in e)

-- nothing is found where nothing was found before and nothing in the rest
pub found_none : (bytes : List ℕ) (seen : ℕ) → seen ≤ length bytes → IsOpen (take seen bytes) → IsFirstByte (is_byte 10) (drop seen bytes) None → IsFirstByte (is_byte 10) bytes None
found_none bytes seen within clear rest k low high found =
    ⊎_elim
    (λ before. absent bytes seen k within before clear found)
    (λ behind. rest (k - seen) (omega arith) (omega (arith, length-drop seen bytes)) (rw (moved bytes seen k behind) found))
    (cases_lt k seen)

-- the first line feed of the rest is the first of all
pub found_some : (bytes : List ℕ) (seen further n : ℕ) → seen ≤ length bytes → IsOpen (take seen bytes) → n ≡ seen + further → IsFirstByte (is_byte 10) (drop seen bytes) (Some further) → IsFirstByte (is_byte 10) bytes (Some n)
found_some bytes seen further n within clear same (range, at) = (
  record {
    low = omega arith;
    high = omega (arith, range.high, length-drop seen bytes);
    before = λ k low high found.
        ⊎_elim
        (λ before. absent bytes seen k within before clear found)
        (λ behind. range.before (k - seen) (omega arith) (omega arith) (rw (moved bytes seen k behind) found))
        (cases_lt k seen);
  },
  rw (same, ← get_or-drop seen bytes further 0) at,
)

not_found : (test : ℕ → Bool) (c : ℕ) → (test c ≡ true → ⊥) → test c ≡ false
not_found test c unless = ⊎_elim (λ yes. absurd (unless yes)) (λ other. other) (cases_Bool (test c))

-- where none is found no byte passes the test
pub IsClear-none : (test : ℕ → Bool) (bytes : List ℕ) → IsFirstByte test bytes None → IsClear test bytes
IsClear-none test bytes none = All-from_get_or (λ c. test c ≡ false) bytes 0 (λ k high. not_found test (get_or bytes k 0) (none k (omega arith) high))

-- no byte before the one that is found passes the test
pub IsClear-some : (test : ℕ → Bool) (bytes : List ℕ) (n : ℕ) → IsFirstByte test bytes (Some n) → IsClear test (take n bytes)
IsClear-some test bytes n (range, at) =
    All-from_get_or (λ c. test c ≡ false) (take n bytes) 0
    (λ k high.
    let below : k < n = omega (arith, range.high, length-take-le n bytes) in
    rw (get_or-take n bytes k 0 below) (not_found test (get_or bytes k 0) (range.before k (omega arith) below)))

-- the byte that is found
pub drop-found : (bytes : List ℕ) (n : ℕ) → IsFirstByte (is_byte 10) bytes (Some n) → drop n bytes ≡ 10 ∷ drop (n + 1) bytes
drop-found bytes n (range, at) = drop-cons bytes n 0 range.high ∙ rw (eqb-true (get_or bytes n 0) 10 at, add-one)

-- no line feed stands from one place up to another
abbrev pub IsSearched : List ℕ → ℕ → ℕ → Type 0
IsSearched items at searched = (at ≤ searched) × (searched ≤ length items) × IsOpen (take (searched - at) (drop at items))

-- a search of the bytes behind those
abbrev pub FindsBehind : List ℕ → ℕ → Option ℕ → Type 0
FindsBehind items searched place = IsFirstByte (is_byte 10) (take (length items - searched) (drop searched items)) place

behind : (items : List ℕ) (at searched : ℕ) (place : Option ℕ) → at ≤ searched → FindsBehind items searched place → IsFirstByte (is_byte 10) (drop (searched - at) (drop at items)) place
behind items at searched place order found =
    let P : List ℕ → Type 0 = λ rest. IsFirstByte (is_byte 10) rest place in
    let same : take (length items - searched) (drop searched items) ≡ drop (searched - at) (drop at items) =
    take_rest items searched ∙ ap (λ n. drop n items) (let e : searched ≡ at + (searched - at) = omega arith in e) ∙ sym (drop-drop (searched - at) at items) in
    subst P same found

within_rest : (items : List ℕ) (at searched : ℕ) → searched ≤ length items → searched - at ≤ length (drop at items)
within_rest items at searched within = omega (arith, length-drop at items)

pub place-some : (items found_in : List ℕ) (at searched further : ℕ) → IsSearched items at searched → found_in ≡ items → FindsBehind found_in searched (Some further) → IsFirstByte (is_byte 10) (drop at items) (Some (searched + further - at))
place-some items found_in at searched further (order, within, clear) same found =
    found_some (drop at items) (searched - at) further (searched + further - at) (within_rest items at searched within) clear (omega arith) (behind items at searched (Some further) order (rw same at found))

pub place-none : (items found_in : List ℕ) (at searched : ℕ) → IsSearched items at searched → found_in ≡ items → FindsBehind found_in searched None → IsFirstByte (is_byte 10) (drop at items) None
place-none items found_in at searched (order, within, clear) same found =
    found_none (drop at items) (searched - at) (within_rest items at searched within) clear (behind items at searched None order (rw same at found))

pub IsSearched-some : (items : List ℕ) (at searched further : ℕ) → IsSearched items at searched → IsFirstByte (is_byte 10) (drop at items) (Some (searched + further - at)) → IsSearched items at (searched + further)
IsSearched-some items at searched further (order, within, clear) found = (
  omega arith,
  omega (arith, found.0.high, length-drop at items),
  IsClear-some is_line_end (drop at items) (searched + further - at) found,
)

pub IsSearched-none : (items : List ℕ) (at searched : ℕ) → IsSearched items at searched → IsFirstByte (is_byte 10) (drop at items) None → IsSearched items at (length items)
IsSearched-none items at searched (order, within, clear) found = (
  omega arith,
  omega arith,
  All-take (λ c. is_line_end c ≡ false) (length items - at) (drop at items) (IsClear-none is_line_end (drop at items) found),
)

max_cases : (a b : ℕ) → ((b < a) × (ord_max nat_cmp a b ≡ a)) ⊎ ((a ≤ b) × (ord_max nat_cmp a b ≡ b))
max_cases a b = grind (arith, nat_tests)

IsSearched-behind : (items : List ℕ) (at searched further : ℕ) → IsSearched items at searched → at + further ≤ searched → IsSearched items (at + further) searched
IsSearched-behind items at searched further (order, within, clear) low = (
  low,
  within,
  let P : List ℕ → Type 0 = IsOpen in
      let same : drop further (take (further + (searched - (at + further))) (drop at items)) ≡ take (searched - (at + further)) (drop (at + further) items) =
      drop-take further (searched - (at + further)) (drop at items) ∙ ap (take (searched - (at + further))) (drop-drop further at items) in
      let count : searched - at ≡ further + (searched - (at + further)) = omega arith in
      subst P same (All-drop (λ c. is_line_end c ≡ false) further _ (rw count at clear)),
)

-- bytes are behind_first_line, and those that were searched behind them stay so
pub IsSearched-pass : (items : List ℕ) (at searched further : ℕ) → IsSearched items at searched → at + further ≤ length items → IsSearched items (at + further) (ord_max nat_cmp searched (at + further))
IsSearched-pass items at searched further searched_to within =
    ⊎_elim
    (λ before. rw before.1 (IsSearched-behind items at searched further searched_to (omega (arith, before.0))))
    (λ past. rw past.1 (omega arith, within, let none : at + further - (at + further) ≡ 0 = omega arith in rw none (All-nil (λ c. is_line_end c ≡ false))))
    (max_cases searched (at + further))
