-- A command's own entries in a journal that grows, and those that it has just published.
use Rattle.std.proofs.Common.{◌≡◌, ℕ, ◌+◌, ◌<◌, ◌≤◌, true, false, if◌then◌else◌, Some, zero, suc, List, [], ◌∷◌, ◌++◌, length, map, take, refl, sym, ap, ◌∙◌, arith, zero-add, add-zero, add-one, append-nil, append_assoc, eq-eqb}
use Rattle.std.specs.List.{AllByRecursion, slice_get}
use Rattle.gr_db.specs.declared.entry.Change.{Change}
use Rattle.gr_db.specs.declared.entry.Entry.{Entry}
use Rattle.gr_session.specs.Entries.{entries_of, entry_of}
use Rattle.gr_session.specs.Own.{is_own, own, own_from}
use Rattle.gr_session.specs.Reply.{after_last}

-- an entry with its place, where it is of the command
abbrev placed : ℕ → ℕ → ℕ → Entry → List (ℕ × Entry)
placed place session command entry = if is_own session command entry then (place, entry) ∷ [] else []

pub own_from-append : (place session command : ℕ) (first more : List Entry) → own_from place session command (first ++ more) ≡ own_from place session command first ++ own_from (place + length first) session command more
own_from-append place session command [] more = rw add-zero
own_from-append place session command (entry ∷ first) more =
    let further : place + 1 + length first ≡ place + length (entry ∷ first) = omega arith in
    let rest = own_from-append (place + 1) session command first more ∙ ap (λ at. own_from (place + 1) session command first ++ own_from at session command more) further in
    ap (λ others. placed place session command entry ++ others) rest ∙ sym (append_assoc (placed place session command entry) (own_from (place + 1) session command first) (own_from (place + length (entry ∷ first)) session command more))

pub own_from-others : (place session command : ℕ) (entries : List Entry) → AllByRecursion (λ entry. is_own session command entry ≡ false) entries → own_from place session command entries ≡ []
own_from-others place session command [] others = refl
own_from-others place session command (entry ∷ entries) others = rw others.0 (own_from-others (place + 1) session command entries others.1)

pub own-more : (journal more : List Entry) (session command : ℕ) → AllByRecursion (λ entry. is_own session command entry ≡ false) more → own session command (journal ++ more) ≡ own session command journal
own-more journal more session command others =
    own_from-append 0 session command journal more ∙ ap (λ rest. own session command journal ++ rest) (own_from-others (0 + length journal) session command more others) ∙ append-nil (own session command journal)

-- entries with their places, counted on from this one
abbrev pub placed_from : ℕ → List Entry → List (ℕ × Entry)
placed_from place [] = []
placed_from place (entry ∷ entries) = (place, entry) ∷ placed_from (place + 1) entries

-- each entry is of the command
abbrev pub AreOwn : ℕ → ℕ → List Entry → Type 0
AreOwn session command entries = AllByRecursion (λ entry. is_own session command entry ≡ true) entries

own_from-all : (place session command : ℕ) (entries : List Entry) → AreOwn session command entries → own_from place session command entries ≡ placed_from place entries
own_from-all place session command [] all = refl
own_from-all place session command (entry ∷ entries) all = rw all.0 (ap (λ others. (place, entry) ∷ others) (own_from-all (place + 1) session command entries all.1))

-- where nothing was the command's before, its entries are those behind
pub own-grown : (session command : ℕ) (journal added : List Entry) → own session command journal ≡ [] → AreOwn session command added → own session command (journal ++ added) ≡ placed_from (length journal) added
own-grown session command journal added none all =
    own_from-append 0 session command journal added
    ∙ ap (λ first. first ++ own_from (0 + length journal) session command added) none
    ∙ ap (λ place. own_from place session command added) (zero-add (length journal))
    ∙ own_from-all (length journal) session command added all

pub entries-placed : (place : ℕ) (entries : List Entry) → map (λ placed. placed.1) (placed_from place entries) ≡ entries
entries-placed place [] = refl
entries-placed place (entry ∷ entries) = ap (λ others. entry ∷ others) (entries-placed (place + 1) entries)

pub length-placed : (place : ℕ) (entries : List Entry) → length (placed_from place entries) ≡ length entries
length-placed place [] = refl
length-placed place (entry ∷ entries) = ap suc (length-placed (place + 1) entries)

pub places-placed : (low high place : ℕ) (entries : List Entry) → low ≤ place → place + length entries ≤ high → AllByRecursion (λ placed. (low ≤ placed.0) × (placed.0 < high)) (placed_from place entries)
places-placed low high place [] above below = tt
places-placed low high place (entry ∷ entries) above below = ((above, omega arith), places-placed low high (place + 1) entries (omega arith) (omega arith))

pub after_last-placed : (place : ℕ) (entries : List Entry) → after_last place (placed_from place entries) ≡ place + length entries
after_last-placed place [] = sym (add-zero place)
after_last-placed place (entry ∷ entries) =
    let further : place + 1 + length entries ≡ place + length (entry ∷ entries) = omega arith in
    after_last-placed (place + 1) entries ∙ further

is_own-entry : (session command part : ℕ) (change : Change) → is_own session command (entry_of session command part change) ≡ true
is_own-entry session command part change = rw (eq-eqb session session refl, eq-eqb command command refl)

AreOwn-entries : (session command part : ℕ) (changes : List Change) → AreOwn session command (entries_of session command part changes)
AreOwn-entries session command part [] = tt
AreOwn-entries session command part (change ∷ changes) = (is_own-entry session command part change, AreOwn-entries session command (part + 1) changes)

AreOwn-take : (session command n : ℕ) (entries : List Entry) → AreOwn session command entries → AreOwn session command (take n entries)
AreOwn-take session command zero entries all = tt
AreOwn-take session command (suc n) [] all = tt
AreOwn-take session command (suc n) (entry ∷ entries) all = (all.0, AreOwn-take session command n entries all.1)

-- the first entries that a command asks for are its own
pub AreOwn-first : (session command made : ℕ) (changes : List Change) → AreOwn session command (take made (entries_of session command 0 changes))
AreOwn-first session command made changes = AreOwn-take session command made (entries_of session command 0 changes) (AreOwn-entries session command 0 changes)

entries-next : (session command part made : ℕ) (changes : List Change) (change : Change) → slice_get changes made ≡ Some change
    → take (suc made) (entries_of session command part changes) ≡ take made (entries_of session command part changes) ++ entry_of session command (part + made) change ∷ []
entries-next session command part made [] change is = cc
entries-next session command part zero (first ∷ changes) change is = rw add-zero (let same : first ≡ change = cc in rw same)
entries-next session command part (suc made) (first ∷ changes) change is =
    let further : part + 1 + made ≡ part + suc made = omega arith in
    ap (λ others. entry_of session command part first ∷ others)
    (entries-next session command (part + 1) made changes change is
    ∙ ap (λ at. take made (entries_of session command (part + 1) changes) ++ entry_of session command at change ∷ []) further)

-- one entry more of those asked for
pub entries-more : (session command made : ℕ) (changes : List Change) (change : Change) → slice_get changes made ≡ Some change
    → take (made + 1) (entries_of session command 0 changes) ≡ take made (entries_of session command 0 changes) ++ entry_of session command made change ∷ []
entries-more session command made changes change is =
    ap (λ count. take count (entries_of session command 0 changes)) (add-one made)
    ∙ entries-next session command 0 made changes change is
    ∙ ap (λ at. take made (entries_of session command 0 changes) ++ entry_of session command at change ∷ []) (zero-add made)
