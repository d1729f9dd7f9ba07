-- How far names joined by dots go.
use Rattle.std.proofs.Common.{◌≡◌, ℕ, zero, suc, ◌+◌, ◌<◌, List, [], ◌∷◌, drop, refl, ap, arith, one-add}
use Rattle.std.proofs.lemmas.Bool.{lt-ltb}
use Rattle.gr_text.specs.Paths.{name_len, names_len, path_len}

-- what is still to pass may be left out
pub names_len-pass : (pass : ℕ) (bytes : List ℕ) → names_len pass bytes ≡ names_len 0 (drop pass bytes)
names_len-pass zero bytes = refl
names_len-pass (suc pass) [] = refl
names_len-pass (suc pass) (c ∷ cs) = names_len-pass pass cs

-- a path goes on where its first name ends
pub path_len-first : (bytes : List ℕ) → 0 < name_len bytes → path_len bytes ≡ name_len bytes + names_len 0 (drop (name_len bytes) bytes)
path_len-first bytes some = rw (lt-ltb 0 (name_len bytes) some) (ap (λ n. name_len bytes + n) (names_len-pass (name_len bytes) bytes))

-- a dot and a name take a path further
pub names_len-name : (others : List ℕ) → 0 < name_len others → names_len 0 (46 ∷ others) ≡ 1 + name_len others + names_len 0 (drop (name_len others) others)
names_len-name others some = rw (lt-ltb 0 (name_len others) some) (ap (λ n. 1 + name_len others + n) (names_len-pass (name_len others) others))

-- a dot and a name of so many bytes stand at the front
pub record BeginsName (bytes : List ℕ) (len : ℕ) : Type 0 where
  pub first : ℕ
  pub others : List ℕ
  pub parts : bytes ≡ first ∷ others
  pub dot : first ≡ 46
  pub counted : len ≡ name_len others
  pub some : 0 < len

pub names_len-BeginsName : {bytes : List ℕ} {len : ℕ} → BeginsName bytes len → names_len 0 bytes ≡ 1 + len + names_len 0 (drop (1 + len) bytes)
names_len-BeginsName {bytes} {len} begins =
    let some : 0 < name_len begins.others = omega (arith, begins.counted, begins.some) in
    rw (begins.parts, begins.dot, begins.counted, names_len-name begins.others some, one-add) refl
