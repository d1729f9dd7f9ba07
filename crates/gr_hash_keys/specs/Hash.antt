-- The hash of a key.
use Rattle.std.specs.Prelude.{ℕ, ◌*◌, ◌/◌, ◌%◌, ◌^◌, List, fold}
use Rattle.std.specs.Prelude.{bit_xor}

-- one step of FNV-1a
unfoldable pub stepped : ℕ → ℕ → ℕ
stepped hash byte = bit_xor hash byte * 1099511628211 % 2 ^ 64

-- the finalizer of MurmurHash3
unfoldable pub mixed : ℕ → ℕ
mixed hash =
    let once = bit_xor hash (hash / 2 ^ 33) * 18397679294719823053 % 2 ^ 64 in
    let twice = bit_xor once (once / 2 ^ 33) * 14181476777654086739 % 2 ^ 64 in
    bit_xor twice (twice / 2 ^ 33)

-- FNV-1a over the bytes, and then the finalizer
unfoldable pub key_hash : List ℕ → ℕ
key_hash key = mixed (fold stepped 14695981039346656037 key)
