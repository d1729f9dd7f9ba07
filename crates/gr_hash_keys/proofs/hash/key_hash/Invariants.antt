use Rattle.std.proofs.Common.{◌≡◌, take}
use Rattle.std.specs.Prelude.{fold}
use Rattle.gr_hash_keys.specs.Hash.{stepped}
use Rattle.gr_hash_keys.proofs.hash.key_hash.Given as goal

abbrev pub invariant-loop-byte : goal.invariant-loop-byte
invariant-loop-byte l = l.hash ≡ fold stepped 14695981039346656037 (take l.byte-index l.key)
