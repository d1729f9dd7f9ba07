-- What is seen of a node, and what an addition makes of it.
use Rattle.std.specs.Prelude.{ℕ, ◌≡◌, ◌≤◌, List, refl}
use Rattle.std.specs.Coded.{Coded, code_by, coded_list, coded_ℕ, coded×}
use Rattle.gr_key_tree.specs.Pairs.{Pair, record_code}

-- the pairs in the order of their keys, the levels below this one, and how many entries or children the node itself has
pub record Seen : Type 0 where
  pub pairs : List Pair
  pub height : ℕ
  pub count : ℕ

abbrev pub seen_code : Coded Seen
seen_code = code_by (List Pair × (ℕ × ℕ)) (coded× (coded_list (coded× (coded_list coded_ℕ) record_code)) (coded× coded_ℕ coded_ℕ))
    (λ seen. (seen.pairs, (seen.height, seen.count))) (λ stored. record { pairs = stored.0; height = stored.1.0; count = stored.1.1 }) (λ _. refl)

-- the same height, and no fewer entries or children
pub record Stays (old new : Seen) : Type 0 where
  pub height : new.height ≡ old.height
  pub count : old.count ≤ new.count

-- what is seen of a child: the key of its first pair, and its node
pub record Part : Type 0 where
  pub cut : List ℕ
  pub node : Seen

abbrev pub part_code : Coded Part
part_code = code_by (List ℕ × Seen) (coded× (coded_list coded_ℕ) seen_code) (λ part. (part.cut, part.node)) (λ stored. record { cut = stored.0; node = stored.1 }) (λ _. refl)
