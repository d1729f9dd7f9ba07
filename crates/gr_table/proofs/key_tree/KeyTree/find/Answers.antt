use Rattle.std.proofs.Common.{◌≡◌, ℕ, ℤ, List, sym, ap, ◌∙◌, rules}
use Rattle.std.specs.FinMap.{get}
use Rattle.std.specs.Int.{w128, cast_unsigned, to_be_bytes}
use Rattle.gr_values.specs.declared.value.Key.{Key}
use Rattle.gr_table.specs.Inside.Bytes.{key_bytes}
use Rattle.gr_table.specs.Inside.Trees.{map_of}
use Rattle.gr_table.proofs.key_tree.KeyTree.find.Goals as goal

number_bytes : (key : Key) (number : ℤ) (bytes : List ℕ) → key ≡ Key.Number number → bytes ≡ to_be_bytes w128 (cast_unsigned w128 number) → bytes ≡ key_bytes key
number_bytes key number bytes is made = made ∙ sym (ap key_bytes is)

pub returns-in-Number : goal.returns-in-Number
returns-in-Number c = c.find_bytes.ensures ∙ ap (get (map_of c.args.self.now)) (number_bytes c.args.key.now c.in-Number.number c.to_be_bytes.result c.in-Number.is (search (rules, c.to_be_bytes.ensures)))
