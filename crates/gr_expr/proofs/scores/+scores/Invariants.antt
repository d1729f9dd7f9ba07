-- What is left to do leads from here to where all of it does.
use Rattle.std.proofs.Common.{◌≡◌, map, take}
use Rattle.std.specs.Option.{option_map}
use Rattle.gr_base.specs.declared.compare.Cmp.TheVariants.{Eq}
use Rattle.std.specs.List.{list_all, list_any}
use Rattle.std.specs.Prelude.{is_some, true}
use Rattle.gr_expr.specs.Inside.Lent.{literal}
use Rattle.gr_expr.specs.Score.{chain_score, combined_of, holds, joined_of, worth_of}
use Rattle.gr_expr.specs.Values.{calc_worth}
use Rattle.gr_expr.proofs.scores.+scores.Given as goal

abbrev pub invariant-calc-loop-next : goal.invariant-calc-loop-next
invariant-calc-loop-next g l =
    option_map literal l.number ≡ calc_worth (option_map literal l.first) (map (combined_of (g.R.Rows.tables l.rows) l.id) (take l.next-index l.rest))

abbrev pub invariant-chain-loop-next : goal.invariant-chain-loop-next
invariant-chain-loop-next g l = l.all ≡ chain_score l.first (map (joined_of (g.R.Rows.tables l.rows) l.id) (take l.next-index l.rest))

-- each so far has a value, and the sought one is found among them or not
abbrev pub invariant-is_among-loop-other : goal.invariant-is_among-loop-other
invariant-is_among-loop-other g l =
    let worths = map (worth_of (g.R.Rows.tables l.rows) l.id) (take l.other-index l.others) in
    (list_all is_some worths ≡ true) × (l.found ≡ list_any (holds Eq (option_map literal l.sought)) worths)
