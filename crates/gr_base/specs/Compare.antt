-- What each comparison says of how two values are ordered.
use Rattle.std.specs.Prelude.{Bool, true, false}
use Rattle.std.specs.declared.cmp.Ordering.{Ordering}
use Rattle.std.specs.declared.cmp.Ordering.TheVariants.{Less, Equal, Greater}
use Rattle.gr_base.specs.declared.compare.Cmp.{Cmp}
use Rattle.gr_base.specs.declared.compare.Cmp.TheVariants.{Eq, Ne, Lt, Le, Gt, Ge}

-- whether two values that are ordered so meet the comparison
abbrev pub is_met : Cmp → Ordering → Bool
is_met Eq Less = false
is_met Eq Equal = true
is_met Eq Greater = false
is_met Ne Less = true
is_met Ne Equal = false
is_met Ne Greater = true
is_met Lt Less = true
is_met Lt Equal = false
is_met Lt Greater = false
is_met Le Less = true
is_met Le Equal = true
is_met Le Greater = false
is_met Gt Less = false
is_met Gt Equal = false
is_met Gt Greater = true
is_met Ge Less = false
is_met Ge Equal = true
is_met Ge Greater = true
