use Rattle.std.proofs.Common.{rules}
use Rattle.gr_values.proofs.Decimals.{IsNumber-signed_decimal}
use Rattle.gr_print.proofs.values.write_number.Goals as goal

pub number-requires : goal.number-requires
number-requires c = search (rules, IsNumber-signed_decimal)
