use Rattle.std.proofs.Common.{◌≡◌, fold, length, subst, sym, take}
use Rattle.gr_cmdline.specs.Inside.Brackets.{after_byte, at_depth}
use Rattle.gr_cmdline.proofs.Counting.{still-closed, still-data, still-in_string}
use Rattle.gr_cmdline.proofs.brackets.Brackets.unmarked.Goals as goal

pub returns-in-Data-clause-exact : goal.returns-in-Data-clause-exact
returns-in-Data-clause-exact c =
    let bytes = take c.len_before_three.result c.args.bytes.now in
    subst (λ inside. fold after_byte (at_depth c.args.self.depth inside) bytes ≡ at_depth c.args.self.depth inside) (sym c.in-Data.is)
    (still-data c.args.self.depth bytes c.len_before_three.ensures.clear)

pub returns-in-InString-clause-exact : goal.returns-in-InString-clause-exact
returns-in-InString-clause-exact c =
    let bytes = take c.len_before_two.result c.args.bytes.now in
    subst (λ inside. fold after_byte (at_depth c.args.self.depth inside) bytes ≡ at_depth c.args.self.depth inside) (sym c.in-InString.is)
    (still-in_string c.args.self.depth bytes c.len_before_two.ensures.clear)

pub returns-in-Closed-clause-exact : goal.returns-in-Closed-clause-exact
returns-in-Closed-clause-exact c =
    let bytes = take (length c.args.bytes.now) c.args.bytes.now in
    subst (λ inside. fold after_byte (at_depth c.args.self.depth inside) bytes ≡ at_depth c.args.self.depth inside) (sym c.in-Closed.is)
    (still-closed c.args.self.depth bytes)
