use Rattle.std.proofs.Common.{◌≡◌, IfSome, Option, subst, true}
use Rattle.gr_values.specs.Types.{is_key_type}
use Rattle.gr_values.specs.declared.data_type.DataType.{DataType}
use Rattle.gr_rows.proofs.target.Target.row_key.Goals as goal

pub filled_key-requires : goal.filled_key-requires
filled_key-requires c =
    subst (λ (o : Option DataType). IfSome o (λ type. is_key_type type ≡ true)) c.in-Some-Some.is-0
    (c.requires.sound.tables c.args.self.now.table.0 c.args.self.now.home.now c.requires.home_there.there).key_type
