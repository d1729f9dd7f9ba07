use Rattle.std.proofs.Common.{◌≡◌, ◌∙◌, Some, ap, sym}
use Rattle.std.specs.Option.{option_copied}
use Rattle.gr_schema.specs.Schema.{table_at}
use Rattle.gr_root.proofs.WalkLemmas.{told-full}
use Rattle.gr_root.proofs.walk.full_fault.Goals as goal

pub returns : goal.returns
returns c =
    let found : table_at c.args.schema.now c.args.table ≡ Some c.in-Some.def.now = sym c.def.ensures ∙ ap option_copied c.in-Some.is in
    told-full c.args.schema.now c.args.table c.in-Some.def.now _ c.named.result c.requires.sound found c.in_ok-try_clone-in-Some.ensures c.named.ensures
