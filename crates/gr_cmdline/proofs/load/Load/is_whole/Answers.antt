use Rattle.std.proofs.Common.{◌≡◌, ◌∙◌, Some, ap, sym}
use Rattle.std.specs.List.{slice_get}
use Rattle.gr_cmdline.specs.LoadData.{Waiting}
use Rattle.gr_cmdline.proofs.Closing.{is_whole-counted}
use Rattle.gr_cmdline.proofs.load.Load.is_whole.Goals as goal

pub returns-else-first-ne91 : goal.returns-else-first-ne91
returns-else-first-ne91 c =
    let same : c.self.inside.text.items ≡ c.args.self.now.text = ap (λ (waiting : Waiting). waiting.text) c.self.view_is in
    let first : slice_get c.self.inside.text.items 0 ≡ Some 91 =
    ap (λ bytes. slice_get bytes 0) (sym c.deref.ensures.value) ∙ sym c.first.ensures.value ∙ cc in
    rw same at (is_whole-counted c.self.inside.text.items c.self.inside.count c.is_closed.result c.self.invariant.counts first c.is_closed.ensures)
