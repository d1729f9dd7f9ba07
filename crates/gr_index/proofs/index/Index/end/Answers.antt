use Rattle.std.proofs.Common.{◌-◌, ◌<◌, ap, sym, ◌∙◌, arith}
use Rattle.gr_index.specs.declared.parts.Span.{Span}
use Rattle.gr_index.specs.Levels.{Levels, end_of}
use Rattle.gr_index.proofs.IndexLemmas.{end_last}
use Rattle.gr_index.proofs.LocatedLemmas.{no_part}
use Rattle.gr_index.proofs.index.Index.end.Goals as goal

pub returns-else-len-eq0 : goal.returns-else-len-eq0
returns-else-len-eq0 c =
    let some : 0 < c.len-len.result = omega arith in
    ap (λ (s : Span). s.to) (c.span.ensures no_part)
    ∙ (sym (end_last c.self.inside.place c.self.inside.parts c.len-len.result no_part c.len-len.ensures some)
    ∙ ap (λ (v : Levels). end_of v.place v.parts) c.self.view_is)
