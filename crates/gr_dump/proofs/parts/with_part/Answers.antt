use Rattle.std.proofs.Common.{◌≡◌, ◌<◌, ◌∙◌, None, Some, ap, arith, length, slice_get, sym}
use Rattle.std.specs.Option.{option_copied}
use Rattle.gr_dump.specs.Inside.Parts.{part_of}
use Rattle.gr_dump.proofs.EachLemmas.{each_from-more, none-within}
use Rattle.gr_dump.proofs.parts.with_part.Goals as goal
use Rattle.gr_dump.proofs.parts.with_part.Goals.{in-Some+in_ok-text, in_default}

pub loop-n-preserved : goal.loop-n-preserved
loop-n-preserved g c =
    let schema = c.args.schema.now in
    let n = c.loop-n.n in
    elim c.match-def.branch [
      | in-Some+in_ok-text w ↦
          let there : slice_get schema.tables n ≡ Some w.in-Some.home.now = sym c.def.ensures ∙ ap option_copied w.in-Some.is in
          let text : c.match-def.text.items ≡ w.in_ok-text.text.items = cc in
          text
          ∙ each_from-more (part_of schema (g.R.Rows.tables c.args.rows.now) c.args.part) schema.tables n w.in-Some.home.now c.args.text.items c.loop-n.text.items w.in_ok-text.text.items
          there c.loop-n.invariant w.in_ok-text.ensures
      | in_default w ↦
          let here : n < length schema.tables = omega arith in
          let none : slice_get schema.tables n ≡ None = sym c.def.ensures ∙ ap option_copied w.in_default.is in
          absurd (none-within schema.tables n here none)
    ]
