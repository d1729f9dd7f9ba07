-- Where a text stands, and which it is.
use Rattle.std.specs.Prelude.{ℕ, List}
use Rattle.std.specs.Arc.{arc_value}
use Rattle.gr_base.specs.declared.bytes.Kept.{Kept}

-- the text: a short one stands in place, a longer one behind its shared count
abbrev pub text_of : Kept → List ℕ
text_of (Kept.Short text) = text
text_of (Kept.Long shared) = (arc_value shared).items
