-- Where positions stand, and which they are.
use Rattle.std.specs.Prelude.{ℕ, List, [], ◌∷◌}
use Rattle.gr_postings.specs.Numbers.{positions_after}
use Rattle.gr_postings.specs.declared.positions.Kept.{Kept}
use Rattle.gr_postings.specs.declared.view.Coded.{Coded}
use Rattle.gr_postings.specs.declared.view.Form.{Form}

-- the positions: one stands in place, others behind a pointer
abbrev pub positions_of : Kept → List ℕ
positions_of (Kept.One position) = position ∷ []
positions_of (Kept.Many positions) = positions.value.items

-- the positions that bytes have
abbrev pub positions_coded : Coded → List ℕ
positions_coded coded = positions_after coded.last coded.left coded.bytes.now

-- the positions that are left: a slice's, or those that stand in bytes
abbrev pub positions_left : Form → List ℕ
positions_left (Form.Plain positions) = positions.now
positions_left (Form.Coded coded) = positions_coded coded
