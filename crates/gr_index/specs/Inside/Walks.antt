-- What a cursor has left to give.
use Rattle.std.specs.Prelude.{List, ◌++◌}
use Rattle.std.specs.List.{filter}
use Rattle.gr_chunks.specs.Segments.{all_of}
use Rattle.gr_postings.specs.Postings.{is_of_term}
use Rattle.gr_postings.specs.declared.posting.Posting.{Posting}
use Rattle.gr_index.specs.declared.cursor.Left.{Left}
use Rattle.gr_index.specs.declared.cursor.Walk.{Walk}

-- of the segment that it stands in
abbrev pub walk_left : Walk → List Posting
walk_left (Walk.Plain postings) = postings.now
walk_left (Walk.Coded cursor) = cursor

-- of that segment and the later ones
abbrev pub left_of : Left → List Posting
left_of left = walk_left left.walk ++ filter (is_of_term left.term) (all_of left.segments.now)
