use Rattle.std.proofs.Common.{◌≡◌, ◌+◌, ◌≤◌, true, [], ◌∷◌, ◌++◌, take, drop, arith}
use Rattle.std.proofs.lemmas.Result.{IfOk-weaker}
use Rattle.gr_index.specs.Levels.{Levels}
use Rattle.gr_index.specs.Inside.Room.{Folds}
use Rattle.gr_index.proofs.FoldLemmas.{folded_places, folded_span, folds}
use Rattle.gr_index.proofs.index.Index.folded_at.Goals as goal

pub replaced-requires-clause-span : goal.replaced-requires-clause-span
replaced-requires-clause-span g c =
    let now = c.args.self.now in
    folded_span now.place c.args.level c.range_of-from.result.0 c.range_of-from.result.1 now.parts c.args.start c.args.stop c.are_levels.ensures c.requires.oldest c.requires.room c.range_of-from.ensures.from c.range_of-from.ensures.to

pub replaced-requires-clause-places : goal.replaced-requires-clause-places
replaced-requires-clause-places g c =
    let now = c.args.self.now in
    let size = c.requires.oldest.size in
    let before : c.args.start ≤ c.args.stop = omega (arith, size) in
    folded_places (g.A.Alive.lives c.args.alive.now) now.place c.range_of-from.result.0 c.range_of-from.result.1 now.parts c.args.start c.args.stop c.between.result.now c.in_ok-chunk.chunk c.are_levels.ensures before c.range_of-from.ensures.from c.range_of-from.ensures.to c.between.ensures.postings c.in_ok-chunk.ensures.exact

pub returns : goal.returns
returns g c =
    let now = c.args.self.now in
    let lives = g.A.Alive.lives c.args.alive.now in
    let from = c.range_of-from.result.0 in
    let to = c.range_of-from.result.1 in
    let meant : Levels = record { place = now.place; parts = take c.args.start now.parts ++ record { level = c.args.level + 1; from = from; to = to; is_chunk = true; postings = c.in_ok-chunk.chunk } ∷ [] ++ drop c.args.stop now.parts } in
    IfOk-weaker c.replaced.result (λ index. index ≡ meant) (λ index. Folds lives c.args.level now index)
    (λ index is. folds lives c.args.level from to now index c.args.start c.args.stop c.between.result.now c.in_ok-chunk.chunk c.are_levels.ensures c.requires.oldest c.range_of-from.ensures.from c.range_of-from.ensures.to c.between.ensures.postings c.in_ok-chunk.ensures.exact is)
    c.replaced.ensures
