use Rattle.std.proofs.Common.{◌≡◌, ◌≤◌, arith}
use Rattle.std.proofs.lemmas.Result.{IfOk-weaker}
use Rattle.gr_index.specs.Inside.Room.{Folds, HasRoomAt}
use Rattle.gr_index.proofs.RoomLemmas.{room_folded, room_there}
use Rattle.gr_index.proofs.index.Index.+with_room.Goals as goal

pub returns-then-count-lt-MOST_SEGMENTS : goal.returns-then-count-lt-MOST_SEGMENTS
returns-then-count-lt-MOST_SEGMENTS g t c =
    let now = c.args.self.now in
    let lives = g.A.Alive.lives c.args.alive.now in
    let count = c.count.ensures in
    let few = c.if-count-lt-MOST_SEGMENTS.true in
    IfOk-weaker c.try_clone.result (λ copy. copy ≡ now) (λ roomy. HasRoomAt lives c.args.level now roomy) (λ copy is. room_there lives c.args.level now copy (omega (arith, count, few)) is) c.try_clone.ensures

pub returns : goal.returns
returns g t c =
    let now = c.args.self.now in
    let level = c.args.level in
    let lives = g.A.Alive.lives c.args.alive.now in
    let roomy = c.in_ok-roomy.roomy in
    let count = c.count.ensures in
    let full = c.if-count-lt-MOST_SEGMENTS.false in
    IfOk-weaker c.folded.result (λ made. Folds lives level roomy made) (λ made. HasRoomAt lives level now made)
    (λ made is. room_folded lives level c.level_above-next.result now roomy made c.level_above-next.ensures.next (omega (arith, count, full)) (c.are_levels.ensures.few level) c.in_ok-roomy.ensures is)
    c.folded.ensures
