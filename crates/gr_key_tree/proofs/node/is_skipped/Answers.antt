use Rattle.std.proofs.Common.{◌≡◌}
use Rattle.gr_key_tree.proofs.Adding.{same_at}
use Rattle.gr_key_tree.proofs.Skipping.{skip_from, skip_before}
use Rattle.gr_key_tree.proofs.node.is_skipped.Goals as goal

pub returns-then-none_from : goal.returns-then-none_from
returns-then-none_from g c sure child at =
    let x = c.index-children-at.result in
    let same : x ≡ child = same_at c.args.children.now c.args.at x child c.requires.within c.index-children-at.is at in
    let none = rw (c.bytes.ensures, c.key.ensures, same) at (c.none_from.ensures c.if-none_from.true) in
    skip_from g.K.KeyOrder.state_of c.args.height c.args.children.now c.args.at child c.requires.inner c.requires.within at c.args.prefix.now none

pub returns-then-at-children : goal.returns-then-at-children
returns-then-at-children g c sure child at =
    let next = c.index-children-at-then-at-children.result in
    let none = rw (c.bytes-then-at-children.ensures, c.key-then-at-children.ensures) at (c.none_before.ensures sure) in
    skip_before g.K.KeyOrder.state_of c.args.height c.args.children.now c.args.at child c.requires.inner c.requires.within at c.args.prefix.now next c.if-at-children.true c.index-children-at-then-at-children.is none
