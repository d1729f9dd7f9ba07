use Rattle.std.proofs.Common.{◌≡◌, ◌-◌, ◌&&◌, ◌≤◌, ◌<◌, length, take, drop, ap, sym, subst, ◌∙◌, arith}
use Rattle.std.specs.List.{count_by, list_all}
use Rattle.std.specs.Prelude.{nat_eq}
use Rattle.std.proofs.lemmas.List.{length-drop, length-take-le}
use Rattle.gr_index.specs.Levels.{is_of_level}
use Rattle.gr_index.proofs.IndexLemmas.{enough, too_few}
use Rattle.gr_index.proofs.index.Index.are_oldest.Goals as goal

pub returns-then-count-stop : goal.returns-then-count-stop
returns-then-count-stop c =
    let parts = c.args.self.now.parts in
    let start = c.args.start in
    let n = c.args.stop - start in
    let p = is_of_level c.args.level in
    let back = length-drop start parts in
    let order = c.requires.order in
    let bound = c.requires.bound in
    let long = length-take-le n (drop start parts) (omega (arith, back, order, bound)) in
    let is = c.count.ensures ∙ ap (λ v. count_by p (take n (drop start v.parts))) c.self.view_is in
    let less = c.if-count-stop.true in
    too_few p (take n (drop start parts)) n (nat_eq (count_by p (take start parts)) 0) long (omega (arith, is, less))

pub returns : goal.returns
returns c =
    let parts = c.args.self.now.parts in
    let start = c.args.start in
    let n = c.args.stop - start in
    let p = is_of_level c.args.level in
    let back = length-drop start parts in
    let order = c.requires.order in
    let bound = c.requires.bound in
    let long = length-take-le n (drop start parts) (omega (arith, back, order, bound)) in
    let is = c.count.ensures ∙ ap (λ v. count_by p (take n (drop start v.parts))) c.self.view_is in
    let less = c.if-count-stop.false in
    let all : start - 0 ≡ start = omega arith in
    let front = c.count-2.ensures ∙ (ap (λ k. count_by p (take k c.self.inside.parts)) all ∙ ap (λ v. count_by p (take start v.parts)) c.self.view_is) in
    ap (λ k. nat_eq k 0) front ∙ enough p (take n (drop start parts)) n (nat_eq (count_by p (take start parts)) 0) long (omega (arith, is, less))
