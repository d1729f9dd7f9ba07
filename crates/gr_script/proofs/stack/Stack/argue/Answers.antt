use Rattle.std.proofs.Common.{◌<◌, ◌+◌, refl, ◌∙◌, ap, vec_len}
use Rattle.std.proofs.lemmas.Result.{on_ok_weaker}
use Rattle.gr_script.specs.Inside.Machine.{argued}
use Rattle.gr_script.proofs.Tops.{changed, counted}
use Rattle.gr_script.proofs.stack.Stack.argue.Goals as goal

pub invariant_of-self : goal.invariant_of-self
invariant_of-self c =
    let frames = c.args.self.now.frames in
    let some : 0 < vec_len frames = (rw c.in-Some.is at c.last_mut.ensures.variant).0 refl in
    let same = counted frames.items (vec_len frames) c.in-Some.frame.now c.argue.new.self frames.ok.0 some (rw c.in-Some.is at c.last_mut.ensures.value) c.argue.ensures.level in
    record { counted = ap (λ n. c.args.self.now.left + n) same ∙ c.args.self.now.counted }

pub returns-clause-frames : goal.returns-clause-frames
returns-clause-frames c =
    let frames = c.args.self.now.frames in
    let some : 0 < vec_len frames = (rw c.in-Some.is at c.last_mut.ensures.variant).0 refl in
    on_ok_weaker c.argue.result (changed frames.items (vec_len frames) c.in-Some.frame.now c.argue.new.self frames.ok.0 some (rw c.in-Some.is at c.last_mut.ensures.value) (argued c.args.tree)) c.argue.ensures.made
