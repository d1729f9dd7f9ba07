use Rattle.std.proofs.Common.{◌≡◌, ◌+◌, ◌-◌, None, Some, ap, length, subst}
use Rattle.memchr.specs.Find.{IsFirstByte, is_byte}
use Rattle.gr_cmdline.proofs.Found.{IsSearched-none, IsSearched-some, place-none, place-some}
use Rattle.gr_cmdline.proofs.buffer.Buffer.find_end.Goals as goal

pub invariant_of-self : goal.invariant_of-self
invariant_of-self c =
    IsSearched-some c.self.inside.bytes.items c.self.inside.at c.self.inside.searched c.in-Some.further c.self.invariant
    (place-some c.self.inside.bytes.items c.deref.result.now c.self.inside.at c.self.inside.searched c.in-Some.further c.self.invariant c.deref.ensures.value c.in-Some.ensures)

pub invariant_of-self-in-None : goal.invariant_of-self-in-None
invariant_of-self-in-None c =
    let len : c.len-self-inside.result ≡ length c.self.inside.bytes.items = cc in
    rw len
    (IsSearched-none c.self.inside.bytes.items c.self.inside.at c.self.inside.searched c.self.invariant
    (place-none c.self.inside.bytes.items c.deref.result.now c.self.inside.at c.self.inside.searched c.self.invariant c.deref.ensures.value c.in-None.ensures))

pub returns-in-Some-clause-place : goal.returns-in-Some-clause-place
returns-in-Some-clause-place c =
    let place = place-some c.self.inside.bytes.items c.deref.result.now c.self.inside.at c.self.inside.searched c.in-Some.further c.self.invariant c.deref.ensures.value c.in-Some.ensures in
    subst (λ bytes. IsFirstByte (is_byte 10) bytes (Some (c.self.inside.searched + c.in-Some.further - c.self.inside.at))) (ap (λ s. s.bytes) c.self.view_is) place

pub returns-in-None-clause-place : goal.returns-in-None-clause-place
returns-in-None-clause-place c =
    let place = place-none c.self.inside.bytes.items c.deref.result.now c.self.inside.at c.self.inside.searched c.self.invariant c.deref.ensures.value c.in-None.ensures in
    subst (λ bytes. IsFirstByte (is_byte 10) bytes None) (ap (λ s. s.bytes) c.self.view_is) place
