use Rattle.std.proofs.Common.{◌≡◌, ◌-◌, drop, length, length-drop, ap, ◌∙◌, arith}
use Rattle.gr_text.specs.Paths.{name_len, names_len, path_len}
use Rattle.gr_text.proofs.Ascii.{IsAsciiFront-path, IsUtf8-front, IsUtf8-behind}
use Rattle.gr_text.proofs.Names.{path_len-first}
use Rattle.gr_text.proofs.paths.path_len.Goals as goal

pub names-init : goal.names-init
names-init c =
    let bytes = c.args.bytes.now in
    let first = path_len-first bytes (omega (arith, c.name_len-first.ensures.exact)) in
    let rest : c.split_at.result.1.now ≡ drop (name_len bytes) bytes = c.split_at.ensures.back ∙ ap (λ n. drop n bytes) c.name_len-first.ensures.exact in
    omega (arith, first, ap length rest, ap (names_len 0) rest, length-drop (name_len bytes) bytes, c.name_len-first.ensures.within, c.name_len-first.ensures.exact)

pub returns-then-len-eq0-clause-text : goal.returns-then-len-eq0-clause-text
returns-then-len-eq0-clause-text c =
    let exact : length c.args.bytes.now - length c.names.rest.now ≡ path_len c.args.bytes.now = omega (arith, c.next_name_len-len.ensures.none c.if-len-eq0.true) in
    rw exact (IsUtf8-front (path_len c.args.bytes.now) c.args.bytes.now (IsAsciiFront-path c.args.bytes.now))

pub returns-then-len-eq0-clause-rest : goal.returns-then-len-eq0-clause-rest
returns-then-len-eq0-clause-rest c =
    let exact : length c.args.bytes.now - length c.names.rest.now ≡ path_len c.args.bytes.now = omega (arith, c.next_name_len-len.ensures.none c.if-len-eq0.true) in
    λ utf8. rw exact (IsUtf8-behind (path_len c.args.bytes.now) c.args.bytes.now (IsAsciiFront-path c.args.bytes.now) utf8)
