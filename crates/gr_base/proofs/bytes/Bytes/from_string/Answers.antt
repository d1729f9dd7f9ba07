use Rattle.std.proofs.Common.{◌≡◌, ℕ, List, Result, Ok, Err, IfOk, IsUtf8, string_bytes, sym, subst}
use Rattle.std.proofs.lemmas.Str.{IsUtf8-string_bytes}
use Rattle.gr_base.proofs.bytes.Bytes.from_string.Goals as goal

-- a result that is text's bytes is text
utf8_as_made : {E : Type 0} (r : Result (List ℕ) E) (bytes : List ℕ) → IsUtf8 bytes → IfOk r (λ made. made ≡ bytes) → IfOk r IsUtf8
utf8_as_made (Ok made) bytes utf8 same = subst IsUtf8 (sym same) utf8
utf8_as_made (Err e) bytes utf8 same = tt

pub returns-clause-utf8 : goal.returns-clause-utf8
returns-clause-utf8 c =
    let same : string_bytes c.args.text ≡ c.into_bytes.result.items = cc in
    utf8_as_made c.from_vec.result c.into_bytes.result.items (subst IsUtf8 same (IsUtf8-string_bytes c.args.text)) c.from_vec.ensures
