-- The lines of replies, put together piece by piece.
use Rattle.std.proofs.Common.{◌≡◌, List, ℕ, ◌++◌, codes, append_assoc, ◌∙◌, ap}
use Rattle.std.specs.Fmt.{decimal}
use Rattle.json.specs.Print.{quoted}
use Rattle.gr_base.specs.Fault.{code_of, fault_text}
use Rattle.gr_base.specs.declared.fault.Fault.{Fault}
use Rattle.gr_session.specs.ReplyText.{refusal_line, success_line}

glued : (number text body : List ℕ) → ((((codes "[[" ++ number) ++ codes ",") ++ text) ++ codes "],") ++ (body ++ codes "]\n") ≡ codes "[[" ++ (number ++ (codes "," ++ (text ++ (codes "]," ++ (body ++ codes "]\n")))))
glued number text body = simp append_assoc

-- a refusal up to its body, and then the body
pub refusal_line-pieces : (fault : Fault) (line body : List ℕ) → line ≡ ((((codes "[[" ++ decimal (code_of fault.kind)) ++ codes ",") ++ quoted (fault_text fault)) ++ codes "],") → line ++ (body ++ codes "]\n") ≡ refusal_line fault body
refusal_line-pieces fault line body written =
    ap (λ first. first ++ (body ++ codes "]\n")) written ∙ glued (decimal (code_of fault.kind)) (quoted (fault_text fault)) body

-- success up to its body, and then the body
pub success_line-body : (body line : List ℕ) → line ≡ ((codes "[[0]," ++ body) ++ codes "]\n") → line ≡ success_line body
success_line-body body line written = written ∙ append_assoc (codes "[[0],") body (codes "]\n")
