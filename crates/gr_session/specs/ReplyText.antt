-- The lines that replies are made of.
use Rattle.std.specs.Prelude.{ℕ, List, ◌++◌, codes}
use Rattle.std.specs.Fmt.{decimal}
use Rattle.json.specs.Print.{quoted}
use Rattle.gr_base.specs.Fault.{code_of, fault_text}
use Rattle.gr_base.specs.declared.fault.Fault.{Fault}

-- success: the number 0, and the body
abbrev pub success_line : List ℕ → List ℕ
success_line body = codes "[[0]," ++ (body ++ codes "]\n")

-- refusal: the fault's number, its text as a JSON string, and the body
abbrev pub refusal_line : Fault → List ℕ → List ℕ
refusal_line fault body = codes "[[" ++ (decimal (code_of fault.kind) ++ (codes "," ++ (quoted (fault_text fault) ++ (codes "]," ++ (body ++ codes "]\n")))))

-- want of memory, and the body
abbrev pub want_of_memory_line : List ℕ → List ℕ
want_of_memory_line body = codes "[[36,\"NoMemory\"]," ++ (body ++ codes "]\n")
