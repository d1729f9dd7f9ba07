-- What a fault of a row's key is told by.
use Rattle.std.specs.Prelude.{ℕ, List, []}
use Rattle.gr_base.specs.declared.fault.FaultKind.{FaultKind}
use Rattle.gr_base.specs.declared.fault.FaultKind.TheVariants.{EmptyKey}
use Rattle.gr_rows.specs.Names.{key_name}

-- the name that a fault of a key carries; an empty key has none
abbrev pub key_fault_name : FaultKind → List ℕ
key_fault_name EmptyKey = []
key_fault_name _ = key_name
