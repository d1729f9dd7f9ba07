-- What the flags that were read say.
use Rattle.std.specs.Prelude.{◌≡◌, ℕ, Bool, true, false, ◌&&◌, ◌||◌, not, List}
use Rattle.gr_base.specs.Fault.{fault_named}
use Rattle.gr_base.specs.declared.failure.Failure.{Failure}
use Rattle.gr_base.specs.declared.failure.Failure.TheVariants.{Refused, NoMemory}
use Rattle.gr_base.specs.declared.fault.Fault.{Fault}
use Rattle.gr_base.specs.declared.fault.FaultKind.{FaultKind}
use Rattle.gr_schema.specs.Schema.{is_keyed, is_lexicon}
use Rattle.gr_schema.specs.Flags.{has, index_flag, index_flags, position_flag, role_flags, section_flag, vector_flag}
use Rattle.gr_schema.specs.Words.{is_one_of}
use Rattle.gr_schema.specs.declared.definition.TableDef.{TableDef}
use Rattle.gr_schema.specs.declared.flags.Flags.{Flags}
use Rattle.gr_schema.specs.declared.flags.Flags.TheVariants.{Scalar, Vector, Index}

-- the flags ask for this
abbrev pub AreMeant : List (List ℕ) → Flags → Type 0
AreMeant flags Scalar = (has index_flag flags ≡ false) × (has vector_flag flags ≡ false)
AreMeant flags Vector = (has index_flag flags ≡ false) × (has vector_flag flags ≡ true)
AreMeant flags (Index position section) =
    (has index_flag flags ≡ true) × (has position_flag flags ≡ position) × (has section_flag flags ≡ section)

-- whether a table may have a column of such flags
abbrev pub flags_fit : TableDef → Flags → Bool
flags_fit home Scalar = not (is_lexicon home)
flags_fit home Vector = not (is_lexicon home)
flags_fit home (Index position section) = is_keyed home && (is_lexicon home || not section)

-- a refusal that tells this text, or want of memory
abbrev pub IsRefused : FaultKind → List ℕ → Failure Fault → Type 0
IsRefused kind text (Refused fault) = fault ≡ fault_named kind text
IsRefused kind text NoMemory = Unit {0}

-- whether a flag may stand there, beside that of an index or not
abbrev pub is_flag_beside : Bool → List ℕ → Bool
is_flag_beside index flag = is_one_of role_flags flag || (index && is_one_of index_flags flag)
