-- What a call that reads a text answers where it has no tree.
use Rattle.std.specs.Prelude.{ℕ}
use Rattle.gr_base.specs.declared.fault.FaultKind.{FaultKind}
use Rattle.gr_base.specs.declared.failure.Failure.{Failure}
use Rattle.gr_base.specs.declared.failure.Failure.TheVariants.{Refused}
use Rattle.gr_text.specs.declared.fault.TextRefusal.{TextRefusal}

-- a refusal, or want of memory
abbrev pub TextFault : Type 0
TextFault = Failure TextRefusal

-- the text is refused for this at this place
abbrev pub refused_for : FaultKind → ℕ → TextFault
refused_for kind at = Refused (record { kind = kind; at = at })
