-- What a pass shows of the stage of its seat.
use Rattle.std.proofs.Common.{◌≡◌, ℕ, true, false, List, [], ◌∷◌, refl, Option, None}
use Rattle.gr_turn.specs.declared.view.Stage.{Stage}
use Rattle.gr_turn.specs.declared.view.Stage.TheVariants.{Idle, Waits, Serves}
use Rattle.gr_turn.specs.Inside.Passes.{is_serving, IsSettled}

module _ {T : Type 0} where
  pub at_rest : (stage : Stage) (held : List (ℕ × Option T)) → IsSettled stage held → is_serving stage ≡ false → (stage ≡ Idle) × (held ≡ [])
  at_rest Idle held settled free = (refl, settled)
  at_rest (Waits number) held settled free = absurd settled
  at_rest (Serves number) held settled free = let no : ⊥ = cc in absurd no

  pub at_work : (stage : Stage) (held : List (ℕ × Option T)) → IsSettled stage held → is_serving stage ≡ true → (number : ℕ) × (stage ≡ Serves number) × (held ≡ (0, None) ∷ [])
  at_work Idle held settled holds = let no : ⊥ = cc in absurd no
  at_work (Waits number) held settled holds = absurd settled
  at_work (Serves number) held settled holds = (number, refl, settled)
