-- Cases on what a call answered.
use Rattle.std.proofs.Common.{IfOk, OnOk, OnErr, Result, Ok, Err}

module _ {A E P Q : Type 0} where
  -- what follows where the call succeeded
  pub on_ok : (r : Result A E) → (P → Q) → OnOk r P → OnOk r Q
  on_ok (Ok x) f p = f p
  on_ok (Err e) f p = p

module _ {A E P Q R : Type 0} where
  -- what follows either way
  pub either : (r : Result A E) → OnOk r P → OnErr r Q → (P → R) → (Q → R) → R
  either (Ok x) p q f g = f p
  either (Err e) p q f g = g q

module _ {A E : Type 0} {P Q : A → Type 0} where
  -- what follows of what the call gave
  pub if_ok : (r : Result A E) → ((x : A) → P x → Q x) → IfOk r P → IfOk r Q
  if_ok (Ok x) f p = f x p
  if_ok (Err e) f p = p
