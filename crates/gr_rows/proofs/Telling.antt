-- What is told where one call goes on with what another found.
use Rattle.std.proofs.Common.{◌≡◌, refl, sym, ap, subst, ◌∙◌}
use Rattle.std.specs.Prelude.{Result, Ok, Err}
use Rattle.gr_base.specs.Failure.{result_map, result_then}
use Rattle.gr_base.specs.declared.failure.Failure.{Failure}
use Rattle.gr_base.specs.declared.failure.Failure.TheVariants.{NoMemory, Refused}
use Rattle.gr_base.specs.declared.fault.Fault.{Fault}
use Rattle.gr_rows.specs.Inside.Told.{Tells}

-- for want of memory nothing is said
pub none_told : {T : Type 0} (m : Result T Fault) → Tells (Err NoMemory) m
none_told m = record {
  exact = record { found = λ value e. absurd (cc); refused = λ why e. absurd (cc) };
  utf8 = λ why e. absurd (cc);
}

-- what is meant is found
pub ok_told : {T : Type 0} (v : T) (m : Result T Fault) → m ≡ Ok v → Tells (Ok v) m
ok_told v m e = record {
  exact = record { found = λ value h. cc; refused = λ why h. absurd (cc) };
  utf8 = λ why h. absurd (cc);
}

module _ {T U : Type 0} (r : Result T (Failure Fault)) (m : Result T Fault) (told : Tells r m) where
  -- a failure is the failure of all that goes on with what is found
  pub err_then : (f : T → Result U Fault) (e : Failure Fault) → r ≡ Err e → Tells (Err e) (result_then f m)
  err_then f e is = record {
    exact = record {
      found = λ value h. absurd (cc);
      refused = λ why h. ap (result_then f) (let same : e ≡ Refused why = cc in told.exact.refused why (is ∙ ap Err same));
    };
    utf8 = λ why h. let same : e ≡ Refused why = cc in told.utf8 why (is ∙ ap Err same);
  }

  pub err_map : (f : T → U) (e : Failure Fault) → r ≡ Err e → Tells (Err e) (result_map f m)
  err_map f e is = record {
    exact = record {
      found = λ value h. absurd (cc);
      refused = λ why h. ap (result_map f) (let same : e ≡ Refused why = cc in told.exact.refused why (is ∙ ap Err same));
    };
    utf8 = λ why h. let same : e ≡ Refused why = cc in told.utf8 why (is ∙ ap Err same);
  }

  -- what goes on with what was found
  pub then_told : (f : T → Result U Fault) (v : T) (s : Result U (Failure Fault)) → r ≡ Ok v → Tells s (f v) → Tells s (result_then f m)
  then_told f v s e t = subst (λ (n : Result T Fault). Tells s (result_then f n)) (sym (told.exact.found v e)) t

  pub map_told : (f : T → U) (v : T) → r ≡ Ok v → Tells (Ok (f v)) (result_map f m)
  map_told f v e = subst (λ (n : Result T Fault). Tells (Ok (f v)) (result_map f n)) (sym (told.exact.found v e)) (ok_told (f v) (Ok (f v)) refl)

-- what is made of what is told
pub both_map : {T U : Type 0} (f : T → U) (r : Result T (Failure Fault)) (m : Result T Fault) → Tells r m → Tells (result_map f r) (result_map f m)
both_map f (Ok v) m told = map_told (Ok v) m told f v refl
both_map f (Err e) m told = err_map (Err e) m told f e refl

-- an answer that is this failure
pub as_err : {U : Type 0} (s : Result U (Failure Fault)) (e : Failure Fault) (m : Result U Fault) → s ≡ Err e → Tells (Err e) m → Tells s m
as_err s e m is told = subst (λ (r : Result _ (Failure Fault)). Tells r m) (sym is) told
