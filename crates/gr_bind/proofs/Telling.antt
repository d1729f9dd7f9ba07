-- What is told where one call goes on with what another found.
use Rattle.std.proofs.Common.{◌≡◌, refl, sym, ap, subst, ◌∙◌}
use Rattle.std.specs.Prelude.{Result, Ok, Err, Option, Some, None}
use Rattle.std.specs.Option.{ok_or}
use Rattle.gr_base.specs.Failure.{result_map, result_then}
use Rattle.gr_base.specs.declared.failure.Failure.{Failure}
use Rattle.gr_base.specs.declared.failure.Failure.TheVariants.{Refused}
use Rattle.gr_base.specs.declared.fault.Fault.{Fault}
use Rattle.gr_bind.specs.Inside.Told.{Tells}

-- what is meant is found
pub ok_told : {T : Type 0} (v : T) (m : Result T Fault) → m ≡ Ok v → Tells (Ok v) m
ok_told v m e = record {
  exact = record { found = λ value h. cc; refused = λ why h. absurd (cc) };
  utf8 = λ why h. absurd (cc);
}

module _ {T U : Type 0} (r : Result T (Failure Fault)) (m : Result T Fault) (told : Tells r m) where
  -- a failure is the failure of all that goes on with what is found
  pub err_then : (f : T → Result U Fault) (e : Failure Fault) → r ≡ Err e → Tells (Err e) (result_then f m)
  err_then f e is = record {
    exact = record {
      found = λ value h. absurd (cc);
      refused = λ why h. ap (result_then f) (let same : e ≡ Refused why = cc in told.exact.refused why (is ∙ ap Err same));
    };
    utf8 = λ why h. let same : e ≡ Refused why = cc in told.utf8 why (is ∙ ap Err same);
  }

  pub err_map : (f : T → U) (e : Failure Fault) → r ≡ Err e → Tells (Err e) (result_map f m)
  err_map f e is = record {
    exact = record {
      found = λ value h. absurd (cc);
      refused = λ why h. ap (result_map f) (let same : e ≡ Refused why = cc in told.exact.refused why (is ∙ ap Err same));
    };
    utf8 = λ why h. let same : e ≡ Refused why = cc in told.utf8 why (is ∙ ap Err same);
  }

  -- what goes on with what was found
  pub then_told : (f : T → Result U Fault) (v : T) (s : Result U (Failure Fault)) → r ≡ Ok v → Tells s (f v) → Tells s (result_then f m)
  then_told f v s e t = subst (λ (n : Result T Fault). Tells s (result_then f n)) (sym (told.exact.found v e)) t

  pub map_told : (f : T → U) (v : T) → r ≡ Ok v → Tells (Ok (f v)) (result_map f m)
  map_told f v e = subst (λ (n : Result T Fault). Tells (Ok (f v)) (result_map f n)) (sym (told.exact.found v e)) (ok_told (f v) (Ok (f v)) refl)

-- what is there where an option is found
pub there : {X E : Type 0} (o : Option X) (e : E) (x : X) → ok_or o e ≡ Ok x → o ≡ Some x
there None e x h = absurd (cc)
there (Some y) e x h = cc

-- the same of an answer that is this failure
pub as_err : {U : Type 0} (s : Result U (Failure Fault)) (e : Failure Fault) (m : Result U Fault) → s ≡ Err e → Tells (Err e) m → Tells s m
as_err s e m is told = subst (λ (r : Result _ (Failure Fault)). Tells r m) (sym is) told

module _ {T U : Type 0} (r : Result T (Failure Fault)) (m : Result T Fault) (told : Tells r m) (f : T → U) (s : Result U (Failure Fault)) where
  -- what is made of what was found
  pub map_as : (v : T) → r ≡ Ok v → s ≡ Ok (f v) → Tells s (result_map f m)
  map_as v found answer = subst (λ (a : Result U (Failure Fault)). Tells a (result_map f m)) (sym answer) (map_told r m told f v found)

  pub map_as_err : (e : Failure Fault) → r ≡ Err e → s ≡ Err e → Tells s (result_map f m)
  map_as_err e failed answer = as_err s e (result_map f m) answer (err_map r m told f e failed)

-- the failure of a first call is that of all that goes on with it
pub then_as_err : {T U : Type 0} (r : Result T (Failure Fault)) (m : Result T Fault) → Tells r m → (k : T → Result U Fault) (s : Result U (Failure Fault)) (e : Failure Fault) → r ≡ Err e → s ≡ Err e → Tells s (result_then k m)
then_as_err r m told k s e failed answer = as_err s e (result_then k m) answer (err_then r m told k e failed)

-- the failure of what is made of what is found is that of finding it
pub err_of : {T U : Type 0} (f : T → U) (m : Result T Fault) (e : Failure Fault) → Tells {T = U} (Err e) (result_map f m) → Tells {T = T} (Err e) m
err_of {T = T} f m e told = record {
  exact = record {
    found = λ value h. absurd (cc);
    refused = λ why h. back m why (let same : e ≡ Refused why = cc in told.exact.refused why (ap Err same));
  };
  utf8 = λ why h. let same : e ≡ Refused why = cc in told.utf8 why (ap Err same);
}
  where
    back : (n : Result T Fault) (why : Fault) → result_map f n ≡ Err why → n ≡ Err why
    back (Ok v) why h = absurd (cc)
    back (Err w) why h = cc
