-- The first byte that passes a test, by a look at the first bytes and a search of the others.
use Rattle.std.proofs.Common.{ℕ, ◌≡◌, ◌≤◌, ◌+◌, ◌-◌, Bool, List, length, drop, get_or, ap, sym, ◌∙◌, arith, ⊎_elim}
use Rattle.std.proofs.lemmas.Bool.{cases_lt}
use Rattle.std.proofs.lemmas.List.{get_or-drop, length-drop}
use Rattle.memchr.specs.Find.{Nowhere, NoneBefore, Passes}

module _ (test : ℕ → Bool) (text : List ℕ) (near : ℕ) (before : Nowhere (Passes test text) 0 near) where
  further : (j : ℕ) → near ≤ j → Passes test text j → Passes test (drop near text) (j - near)
  further j late passes = let at : near + (j - near) ≡ j = omega arith in ap test (get_or-drop near text (j - near) 0 ∙ ap (λ n. get_or text n 0) at) ∙ passes

  nowhere : (k : ℕ) → Nowhere (Passes test (drop near text)) 0 (k - near) → Nowhere (Passes test text) 0 k
  nowhere k none j low high passes =
      ⊎_elim
      (λ early. before j low early passes)
      (λ late. none (j - near) (omega arith) (omega arith) (further j late passes))
      (cases_lt j near)

  -- none of the others passes
  pub none-further : Nowhere (Passes test (drop near text)) 0 (length (drop near text)) → Nowhere (Passes test text) 0 (length text)
  none-further none = nowhere (length text) (λ j low high. none j low (omega (arith, length-drop near text)))

  -- the first of the others that passes
  pub first-further : (k : ℕ) → NoneBefore (Passes test (drop near text)) 0 (length (drop near text)) k × Passes test (drop near text) k → NoneBefore (Passes test text) 0 (length text) (near + k) × Passes test text (near + k)
  first-further k found = (
    record {
      low = omega arith;
      high = let high = found.0.high in omega (arith, length-drop near text);
      before = nowhere (near + k) (λ j low high. found.0.before j low (omega arith));
    },
    ap test (sym (get_or-drop near text k 0)) ∙ found.1,
  )
