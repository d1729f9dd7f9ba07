-- What the rule of a turn says after one seat changed.
use Rattle.std.proofs.Common.{◌≡◌, ◌≢◌, ℕ, List, [], ◌∷◌, length, set, sym, ap, subst, subst₂, ◌∙◌, ⊎_elim, arith, Option}
use mathlib.Core.Logic.{dite}
use native.Mathlib.Decide.{ℕ_discrete}
use mathlib.Core.Option.{Option as Maybe, some, some-injective}
use lib.ListN.{get_elem?}
use Rattle.atomic_table.specs.Table.{State}
use Rattle.atomic_table.proofs.Lists.{at_set, set_here, set_else, set_again}
use Rattle.gr_turn.specs.declared.view.Stage.{Stage}
use Rattle.gr_turn.specs.declared.view.Stage.TheVariants.{Idle, Waits, Serves}
use Rattle.gr_turn.specs.declared.view.View.{View}
use Rattle.gr_turn.specs.Inside.Rule.{total, IsOut, IsSeated, IsDrawn, HasNumber, Kept}
use Rattle.gr_turn.proofs.TotalLemmas.{total-set, there_below}

module _ {A : Type 0} where
  -- one place has one element
  pub one_view : (l : List A) (i j : ℕ) (v u : A) → i ≡ j → get_elem? l i ≡ some v → get_elem? l j ≡ some u → v ≡ u
  one_view l i j v u same at there = some-injective v u (sym at ∙ ap (get_elem? l) same ∙ there)

  -- a number of the elements added up, of which the one that changed has as much as before
  pub same_total : (f : A → ℕ) (l : List A) (id : ℕ) (v w : A) → get_elem? l id ≡ some v → f w ≡ f v → total f (set l id w) ≡ total f l
  same_total f l id v w at e = omega (arith, total-set f l id v w at)

-- a seat at rest has no number, and one that waits or is served has one
pub no_number : (stage : Stage) (number : ℕ) → stage ≡ Idle → ¬ (HasNumber stage number)
no_number stage number rests has = ⊎_elim (λ e. let no : ⊥ = cc in no) (λ e. let no : ⊥ = cc in no) has

pub waiting_number : (stage : Stage) (n number : ℕ) → stage ≡ Waits n → HasNumber stage number → number ≡ n
waiting_number stage n number waits has = ⊎_elim (λ e. cc) (λ e. let no : ⊥ = cc in absurd no) has

pub serving_number : (stage : Stage) (n number : ℕ) → stage ≡ Serves n → HasNumber stage number → number ≡ n
serving_number stage n number serves has = ⊎_elim (λ e. let no : ⊥ = cc in absurd no) (λ e. cc) has

module _ {I F : Type 0} where
  -- each number is of the seat that had it, where the seat that changed keeps its own
  pub keeps_number : (number seat : ℕ) (views : List (View I F)) (id : ℕ) (v w : View I F) → get_elem? views id ≡ some v
      → (HasNumber v.stage number → HasNumber w.stage number) → IsDrawn number seat views → IsDrawn number seat (set views id w)
  keeps_number number seat views id v w at keeps d = dite (ℕ_discrete seat id)
      (λ here. record {
        holder = w;
        sits = ap (get_elem? (set views id w)) here ∙ set_here views id w (there_below views id v at);
        has = keeps (subst (λ x. HasNumber x.stage number) (one_view views seat id d.holder v here d.sits at) d.has);
      })
      (λ there. record { holder = d.holder; sits = set_else views id seat w there ∙ d.sits; has = d.has })

module _ {T I F : Type 0} where
  -- the seats after one changed: it knows what is so, and so do the others
  pub seats_after : (first : F) (log : List I) (ticket served : ℕ) (server : ℕ → ℕ) (homes : List (Maybe (Option T))) (views : List (View I F)) (id : ℕ) (w : View I F)
      → ((j : ℕ) (u : View I F) → j ≢ id → get_elem? views j ≡ some u → IsSeated first log ticket served server homes j u)
      → IsSeated first log ticket served server homes id w
      → (j : ℕ) (u : View I F) → get_elem? (set views id w) j ≡ some u → IsSeated first log ticket served server homes j u
  seats_after first log ticket served server homes views id w others mine j u at = ⊎_elim
      (λ t. subst₂ (λ k x. IsSeated first log ticket served server homes k x) (sym t.0) t.1 mine)
      (λ t. others j u t.0 t.1)
      (at_set views id j w u at)

  -- while another seat is served, the slot stays out with it
  pub still_out : (served : ℕ) (server server' : ℕ → ℕ) (homes : List (Maybe (Option T))) (views : List (View I F)) (id : ℕ) (v w : View I F)
      → get_elem? views id ≡ some v → ¬ (v.stage ≡ Serves served) → server' served ≡ server served → IsOut served server homes views → IsOut served server' homes (set views id w)
  still_out served server server' homes views id v w at not_served same out = record {
    gone = out.gone;
    holder = out.holder;
    sits = ap (get_elem? (set views id w)) same
        ∙ set_else views id (server served) w (λ e. not_served (ap (λ x. x.stage) (one_view views id (server served) v out.holder (sym e) at out.sits) ∙ out.serves))
        ∙ out.sits;
    serves = out.serves;
  }

  module _ (entries : T → List I) (fixed : T → F) where
    abbrev pub keeping : F → State (Option T) (View I F) → Type 0
    keeping first s = Kept entries fixed first s.words s.homes s.views

    -- the rule speaks of three words alone
    pub with_words : (first : F) (words words' : List ℕ) (homes : List (Maybe (Option T))) (views : List (View I F)) (k : Kept entries fixed first words homes views)
        → words' ≡ length k.log ∷ k.ticket ∷ k.served ∷ [] → Kept entries fixed first words' homes views
    with_words first words words' homes views k are = record {
      log = k.log;
      ticket = k.ticket;
      served = k.served;
      server = k.server;
      words_are = are;
      short = k.short;
      few = k.few;
      ordered = k.ordered;
      drawn = k.drawn;
      slot = k.slot;
      seats = k.seats;
      shares_are = k.shares_are;
      own_once = k.own_once;
    }

    -- nothing changed
    pub unchanged : (first : F) (words words' : List ℕ) (homes : List (Maybe (Option T))) (views : List (View I F)) (id : ℕ) (v : View I F) (k : Kept entries fixed first words homes views)
        → get_elem? views id ≡ some v → words' ≡ length k.log ∷ k.ticket ∷ k.served ∷ [] → Kept entries fixed first words' homes (set views id v)
    unchanged first words words' homes views id v k at are =
        subst (λ vs. Kept entries fixed first words' homes vs) (sym (set_again views id v at)) (with_words first words words' homes views k are)
