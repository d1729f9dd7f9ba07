-- Each step keeps the rule, and tells its seat what it is said to tell.
use Rattle.std.proofs.Common.{◌≡◌, ◌≢◌, ℕ, ◌+◌, ◌^◌, ◌%◌, ◌<◌, ◌≤◌, ◌==◌, Bool, cond, eqb, List, [], ◌∷◌, ◌++◌, length, set, slice_set, slice_index, refl, sym, ap, subst, ◌∙◌, inl, inr, ⊎_elim, arith, Option, Some, ne_eqb, eq-eqb, eq-zero-or-pos, length-append, mod-eq_of_lt}
use mathlib.Core.Logic.{dite}
use mathlib.Core.Option.{Option as Maybe, some, none}
use native.Mathlib.Decide.{ℕ_discrete}
use prog.Atomic.{either}
use lib.ListN.{get_elem?}
use Rattle.atomic_table.specs.Table.{Me, Act, keeps, takes, gives, step, stepped, Valid, carried_after, Allows, Splits, Joins}
use Rattle.atomic_table.proofs.Lists.{set_here, set_else, at_longer, at_snoc, exchanged}
use Rattle.gr_turn.specs.declared.view.Stage.TheVariants.{Idle, Waits, Serves}
use Rattle.gr_turn.specs.declared.view.View.{View}
use Rattle.gr_turn.specs.Known.{StartsWith, IsOneLonger, times, once_below}
use Rattle.gr_turn.specs.Inside.Views.{waiting, serving, raised, idle, parted, apart, joined, spent}
use Rattle.gr_turn.specs.Inside.Rule.{IsOut, IsSeated}
use Rattle.gr_turn.specs.Inside.Plays.{Drew, Looked, Raised, Called, Compared}
use Rattle.gr_turn.proofs.KnownLemmas.{starts_empty, starts_itself, starts_longer, starts_between, length_of_start, longer_is, shorter_is, left_within, right_within, times-append, times_other, once_grown, once_at_most}
use Rattle.gr_turn.proofs.TotalLemmas.{total-append, total-set, one_within, there_below}
use Rattle.gr_turn.proofs.RuleLemmas.{seats_after, one_view, still_out, same_total, keeping, unchanged, keeps_number, no_number, waiting_number, serving_number}

module _ {T I F : Type 0} (entries : T → List I) (fixed : T → F) where
  -- after number was drawn by id
  abbrev drawn_by : ℕ → ℕ → (ℕ → ℕ) → ℕ → ℕ
  drawn_by number id server n = cond (eqb n number) id (server n)

  still_drawn : (number id : ℕ) (server : ℕ → ℕ) (n : ℕ) → n ≢ number → drawn_by number id server n ≡ server n
  still_drawn number id server n ne = ap (λ (b : Bool). let k : ℕ = cond b id (server n) in k) (ne_eqb n number ne)

  now_drawn : (number id : ℕ) (server : ℕ → ℕ) (n : ℕ) → n ≡ number → drawn_by number id server n ≡ id
  now_drawn number id server n e = ap (λ (b : Bool). let k : ℕ = cond b id (server n) in k) (eq-eqb n number e)

  -- who draws the next ticket waits for it
  draw_seat : (first : F) (log : List I) (ticket served : ℕ) (server : ℕ → ℕ) (homes : List (Maybe (Option T))) (id : ℕ) (v : View I F)
      → served ≤ ticket → 0 < v.shares → IsSeated first log ticket served server homes id v → IsSeated first log (ticket + 1) served (drawn_by ticket id server) homes id (waiting ticket v)
  draw_seat first log ticket served server homes id v ordered some_share q = record {
    seen = q.seen;
    told = q.told;
    own = q.own;
    fixed = q.fixed;
    spent = λ none. absurd (omega arith);
    waits = λ number e. let same : number ≡ ticket = cc in (omega arith, omega arith, now_drawn ticket id server number same);
    serves = λ number e. let no : ⊥ = cc in absurd no;
  }

  draw_others : (first : F) (log : List I) (ticket served : ℕ) (server : ℕ → ℕ) (homes : List (Maybe (Option T))) (id j : ℕ) (u : View I F)
      → IsSeated first log ticket served server homes j u → IsSeated first log (ticket + 1) served (drawn_by ticket id server) homes j u
  draw_others first log ticket served server homes id j u q = record {
    seen = q.seen;
    told = q.told;
    own = q.own;
    fixed = q.fixed;
    spent = q.spent;
    waits = λ number e. let t = q.waits number e in (t.0, omega (arith, t.1), still_drawn ticket id server number (λ h. omega (arith, t.1)) ∙ t.2);
    serves = λ number e. let t = q.serves number e in (t.0, omega (arith, t.1), still_drawn ticket id server number (λ h. omega (arith, t.0, t.1)) ∙ t.2, t.3, t.4);
  }

  draw_slot : (first : F) (log : List I) (ticket served : ℕ) (server : ℕ → ℕ) (homes : List (Maybe (Option T))) (views : List (View I F)) (id : ℕ) (v w : View I F)
      → get_elem? views id ≡ some v → v.stage ≡ Idle → ((j : ℕ) (u : View I F) → get_elem? views j ≡ some u → IsSeated first log ticket served server homes j u)
      → IsOut served server homes views → IsOut served (drawn_by ticket id server) homes (set views id w)
  draw_slot first log ticket served server homes views id v w at rests seats out =
      let t = (seats (server served) out.holder out.sits).serves served out.serves in
      still_out served server (drawn_by ticket id server) homes views id v w at (λ e. let no : ⊥ = cc in no) (still_drawn ticket id server served (λ h. omega (arith, t.1))) out

  pub draws : (first : F) (slots id : ℕ) (m : Me (Option T) (View I F)) (next : ℕ) → m.0.stage ≡ Idle → 0 < m.0.shares → next + 1 < 2 ^ 64
      → Allows (keeping entries fixed first) slots id m 1 (λ n. either (n == next) (next + 1) n) (Drew (step slots 1 next (next + 1) none) m)
  draws first slots id m next rests some_share small s k wide at _ =
      exchanged (slice_index s.words 1) next (next + 1)
      (λ n. (w : View I F) × (a : Act (Option T)) × Valid s.homes m.1 a × keeping entries fixed first (stepped s 1 n id m.1 w a) × Drew (step slots 1 next (next + 1) none) m (slice_index s.words 1) (w, carried_after m.1 a))
      (λ hit.
      let ticket : k.ticket ≡ next = sym (ap (λ ws. slice_index ws 1) k.words_are) ∙ hit in (
        waiting next m.0,
        keeps,
        tt,
        record {
          log = k.log;
          ticket = next + 1;
          served = k.served;
          server = drawn_by next id k.server;
          words_are = ap (λ ws. slice_set ws 1 (next + 1)) k.words_are;
          short = k.short;
          few = small;
          ordered = omega (arith, k.ordered);
          drawn = λ number low high. dite (ℕ_discrete number next)
              (λ here. record {
                holder = waiting next m.0;
                sits = ap (get_elem? (set s.views id (waiting next m.0))) (now_drawn next id k.server number here) ∙ set_here s.views id (waiting next m.0) (there_below s.views id m.0 at);
                has = inl (ap (λ n. Waits n) (sym here));
              })
              (λ other.
              let d = keeps_number number (k.server number) s.views id m.0 (waiting next m.0) at (λ has. absurd (no_number m.0.stage number rests has)) (k.drawn number low (omega arith)) in
              record { holder = d.holder; sits = ap (get_elem? (set s.views id (waiting next m.0))) (still_drawn next id k.server number other) ∙ d.sits; has = d.has });
          slot = ⊎_elim (λ home. inl home)
              (λ out. inr (subst (λ n. IsOut k.served (drawn_by n id k.server) s.homes (set s.views id (waiting next m.0))) ticket
              (draw_slot first k.log k.ticket k.served k.server s.homes s.views id m.0 (waiting next m.0) at rests k.seats out)))
              k.slot;
          seats = seats_after first k.log (next + 1) k.served (drawn_by next id k.server) s.homes s.views id (waiting next m.0)
              (λ j u other there. subst (λ n. IsSeated first k.log (n + 1) k.served (drawn_by n id k.server) s.homes j u) ticket (draw_others first k.log k.ticket k.served k.server s.homes id j u (k.seats j u there)))
              (subst (λ n. IsSeated first k.log (n + 1) k.served (drawn_by n id k.server) s.homes id (waiting n m.0)) ticket (draw_seat first k.log k.ticket k.served k.server s.homes id m.0 k.ordered some_share (k.seats id m.0 at)));
          shares_are = same_total (λ v. v.shares) s.views id m.0 (waiting next m.0) at refl ∙ k.shares_are;
          own_once = λ place. same_total (λ v. times place v.own) s.views id m.0 (waiting next m.0) at refl ∙ k.own_once place;
        },
        record { drawn = λ _. refl; missed = λ ne. absurd (ne hit) },
      ))
      (λ miss. (
        m.0,
        keeps,
        tt,
        unchanged entries fixed first s.words (slice_set s.words 1 (slice_index s.words 1)) s.homes s.views id m.0 k at (ap (λ ws. slice_set ws 1 (slice_index ws 1)) k.words_are),
        record { drawn = λ e. absurd (miss e); missed = λ _. refl },
      ))

  -- a seat with a number has some share
  share_of_waiting : (first : F) (log : List I) (ticket served : ℕ) (server : ℕ → ℕ) (homes : List (Maybe (Option T))) (id number : ℕ) (v : View I F)
      → v.stage ≡ Waits number → IsSeated first log ticket served server homes id v → 0 < v.shares
  share_of_waiting first log ticket served server homes id number v waits q = ⊎_elim
      (λ none_left. let rests = (q.spent none_left).1 in let no : ⊥ = cc in absurd no)
      (λ some_share. some_share)
      (eq-zero-or-pos v.shares)

  -- the others, where the slot goes out with the seat that is served
  look_others : (first : F) (log : List I) (ticket served : ℕ) (server : ℕ → ℕ) (homes homes' : List (Maybe (Option T))) (j : ℕ) (u : View I F)
      → homes' ≡ none ∷ [] → IsSeated first log ticket served server homes j u → IsSeated first log ticket served server homes' j u
  look_others first log ticket served server homes homes' j u gone q = record {
    seen = q.seen;
    told = q.told;
    own = q.own;
    fixed = q.fixed;
    spent = q.spent;
    waits = q.waits;
    serves = λ number e. let t = q.serves number e in (t.0, t.1, t.2, t.3, gone);
  }

  look_seat : (first : F) (log : List I) (ticket served : ℕ) (server : ℕ → ℕ) (homes homes' : List (Maybe (Option T))) (id number : ℕ) (v : View I F) (all : List I)
      → homes' ≡ none ∷ [] → v.stage ≡ Waits number → number ≡ served → all ≡ log → IsSeated first log ticket served server homes id v
      → IsSeated first log ticket served server homes' id (serving number all v)
  look_seat first log ticket served server homes homes' id number v all gone waited now shows q =
      let t = q.waits number waited in
      let long = length_of_start log v.seen q.seen in
      record {
        seen = subst (λ xs. StartsWith log xs) (sym shows) (starts_itself log);
        told = q.told;
        own = λ place some_times. omega (arith, q.own place some_times, ap length shows);
        fixed = q.fixed;
        spent = λ none_left. absurd (omega (arith, share_of_waiting first log ticket served server homes id number v waited q));
        waits = λ n e. let no : ⊥ = cc in absurd no;
        serves = λ n e. let same : n ≡ number = cc in (same ∙ now, omega (arith, t.1, t.0), ap server same ∙ t.2, shows, gone);
      }

  pub looks : (first : F) (slots id : ℕ) (m : Me (Option T) (View I F)) (number : ℕ) → m.0.stage ≡ Waits number
      → Allows (keeping entries fixed first) slots id m 2 (λ n. n) (Looked entries fixed (step slots 2 0 0 none) m)
  looks first slots id m number waited s k wide at _ =
      let q = k.seats id m.0 at in
      let found : ℕ = slice_index s.words 2 in
      let is_served : found ≡ k.served = ap (λ ws. slice_index ws 2) k.words_are in
      let same_words = ap (λ ws. slice_set ws 2 (slice_index ws 2)) k.words_are in
      dite (ℕ_discrete found number)
      (λ now. ⊎_elim
      (λ home.
      let all = entries home.value in
      let gone = ap (λ hs. slice_set hs 0 none) home.there in
      let waited' : m.0.stage ≡ Waits found = waited ∙ ap (λ n. Waits n) (sym now) in
      let w : View I F = serving found all m.0 in (
        w,
        takes 0 (Some home.value),
        ap (λ hs. get_elem? hs 0) home.there,
        record {
          log = k.log;
          ticket = k.ticket;
          served = k.served;
          server = k.server;
          words_are = same_words;
          short = k.short;
          few = k.few;
          ordered = k.ordered;
          drawn = λ n low high. keeps_number n (k.server n) s.views id m.0 w at (λ has. inr (ap (λ i. Serves i) (sym (waiting_number m.0.stage found n waited' has)))) (k.drawn n low high);
          slot = inr (record {
            gone = gone;
            holder = w;
            sits = ap (get_elem? (set s.views id w)) (ap k.server (sym is_served) ∙ (q.waits found waited').2) ∙ set_here s.views id w (there_below s.views id m.0 at);
            serves = ap (λ n. Serves n) is_served;
          });
          seats = seats_after first k.log k.ticket k.served k.server (slice_set s.homes 0 none) s.views id w
              (λ j u other there. look_others first k.log k.ticket k.served k.server s.homes (slice_set s.homes 0 none) j u gone (k.seats j u there))
              (look_seat first k.log k.ticket k.served k.server s.homes (slice_set s.homes 0 none) id found m.0 all gone waited' is_served home.shows q);
          shares_are = same_total (λ v. v.shares) s.views id m.0 w at refl ∙ k.shares_are;
          own_once = λ place. same_total (λ v. times place v.own) s.views id m.0 w at refl ∙ k.own_once place;
        },
        record {
          served = λ _. record {
            value = home.value;
            is = refl;
            keeps = home.keeps ∙ sym (q.fixed (share_of_waiting first k.log k.ticket k.served k.server s.homes id number m.0 waited q));
            seen = subst (λ xs. StartsWith xs m.0.seen) (sym home.shows) q.seen;
            short = omega (arith, ap length home.shows, k.short);
            own = q.own;
          };
          not_yet = λ n e ne. let same : n ≡ number = cc in absurd (ne (now ∙ sym same));
        },
      ))
      (λ out.
      let here : k.server k.served ≡ id = ap k.server (sym is_served ∙ now) ∙ (q.waits number waited).2 in
      let same = one_view s.views (k.server k.served) id out.holder m.0 here out.sits at in
      let both : Serves k.served ≡ Waits number = sym out.serves ∙ ap (λ v. v.stage) same ∙ waited in
      let no : ⊥ = cc in absurd no)
      k.slot)
      (λ not_now. (
        m.0,
        keeps,
        tt,
        unchanged entries fixed first s.words (slice_set s.words 2 found) s.homes s.views id m.0 k at same_words,
        record {
          served = λ e. let same : found ≡ number = cc in absurd (not_now same);
          not_yet = λ n e ne. refl;
        },
      ))

  -- the only seat that is served
  only_served : (first : F) (log : List I) (ticket served : ℕ) (server : ℕ → ℕ) (homes : List (Maybe (Option T))) (id j number n : ℕ) (v u : View I F)
      → v.stage ≡ Serves number → u.stage ≡ Serves n → IsSeated first log ticket served server homes id v → IsSeated first log ticket served server homes j u → j ≡ id
  only_served first log ticket served server homes id j number n v u mine other q r =
      let s = q.serves number mine in let t = r.serves n other in
      sym t.2 ∙ ap server (t.0 ∙ sym s.0) ∙ s.2

  raise_others : (first : F) (log all : List I) (ticket served : ℕ) (server : ℕ → ℕ) (homes : List (Maybe (Option T))) (id j number : ℕ) (v u : View I F) (more : List I)
      → all ≡ log ++ more → v.stage ≡ Serves number → j ≢ id → IsSeated first log ticket served server homes id v → IsSeated first log ticket served server homes j u
      → IsSeated first all ticket served server homes j u
  raise_others first log all ticket served server homes id j number v u more longer_by mine other q r = record {
    seen = starts_longer all log more longer_by u.seen r.seen;
    told = starts_longer all log more longer_by u.told r.told;
    own = r.own;
    fixed = r.fixed;
    spent = r.spent;
    waits = r.waits;
    serves = λ n e. absurd (other (only_served first log ticket served server homes id j number n v u mine e q r));
  }

  raise_seat : (first : F) (log all : List I) (ticket served : ℕ) (server : ℕ → ℕ) (homes : List (Maybe (Option T))) (id number : ℕ) (v : View I F) (more : List I)
      → all ≡ log ++ more → length all ≡ length v.seen + 1 → v.stage ≡ Serves number → IsSeated first log ticket served server homes id v
      → IsSeated first all ticket served server homes id (raised all v)
  raise_seat first log all ticket served server homes id number v more longer_by one_longer mine q = record {
    seen = starts_itself all;
    told = starts_longer all log more longer_by v.told q.told;
    own = λ place some_times. ⊎_elim
        (λ none_before. dite (ℕ_discrete (length v.seen) place)
        (λ e. omega arith)
        (λ ne. absurd (omega (arith, times-append place v.own (length v.seen ∷ []), times_other place (length v.seen) [] ne))))
        (λ some_before. omega (arith, q.own place some_before))
        (eq-zero-or-pos (times place v.own));
    fixed = q.fixed;
    spent = λ none_left. let rests = (q.spent none_left).1 in let no : ⊥ = cc in absurd no;
    waits = λ n e. let no : ⊥ = cc in absurd no;
    serves = λ n e. let t = q.serves n e in (t.0, t.1, t.2, refl, t.4);
  }

  pub raises : (first : F) (slots id : ℕ) (m : Me (Option T) (View I F)) (number old new : ℕ) (value : T) → m.0.stage ≡ Serves number → IsOneLonger (entries value) m.0.seen
      → length (entries value) < 2 ^ 64 → new ≡ length (entries value) → old + 1 ≡ new
      → Allows (keeping entries fixed first) slots id m 0 (λ n. either (n == old) new n) (Raised entries (step slots 0 old new (some (Some value))) m)
  raises first slots id m number old new value mine grown small new_is old_is s k wide at _ =
      let q = k.seats id m.0 at in
      let all = entries value in
      let t = q.serves number mine in
      let one_longer : length all ≡ length m.0.seen + 1 = omega (arith, ap length grown.is, length-append m.0.seen (grown.entry ∷ [])) in
      let longer_by : all ≡ k.log ++ (grown.entry ∷ []) = grown.is ∙ ap (λ xs. xs ++ grown.entry ∷ []) t.3 in
      let w : View I F = raised all m.0 in
      exchanged (slice_index s.words 0) old new
      (λ n. (w : View I F) × (a : Act (Option T)) × Valid s.homes m.1 a × keeping entries fixed first (stepped s 0 n id m.1 w a) × Raised entries (step slots 0 old new (some (Some value))) m (slice_index s.words 0) (w, carried_after m.1 a))
      (λ hit. (
        w,
        keeps,
        tt,
        record {
          log = all;
          ticket = k.ticket;
          served = k.served;
          server = k.server;
          words_are = ap (λ ws. slice_set ws 0 new) k.words_are ∙ ap (λ n. n ∷ k.ticket ∷ k.served ∷ []) new_is;
          short = small;
          few = k.few;
          ordered = k.ordered;
          drawn = λ n low high. keeps_number n (k.server n) s.views id m.0 w at (λ has. has) (k.drawn n low high);
          slot = inr (record {
            gone = t.4;
            holder = w;
            sits = ap (get_elem? (set s.views id w)) (ap k.server (sym t.0) ∙ t.2) ∙ set_here s.views id w (there_below s.views id m.0 at);
            serves = mine ∙ ap (λ n. Serves n) t.0;
          });
          seats = seats_after first all k.ticket k.served k.server s.homes s.views id w
              (λ j u other there. raise_others first k.log all k.ticket k.served k.server s.homes id j number m.0 u (grown.entry ∷ []) longer_by mine other q (k.seats j u there))
              (raise_seat first k.log all k.ticket k.served k.server s.homes id number m.0 (grown.entry ∷ []) longer_by one_longer mine q);
          shares_are = same_total (λ v. v.shares) s.views id m.0 w at refl ∙ k.shares_are;
          own_once = λ place. omega (
            arith,
            total-set (λ v. times place v.own) s.views id m.0 w at,
            times-append place m.0.own (length m.0.seen ∷ []),
            k.own_once place,
            once_grown place (length m.0.seen),
            ap (λ n. once_below place n) one_longer,
            ap (λ xs. once_below place (length xs)) t.3,
          );
        },
        λ other said. let same : value ≡ other = cc in ap (λ x. (raised (entries x) m.0, m.1)) same,
      ))
      (λ miss. absurd (miss (ap (λ ws. slice_index ws 0) k.words_are ∙ sym (ap length t.3) ∙ omega arith)))

  -- the slot comes home, and the next number is served
  call_others : (first : F) (log : List I) (ticket served : ℕ) (server : ℕ → ℕ) (homes homes' : List (Maybe (Option T))) (id j number : ℕ) (v u : View I F)
      → v.stage ≡ Serves number → j ≢ id → IsSeated first log ticket served server homes id v → IsSeated first log ticket served server homes j u
      → IsSeated first log ticket (served + 1) server homes' j u
  call_others first log ticket served server homes homes' id j number v u mine other q r = let s = q.serves number mine in record {
    seen = r.seen;
    told = r.told;
    own = r.own;
    fixed = r.fixed;
    spent = r.spent;
    waits = λ n e. let t = r.waits n e in
        dite (ℕ_discrete n served)
        (λ now. absurd (other (sym t.2 ∙ ap server (now ∙ sym s.0) ∙ s.2)))
        (λ later. (omega (arith, t.0), t.1, t.2));
    serves = λ n e. absurd (other (only_served first log ticket served server homes id j number n v u mine e q r));
  }

  call_seat : (first : F) (log : List I) (ticket served : ℕ) (server : ℕ → ℕ) (homes homes' : List (Maybe (Option T))) (id number : ℕ) (v : View I F)
      → 0 < v.shares → IsSeated first log ticket served server homes id v → IsSeated first log ticket (served + 1) server homes' id (idle v)
  call_seat first log ticket served server homes homes' id number v some_share q = record {
    seen = q.seen;
    told = q.told;
    own = q.own;
    fixed = q.fixed;
    spent = λ none_left. absurd (omega arith);
    waits = λ n e. let no : ⊥ = cc in absurd no;
    serves = λ n e. let no : ⊥ = cc in absurd no;
  }

  pub calls : (first : F) (slots id : ℕ) (m : Me (Option T) (View I F)) (number : ℕ) (value : T) → m.0.stage ≡ Serves number → m.1 ≡ (0, Some value) ∷ []
      → entries value ≡ m.0.seen → fixed value ≡ m.0.fixed → 0 < m.0.shares
      → Allows (keeping entries fixed first) slots id m 2 (λ n. (n + 1) % 2 ^ 64) (Called (step slots 2 1 0 none) m)
  calls first slots id m number value mine has shows keeps_fixed some_share =
      subst (λ (held : List (ℕ × Option T)). Allows (keeping entries fixed first) slots id (m.0, held) 2 (λ n. (n + 1) % 2 ^ 64) (Called (step slots 2 1 0 none) (m.0, held))) (sym has)
      (λ s k wide at _.
      let q = k.seats id m.0 at in
      let t = q.serves number mine in
      let is_served = ap (λ ws. slice_index ws 2) k.words_are in
      let few : k.served + 1 < 2 ^ 64 = omega (arith, k.few, t.1) in
      let next : (slice_index s.words 2 + 1) % 2 ^ 64 ≡ k.served + 1 = ap (λ n. (n + 1) % 2 ^ 64) is_served ∙ mod-eq_of_lt few in
      let home = ap (λ hs. slice_set hs 0 (some (Some value))) t.4 in
      let w : View I F = idle m.0 in (
        w,
        gives,
        tt,
        record {
          log = k.log;
          ticket = k.ticket;
          served = k.served + 1;
          server = k.server;
          words_are = ap (λ ws. slice_set ws 2 ((slice_index s.words 2 + 1) % 2 ^ 64)) k.words_are ∙ ap (λ n. length k.log ∷ k.ticket ∷ n ∷ []) next;
          short = k.short;
          few = k.few;
          ordered = omega (arith, t.1);
          drawn = λ n low high. keeps_number n (k.server n) s.views id m.0 w at (λ has. absurd (omega (arith, serving_number m.0.stage number n mine has, t.0))) (k.drawn n (omega arith) high);
          slot = inl (record { value = value; there = home; shows = shows ∙ t.3; keeps = keeps_fixed ∙ q.fixed some_share });
          seats = seats_after first k.log k.ticket (k.served + 1) k.server (slice_set s.homes 0 (some (Some value))) s.views id w
              (λ j u other there. call_others first k.log k.ticket k.served k.server s.homes (slice_set s.homes 0 (some (Some value))) id j number m.0 u mine other q (k.seats j u there))
              (call_seat first k.log k.ticket k.served k.server s.homes (slice_set s.homes 0 (some (Some value))) id number m.0 some_share q);
          shares_are = same_total (λ v. v.shares) s.views id m.0 w at refl ∙ k.shares_are;
          own_once = λ place. same_total (λ v. times place v.own) s.views id m.0 w at refl ∙ k.own_once place;
        },
        λ held more e. let none_left : [] ≡ more = cc in ap (λ xs. (idle m.0, xs)) none_left,
      ))

  -- a seat at rest has no number, so that nothing is owed for it but its lists and its shares
  resting_seat : (first : F) (log : List I) (ticket served : ℕ) (server : ℕ → ℕ) (homes : List (Maybe (Option T))) (id : ℕ) (v : View I F)
      → v.stage ≡ Idle → StartsWith log v.seen → StartsWith log v.told → ((place : ℕ) → 0 < times place v.own → place < length v.seen) → (0 < v.shares → v.fixed ≡ first)
      → (v.shares ≡ 0 → v.own ≡ []) → IsSeated first log ticket served server homes id v
  resting_seat first log ticket served server homes id v rests seen told own same unowned = record {
    seen = seen;
    told = told;
    own = own;
    fixed = same;
    spent = λ none_left. (unowned none_left, rests);
    waits = λ n e. let no : ⊥ = cc in absurd no;
    serves = λ n e. let no : ⊥ = cc in absurd no;
  }

  pub splits : (first : F) (id : ℕ) (v : View I F) → v.stage ≡ Idle → 2 ≤ v.shares → Splits (keeping entries fixed first) id v (parted v) (apart v)
  splits first id v rests two s k at =
      let q = k.seats id v at in
      let old = set s.views id (parted v) in
      let old_seats = seats_after first k.log k.ticket k.served k.server s.homes s.views id (parted v) (λ j u other there. k.seats j u there)
      (resting_seat first k.log k.ticket k.served k.server s.homes id (parted v) rests q.seen q.told q.own (λ _. q.fixed (omega arith)) (λ none_left. absurd (omega arith))) in
      record {
        log = k.log;
        ticket = k.ticket;
        served = k.served;
        server = k.server;
        words_are = k.words_are;
        short = k.short;
        few = k.few;
        ordered = k.ordered;
        drawn = λ n low high.
            let d = keeps_number n (k.server n) s.views id v (parted v) at (λ has. absurd (no_number v.stage n rests has)) (k.drawn n low high) in
            record { holder = d.holder; sits = at_longer old (apart v ∷ []) (k.server n) d.holder d.sits; has = d.has };
        slot = ⊎_elim (λ home. inl home)
            (λ out. let still = still_out k.served k.server k.server s.homes s.views id v (parted v) at (λ e. let no : ⊥ = cc in no) refl out in
            inr (record { gone = still.gone; holder = still.holder; sits = at_longer old (apart v ∷ []) (k.server k.served) still.holder still.sits; serves = still.serves }))
            k.slot;
        seats = λ j u there. ⊎_elim
            (λ before. old_seats j u before)
            (λ same. subst (λ x. IsSeated first k.log k.ticket k.served k.server s.homes j x) same
            (resting_seat first k.log k.ticket k.served k.server s.homes j (apart v) refl q.seen q.told (λ place some_times. absurd (omega arith)) (λ _. q.fixed (omega arith)) (λ none_left. absurd (omega arith))))
            (at_snoc old (apart v) u j there);
        shares_are = omega (arith, k.shares_are, total-append (λ (x : View I F). x.shares) old (apart v ∷ []), total-set (λ x. x.shares) s.views id v (parted v) at);
        own_once = λ place. omega (
          arith,
          k.own_once place,
          total-append (λ (x : View I F). times place x.own) old (apart v ∷ []),
          total-set (λ x. times place x.own) s.views id v (parted v) at,
        );
      }

  -- what a seat that took in another knows
  join_seat : (first : F) (log : List I) (ticket served : ℕ) (server : ℕ → ℕ) (homes : List (Maybe (Option T))) (id other : ℕ) (v w : View I F)
      → v.stage ≡ Idle → 0 < v.shares → IsSeated first log ticket served server homes id v → IsSeated first log ticket served server homes other w
      → IsSeated first log ticket served server homes id (joined v w)
  join_seat first log ticket served server homes id other v w rests some_share q r =
      resting_seat first log ticket served server homes id (joined v w) rests
      (longer_is (λ xs. StartsWith log xs) v.seen w.seen q.seen r.seen)
      (shorter_is (λ xs. StartsWith log xs) v.seen w.seen q.seen r.seen)
      (λ place some_times. ⊎_elim
      (λ none_mine. omega (arith, r.own place (omega (arith, times-append place v.own w.own)), right_within v.seen w.seen))
      (λ some_mine. omega (arith, q.own place some_mine, left_within v.seen w.seen))
      (eq-zero-or-pos (times place v.own)))
      (λ _. q.fixed some_share)
      (λ none_left. absurd (omega arith))

  pub joins : (first : F) (id other : ℕ) (v w : View I F) (spare : F) → v.stage ≡ Idle → w.stage ≡ Idle → 0 < v.shares
      → Joins (keeping entries fixed first) id v other w (joined v w) (spent spare)
  joins first id other v w spare rests other_rests some_share s k at two there =
      let q = k.seats id v at in
      let middle = set s.views id (joined v w) in
      let was : get_elem? s.views other ≡ some w = sym (set_else s.views id other (joined v w) two) ∙ there in
      let r = k.seats other w was in
      record {
        log = k.log;
        ticket = k.ticket;
        served = k.served;
        server = k.server;
        words_are = k.words_are;
        short = k.short;
        few = k.few;
        ordered = k.ordered;
        drawn = λ n low high.
            keeps_number n (k.server n) middle other w (spent spare) there (λ has. absurd (no_number w.stage n other_rests has))
            (keeps_number n (k.server n) s.views id v (joined v w) at (λ has. absurd (no_number v.stage n rests has)) (k.drawn n low high));
        slot = ⊎_elim (λ home. inl home)
            (λ out. inr (still_out k.served k.server k.server s.homes middle other w (spent spare) there (λ e. let no : ⊥ = cc in no) refl
            (still_out k.served k.server k.server s.homes s.views id v (joined v w) at (λ e. let no : ⊥ = cc in no) refl out)))
            k.slot;
        seats = seats_after first k.log k.ticket k.served k.server s.homes middle other (spent spare)
            (λ j u _ at_j. seats_after first k.log k.ticket k.served k.server s.homes s.views id (joined v w) (λ i x _ at_i. k.seats i x at_i)
            (join_seat first k.log k.ticket k.served k.server s.homes id other v w rests some_share q r) j u at_j)
            (resting_seat first k.log k.ticket k.served k.server s.homes other (spent spare) refl (starts_empty k.log) (starts_empty k.log) (λ place some_times. absurd (omega arith)) (λ some_left. absurd (omega arith)) (λ _. refl));
        shares_are = omega (
          arith,
          k.shares_are,
          total-set (λ (x : View I F). x.shares) middle other w (spent spare) there,
          total-set (λ (x : View I F). x.shares) s.views id v (joined v w) at,
        );
        own_once = λ place. omega (
          arith,
          k.own_once place,
          times-append place v.own w.own,
          total-set (λ (x : View I F). times place x.own) middle other w (spent spare) there,
          total-set (λ (x : View I F). times place x.own) s.views id v (joined v w) at,
        );
      }

  pub compares : (first : F) (slots id : ℕ) (m : Me (Option T) (View I F)) → Allows (keeping entries fixed first) slots id m 0 (λ n. n) (Compared (step slots 0 0 0 none) m)
  compares first slots id m s k wide at _ =
      let q = k.seats id m.0 at in (
        m.0,
        keeps,
        tt,
        unchanged entries fixed first s.words (slice_set s.words 0 (slice_index s.words 0)) s.homes s.views id m.0 k at (ap (λ ws. slice_set ws 0 (slice_index ws 0)) k.words_are),
        record {
          same = refl;
          starts = λ no_longer. starts_between k.log m.0.told m.0.seen q.told q.seen no_longer;
          once = λ place. omega (arith, one_within (λ (x : View I F). times place x.own) s.views id m.0 at, k.own_once place, once_at_most place (length k.log));
        },
      )
