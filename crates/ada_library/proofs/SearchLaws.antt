-- A search: what was reached, step by step.
use Rattle.std.proofs.Common.{◌≡◌, ℕ, zero, suc, nat_eq, Bool, true, false, not, ◌&&◌, ◌||◌, ◌⊎◌, inl, inr, ⊎_elim, List, [], ◌∷◌, if◌then◌else◌, refl, sym, ap, ◌∙◌, true≢false, eqb-true, eq-eqb}
use Rattle.std.proofs.lemmas.Bool.{and_parts}
use Rattle.ada_rules.specs.Library.{is_among, edges, joined, next_ones, reached}
use Rattle.ada_library.specs.Marking.{is_marked, AreMarked, MarksNew, IsSearched}
use Rattle.ada_library.proofs.MarkLaws.{either_way}

or_true : (b : Bool) → (b || true) ≡ true
or_true true = refl
or_true false = refl

behind_false : (a b : Bool) → a ≡ false → (a || b) ≡ true → b ≡ true
behind_false true b f h = absurd (true≢false f)
behind_false false b f h = h

-- what is joined
there_already : (n : ℕ) (ns ms : List ℕ) (y : ℕ) (b : Bool) → nat_eq y n ≡ b → is_among ms n ≡ true
    → (is_among ns y || is_among ms y) ≡ ((b || is_among ns y) || is_among ms y)
there_already n ns ms y true e h = ap (λ m. is_among ns y || m) (ap (is_among ms) (eqb-true y n e) ∙ h) ∙ or_true (is_among ns y)
there_already n ns ms y false e h = refl

by_there : (n : ℕ) (ns ms : List ℕ) (y : ℕ) (b : Bool) → is_among ms n ≡ b
    → is_among (joined ns ms) y ≡ (is_among ns y || is_among ms y)
    → is_among (joined ns (n ∷ ms)) y ≡ (is_among ns y || is_among (n ∷ ms) y)
    → is_among (if b then joined ns ms else joined ns (n ∷ ms)) y ≡ ((nat_eq y n || is_among ns y) || is_among ms y)
by_there n ns ms y true h rest more = rest ∙ there_already n ns ms y (nat_eq y n) refl h
by_there n ns ms y false h rest more = more ∙ either_way (is_among ns y) (nat_eq y n) (is_among ms y)

pub joined_is : (ns ms : List ℕ) (y : ℕ) → is_among (joined ns ms) y ≡ (is_among ns y || is_among ms y)
joined_is [] ms y = refl
joined_is (n ∷ ns) ms y = by_there n ns ms y (is_among ms n) refl (joined_is ns ms y) (joined_is ns (n ∷ ms) y)

module _ (graph : List (List ℕ)) where
  pub next_joined : (n : ℕ) (ns : List ℕ) (y : ℕ) → is_among (next_ones graph (n ∷ ns)) y ≡ (is_among (edges graph n) y || is_among (next_ones graph ns) y)
  next_joined n ns y = joined_is (edges graph n) (next_ones graph ns) y

  -- what is named is named by one of the units
  pub record Source (ns : List ℕ) (y : ℕ) : Type 0 where
    pub from : ℕ
    pub within : is_among ns from ≡ true
    pub names : is_among (edges graph from) y ≡ true

  later : (n : ℕ) (ns : List ℕ) (y : ℕ) → Source ns y → Source (n ∷ ns) y
  later n ns y s = record { from = s.from; within = ap (λ b. nat_eq s.from n || b) s.within ∙ or_true (nat_eq s.from n); names = s.names }

  first_source : (n : ℕ) (ns : List ℕ) (y : ℕ) (b : Bool) → is_among (edges graph n) y ≡ b
      → (is_among (edges graph n) y || is_among (next_ones graph ns) y) ≡ true → (is_among (next_ones graph ns) y ≡ true → Source ns y)
      → Source (n ∷ ns) y
  first_source n ns y true e h rest = record { from = n; within = ap (λ b. b || is_among ns n) (eq-eqb n n refl); names = e }
  first_source n ns y false e h rest =
      later n ns y (rest (behind_false (is_among (edges graph n) y) (is_among (next_ones graph ns) y) e h))

  source : (ns : List ℕ) (y : ℕ) → is_among (next_ones graph ns) y ≡ true → Source ns y
  source [] y h = absurd (true≢false (sym h))
  source (n ∷ ns) y h = first_source n ns y (is_among (edges graph n) y) refl (sym (next_joined n ns y) ∙ h) (source ns y)

  named_by : (n : ℕ) (ns : List ℕ) (m y : ℕ) (b : Bool) → nat_eq m n ≡ b → (nat_eq m n || is_among ns m) ≡ true
      → is_among (edges graph m) y ≡ true → (is_among ns m ≡ true → is_among (next_ones graph ns) y ≡ true)
      → (is_among (edges graph n) y || is_among (next_ones graph ns) y) ≡ true
  named_by n ns m y true e h g rest =
      ap (λ b. b || is_among (next_ones graph ns) y) (ap (λ k. is_among (edges graph k) y) (sym (eqb-true m n e)) ∙ g)
  named_by n ns m y false e h g rest =
      ap (λ b. is_among (edges graph n) y || b) (rest (behind_false (nat_eq m n) (is_among ns m) e h)) ∙ or_true (is_among (edges graph n) y)

  named : (ns : List ℕ) (m y : ℕ) → is_among ns m ≡ true → is_among (edges graph m) y ≡ true → is_among (next_ones graph ns) y ≡ true
  named [] m y h g = absurd (true≢false (sym h))
  named (n ∷ ns) m y h g = next_joined n ns y ∙ named_by n ns m y (nat_eq m n) refl h g (λ k. named ns m y k g)

  -- one step more
  pub reached_more : (k : ℕ) (ns : List ℕ) → reached graph (suc k) ns ≡ joined (next_ones graph (reached graph k ns)) (reached graph k ns)
  reached_more zero ns = refl
  reached_more (suc k) ns = reached_more k (joined (next_ones graph ns) ns)

  same_either : (p q a : Bool) → (p ≡ true → q ≡ true) → (q ≡ true → (p ≡ true) ⊎ (a ≡ true)) → (p || a) ≡ (q || a)
  same_either true q a f g = ap (λ b. b || a) (sym (f refl))
  same_either false true a f g = ⊎_elim (λ h. absurd (true≢false (sym h))) (λ h. h) (g refl)
  same_either false false a f g = refl

  module _ (ns latest : List ℕ) (so_far : IsSearched graph ns latest) where
    new_is_next : (y : ℕ) → is_among (next_ones graph latest) y ≡ true → is_among (next_ones graph ns) y ≡ true
    new_is_next y h = let s = source latest y h in named ns s.from y (so_far.within s.from s.within) s.names

    by_latest : (y : ℕ) (s : Source ns y) (b : Bool) → is_among latest s.from ≡ b
        → (is_among (next_ones graph latest) y ≡ true) ⊎ (is_among ns y ≡ true)
    by_latest y s true e = inl (named latest s.from y e s.names)
    by_latest y s false e = inr (so_far.closed s.from y s.within e s.names)

    next_is_new : (y : ℕ) → is_among (next_ones graph ns) y ≡ true → (is_among (next_ones graph latest) y ≡ true) ⊎ (is_among ns y ≡ true)
    next_is_new y h = let s = source ns y h in by_latest y s (is_among latest s.from) refl

    reached_is : (y : ℕ) → (is_among (next_ones graph latest) y || is_among ns y) ≡ is_among (joined (next_ones graph ns) ns) y
    reached_is y =
        same_either (is_among (next_ones graph latest) y) (is_among (next_ones graph ns) y) (is_among ns y) (new_is_next y) (next_is_new y)
        ∙ sym (joined_is (next_ones graph ns) ns y)

    next_is_reached : (y : ℕ) → is_among (next_ones graph ns) y ≡ true → is_among (joined (next_ones graph ns) ns) y ≡ true
    next_is_reached y h = joined_is (next_ones graph ns) ns y ∙ ap (λ b. b || is_among ns y) h

    module _ (old new : List Bool) (found : List ℕ) (marked : AreMarked ns old) (step : MarksNew (next_ones graph latest) old new [] found) where
      pub step_marked : AreMarked (joined (next_ones graph ns) ns) new
      step_marked y = step.marked y ∙ (ap (λ b. is_among (next_ones graph latest) y || b) (marked y) ∙ reached_is y)

      found_new : (y : ℕ) → is_among found y ≡ true → is_among (next_ones graph latest) y ≡ true
      found_new y h = (and_parts (is_among (next_ones graph latest) y) (not (is_marked old y)) (sym (step.added y) ∙ h)).0

      new_found : (y : ℕ) → is_among (next_ones graph latest) y ≡ true → is_among ns y ≡ false → is_among found y ≡ true
      new_found y h f = step.added y ∙ (λ z. h z && not ((marked y ∙ f) z))

      closed_more : (m y : ℕ) → is_among (joined (next_ones graph ns) ns) m ≡ true → is_among found m ≡ false → is_among (edges graph m) y ≡ true
          → is_among (joined (next_ones graph ns) ns) y ≡ true
      closed_more m y h f g = by_old (is_among ns m) refl where
        only_new : (a b : Bool) → b ≡ false → (a || b) ≡ true → a ≡ true
        only_new true b e k = refl
        only_new false b e k = absurd (true≢false (sym k ∙ e))

        by_old : (b : Bool) → is_among ns m ≡ b → is_among (joined (next_ones graph ns) ns) y ≡ true
        by_old true e = next_is_reached y (named ns m y e g)
        by_old false e =
            absurd (true≢false (sym (new_found m (only_new (is_among (next_ones graph latest) m) (is_among ns m) e (reached_is m ∙ h)) e) ∙ f))

      pub step_searched : IsSearched graph (joined (next_ones graph ns) ns) found
      step_searched = record {
        within = λ y h. next_is_reached y (new_is_next y (found_new y h));
        closed = closed_more;
      }
