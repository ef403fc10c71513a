-- The order of dependence takes units until none is left that names only units before it.
use Rattle.std.proofs.Common.{◌≡◌, ◌≤◌, ℕ, zero, suc, Bool, true, false, List, [], ◌∷◌, ◌++◌, length, Option, Some, None, option_map, refl, sym, ◌∙◌, arith, append-nil, append_assoc}
use Rattle.cov_base.specs.Lists.{Everywhere}
use Rattle.ada_rules.specs.Library.{Picked, is_ready, put_back, picked_if, picked, ordered_on, ordered_from}
use Rattle.legal_instances.specs.Ordered.{HaveSameItems, ComeInTurn}
use Rattle.legal_instances.proofs.Sums.{same_behind, same_both, swapped, same_length}

module _ (graph : List (List ℕ)) where
  -- what was picked is ready, and stood among the others
  record IsPicked (done ns : List ℕ) (p : Picked) : Type 0 where
    ready : is_ready graph done p.first ≡ true
    same : HaveSameItems ns (p.first ∷ p.others)

  abbrev Picks : (done ns : List ℕ) → Option Picked → Type 0
  Picks done ns None = Everywhere (λ n. is_ready graph done n ≡ false) ns
  Picks done ns (Some p) = IsPicked done ns p

  put_so : (done : List ℕ) (n : ℕ) (ns : List ℕ) (o : Option Picked) → is_ready graph done n ≡ false → Picks done ns o
      → Picks done (n ∷ ns) (option_map (put_back n) o)
  put_so done n ns None e h = (e, h)
  put_so done n ns (Some p) e h = record {
    ready = h.ready;
    same = same_both (n ∷ ns) (n ∷ (p.first ∷ p.others)) (p.first ∷ (n ∷ p.others))
        (same_behind n ns (p.first ∷ p.others) h.same) (swapped n p.first p.others);
  }

  picks : (done ns : List ℕ) → Picks done ns (picked graph done ns)
  picks done [] = tt
  picks done (n ∷ ns) = by_ready (is_ready graph done n) refl (picks done ns)
    where
      by_ready : (b : Bool) → is_ready graph done n ≡ b → Picks done ns (picked graph done ns)
          → Picks done (n ∷ ns) (picked_if n ns b (λ u. picked graph done ns))
      by_ready true e rest = record { ready = e; same = λ weight. refl }
      by_ready false e rest = put_so done n ns (picked graph done ns) e rest

  -- what stands in the order, and what is left behind it
  pub record Ends (done rest order : List ℕ) : Type 0 where
    pub more : List ℕ
    pub left : List ℕ
    pub is : order ≡ done ++ more
    pub same : HaveSameItems rest (more ++ left)
    pub turns : ComeInTurn graph done more
    pub stuck : Everywhere (λ n. is_ready graph order n ≡ false) left

  first_more : (done : List ℕ) (p : Picked) (rest order : List ℕ) → IsPicked done rest p → Ends (done ++ p.first ∷ []) p.others order → Ends done rest order
  first_more done p rest order h e = record {
    more = p.first ∷ e.more;
    left = e.left;
    is = e.is ∙ append_assoc done (p.first ∷ []) e.more;
    same = same_both rest (p.first ∷ p.others) (p.first ∷ (e.more ++ e.left)) h.same
        (same_behind p.first p.others (e.more ++ e.left) e.same);
    turns = (h.ready, e.turns);
    stuck = e.stuck;
  }

  ends_here : (done rest : List ℕ) → Everywhere (λ n. is_ready graph done n ≡ false) rest → Ends done rest done
  ends_here done rest h =
      record { more = []; left = rest; is = sym (append-nil done); same = λ weight. refl; turns = tt; stuck = h }

  empty_rest : (rest : List ℕ) (done : List ℕ) → length rest ≤ 0 → Everywhere (λ n. is_ready graph done n ≡ false) rest
  empty_rest [] done h = tt
  empty_rest (n ∷ rest) done h = absurd (some h)
    where
      some : length (n ∷ rest) ≤ 0 → ⊥
      some k = omega (arith, k)

  pub ends : (fuel : ℕ) (done rest : List ℕ) → length rest ≤ fuel → Ends done rest (ordered_from graph fuel done rest)
  ends zero done rest h = ends_here done rest (empty_rest rest done h)
  ends (suc fuel) done rest h =
      by_pick (picked graph done rest) (picks done rest) (λ p. ends fuel (done ++ p.first ∷ []) p.others)
    where
      by_pick : (o : Option Picked) → Picks done rest o
          → ((p : Picked) → length p.others ≤ fuel
          → Ends (done ++ p.first ∷ []) p.others (ordered_from graph fuel (done ++ p.first ∷ []) p.others))
          → Ends done rest (ordered_on done o (λ p. ordered_from graph fuel (done ++ p.first ∷ []) p.others))
      by_pick None k later = ends_here done rest k
      by_pick (Some p) k later =
          let count = same_length rest (p.first ∷ p.others) k.same in
          first_more done p rest (ordered_from graph fuel (done ++ p.first ∷ []) p.others) k
          (later p (omega (arith, h, count)))
