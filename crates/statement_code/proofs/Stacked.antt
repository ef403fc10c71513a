-- Objects that stand behind one another are laid out.
use Rattle.std.proofs.Common.{◌≡◌, ◌≢◌, ℕ, ◌+◌, ◌≤◌, ◌⊎◌, inl, inr, nat_eq, true, false, List, [], ◌∷◌, arith}
use Rattle.std.proofs.lemmas.Bool.Decides.{eqb_tells}
use Rattle.cov_base.specs.Lists.{Everywhere}
use Rattle.ada_meaning.specs.Objects.{AreDistinct}
use Rattle.statement_code.specs.Laid.{AreStacked}
use Rattle.statement_code.specs.Programs.{Plan, slot_in_plan, size_in_plan, AreBeside, AreLaid}

module _ (plan : Plan) where
  -- those from a slot on stand behind lower slots
  all_behind : (ds : List ℕ) (low from : ℕ) → low ≤ from → AreStacked plan from ds → Everywhere (λ e. low + size_in_plan plan e ≤ slot_in_plan plan e + 1) ds
  all_behind [] low from le stacked = tt
  all_behind (d ∷ ds) low from le stacked =
      let here = stacked.0.behind in (omega (arith, le, here), all_behind ds low (slot_in_plan plan d + 1) (omega (arith, le, here)) stacked.1)

  beside : (d : ℕ) (ds : List ℕ) → Everywhere (λ e. slot_in_plan plan d + 1 + size_in_plan plan e ≤ slot_in_plan plan e + 1) ds → Everywhere (λ e. d ≡ e → ⊥) ds → Everywhere (AreBeside plan d) ds
  beside d [] behind others = tt
  beside d (e ∷ ds) behind others = ((differs (eqb_tells d e), inl (omega (arith, behind.0))), beside d ds behind.1 others.1)
    where
      differs : ((nat_eq d e ≡ true) × (d ≡ e)) ⊎ ((nat_eq d e ≡ false) × (d ≢ e)) → nat_eq d e ≡ false
      differs (inl is) = absurd (others.0 is.1)
      differs (inr not) = not.0

  pub stacked_law : (ds : List ℕ) (from : ℕ) → AreStacked plan from ds → AreDistinct ds → AreLaid plan ds
  stacked_law [] from stacked apart = tt
  stacked_law (d ∷ ds) from stacked apart =
      let here = stacked.0.behind in (
        record { framed = stacked.0.framed; fits = omega (arith, here); low = stacked.0.below },
        (beside d ds (all_behind ds (slot_in_plan plan d + 1) (slot_in_plan plan d + 1) (omega arith) stacked.1) apart.0, stacked_law ds (slot_in_plan plan d + 1) stacked.1 apart.1),
      )
