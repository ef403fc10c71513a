-- What a refusal says: the rule that is broken, or the limit that is passed.
use Rattle.std.proofs.Common.{◌≡◌, ℕ, List, reverse, Option, Some, None, Result, Ok, Err, refl, ap, ◌∙◌}
use Rattle.cov_base.specs.declared.position.Pos.{Pos}
use Rattle.cov_base.specs.declared.failure.Failure.TheVariants.{Fault}
use Rattle.ada_meaning.specs.Program.{Program}
use Rattle.ada_rules.specs.Environment.{naming, typing}
use Rattle.ada_rules.specs.Legal.{Checked, unnamed, mistyped, too_large, legal, program_of, refused_or, after_step, after_counts, after_values, after_names, checked_in}
use Rattle.ada_rules.specs.Library.{Library}
use Rattle.ada_rules.specs.Limits.{first_excess}
use Rattle.ada_rules.specs.Refusals.{BreaksNames, BreaksTypes}
use Rattle.ada_rules.specs.Statics.{first_unmet}
use Rattle.ada_rules.specs.Units.{Walked, judged_in}
use Rattle.walked_program.specs.declared.fault.CheckFault.{CheckFault}
use Rattle.walked_program.specs.Checking.{IsRefusal, breaks_names, breaks_types, passes_a_limit, IsBroken}
use Rattle.program_weights.specs.Wholes.{PassesLimit}

-- the place of a verdict on limits
abbrev excess_at : Checked → Option Pos
excess_at (too_large p) = Some p
excess_at v = None

none_is_some : {p : Pos} → None ≡ Some p → ⊥
none_is_some e = cc

-- the steps before the limits pass
behind_names : {A : Type 0} (r : Result A Pos) (v : Checked) (p : Pos) → excess_at (after_step unnamed r (λ x. v)) ≡ Some p → excess_at v ≡ Some p
behind_names (Ok x) v p h = h
behind_names (Err q) v p h = absurd (none_is_some h)

behind_values : (o : Option Pos) (v : Checked) (p : Pos) → excess_at (refused_or mistyped o (λ u. v)) ≡ Some p → excess_at v ≡ Some p
behind_values None v p h = h
behind_values (Some q) v p h = absurd (none_is_some h)

module _ (l : Library) (main : List ℕ) (p : Pos) where
  at_counts : (x : Walked) → (judged_in typing l main).answer ≡ Ok x → (o : Option Pos) → first_excess x.world x.next l.units ≡ o
      → excess_at (refused_or too_large o (λ u. legal (program_of x.world x.next main))) ≡ Some p → PassesLimit l main p
  at_counts x typed (Some q) is h = record { walked = x; typed = typed; excess = is ∙ h }
  at_counts x typed None is h = absurd (none_is_some h)

  at_types : (r : Result Walked Pos) → (judged_in typing l main).answer ≡ r → excess_at (after_step mistyped r (after_values l main)) ≡ Some p
      → PassesLimit l main p
  at_types (Err q) is h = absurd (none_is_some h)
  at_types (Ok x) is h =
      at_counts x is (first_excess x.world x.next l.units) refl
      (behind_values (first_unmet x.world.instances (reverse x.next.demands)) (after_counts l main x) p h)

  pub limit_passed : checked_in l main ≡ too_large p → PassesLimit l main p
  limit_passed e =
      at_types (judged_in typing l main).answer refl
      (behind_names (judged_in naming l main).answer (after_names l main) p (ap excess_at e))

-- each refusal has a reason
module _ (names : (l : Library) (main : List ℕ) (p : Pos) → checked_in l main ≡ unnamed p → BreaksNames l main p)
    (types : (l : Library) (main : List ℕ) (p : Pos) → checked_in l main ≡ mistyped p → BreaksTypes l main p) where
  pub is_broken : (l : Library) (main : List ℕ) (fault : CheckFault) → IsRefusal (checked_in l main) (Fault fault) → IsBroken l main fault
  is_broken l main _ (breaks_names {p = p} e) = names l main p e
  is_broken l main _ (breaks_types {p = p} e) = types l main p e
  is_broken l main _ (passes_a_limit {p = p} e) = limit_passed l main p e
