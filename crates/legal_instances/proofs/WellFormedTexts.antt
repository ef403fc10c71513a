-- Instances have their values, where the subtypes that they are given have bounds; and a legal program is well-formed, where its text is.
use Rattle.std.proofs.Common.{◌≡◌, ◌+◌, ℕ, List, [], ◌∷◌, Option, Some, None, IfSome, sym, ◌∙◌, subst}
use Rattle.std.specs.Prelude.{unwrap_or}
use Rattle.cov_base.specs.Lists.{Everywhere}
use Rattle.ada_syntax.specs.declared.unit.Unit.{Unit as LibraryUnit}
use Rattle.ada_meaning.specs.Arithmetic.{base_range}
use Rattle.ada_meaning.specs.Obligations.{IsValueOf, AreResolved}
use Rattle.ada_meaning.specs.Program.{Bounds, FormalActual, actual_object, actual_type, actual_subprogram, Instance, Program}
use Rattle.ada_meaning.specs.Resolved.{bounds_in}
use Rattle.ada_meaning.specs.Statics.{static_bounds, values_of}
use Rattle.ada_meaning.specs.WellFormed.{HasBounds, IsWellFormed}
use Rattle.ada_meaning.proofs.StaticValues.{bounds_exact}
use Rattle.ada_rules.specs.Entities.{whole_standard}
use Rattle.ada_rules.specs.Legal.{checked_with, legal}
use Rattle.ada_rules.specs.Library.{library_of}
use Rattle.legal_programs.specs.DecisionPlaces.{units_decisions}
use Rattle.legal_programs.specs.InText.{Rise}
use Rattle.legal_programs.specs.TextPlaces.{units_places}
use Rattle.legal_programs.specs.Walked.{IsLegal}
use Rattle.legal_programs.proofs.DecidedPrograms.{well_formed, whole_is_whole}
use Rattle.legal_programs.proofs.Passed.{is_legal}
use Rattle.legal_programs.proofs.PlacedDecisionUnits.{decisions_placed}
use Rattle.legal_instances.specs.InOrder.{UnitsRise}
use Rattle.legal_instances.specs.Resolved.{HaveConstants, IsStaticActual, HasTypeBounds, AreTextsFormed}
use Rattle.legal_instances.proofs.OwnValues.{all_constants, all_actuals}

module _ (p : Program) where
  type_value : (o : Option Bounds) (b c : Bounds) → HasBounds o → b ≡ unwrap_or o base_range → IfSome o (λ d. c ≡ d) → b ≡ c
  type_value None b c h e k = absurd h
  type_value (Some d) b c h e k = e ∙ sym k

  values_of_actuals : (actuals : List FormalActual) → Everywhere (IsStaticActual p) actuals → Everywhere (HasTypeBounds p) actuals → Everywhere (IsValueOf p) actuals
  values_of_actuals [] h k = tt
  values_of_actuals (actual_object e x ∷ actuals) h k = (h.0, values_of_actuals actuals h.1 k.1)
  values_of_actuals (actual_type r b c ∷ actuals) h k =
      (type_value (static_bounds (values_of p) 0 r) b (bounds_in p 0 r) k.0 h.0 (bounds_exact p 0 r), values_of_actuals actuals h.1 k.1)
  values_of_actuals (actual_subprogram t ∷ actuals) h k = (tt, values_of_actuals actuals h.1 k.1)

  are_resolved : (n : ℕ) (is : List Instance) → HaveConstants p n is → Everywhere (λ i. Everywhere (IsStaticActual p) i.actuals) is
      → Everywhere (λ i. Everywhere (HasTypeBounds p) i.actuals) is → AreResolved p n is
  are_resolved n [] h k l = tt
  are_resolved n (i ∷ is) h k l = (record { formals = values_of_actuals i.actuals k.0 l.0; constants = h.0 }, are_resolved (n + 1) is h.1 k.1 l.1)

pub texts_formed : (units : List LibraryUnit) (main : List ℕ) (p : Program) → IsLegal (library_of whole_standard units) main p → UnitsRise units
    → Rise (units_places units) → Rise (units_decisions units) → AreTextsFormed p → IsWellFormed p
texts_formed units main p is rise statements decisions formed =
    well_formed (library_of whole_standard units) main p is whole_is_whole
    (record { statements = statements; decisions = subst Rise (sym (decisions_placed (library_of whole_standard units) main p is whole_is_whole)) decisions })
    (record {
      resolved = are_resolved p 1 p.instances (all_constants units main p is rise) (all_actuals units main p is rise) formed.types;
      library = formed.library;
      bodies = formed.bodies;
    })

pub legal_formed : (units : List LibraryUnit) (main : List ℕ) (p : Program) → checked_with whole_standard units main ≡ legal p → UnitsRise units
    → Rise (units_places units) → Rise (units_decisions units) → AreTextsFormed p → IsWellFormed p
legal_formed units main p h rise statements decisions formed =
    texts_formed units main p (is_legal (library_of whole_standard units) main p h) rise statements decisions formed
