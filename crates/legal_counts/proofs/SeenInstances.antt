-- In a legal program each package is seen as what it is, and each instance as one of a package with formals.
use Rattle.std.proofs.Common.{◌≡◌, ℕ, true, false, List, Some, slice_get, ap, ◌∙◌}
use Rattle.ada_syntax.specs.declared.unit.Unit.{Unit as LibraryUnit}
use Rattle.ada_meaning.specs.Program.{Program}
use Rattle.ada_rules.specs.Environment.{typing, World, interface_of, beginning_state}
use Rattle.ada_rules.specs.Library.{Library, is_instance, is_package_body, units_but_bodies}
use Rattle.ada_rules.specs.Units.{is_generic_interface, all_interfaces, world_before}
use Rattle.legal_programs.specs.Walked.{IsLegal}
use Rattle.legal_programs.proofs.Passed.{of_ok}
use Rattle.legal_types.specs.legal_instances.specs.Ordered.{IsWholeOrder}
use Rattle.legal_types.specs.TextGenerics.{shown_in}
use Rattle.legal_counts.specs.Seen.{IsSeenAsInstance}
use Rattle.legal_counts.proofs.ShownInstances.{AreShown, shown_behind, instance_among}
use Rattle.legal_counts.proofs.ShownInterfaces.{all_right}

module _ (l : Library) (main : List ℕ) (p : Program) (is : IsLegal l main p) (whole : IsWholeOrder l) where
  same_interface : (n : ℕ) → interface_of is.walked.world n ≡ interface_of is.walk.seen.world n
  same_interface n = ap (λ (v : World). interface_of v n) is.walk.world

  pub generics_seen_so : (n : ℕ) (u : LibraryUnit) → slice_get l.units n ≡ Some u → is_package_body u.item ≡ false
      → is_generic_interface (interface_of is.walked.world n) n ≡ shown_in n u.item
  generics_seen_so n u there other = ap (λ i. is_generic_interface i n) (same_interface n) ∙ all_right l main p is whole n u there other

  pub instances_seen_so : (n : ℕ) (u : LibraryUnit) → slice_get l.units n ≡ Some u → is_instance u.item ≡ true → IsSeenAsInstance is.walked.world l.units n
  instances_seen_so n u there one =
      let shown = of_ok (AreShown l.units (units_but_bodies 0 l.units))
      (all_interfaces typing l (record { world = world_before l; next = beginning_state }) l.order).answer is.walk.seen
      is.walk.interfaces (shown_behind l whole.units) in
      let here = shown.instances n u there one (instance_among l.units n u there one) in
      record { generic = here.generic; actuals = here.actuals; seen = same_interface n ∙ here.shows; formals = here.formals }
