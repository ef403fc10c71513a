-- Decisions of a legal program are numbered in turn, and none has too many conditions; and what makes it well-formed.
use Rattle.std.proofs.Common.{◌≡◌, ℕ, if◌then◌else◌, List, [], ◌∷◌, map, reverse, length, refl, sym, ap, ◌∙◌, subst}
use Rattle.cov_base.specs.Lists.{Everywhere}
use Rattle.cov_base.specs.declared.position.Pos.{Pos}
use Rattle.ada_syntax.specs.declared.unit.Unit.{Unit as LibraryUnit}
use Rattle.ada_meaning.specs.Collected.{labels_of, decisions_of}
use Rattle.ada_meaning.specs.Obligations.{numbers, inserted, in_order, ordered_labels, ordered_decisions, ordered_exceptions, IsNumbered}
use Rattle.cov_base.specs.TextOrder.{precedes}
use Rattle.ada_meaning.specs.Program.{Program}
use Rattle.ada_meaning.specs.WellFormed.{IsWellFormed}
use Rattle.ada_rules.specs.Entities.{whole_standard}
use Rattle.ada_rules.specs.Environment.{typing, no_interface, beginning_state}
use Rattle.ada_rules.specs.Library.{Library}
use Rattle.ada_rules.specs.Units.{all_interfaces, all_bodies_judged, world_before}
use Rattle.legal_laws.proofs.ListedPrograms.{instances_in_order}
use Rattle.legal_programs.specs.Deciding.{IsNarrow}
use Rattle.legal_programs.specs.InText.{IsBehind, Rise, IsInTextOrder, IsFormedInInstances}
use Rattle.legal_programs.specs.WholeWorld.{IsWholeInterface, IsWholeStandard, AreDecidedInTurn}
use Rattle.legal_programs.specs.Walked.{IsLegal}
use Rattle.legal_programs.proofs.Counted.{states_of}
use Rattle.legal_programs.proofs.Deciding.{decides_as}
use Rattle.legal_programs.proofs.DecidedBodies.{Turn}
use Rattle.legal_programs.proofs.DecidedUnits.{Seen, interfaces_seen, all_bodies_turn}
use Rattle.legal_programs.proofs.Finals.{none_exceeded}
use Rattle.legal_programs.proofs.Passed.{of_ok}
use Rattle.legal_programs.proofs.PlacedUnits.{labels_placed}
use Rattle.legal_programs.proofs.QuietInterfaces.{labels_numbered, declared_once}
use Rattle.legal_programs.proofs.Worlds.{has_main_sub}

pub none_declared : (us : List LibraryUnit) → Everywhere IsWholeInterface (map (λ u. no_interface) us)
none_declared [] = tt
none_declared (u ∷ us) = (tt, none_declared us)

pub whole_is_whole : IsWholeStandard whole_standard
whole_is_whole = record {
  predefined = (tt, (tt, (tt, (tt, (tt, (tt, (tt, (tt, (tt, tt)))))))));
  test_io = (tt, (tt, (tt, tt)));
}

-- what stands in order stays in order
first_stays : {X : Type 0} (place : X → Pos) (x : X) (ys : List X) → IsBehind (place x) (map place ys)
    → inserted (λ a b. precedes (place a) (place b)) x ys ≡ (x ∷ ys)
first_stays place x [] k = refl
first_stays place x (y ∷ ys) k = ap (λ b. if b then y ∷ inserted (λ a c. precedes (place a) (place c)) x ys else x ∷ y ∷ ys) k

rise_stays : {X : Type 0} (place : X → Pos) (xs : List X) → Rise (map place xs) → in_order (λ a b. precedes (place a) (place b)) xs ≡ xs
rise_stays place [] h = refl
rise_stays place (x ∷ xs) h =
    ap (inserted (λ a b. precedes (place a) (place b)) x) (rise_stays place xs h.1) ∙ first_stays place x xs h.0

module _ (l : Library) (main : List ℕ) (p : Program) (is : IsLegal l main p) (standard : IsWholeStandard l.standard) where
  decided : AreDecidedInTurn is.walked.next
  decided =
      let seen = of_ok (λ y. Seen beginning_state y)
      (all_interfaces typing l (record { world = world_before l; next = beginning_state }) l.order).answer is.walk.seen is.walk.interfaces
      (interfaces_seen l (record { world = world_before l; next = beginning_state }) l.order
      (record { standard = standard; interfaces = none_declared l.units })) in
      of_ok (Turn is.walk.seen.next) (all_bodies_judged typing l is.walk.seen.world is.walk.seen.next 0 l.units).answer is.walked.next is.walk.bodies
      (all_bodies_turn l is.walk.seen.world is.walk.seen.next 0 l.units seen.1)
      (decides_as beginning_state is.walk.seen.next [] (decisions_of (reverse is.walk.seen.next.subprograms))
      (sym (ap (λ ss. decisions_of (reverse ss)) (states_of l main p is).seen.subprograms)) seen.0)

  pub decisions_numbered : map (λ h. h.label.number) (decisions_of p.subprograms) ≡ numbers 0 (length (decisions_of p.subprograms))
  decisions_numbered =
      subst (λ q. map (λ h. h.label.number) (decisions_of q.subprograms) ≡ numbers 0 (length (decisions_of q.subprograms))) (sym is.made) decided.numbered

  pub decisions_narrow : Everywhere IsNarrow (decisions_of p.subprograms)
  decisions_narrow =
      subst (λ q. Everywhere IsNarrow (decisions_of q.subprograms)) (sym is.made)
      (decided.few (none_exceeded is.walked.world is.walked.next l.units is.limited).places).1

  -- the numbers of a program whose obligations stand in the order of the text
  pub numbered : IsInTextOrder l.units p → IsNumbered p
  numbered order =
      let labels_in_order : ordered_labels p ≡ labels_of p.subprograms =
      rise_stays (λ x. x.place) (labels_of p.subprograms) (subst Rise (sym (labels_placed l main p is)) order.statements) in
      let decisions_in_order : ordered_decisions p ≡ decisions_of p.subprograms =
      rise_stays (λ h. h.label.place) (decisions_of p.subprograms) order.decisions in
      record {
        statements = subst (λ ls. map (λ x. x.number) ls ≡ numbers 0 (length ls)) (sym labels_in_order) (labels_numbered l main p is);
        decisions = subst (λ ds. map (λ h. h.label.number) ds ≡ numbers 0 (length ds)) (sym decisions_in_order) decisions_numbered;
        instances = subst (λ q. in_order (λ a b. precedes a.place b.place) q.instances ≡ q.instances) (sym is.made) (instances_in_order is.walked.world is.walked.next main);
        exceptions = subst (λ q. q.exceptions ≡ map (λ x. x.entry) (ordered_exceptions q)) (sym is.made) refl;
      }

  pub well_formed : IsInTextOrder l.units p → IsFormedInInstances p → IsWellFormed p
  well_formed order formed =
      let main_sub = has_main_sub l main p is in
      record {
        numbered = numbered order;
        declared = declared_once l main p is;
        resolved = formed.resolved;
        narrow = decisions_narrow;
        library = formed.library;
        bodies = formed.bodies;
        main = main_sub.main;
        is_main = main_sub.is_main;
        main_alone = main_sub.main_alone;
      }
