-- The steps of the walk at a library subprogram, a package and a generic: what is known along the walk is known behind each of them.
use Rattle.std.proofs.Common.{◌≡◌, ℕ, List, Option, Some, None, IfSome, Ok, slice_get, refl, subst}
use Rattle.ada_syntax.specs.declared.unit.Formal.{Formal}
use Rattle.ada_syntax.specs.declared.unit.LibraryItem.TheVariants as library
use Rattle.ada_syntax.specs.declared.unit.PackageSpecification.{PackageSpecification}
use Rattle.ada_syntax.specs.declared.unit.SubprogramBody.{SubprogramBody}
use Rattle.ada_syntax.specs.declared.unit.Unit.{Unit as LibraryUnit}
use Rattle.ada_meaning.specs.Bodies.{StandsIn}
use Rattle.ada_meaning.specs.Program.{Program}
use Rattle.ada_rules.specs.Entities.{whole_standard}
use Rattle.ada_rules.specs.Environment.{typing, World, State}
use Rattle.ada_rules.specs.Library.{Library}
use Rattle.ada_rules.specs.Units.{Walked, interface_judged}
use Rattle.legal_laws.specs.Valued.{AreFactsOf}
use Rattle.legal_programs.specs.Final.{IsServed}
use Rattle.legal_programs.specs.Growing.{Extends}
use Rattle.legal_programs.specs.Walked.{IsLegal}
use Rattle.legal_programs.proofs.DecidedUnits.{every_at}
use Rattle.legal_instances.specs.Ordered.{IsWholeOrder}
use Rattle.legal_texts.specs.UnitTexts.{IsItemText, AreUnitTexts}
use Rattle.legal_texts.proofs.AnywhereKnown.{ShowsClosed}
use Rattle.legal_texts.proofs.InterfaceWalk.{IsAtUnit}
use Rattle.legal_texts.proofs.SeenWorlds.{IsSeenSo}
use Rattle.legal_texts.proofs.SubprogramSteps.{subprogram_seen}
use Rattle.legal_texts.proofs.PackageSteps.{package_seen}
use Rattle.legal_texts.proofs.GenericSteps.{generic_seen}

module _ (l : Library) (main : List ℕ) (p : Program) (legal : IsLegal l main p) (of_facts : AreFactsOf p legal.walked.world.instances)
    (in_order : IsWholeOrder l) (standard_is : l.standard ≡ whole_standard) (texts : AreUnitTexts l.units)
    (served : (o : Option ℕ) (inst : ℕ) → StandsIn p o inst → (s : State) → Extends s legal.walked.next → IsServed legal.walked.world.instances p o inst s)
    (closed : ShowsClosed legal.walk.seen.world) where
  abbrev final : World
  final = legal.walk.seen.world

  abbrev last : State
  last = legal.walked.next

  text_at : (n : ℕ) (u : LibraryUnit) → slice_get l.units n ≡ Some u → IsItemText u.item
  text_at n u there = subst (λ o. IfSome o (λ v. IsItemText v.item)) there (every_at (λ v. IsItemText v.item) l.units n texts)

  module _ (x : Walked) (n : ℕ) (u : LibraryUnit) (y : Walked) (at : IsAtUnit l final last x n u y) (h : IsSeenSo l main p legal x) where
    pub subprogram_step : (b : SubprogramBody) → u.item ≡ library.Subprogram b → IsSeenSo l main p legal y
    subprogram_step b item =
        subprogram_seen l main p legal closed x n u b item h y at (subst (λ i. (interface_judged typing l x.world x.next n u i).answer ≡ Ok y) item at.judged)

    pub package_step : (z : PackageSpecification) → u.item ≡ library.Package z → z.formals ≡ None → IsSeenSo l main p legal y
    package_step z item no_formals =
        package_seen l main p legal of_facts in_order standard_is (served None 0 refl) closed x n u z item no_formals (subst IsItemText item (text_at n u at.there)) h y at
        (subst (λ i. (interface_judged typing l x.world x.next n u i).answer ≡ Ok y) item at.judged)

    pub generic_step : (z : PackageSpecification) (fs : List Formal) → u.item ≡ library.Package z → z.formals ≡ Some fs → IsSeenSo l main p legal y
    generic_step z fs item has_formals =
        generic_seen l main p legal x n u z fs item has_formals h y at (subst (λ i. (interface_judged typing l x.world x.next n u i).answer ≡ Ok y) item at.judged)
