-- Legal programs are well-formed in each text of their units, in each instance of it.
use Rattle.std.proofs.Common.{ℕ, List, Option}
use Rattle.cov_base.specs.Lists.{Everywhere}
use Rattle.ada_syntax.specs.declared.unit.Unit.{Unit as LibraryUnit}
use Rattle.ada_meaning.specs.Bodies.{StandsIn}
use Rattle.ada_meaning.specs.Program.{Program}
use Rattle.ada_rules.specs.Entities.{whole_standard}
use Rattle.ada_rules.specs.Environment.{State}
use Rattle.ada_rules.specs.Library.{library_of}
use Rattle.legal_instances.specs.InOrder.{UnitsRise}
use Rattle.legal_instances.specs.Ordered.{IsWholeOrder}
use Rattle.legal_instances.specs.Resolved.{AreTextsFormed, HaveStaticActuals}
use Rattle.legal_laws.specs.Bounded.{AreObjectsBounded, IsBounded}
use Rattle.legal_laws.specs.Valued.{AreFactsOf}
use Rattle.legal_programs.specs.Final.{IsServed}
use Rattle.legal_programs.specs.Growing.{Extends}
use Rattle.legal_programs.specs.Walked.{IsLegal}
use Rattle.legal_texts.specs.UnitTexts.{AreUnitTexts}
use Rattle.legal_texts.proofs.SeenWorlds.{IsSeenSo}
use Rattle.legal_texts.proofs.WholePrograms.{texts_are_formed, texts_are_bounded}
use Rattle.legal_texts.proofs.WholeWorlds.{all_seen}

module _ (us : List LibraryUnit) (main : List ℕ) (p : Program) (is : IsLegal (library_of whole_standard us) main p) (rise : UnitsRise us)
    (of_facts : AreFactsOf p is.walked.world.instances) (in_order : IsWholeOrder (library_of whole_standard us)) (texts : AreUnitTexts us)
    (served : (o : Option ℕ) (inst : ℕ) → StandsIn p o inst → (s : State) → Extends s is.walked.next → IsServed is.walked.world.instances p o inst s)
    (have : HaveStaticActuals p) where
  seen : IsSeenSo (library_of whole_standard us) main p is is.walk.seen
  seen = all_seen us main p is of_facts in_order texts served rise have

  pub all_formed : AreTextsFormed p
  all_formed = texts_are_formed us main p is rise of_facts in_order texts served seen

  pub all_bounded : AreObjectsBounded p × Everywhere (λ o. (i : ℕ) → StandsIn p o.generic i → IsBounded p i o.subtype) p.objects
  all_bounded = texts_are_bounded us main p is rise of_facts in_order texts served seen
