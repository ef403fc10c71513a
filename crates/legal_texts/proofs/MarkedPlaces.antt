-- Places in units whose marks are known: what a unit sees of the library, and its own package.
use Rattle.std.proofs.Common.{ℕ, List, Option, refl}
use Rattle.ada_syntax.specs.declared.name.Identifier.{Identifier}
use Rattle.ada_rules.specs.Types.{Identity, AdaSubtype}
use Rattle.ada_rules.specs.Entities.{Region}
use Rattle.ada_rules.specs.Environment.{typing, Interface, no_interface, package_interface, generic_interface, instance_interface, subprogram_interface, World, interface_of, entity_of_interface}
use Rattle.ada_rules.specs.Expressions.{part_of_interface}
use Rattle.ada_rules.specs.Library.{Library, seen_more}
use Rattle.ada_rules.specs.Units.{env_of, in_package}
use Rattle.legal_texts.specs.Leading.{lead_of}
use Rattle.legal_texts.proofs.MarkedNames.{IsMarked, declared_marked, IsMarkedEntity, IsMarkedRegion, IsMarkedPlace}
use Rattle.legal_texts.proofs.SeenRegions.{seen_more_so}

module _ (P : Identity → AdaSubtype → Type 0) where
  -- each part that a unit shows, of a package or through an instance, is such a mark where it is one
  pub record HasMarks (w : World) : Type 0 where
    pub units : (n : ℕ) (name : List ℕ) → IsMarked P (lead_of (part_of_interface w name (interface_of w n)))
    pub predefined : IsMarkedRegion P w.standard.predefined
    pub test_io : IsMarkedRegion P w.standard.test_io_declarations

  unit_marked : (n : ℕ) (i : Interface) → IsMarkedEntity P (entity_of_interface n i)
  unit_marked n no_interface = tt
  unit_marked n (package_interface region) = tt
  unit_marked n (generic_interface formals region) = tt
  unit_marked n (instance_interface g k actuals) = tt
  unit_marked n (subprogram_interface r) = tt

  module _ (w : World) (h : HasMarks w) where
    pub seen_marked : (l : Library) (is : List Identifier) (region : Region) → IsMarkedRegion P region → IsMarkedRegion P (seen_more w l is region)
    seen_marked l is region all = seen_more_so (IsMarkedEntity P) tt w (λ m. unit_marked m (interface_of w m)) l is region all

    -- in a package, in which these are declared already
    pub package_marked : (m : ℕ) (name : List ℕ) (g : Option ℕ) (n : ℕ) (region local : Region) → IsMarkedRegion P region → IsMarkedRegion P local
        → IsMarkedPlace P (in_package (env_of typing w m name region) g n local)
    package_marked m name g n region local seen own = record {
      step = refl;
      regions = (own, (seen, (h.predefined, tt)));
      own = own;
      units = h.units;
      test_io = λ part. declared_marked P part w.standard.test_io_declarations h.test_io;
    }
