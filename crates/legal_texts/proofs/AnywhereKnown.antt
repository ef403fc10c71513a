-- What is known wherever it is seen: it is whole, hangs on no instance, and is known in none. Where all that units show of each other is so, it is known in the
-- text of each unit, in each instance.
use Rattle.std.proofs.Common.{◌≡◌, ℕ, List, Option, Some, None, IfSome, refl, sym, subst, inl, inr}
use Rattle.std.specs.Prelude.{◌⊎◌}
use Rattle.cov_base.specs.Lists.{Everywhere}
use Rattle.ada_syntax.specs.declared.name.Identifier.{Identifier}
use Rattle.ada_meaning.specs.Declared.{object_shape}
use Rattle.ada_meaning.specs.Program.{Subprogram, Program}
use Rattle.ada_meaning.specs.Shape.{Shape}
use Rattle.ada_meaning.specs.Tree as tree
use Rattle.ada_meaning.specs.Types.{here, of_instance}
use Rattle.ada_meaning.specs.WellFormed.{StartSees}
use Rattle.ada_rules.specs.Types.{integer, AdaType, integer_type, boolean_type}
use Rattle.ada_rules.specs.Entities.{Entity, component, unit, Region, whole_standard, Actual}
use Rattle.ada_rules.specs.Environment.{typing, Interface, no_interface, package_interface, generic_interface, instance_interface, subprogram_interface, World, interface_of, entity_of_unit, entity_of_interface}
use Rattle.ada_rules.specs.Expressions.{part_of_generic, part_of_interface}
use Rattle.ada_rules.specs.Library.{Library, seen_more}
use Rattle.ada_rules.specs.Units.{env_of, in_package}
use Rattle.legal_laws.specs.Known.{IsOneOf, IsEntity, IsEnv}
use Rattle.legal_laws.proofs.Passing.{some_so}
use Rattle.legal_laws.proofs.Predefined.{predefined_known, test_io_known}
use Rattle.legal_laws.proofs.Wider.{entity_wider}
use Rattle.legal_programs.specs.Closed.{IsClosedObject, IsClosedEntity}
use Rattle.legal_programs.specs.Deciding.{IsWhole}
use Rattle.legal_programs.proofs.ClosedEntities.{entity_anywhere}
use Rattle.legal_texts.proofs.GrownWorlds.{IsGrown}
use Rattle.legal_texts.proofs.PackageItems.{no_subprogram}
use Rattle.legal_texts.proofs.SeenRegions.{seen_more_so}

-- the objects of the library level, as texts outside subprograms see them in an instance
abbrev pub shapes : Program → (inst : ℕ) → tree.Object → Shape
shapes p inst o = object_shape p inst no_subprogram o

abbrev pub Sees : Program → (inst : ℕ) → tree.Object → Type 0
Sees p inst o = StartSees p inst no_subprogram o

module _ (p : Program) (ds : List AdaType) where
  pub record IsAnywhere (x : Entity) : Type 0 where
    pub whole : IsWhole x
    pub closed : IsClosedEntity x
    pub known : IsEntity p 0 (IsOneOf ds) (shapes p 0) (Sees p 0) x

  module _ (inst : ℕ) (sub : Subprogram) where
    seen_there : (o : tree.Object) → IsClosedObject o → Sees p 0 o → StartSees p inst sub o
    seen_there (tree.library_object here d) c h = absurd c
    seen_there (tree.library_object (of_instance i) d) c h = h
    seen_there (tree.local_object d) c h = absurd c

    shaped_there : (o : tree.Object) → IsClosedObject o → Sees p 0 o → shapes p 0 o ≡ object_shape p inst sub o
    shaped_there (tree.library_object here d) c h = absurd c
    shaped_there (tree.library_object (of_instance i) d) c h = refl
    shaped_there (tree.local_object d) c h = absurd c

    pub anywhere_there : (x : Entity) → IsAnywhere x → IsEntity p inst (IsOneOf ds) (object_shape p inst sub) (StartSees p inst sub) x
    anywhere_there x h =
        entity_anywhere p 0 inst (IsOneOf ds) (shapes p 0) (object_shape p inst sub) (Sees p 0) (StartSees p inst sub) seen_there shaped_there x h.whole h.closed h.known

-- with more types
pub anywhere_more : (p : Program) (ds es : List AdaType) → ((t : AdaType) → IsOneOf ds t → IsOneOf es t) → (x : Entity) → IsAnywhere p ds x → IsAnywhere p es x
anywhere_more p ds es more x h = record {
  whole = h.whole;
  closed = h.closed;
  known = entity_wider p 0 (IsOneOf ds) (IsOneOf es) more (shapes p 0) (Sees p 0) (Sees p 0) (λ o k. k) x h.known;
}

-- what an earlier world shows of units, a later one shows
module _ (Q : Entity → Type 0) (other : Q component) (name : List ℕ) where
  generic_earlier : (n : ℕ) (actuals : List Actual) (i j : Interface) → (i ≡ no_interface) ⊎ (j ≡ i) → IfSome (part_of_generic n actuals name j) Q
      → IfSome (part_of_generic n actuals name i) Q
  generic_earlier n actuals i j (inl none) h = subst (λ k. IfSome (part_of_generic n actuals name k) Q) (sym none) other
  generic_earlier n actuals i j (inr same) h = subst (λ k. IfSome (part_of_generic n actuals name k) Q) same h

  module _ (w v : World) (grown : IsGrown w v) where
    part_earlier : (i : Interface) → IfSome (part_of_interface v name i) Q → IfSome (part_of_interface w name i) Q
    part_earlier no_interface h = tt
    part_earlier (package_interface region) h = h
    part_earlier (generic_interface formals region) h = tt
    part_earlier (instance_interface None k actuals) h = h
    part_earlier (instance_interface (Some g) k actuals) h = generic_earlier k actuals (interface_of w g) (interface_of v g) (grown g) h
    part_earlier (subprogram_interface r) h = tt

    pub parts_earlier : (n : ℕ) → IfSome (part_of_interface v name (interface_of v n)) Q → IfSome (part_of_interface w name (interface_of w n)) Q
    parts_earlier n h = of_either (grown n)
      where
        of_either : (interface_of w n ≡ no_interface) ⊎ (interface_of v n ≡ interface_of w n) → IfSome (part_of_interface w name (interface_of w n)) Q
        of_either (inl none) = subst (λ i. IfSome (part_of_interface w name i) Q) (sym none) tt
        of_either (inr same) = part_earlier (interface_of w n) (subst (λ i. IfSome (part_of_interface v name i) Q) same h)

pub units_earlier : (Q : Entity → Type 0) → ((n : ℕ) → Q (unit n)) → (w v : World) → IsGrown w v → ((n : ℕ) → Q (entity_of_unit v n)) → (n : ℕ) → Q (entity_of_unit w n)
units_earlier Q named w v grown h n = of_either (grown n)
  where
    of_either : (interface_of w n ≡ no_interface) ⊎ (interface_of v n ≡ interface_of w n) → Q (entity_of_unit w n)
    of_either (inl none) = subst (λ i. Q (entity_of_interface n i)) (sym none) (named n)
    of_either (inr same) = subst (λ i. Q (entity_of_interface n i)) same (h n)

-- where units show what is known anywhere
pub record ShowsKnown (p : Program) (ds : List AdaType) (w : World) : Type 0 where
  pub parts : (n : ℕ) (name : List ℕ) → IfSome (part_of_interface w name (interface_of w n)) (IsAnywhere p ds)
  pub units : (n : ℕ) → IsAnywhere p ds (entity_of_unit w n)

pub unit_anywhere : (p : Program) (ds : List AdaType) (n : ℕ) → IsAnywhere p ds (unit n)
unit_anywhere p ds n = record { whole = tt; closed = tt; known = tt }

pub shows_earlier : (p : Program) (ds : List AdaType) (w v : World) → IsGrown w v → ShowsKnown p ds v → ShowsKnown p ds w
shows_earlier p ds w v grown h = record {
  parts = λ n name. parts_earlier (IsAnywhere p ds) (record { whole = tt; closed = tt; known = tt }) name w v grown n (h.parts n name);
  units = units_earlier (IsAnywhere p ds) (unit_anywhere p ds) w v grown h.units;
}

-- the text of a unit, in an instance, over the types that are shown and others
module _ (p : Program) (ds : List AdaType) (types : AdaType → Type 0) (among : (t : AdaType) → IsOneOf ds t → types t) (integers : IsOneOf ds (integer_type integer))
    (booleans : IsOneOf ds boolean_type) (w : World) (standard : w.standard ≡ whole_standard) (shows : ShowsKnown p ds w) (inst : ℕ) (sub : Subprogram) where
  abbrev pub KnownThere : Entity → Type 0
  KnownThere x = IsEntity p inst types (object_shape p inst sub) (StartSees p inst sub) x

  abbrev pub RegionThere : Region → Type 0
  RegionThere region = Everywhere (λ e. KnownThere e.1) region

  pub shown_there : (x : Entity) → IsAnywhere p ds x → KnownThere x
  shown_there x h =
      entity_wider p inst (IsOneOf ds) types among (object_shape p inst sub) (StartSees p inst sub) (StartSees p inst sub) (λ o k. k) x (anywhere_there p ds inst sub x h)

  pub library_there : (l : Library) (is : List Identifier) (region : Region) → RegionThere region → RegionThere (seen_more w l is region)
  library_there l is region h = seen_more_so KnownThere tt w (λ n. shown_there (entity_of_unit w n) (shows.units n)) l is region h

  pub parts_there : (n : ℕ) (name : List ℕ) → IfSome (part_of_interface w name (interface_of w n)) KnownThere
  parts_there n name = some_so (IsAnywhere p ds) KnownThere (part_of_interface w name (interface_of w n)) shown_there (shows.parts n name)

  pub predefined_there : RegionThere w.standard.predefined
  predefined_there =
      subst (λ t. RegionThere t.predefined) (sym standard) (predefined_known p inst types (among _ integers) (among _ booleans) (object_shape p inst sub) (StartSees p inst sub))

  pub test_io_there : RegionThere w.standard.test_io_declarations
  test_io_there =
      subst (λ t. RegionThere t.test_io_declarations) (sym standard) (test_io_known p inst types (among _ integers) (among _ booleans) (object_shape p inst sub) (StartSees p inst sub))

  -- a package or its body, which sees these of the library, and in which these are declared already
  pub package_there : (n : ℕ) (name : List ℕ) (seen : Region) (generic : Option ℕ) (m : ℕ) (own : Region) → RegionThere seen → RegionThere own
      → IsEnv p inst types (object_shape p inst sub) (StartSees p inst sub) (in_package (env_of typing w n name seen) generic m own)
  package_there n name seen generic m own of_seen of_own = record {
    step = refl;
    integers = among _ integers;
    booleans = among _ booleans;
    regions = (of_own, (of_seen, (predefined_there, tt)));
    own = of_own;
    units = parts_there;
    test_io = test_io_there;
  }

  -- a unit that is no package
  pub unit_there : (n : ℕ) (name : List ℕ) (seen : Region) → RegionThere seen
      → IsEnv p inst types (object_shape p inst sub) (StartSees p inst sub) (env_of typing w n name seen)
  unit_there n name seen of_seen = record {
    step = refl;
    integers = among _ integers;
    booleans = among _ booleans;
    regions = (tt, (of_seen, (predefined_there, tt)));
    own = tt;
    units = parts_there;
    test_io = test_io_there;
  }

-- where units show what is whole and hangs on no instance
pub record ShowsClosed (w : World) : Type 0 where
  pub parts : (n : ℕ) (name : List ℕ) → IfSome (part_of_interface w name (interface_of w n)) (λ x. IsWhole x × IsClosedEntity x)
  pub units : (n : ℕ) → IsWhole (entity_of_unit w n) × IsClosedEntity (entity_of_unit w n)

pub closed_earlier : (w v : World) → IsGrown w v → ShowsClosed v → ShowsClosed w
closed_earlier w v grown h = record {
  parts = λ n name. parts_earlier (λ x. IsWhole x × IsClosedEntity x) (tt, tt) name w v grown n (h.parts n name);
  units = units_earlier (λ x. IsWhole x × IsClosedEntity x) (λ n. (tt, tt)) w v grown h.units;
}
