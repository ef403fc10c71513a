-- Where a unit stands, all that it may name looks statically no further than at what was declared before.
use Rattle.std.proofs.Common.{◌≡◌, ◌≤◌, ℕ, nat_eq, Bool, true, false, if◌then◌else◌, List, [], ◌∷◌, ◌++◌, length, Option, Some, None, option_map, IfSome, map, slice_get, is_some, refl, sym, subst, arith}
use Rattle.cov_base.specs.Lists.{Everywhere}
use Rattle.ada_syntax.specs.declared.name.Identifier.{Identifier}
use Rattle.ada_syntax.specs.declared.unit.Unit.{Unit as LibraryUnit}
use Rattle.ada_meaning.specs.Program.{GenericConstant}
use Rattle.ada_meaning.specs.Seen.{range_seen}
use Rattle.ada_meaning.specs.Statics.{constants_of}
use Rattle.ada_meaning.specs.Types.{Static, static_number, static_formal, static_constant, static_first, static_last, static_length, static_sign, static_operation, static_of, Range, between, formal_range, range_of}
use Rattle.ada_rules.specs.Entities.{key, same_name, Parameter, Entity, hidden, mark, literal, object, formal_object, routine, raisable, component, test_io, unit, Region, entity_of, shown, Actual, object_actual, type_actual, routine_actual, given_type, static_seen, type_seen, subtype_seen, fields_seen, parameter_seen, seen}
use Rattle.ada_rules.specs.Environment.{typing, Interface, no_interface, package_interface, generic_interface, instance_interface, subprogram_interface, World, interface_of, entity_of_interface, entity_of_unit, State}
use Rattle.ada_rules.specs.Expressions.{unless_formal, part_of_generic, part_of_interface}
use Rattle.ada_rules.specs.Library.{Library, is_test_io, unit_named, clause_names, item_name, denoted_in_with, seen_too, with_seen, seen_more}
use Rattle.ada_rules.specs.Types.{AdaType, integer_type, enumeration, formal_type, array_type, record_type, AdaSubtype, of_type, Fields, no_field, and_field}
use Rattle.ada_rules.specs.Units.{env_of, in_package, seen_in}
use Rattle.legal_laws.proofs.Passing.{if_map, some_so}
use Rattle.legal_programs.specs.Growing.{IsLonger}
use Rattle.legal_instances.specs.Within.{Made, IsWithin, IsRangeWithin, AreConstantsWithin, IsTypeWithin, IsSubtypeWithin, AreFieldsWithin, IsEntityWithin, IsRegionWithin, IsHere, own_of, HasParts, IsInterfaceWithin, IsWorldWithin}
use Rattle.legal_instances.proofs.WithinMore.{IsMore, own_grown, entity_more, region_more, routine_more}
use Rattle.legal_instances.proofs.WithinNames.{entity_within, shown_within}

-- what is seen through an instance that was made
module _ (had : Made) (k : ℕ) (made : had.is_made k ≡ true) (actuals : List Actual) (b : Bool) (n : ℕ) where
  static_so : (e : Static) → IsWithin had true (had.count k) e → IsWithin had b n (static_seen k e)
  static_so (static_of i e) h = h
  static_so (static_number x) h = (made, h)
  static_so (static_formal j) h = (made, h)
  static_so (static_constant j) h = (made, h)
  static_so (static_first r) h = (made, h)
  static_so (static_last r) h = (made, h)
  static_so (static_length r) h = (made, h)
  static_so (static_sign s e) h = (made, h)
  static_so (static_operation o e f) h = (made, h)

  range_so : (r : Range) → IsRangeWithin had true (had.count k) r → IsRangeWithin had b n (range_seen k r)
  range_so (range_of i r) h = h
  range_so (between e f) h = (made, h)
  range_so (formal_range j) h = (made, h)

  given_so : (o : Option Actual) → IsTypeWithin had b n (given_type o)
  given_so None = tt
  given_so (Some (object_actual e)) = tt
  given_so (Some (routine_actual r)) = tt
  given_so (Some (type_actual (of_type (integer_type i) r))) = tt
  given_so (Some (type_actual (of_type (enumeration i m) r))) = tt
  given_so (Some (type_actual (of_type (formal_type i m x) r))) = tt
  given_so (Some (type_actual (of_type (array_type i x c) r))) = tt
  given_so (Some (type_actual (of_type (record_type i fs) r))) = tt

  mutual
    type_so : (t : AdaType) → IsTypeWithin had true (had.count k) t → IsTypeWithin had b n (type_seen k actuals t)
    type_so (integer_type i) h = tt
    type_so (enumeration i m) h = tt
    type_so (formal_type i m x) h = given_so (slice_get actuals m)
    type_so (array_type i x c) h = (subtype_so x h.0, subtype_so c h.1)
    type_so (record_type i fs) h = fields_so fs h

    subtype_so : (t : AdaSubtype) → IsSubtypeWithin had true (had.count k) t → IsSubtypeWithin had b n (subtype_seen k actuals t)
    subtype_so (of_type t r) h = (range_so r h.0, type_so t h.1)

    fields_so : (fs : Fields) → AreFieldsWithin had true (had.count k) fs → AreFieldsWithin had b n (fields_seen k actuals fs)
    fields_so no_field h = tt
    fields_so (and_field name t fs) h = (subtype_so t h.0, fields_so fs h.1)

  parameters_so : (qs : List Parameter) → Everywhere (λ q. IsSubtypeWithin had true (had.count k) q.subtype) qs
      → Everywhere (λ q. IsSubtypeWithin had b n q.subtype) (map (parameter_seen k actuals) qs)
  parameters_so [] h = tt
  parameters_so (q ∷ qs) h = (subtype_so q.subtype h.0, parameters_so qs h.1)

  result_so : (o : Option Parameter) → IfSome o (λ q. IsSubtypeWithin had true (had.count k) q.subtype)
      → IfSome (option_map (parameter_seen k actuals) o) (λ q. IsSubtypeWithin had b n q.subtype)
  result_so None h = tt
  result_so (Some q) h = subtype_so q.subtype h

  known_so : (o : Option Static) → IfSome o (IsWithin had true (had.count k)) → IfSome (option_map (static_seen k) o) (IsWithin had b n)
  known_so None h = tt
  known_so (Some e) h = static_so e h

  pub seen_so : (x : Entity) → IsEntityWithin had true (had.count k) x → IsEntityWithin had b n (seen k actuals x)
  seen_so hidden h = tt
  seen_so (mark i t) h = subtype_so t h
  seen_so (literal t x) h = type_so t h
  seen_so (object v) h = record { subtype = subtype_so v.subtype h.subtype; known = known_so v.known h.known }
  seen_so (formal_object t e) h = (subtype_so t h.0, static_so e h.1)
  seen_so (routine r) h = record { parameters = parameters_so r.parameters h.parameters; result = result_so r.result h.result }
  seen_so (raisable e) h = tt
  seen_so component h = tt
  seen_so test_io h = tt
  seen_so (unit m) h = tt

-- what units declare
module _ (had : Made) (w : World) (cs : List GenericConstant) (is : IsWorldWithin had w cs) (b : Bool) (n : ℕ) where
  closed_more : (x : Entity) → IsEntityWithin had false 0 x → IsEntityWithin had b n x
  closed_more x h = entity_more had had (own_grown had) false b (λ e. absurd (cc e)) 0 n (omega (arith)) x h

  unless_so : (formals : Region) (name : List ℕ) (o : Option Entity) (P : Entity → Type 0) → IfSome o P → IfSome (unless_formal formals name o) P
  unless_so formals name o P h = by_test (is_some (entity_of name formals))
    where
      by_test : (c : Bool) → IfSome (if c then None else o) P
      by_test true = tt
      by_test false = h

  generic_so : (g k : ℕ) (actuals : List Actual) (name : List ℕ) → had.is_made k ≡ true → HasParts had w g (had.count k)
      → IfSome (part_of_generic k actuals name (interface_of w g)) (IsEntityWithin had b n)
  generic_so g k actuals name made parts =
      subst (λ i. IfSome (part_of_generic k actuals name i) (IsEntityWithin had b n)) (sym parts.is)
      (if_map (IsEntityWithin had true (had.count k)) (IsEntityWithin had b n) (seen k actuals) (unless_formal parts.formals name (shown (entity_of name parts.region)))
      (unless_so parts.formals name (shown (entity_of name parts.region)) (IsEntityWithin had true (had.count k))
      (shown_within had true (had.count k) (entity_of name parts.region) (entity_within had true (had.count k) name parts.region parts.within)))
      (λ x h. seen_so had k made actuals b n x h))

  interface_so : (m : ℕ) (name : List ℕ) (i : Interface) → IsInterfaceWithin had w cs m i → IfSome (part_of_interface w name i) (IsEntityWithin had b n)
  interface_so m name no_interface h = tt
  interface_so m name (package_interface region) h =
      some_so (IsEntityWithin had false 0) (IsEntityWithin had b n) (shown (entity_of name region)) closed_more
      (shown_within had false 0 (entity_of name region) (entity_within had false 0 name region h))
  interface_so m name (generic_interface formals region) h = tt
  interface_so m name (instance_interface None k actuals) h = tt
  interface_so m name (instance_interface (Some g) k actuals) h = generic_so g k actuals name h.0 h.1
  interface_so m name (subprogram_interface r) h = tt

  pub units_so : (m : ℕ) (name : List ℕ) → IfSome (part_of_interface w name (interface_of w m)) (IsEntityWithin had b n)
  units_so m name = interface_so m name (interface_of w m) (is.interfaces m)

-- what a unit sees
module _ (had : Made) (w : World) (cs : List GenericConstant) (is : IsWorldWithin had w cs) where
  unit_entity_so : (n : ℕ) (i : Interface) → IsInterfaceWithin had w cs n i → IsEntityWithin had false 0 (entity_of_interface n i)
  unit_entity_so n no_interface h = tt
  unit_entity_so n (package_interface region) h = tt
  unit_entity_so n (generic_interface formals region) h = tt
  unit_entity_so n (instance_interface o k actuals) h = tt
  unit_entity_so n (subprogram_interface r) h = h

  denoted_so : (l : Library) (i : Identifier) → IfSome (denoted_in_with w l i) (IsEntityWithin had false 0)
  denoted_so l i = by_test (is_test_io i)
    where
      by_name : (o : Option ℕ) → IfSome (option_map (entity_of_unit w) o) (IsEntityWithin had false 0)
      by_name None = tt
      by_name (Some n) = unit_entity_so n (interface_of w n) (is.interfaces n)

      by_test : (b : Bool) → IfSome (if b then Some test_io else option_map (entity_of_unit w) (unit_named l.names (key i))) (IsEntityWithin had false 0)
      by_test true = tt
      by_test false = by_name (unit_named l.names (key i))

  seen_too_so : (name : List ℕ) (x : Entity) (region : Region) → IsEntityWithin had false 0 x → IsRegionWithin had false 0 region → IsRegionWithin had false 0 (seen_too name x region)
  seen_too_so name x [] h g = (h, tt)
  seen_too_so name x (e ∷ es) h g = (g.0, by_name (same_name name e.0) (seen_too_so name x es h g.1))
    where
      by_name : (b : Bool) → IsRegionWithin had false 0 (seen_too name x es) → IsRegionWithin had false 0 (if b then es else seen_too name x es)
      by_name true k = g.1
      by_name false k = k

  with_seen_so : (name : List ℕ) (o : Option Entity) (region : Region) → IfSome o (IsEntityWithin had false 0) → IsRegionWithin had false 0 region
      → IsRegionWithin had false 0 (with_seen name o region)
  with_seen_so name None region h g = g
  with_seen_so name (Some x) region h g = seen_too_so name x region h g

  pub seen_more_so : (l : Library) (is : List Identifier) (region : Region) → IsRegionWithin had false 0 region → IsRegionWithin had false 0 (seen_more w l is region)
  seen_more_so l [] region h = h
  seen_more_so l (i ∷ ids) region h =
      seen_more_so l ids (with_seen (key i) (denoted_in_with w l i) region) (with_seen_so (key i) (denoted_in_with w l i) region (denoted_so l i) h)

  pub seen_in_so : (l : Library) (u : LibraryUnit) (x : Entity) → IsEntityWithin had false 0 x → IsRegionWithin had false 0 (seen_in w l u x)
  seen_in_so l u x h = seen_more_so l (clause_names u.withs) ((key (item_name u.item), x) ∷ []) (h, tt)

  -- where a unit stands, in no generic, and in a package
  closed_region : (b : Bool) (n : ℕ) (region : Region) → IsRegionWithin had false 0 region → IsRegionWithin had b n region
  closed_region b n region h = region_more had had (own_grown had) false b (λ e. absurd (cc e)) 0 n (omega (arith)) region h

  pub unit_here : (n : ℕ) (name : List ℕ) (region : Region) (s : State) → s.constants_declared ≡ cs → IsRegionWithin had false 0 region → IsHere had (env_of typing w n name region) s
  unit_here n name region s e h = record {
    place = record {
      step = refl;
      regions = (tt, (h, (is.predefined, tt)));
      own_region = tt;
      units = units_so had w cs is false 0;
      test_io = is.test_io;
    };
    constants = subst (AreConstantsWithin had) (sym e) is.constants;
  }

  pub package_here : (g : Option ℕ) (m n : ℕ) (name : List ℕ) (region own : Region) (s : State) → s.constants_declared ≡ cs → IsRegionWithin had false 0 region
      → IsRegionWithin had (is_some g) (own_of g s.constants_declared) own → IsHere had (in_package (env_of typing w m name region) g n own) s
  package_here g m n name region own s e h k = record {
    place = record {
      step = refl;
      regions = (k, (closed_region (is_some g) (own_of g s.constants_declared) region h, (closed_region (is_some g) (own_of g s.constants_declared) w.standard.predefined is.predefined, tt)));
      own_region = k;
      units = units_so had w cs is (is_some g) (own_of g s.constants_declared);
      test_io = closed_region (is_some g) (own_of g s.constants_declared) w.standard.test_io_declarations is.test_io;
    };
    constants = subst (AreConstantsWithin had) (sym e) is.constants;
  }

-- more constants, and more instances
own_longer : (g : ℕ) (more cs : List GenericConstant) → own_of (Some g) cs ≤ own_of (Some g) (more ++ cs)
own_longer g [] cs = omega (arith)
own_longer g (c ∷ more) cs = by_test (nat_eq c.generic g) (own_longer g more cs)
  where
    by_test : (b : Bool) → own_of (Some g) cs ≤ own_of (Some g) (more ++ cs)
        → own_of (Some g) cs ≤ length (if b then c ∷ constants_of g (more ++ cs) else constants_of g (more ++ cs))
    by_test true h = omega (arith, h)
    by_test false h = h

pub own_is_longer : (g : ℕ) (cs ds : List GenericConstant) → IsLonger cs ds → own_of (Some g) cs ≤ own_of (Some g) ds
own_is_longer g cs ds h = subst (λ es. own_of (Some g) cs ≤ own_of (Some g) es) (sym h.is) (own_longer g h.more cs)

module _ (had more : Made) (grown : IsMore had more) (w v : World) (cs ds : List GenericConstant) (longer : IsLonger cs ds)
    (same : (g : ℕ) (formals region : Region) → interface_of w g ≡ generic_interface formals region → interface_of v g ≡ generic_interface formals region) where
  pub parts_more : (g k : ℕ) → HasParts had w g (had.count k) → HasParts more v g (more.count k)
  parts_more g k h = record {
    formals = h.formals;
    region = h.region;
    is = same g h.formals h.region h.is;
    within = region_more had more grown true true (λ e. e) (had.count k) (more.count k) (grown.counts k) h.region h.within;
  }

  pub interface_more : (n : ℕ) (i : Interface) → IsInterfaceWithin had w cs n i → IsInterfaceWithin more v ds n i
  interface_more n no_interface h = tt
  interface_more n (package_interface region) h = region_more had more grown false false (λ e. e) 0 0 (omega (arith)) region h
  interface_more n (generic_interface formals region) h = (
    region_more had more grown true true (λ e. e) (own_of (Some n) cs) (own_of (Some n) ds) (own_is_longer n cs ds longer) formals h.0,
    region_more had more grown true true (λ e. e) (own_of (Some n) cs) (own_of (Some n) ds) (own_is_longer n cs ds longer) region h.1,
  )
  interface_more n (instance_interface None k actuals) h = tt
  interface_more n (instance_interface (Some g) k actuals) h = (grown.made k h.0, parts_more g k h.1)
  interface_more n (subprogram_interface r) h = routine_more had more grown false false (λ e. e) 0 0 (omega (arith)) r h

-- with more constants alone
pub world_longer : (had : Made) (w : World) (cs ds : List GenericConstant) → IsLonger cs ds → AreConstantsWithin had ds → IsWorldWithin had w cs → IsWorldWithin had w ds
world_longer had w cs ds longer all is = record {
  interfaces = λ n. interface_more had had (own_grown had) w w cs ds longer (λ g f r e. e) n (interface_of w n) (is.interfaces n);
  constants = all;
  predefined = is.predefined;
  test_io = is.test_io;
}
