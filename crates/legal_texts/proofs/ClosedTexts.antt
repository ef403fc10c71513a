-- What looks at no formal and at no constant of a generic, and whose owner is an instance, hangs on no other instance.
use Rattle.std.proofs.Common.{◌<◌, ℕ, false, arith}
use Rattle.std.proofs.lemmas.Bool.{false≢true}
use Rattle.ada_meaning.specs.Types.{Static, static_number, static_formal, static_constant, static_first, static_last, static_length, static_sign, static_operation, static_of, Range, between, formal_range, range_of}
use Rattle.ada_rules.specs.Types.{AdaType, integer_type, enumeration, formal_type, array_type, record_type, AdaSubtype, of_type, Fields, no_field, and_field}
use Rattle.ada_rules.specs.Entities.{Parameter, Entity, hidden, mark, literal, object, formal_object, routine, raisable, component, test_io, unit}
use Rattle.legal_laws.proofs.Passing.{every_so, some_so}
use Rattle.legal_programs.specs.Closed.{IsClosed, IsClosedRange, IsClosedType, IsClosedSubtype, AreClosedFields, IsClosedObject, IsClosedCallee, IsClosedException, IsClosedEntity}
use Rattle.legal_instances.specs.Within.{Made, IsWithin, IsRangeWithin, IsTypeWithin, IsSubtypeWithin, AreFieldsWithin, IsEntityWithin}

nothing_below : (k : ℕ) → k < 0 → ⊥
nothing_below k h = omega (arith, h)

-- objects, subprograms and exceptions of an instance
abbrev pub HasClosedOwner : Entity → Type 0
HasClosedOwner (object v) = IsClosedObject v.object
HasClosedOwner (routine r) = IsClosedCallee r.callee
HasClosedOwner (raisable e) = IsClosedException e
HasClosedOwner x = Unit {0}

module _ (had : Made) where
  mutual
    static_closed : (e : Static) → IsWithin had false 0 e → IsClosed e
    static_closed (static_number x) h = tt
    static_closed (static_formal k) h = absurd (false≢true h)
    static_closed (static_constant k) h = absurd (nothing_below k h)
    static_closed (static_first r) h = range_closed r h
    static_closed (static_last r) h = range_closed r h
    static_closed (static_length r) h = range_closed r h
    static_closed (static_sign s e) h = static_closed e h
    static_closed (static_operation o e f) h = (static_closed e h.0, static_closed f h.1)
    static_closed (static_of i e) h = tt

    range_closed : (r : Range) → IsRangeWithin had false 0 r → IsClosedRange r
    range_closed (between e f) h = (static_closed e h.0, static_closed f h.1)
    range_closed (formal_range k) h = absurd (false≢true h)
    range_closed (range_of i r) h = tt

  mutual
    pub type_closed : (t : AdaType) → IsTypeWithin had false 0 t → IsClosedType t
    type_closed (integer_type i) h = tt
    type_closed (enumeration i n) h = tt
    type_closed (formal_type i k b) h = absurd (false≢true h)
    type_closed (array_type i x c) h = (subtype_closed x h.0, subtype_closed c h.1)
    type_closed (record_type i fs) h = fields_closed fs h

    pub subtype_closed : (t : AdaSubtype) → IsSubtypeWithin had false 0 t → IsClosedSubtype t
    subtype_closed (of_type t r) h = (range_closed r h.0, type_closed t h.1)

    fields_closed : (fs : Fields) → AreFieldsWithin had false 0 fs → AreClosedFields fs
    fields_closed no_field h = tt
    fields_closed (and_field name t fs) h = (subtype_closed t h.0, fields_closed fs h.1)

  pub entity_closed : (x : Entity) → IsEntityWithin had false 0 x → HasClosedOwner x → IsClosedEntity x
  entity_closed hidden h k = tt
  entity_closed (mark i t) h k = subtype_closed t h
  entity_closed (literal t x) h k = type_closed t h
  entity_closed (object v) h k = (k, subtype_closed v.subtype h.subtype)
  entity_closed (formal_object t e) h k = (subtype_closed t h.0, static_closed e h.1)
  entity_closed (routine r) h k = record {
    callee = k;
    parameters = every_so (λ (q : Parameter). IsSubtypeWithin had false 0 q.subtype) (λ q. IsClosedSubtype q.subtype) r.parameters
        (λ q s. subtype_closed q.subtype s) h.parameters;
    result = some_so (λ (q : Parameter). IsSubtypeWithin had false 0 q.subtype) (λ q. IsClosedSubtype q.subtype) r.result
        (λ q s. subtype_closed q.subtype s) h.result;
  }
  entity_closed (raisable e) h k = k
  entity_closed component h k = tt
  entity_closed test_io h k = tt
  entity_closed (unit n) h k = tt
