-- What hangs on no instance: static expressions, types and entities of text that stands in no generic, or that is seen
-- through an instance.
use Rattle.std.specs.Option.{IfSome}
use Rattle.cov_base.specs.Lists.{Everywhere}
use Rattle.ada_meaning.specs.Tree.{Object, library_object, local_object, Callee, test_get, test_put, subprogram, formal_subprogram, ExceptionName, predefined, declared}
use Rattle.ada_meaning.specs.Types.{Owner, here, of_instance, Static, static_number, static_formal, static_constant, static_first, static_last, static_length, static_sign, static_operation, static_of, Range, between, formal_range, range_of}
use Rattle.ada_rules.specs.Entities.{Routine, Entity, hidden, mark, literal, object, formal_object, routine, raisable, component, test_io, unit}
use Rattle.ada_rules.specs.Types.{AdaType, integer_type, enumeration, formal_type, array_type, record_type, AdaSubtype, of_type, Fields, no_field, and_field}

abbrev mutual
  -- no formal and no constant of the generic round it
  pub IsClosed : Static → Type 0
  IsClosed (static_number x) = Unit {0}
  IsClosed (static_formal k) = ⊥
  IsClosed (static_constant k) = ⊥
  IsClosed (static_first r) = IsClosedRange r
  IsClosed (static_last r) = IsClosedRange r
  IsClosed (static_length r) = IsClosedRange r
  IsClosed (static_sign s e) = IsClosed e
  IsClosed (static_operation o e f) = IsClosed e × IsClosed f
  IsClosed (static_of i e) = Unit {0}

  pub IsClosedRange : Range → Type 0
  IsClosedRange (between e f) = IsClosed e × IsClosed f
  IsClosedRange (formal_range k) = ⊥
  IsClosedRange (range_of i r) = Unit {0}

abbrev mutual
  pub IsClosedType : AdaType → Type 0
  IsClosedType (integer_type i) = Unit {0}
  IsClosedType (enumeration i n) = Unit {0}
  IsClosedType (formal_type i k b) = ⊥
  IsClosedType (array_type i x c) = IsClosedSubtype x × IsClosedSubtype c
  IsClosedType (record_type i fs) = AreClosedFields fs

  pub IsClosedSubtype : AdaSubtype → Type 0
  IsClosedSubtype (of_type t r) = IsClosedRange r × IsClosedType t

  pub AreClosedFields : Fields → Type 0
  AreClosedFields no_field = Unit {0}
  AreClosedFields (and_field name t fs) = IsClosedSubtype t × AreClosedFields fs

-- an object of the library level, a subprogram and an exception of an instance
abbrev pub IsOwned : Owner → Type 0
IsOwned here = ⊥
IsOwned (of_instance i) = Unit {0}

abbrev pub IsClosedObject : Object → Type 0
IsClosedObject (library_object o d) = IsOwned o
IsClosedObject (local_object d) = ⊥

abbrev pub IsClosedCallee : Callee → Type 0
IsClosedCallee test_get = Unit {0}
IsClosedCallee test_put = Unit {0}
IsClosedCallee (subprogram o n) = IsOwned o
IsClosedCallee (formal_subprogram k) = ⊥

abbrev pub IsClosedException : ExceptionName → Type 0
IsClosedException (predefined n) = Unit {0}
IsClosedException (declared o d) = IsOwned o

pub record IsClosedRoutine (r : Routine) : Type 0 where
  pub callee : IsClosedCallee r.callee
  pub parameters : Everywhere (λ q. IsClosedSubtype q.subtype) r.parameters
  pub result : IfSome r.result (λ q. IsClosedSubtype q.subtype)

abbrev pub IsClosedEntity : Entity → Type 0
IsClosedEntity hidden = Unit {0}
IsClosedEntity (mark i t) = IsClosedSubtype t
IsClosedEntity (literal t x) = IsClosedType t
IsClosedEntity (object v) = IsClosedObject v.object × IsClosedSubtype v.subtype
IsClosedEntity (formal_object t e) = IsClosedSubtype t × IsClosed e
IsClosedEntity (routine r) = IsClosedRoutine r
IsClosedEntity (raisable e) = IsClosedException e
IsClosedEntity component = Unit {0}
IsClosedEntity test_io = Unit {0}
IsClosedEntity (unit n) = Unit {0}

-- neither an object of a subprogram nor a formal subprogram: this may be seen through an instance
abbrev pub IsLibraryObject : Object → Type 0
IsLibraryObject (library_object o d) = Unit {0}
IsLibraryObject (local_object d) = ⊥

abbrev pub IsNoFormal : Callee → Type 0
IsNoFormal (formal_subprogram j) = ⊥
IsNoFormal c = Unit {0}

abbrev pub IsOfLibrary : Entity → Type 0
IsOfLibrary (object v) = IsLibraryObject v.object
IsOfLibrary (routine r) = IsNoFormal r.callee
IsOfLibrary x = Unit {0}
