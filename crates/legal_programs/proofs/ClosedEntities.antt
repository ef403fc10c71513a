-- What is known of text in no generic, or through an instance, is known in every instance.
use Rattle.std.proofs.Common.{◌≡◌, ◌≤◌, ◌+◌, length, pos, ℕ, List, [], ◌∷◌, map, Option, None, Some, option_map, IfSome, slice_get, refl, sym, ap, ◌∙◌, subst}
use Rattle.std.specs.Option.{option_and_then}
use Rattle.cov_base.specs.Lists.{Everywhere}
use Rattle.ada_meaning.specs.Arithmetic.{count_between, sign_of}
use Rattle.ada_meaning.specs.Program.{Target, Program}
use Rattle.ada_meaning.specs.Resolved.{number_in, bounds_in, ResolvedParameter, shape_in, shapes_in, target_in, parameters_of, exception_in}
use Rattle.ada_meaning.specs.Shape.{Shape, word, row, group, and_shape}
use Rattle.ada_meaning.specs.Statics.{InstanceValues, in_base, computed, bounds_between, static_value, static_bounds, values_of}
use Rattle.ada_meaning.specs.Tree as tree
use Rattle.ada_meaning.specs.Types.{of_instance, here, Static, static_number, static_formal, static_constant, static_first, static_last, static_length, static_sign, static_operation, static_of, Range, between, formal_range, range_of}
use Rattle.ada_meaning.specs.WellFormed.{HasNumber, part_shape, AreParts}
use Rattle.ada_meaning.specs.Arithmetic.{exact}
use Rattle.ada_meaning.specs.Seen.{range_seen}
use Rattle.ada_rules.specs.Entities.{Variable, Parameter, Routine, Entity, hidden, mark, literal, object, formal_object, routine, raisable, component, test_io, unit, Actual, object_actual, type_actual, routine_actual, given_type, static_seen, callee_seen, exception_seen, object_seen, type_seen, subtype_seen, fields_seen, parameter_seen, seen}
use Rattle.ada_rules.specs.Types.{AdaType, integer_type, enumeration, formal_type, array_type, record_type, AdaSubtype, of_type, Fields, no_field, and_field, range_in, subtype_in_tree, type_in_tree, fields_in_tree}
use Rattle.legal_laws.specs.Known.{IsKnownType, IsKnownSubtype, AreKnownFields, IsOfType, AreParameters, IsResult, IsRoutine, IsVariable, IsEntity}
use Rattle.legal_laws.specs.Valued.{AreOrdered}
use Rattle.legal_programs.specs.Deciding.{IsWhole}
use Rattle.legal_programs.specs.Closed.{IsLibraryObject, IsNoFormal, IsOfLibrary, IsClosed, IsClosedRange, IsClosedType, IsClosedSubtype, AreClosedFields, IsClosedObject, IsClosedCallee, IsClosedException, IsClosedRoutine, IsClosedEntity}

-- values and bounds
module _ (v : InstanceValues) (i j : ℕ) where
  mutual
    value_anywhere : (e : Static) → IsClosed e → static_value v i e ≡ static_value v j e
    value_anywhere (static_number x) h = refl
    value_anywhere (static_formal k) h = absurd h
    value_anywhere (static_constant k) h = absurd h
    value_anywhere (static_first r) h = ap (option_map (λ b. b.low)) (bounds_anywhere r h)
    value_anywhere (static_last r) h = ap (option_map (λ b. b.high)) (bounds_anywhere r h)
    value_anywhere (static_length r) h = ap (option_and_then (λ b. in_base (pos (count_between b.low b.high)))) (bounds_anywhere r h)
    value_anywhere (static_sign s e) h = ap (option_and_then (λ x. in_base (sign_of s x))) (value_anywhere e h)
    value_anywhere (static_operation o e f) h =
        λ k. option_and_then (λ x. option_and_then (computed o x) (value_anywhere f h.1 k)) (value_anywhere e h.0 k)
    value_anywhere (static_of n e) h = refl

    bounds_anywhere : (r : Range) → IsClosedRange r → static_bounds v i r ≡ static_bounds v j r
    bounds_anywhere (between e f) h = λ k. bounds_between (value_anywhere e h.0 k) (value_anywhere f h.1 k)
    bounds_anywhere (formal_range k) h = absurd h
    bounds_anywhere (range_of n r) h = refl

module _ (p : Program) (i j : ℕ) where
  mutual
    number_anywhere : (e : Static) → IsClosed e → number_in p i e ≡ number_in p j e
    number_anywhere (static_number x) h = refl
    number_anywhere (static_formal k) h = absurd h
    number_anywhere (static_constant k) h = absurd h
    number_anywhere (static_first r) h = ap (λ b. b.low) (exactly_anywhere r h)
    number_anywhere (static_last r) h = ap (λ b. b.high) (exactly_anywhere r h)
    number_anywhere (static_length r) h = ap (λ b. pos (count_between b.low b.high)) (exactly_anywhere r h)
    number_anywhere (static_sign s e) h = ap (sign_of s) (number_anywhere e h)
    number_anywhere (static_operation o e f) h = λ k. exact o (number_anywhere e h.0 k) (number_anywhere f h.1 k)
    number_anywhere (static_of n e) h = refl

    exactly_anywhere : (r : Range) → IsClosedRange r → bounds_in p i r ≡ bounds_in p j r
    exactly_anywhere (between e f) h = λ k. record { low = number_anywhere e h.0 k; high = number_anywhere f h.1 k }
    exactly_anywhere (formal_range k) h = absurd h
    exactly_anywhere (range_of n r) h = refl

  range_closed : (t : AdaSubtype) → IsClosedSubtype t → IsClosedRange (range_in t)
  range_closed (of_type t r) h = h.0

  mutual
    pub shape_anywhere : (t : AdaSubtype) → IsClosedSubtype t → shape_in p i (subtype_in_tree t) ≡ shape_in p j (subtype_in_tree t)
    shape_anywhere (of_type t r) h = type_anywhere t r h.0 h.1

    type_anywhere : (t : AdaType) (r : Range) → IsClosedRange r → IsClosedType t → shape_in p i (type_in_tree t r) ≡ shape_in p j (type_in_tree t r)
    type_anywhere (integer_type n) r g h = ap word (exactly_anywhere r g)
    type_anywhere (enumeration n m) r g h = ap word (exactly_anywhere r g)
    type_anywhere (formal_type n k b) r g h = absurd h
    type_anywhere (array_type n x c) r g h = λ k. row (exactly_anywhere (range_in x) (range_closed x h.0) k) (shape_anywhere c h.1 k)
    type_anywhere (record_type n fs) r g h = ap group (fields_anywhere fs h)

    fields_anywhere : (fs : Fields) → AreClosedFields fs → shapes_in p i (fields_in_tree fs) ≡ shapes_in p j (fields_in_tree fs)
    fields_anywhere no_field h = refl
    fields_anywhere (and_field name t fs) h = λ k. and_shape (shape_anywhere t h.0 k) (fields_anywhere fs h.1 k)

  module _ (types : AdaType → Type 0) where
    mutual
      known_type : (t : AdaType) → IsClosedType t → IsKnownType p i types t → IsKnownType p j types t
      known_type (integer_type n) c h = h
      known_type (enumeration n m) c h = h
      known_type (formal_type n k b) c h = absurd c
      known_type (array_type n x y) c h = (
        h.0,
        (
          known_subtype x c.0 h.1.0,
          (
            h.1.1.0,
            (
              subst HasNumber (value_anywhere (values_of p) i j (static_length (range_in x)) (range_closed x c.0)) h.1.1.1.0,
              known_subtype y c.1 h.1.1.1.1,
            ),
          ),
        ),
      )
      known_type (record_type n fs) c h = (h.0, (h.1.0, known_fields fs c h.1.1))

      known_subtype : (t : AdaSubtype) → IsClosedSubtype t → IsKnownSubtype p i types t → IsKnownSubtype p j types t
      known_subtype (of_type t r) c h = (subst AreOrdered (bounds_anywhere (values_of p) i j r c.0) h.0, known_type t c.1 h.1)

      known_fields : (fs : Fields) → AreClosedFields fs → AreKnownFields p i types fs → AreKnownFields p j types fs
      known_fields no_field c h = tt
      known_fields (and_field name t fs) c h = (known_subtype t c.0 h.0, known_fields fs c.1 h.1)

    -- subprograms
    of_type_anywhere : (s : Shape) (t : AdaSubtype) → IsClosedSubtype t → IsOfType p i types s t → IsOfType p j types s t
    of_type_anywhere s t c h = (h.0, λ e. ((h.1 e).0, (h.1 e).1 ∙ shape_anywhere t c))

    parameters_anywhere : (qs : List ResolvedParameter) (rs : List Parameter) → Everywhere (λ q. IsClosedSubtype q.subtype) rs → AreParameters p i types qs rs
        → AreParameters p j types qs rs
    parameters_anywhere [] [] c h = tt
    parameters_anywhere [] (r ∷ rs) c h = absurd h
    parameters_anywhere (q ∷ qs) [] c h = absurd h
    parameters_anywhere (q ∷ qs) (r ∷ rs) c h = (
      record { mode = h.0.mode; type = of_type_anywhere q.shape r.subtype c.0 h.0.type; subtype = known_subtype r.subtype c.0 h.0.subtype },
      parameters_anywhere qs rs c.1 h.1,
    )

    result_anywhere : (t : Target) (o : Option Parameter) → IfSome o (λ q. IsClosedSubtype q.subtype) → IsResult p i types t o → IsResult p j types t o
    result_anywhere t None c h = h
    result_anywhere t (Some q) c h = (h.0, known_subtype q.subtype c h.1)

    target_anywhere : (c : tree.Callee) → IsClosedCallee c → target_in p i c ≡ target_in p j c
    target_anywhere tree.test_get h = refl
    target_anywhere tree.test_put h = refl
    target_anywhere (tree.subprogram here n) h = absurd h
    target_anywhere (tree.subprogram (of_instance k) n) h = refl
    target_anywhere (tree.formal_subprogram k) h = absurd h

    routine_anywhere : (r : Routine) → IsClosedRoutine r → IsRoutine p i types r → IsRoutine p j types r
    routine_anywhere r c h = record {
      parameters = subst (λ t. AreParameters p j types (parameters_of p t) r.parameters) (target_anywhere r.callee c.callee)
          (parameters_anywhere (parameters_of p (target_in p i r.callee)) r.parameters c.parameters h.parameters);
      result = subst (λ t. IsResult p j types t r.result) (target_anywhere r.callee c.callee) (result_anywhere (target_in p i r.callee) r.result c.result h.result);
    }

    exception_anywhere : (e : tree.ExceptionName) → IsClosedException e → exception_in p i e ≡ exception_in p j e
    exception_anywhere (tree.predefined n) h = refl
    exception_anywhere (tree.declared here d) h = absurd h
    exception_anywhere (tree.declared (of_instance k) d) h = refl

    module _ (shape_there shape_of : tree.Object → Shape) (There Sees : tree.Object → Type 0)
        (shown : (o : tree.Object) → IsClosedObject o → There o → Sees o)
        (shapes : (o : tree.Object) → IsClosedObject o → There o → shape_there o ≡ shape_of o) where
      variable_anywhere : (v : Variable) → v.parts ≡ tree.whole → IsClosedObject v.object → IsClosedSubtype v.subtype → IsVariable p i types shape_there There v
          → IsVariable p j types shape_of Sees v
      variable_anywhere v whole c d h = record {
        visible = shown v.object c h.visible;
        parts = subst (λ q. AreParts p j shape_of Sees (shape_of v.object) q) (sym whole) tt;
        shape = ap (part_shape (shape_of v.object)) whole
            ∙ (sym (shapes v.object c h.visible) ∙ (sym (ap (part_shape (shape_there v.object)) whole) ∙ (h.shape ∙ shape_anywhere v.subtype d)));
        subtype = known_subtype v.subtype d h.subtype;
      }

      pub entity_anywhere : (x : Entity) → IsWhole x → IsClosedEntity x → IsEntity p i types shape_there There x → IsEntity p j types shape_of Sees x
      entity_anywhere hidden w c h = tt
      entity_anywhere (mark n t) w c h = known_subtype t c h
      entity_anywhere (literal t x) w c h = (known_type t c h.0, h.1)
      entity_anywhere (object v) w c h = variable_anywhere v w c.0 c.1 h
      entity_anywhere (formal_object t e) w c h = (known_subtype t c.0 h.0, subst HasNumber (value_anywhere (values_of p) i j e c.1) h.1)
      entity_anywhere (routine r) w c h = routine_anywhere r c h
      entity_anywhere (raisable e) w c h = subst (λ n. (1 ≤ n) × (n ≤ 4 + length p.exceptions)) (exception_anywhere e c) h
      entity_anywhere component w c h = tt
      entity_anywhere test_io w c h = tt
      entity_anywhere (unit n) w c h = tt

-- what is seen through an instance hangs on no other
given_closed : (a : Option Actual) → IsClosedType (given_type a)
given_closed None = tt
given_closed (Some (object_actual e)) = tt
given_closed (Some (routine_actual r)) = tt
given_closed (Some (type_actual (of_type (integer_type i) r))) = tt
given_closed (Some (type_actual (of_type (enumeration i n) r))) = tt
given_closed (Some (type_actual (of_type (formal_type i k b) r))) = tt
given_closed (Some (type_actual (of_type (array_type i x c) r))) = tt
given_closed (Some (type_actual (of_type (record_type i fs) r))) = tt

module _ (k : ℕ) (actuals : List Actual) where
  range_seen_closed : (r : Range) → IsClosedRange (range_seen k r)
  range_seen_closed (between e f) = tt
  range_seen_closed (formal_range n) = tt
  range_seen_closed (range_of n r) = tt

  mutual
    pub type_seen_closed : (t : AdaType) → IsClosedType (type_seen k actuals t)
    type_seen_closed (integer_type i) = tt
    type_seen_closed (enumeration i n) = tt
    type_seen_closed (formal_type i j b) = given_closed (slice_get actuals j)
    type_seen_closed (array_type i x c) = (subtype_seen_closed x, subtype_seen_closed c)
    type_seen_closed (record_type i fs) = fields_seen_closed fs

    subtype_seen_closed : (t : AdaSubtype) → IsClosedSubtype (subtype_seen k actuals t)
    subtype_seen_closed (of_type t r) = (range_seen_closed r, type_seen_closed t)

    fields_seen_closed : (fs : Fields) → AreClosedFields (fields_seen k actuals fs)
    fields_seen_closed no_field = tt
    fields_seen_closed (and_field name t fs) = (subtype_seen_closed t, fields_seen_closed fs)

  static_seen_closed : (e : Static) → IsClosed (static_seen k e)
  static_seen_closed (static_number x) = tt
  static_seen_closed (static_formal n) = tt
  static_seen_closed (static_constant n) = tt
  static_seen_closed (static_first r) = tt
  static_seen_closed (static_last r) = tt
  static_seen_closed (static_length r) = tt
  static_seen_closed (static_sign s e) = tt
  static_seen_closed (static_operation o e f) = tt
  static_seen_closed (static_of n e) = tt

  object_seen_closed : (o : tree.Object) → IsLibraryObject o → IsClosedObject (object_seen k o)
  object_seen_closed (tree.library_object here d) h = tt
  object_seen_closed (tree.library_object (of_instance i) d) h = tt
  object_seen_closed (tree.local_object d) h = absurd h

  callee_seen_closed : (c : tree.Callee) → IsNoFormal c → IsClosedCallee (callee_seen k c)
  callee_seen_closed tree.test_get h = tt
  callee_seen_closed tree.test_put h = tt
  callee_seen_closed (tree.subprogram here n) h = tt
  callee_seen_closed (tree.subprogram (of_instance i) n) h = tt
  callee_seen_closed (tree.formal_subprogram j) h = absurd h

  parameters_seen_closed : (qs : List Parameter) → Everywhere (λ q. IsClosedSubtype q.subtype) (map (parameter_seen k actuals) qs)
  parameters_seen_closed [] = tt
  parameters_seen_closed (q ∷ qs) = (subtype_seen_closed q.subtype, parameters_seen_closed qs)

  result_seen_closed : (o : Option Parameter) → IfSome (option_map (parameter_seen k actuals) o) (λ q. IsClosedSubtype q.subtype)
  result_seen_closed None = tt
  result_seen_closed (Some q) = subtype_seen_closed q.subtype

  exception_seen_closed : (e : tree.ExceptionName) → IsClosedException (exception_seen k e)
  exception_seen_closed (tree.predefined n) = tt
  exception_seen_closed (tree.declared here d) = tt
  exception_seen_closed (tree.declared (of_instance i) d) = tt

  pub entity_seen_closed : (x : Entity) → IsOfLibrary x → IsClosedEntity (seen k actuals x)
  entity_seen_closed hidden h = tt
  entity_seen_closed (mark n t) h = subtype_seen_closed t
  entity_seen_closed (literal t x) h = type_seen_closed t
  entity_seen_closed (object v) h = (object_seen_closed v.object h, subtype_seen_closed v.subtype)
  entity_seen_closed (formal_object t e) h = (subtype_seen_closed t, static_seen_closed e)
  entity_seen_closed (routine r) h =
      record { callee = callee_seen_closed r.callee h; parameters = parameters_seen_closed r.parameters; result = result_seen_closed r.result }
  entity_seen_closed (raisable e) h = exception_seen_closed e
  entity_seen_closed component h = tt
  entity_seen_closed test_io h = tt
  entity_seen_closed (unit n) h = tt
