-- What is known of a generic's text in an instance is known, through the instance, wherever it is seen.
use Rattle.std.proofs.Common.{◌≡◌, ◌≤◌, ◌+◌, ℕ, Bool, true, List, [], ◌∷◌, map, length, Option, Some, None, option_map, slice_get, refl, sym, ap, ◌∙◌, subst}
use Rattle.ada_meaning.specs.Program.{Target, Program}
use Rattle.ada_meaning.specs.Resolved.{ResolvedParameter, shape_in, target_in, parameters_of, exception_in}
use Rattle.ada_meaning.specs.Seen.{range_seen}
use Rattle.ada_meaning.specs.Shape.{Shape}
use Rattle.ada_meaning.specs.Statics.{static_value, values_of}
use Rattle.ada_meaning.specs.Tree as tree
use Rattle.ada_meaning.specs.Types.{here, of_instance, Static, static_number, static_formal, static_constant, static_first, static_last, static_length, static_sign, static_operation, static_of, Range, between, formal_range, range_of}
use Rattle.ada_meaning.specs.WellFormed.{HasNumber, IsException, part_shape}
use Rattle.ada_meaning.proofs.SeenShapes.{seen_bounds, seen_shape}
use Rattle.ada_rules.specs.Types.{AdaType, integer_type, enumeration, formal_type, array_type, record_type, AdaSubtype, of_type, Fields, no_field, and_field, type_in, range_in, is_scalar, subtype_in_tree}
use Rattle.ada_rules.specs.Entities.{Parameter, Routine, Entity, hidden, mark, literal, object, formal_object, routine, raisable, component, test_io, unit, Actual, object_actual, type_actual, routine_actual, given_type, static_seen, object_seen, callee_seen, exception_seen, type_seen, subtype_seen, fields_seen, variable_seen, parameter_seen, routine_seen, seen}
use Rattle.ada_rules.specs.Statics.{Spans}
use Rattle.ada_rules.proofs.Seen.{subtype_in_instance}
use Rattle.legal_laws.specs.Valued.{AreOrdered}
use Rattle.legal_laws.specs.Known.{HasField, IsOrdered, IsKnownType, IsKnownSubtype, AreKnownFields, IsOfType, AreParameters, IsResult, IsRoutine, IsVariable, IsEntity}

-- the type that is given for a formal one is scalar
given_scalar : (a : Option Actual) → is_scalar (given_type a) ≡ true
given_scalar None = refl
given_scalar (Some (object_actual e)) = refl
given_scalar (Some (routine_actual r)) = refl
given_scalar (Some (type_actual (of_type (integer_type i) r))) = refl
given_scalar (Some (type_actual (of_type (enumeration i n) r))) = refl
given_scalar (Some (type_actual (of_type (formal_type i k b) r))) = refl
given_scalar (Some (type_actual (of_type (array_type i x c) r))) = refl
given_scalar (Some (type_actual (of_type (record_type i fs) r))) = refl

pub scalar_seen : (k : ℕ) (actuals : List Actual) (t : AdaType) → is_scalar (type_seen k actuals t) ≡ is_scalar t
scalar_seen k actuals (integer_type i) = refl
scalar_seen k actuals (enumeration i n) = refl
scalar_seen k actuals (formal_type i j b) = given_scalar (slice_get actuals j)
scalar_seen k actuals (array_type i x c) = refl
scalar_seen k actuals (record_type i fs) = refl

field_seen : (k : ℕ) (actuals : List Actual) (fs : Fields) → HasField fs → HasField (fields_seen k actuals fs)
field_seen k actuals no_field h = absurd h
field_seen k actuals (and_field name t fs) h = tt

scalar_in : (k : ℕ) (actuals : List Actual) (t : AdaSubtype) → is_scalar (type_in (subtype_seen k actuals t)) ≡ is_scalar (type_in t)
scalar_in k actuals (of_type t r) = scalar_seen k actuals t

module _ (p : Program) (inst k : ℕ) (actuals : List Actual) (types more : AdaType → Type 0) where
  -- what is declared in the generic is declared as it is seen, and a type is given for each formal one
  pub record AreSeenAs : Type 0 where
    pub declared : (t : AdaType) → types t → more (type_seen k actuals t)
    pub given : (j : ℕ) → IsKnownType p inst more (given_type (slice_get actuals j))

  module _ (all : AreSeenAs) where
    bounds_seen : (r : Range) → IsOrdered p k types r → IsOrdered p inst more (range_seen k r)
    bounds_seen r h = subst AreOrdered (sym (seen_bounds (values_of p) inst k r)) h

    length_seen : (t : AdaSubtype) → HasNumber (static_value (values_of p) k (static_length (range_in t)))
        → HasNumber (static_value (values_of p) inst (static_length (range_in (subtype_seen k actuals t))))
    length_seen (of_type t (between e f)) h = h
    length_seen (of_type t (formal_range j)) h = h
    length_seen (of_type t (range_of i r)) h = h

    value_seen : (e : Static) → HasNumber (static_value (values_of p) k e) → HasNumber (static_value (values_of p) inst (static_seen k e))
    value_seen (static_number x) h = h
    value_seen (static_formal x) h = h
    value_seen (static_constant x) h = h
    value_seen (static_first r) h = h
    value_seen (static_last r) h = h
    value_seen (static_length r) h = h
    value_seen (static_sign s e) h = h
    value_seen (static_operation o e f) h = h
    value_seen (static_of i e) h = h

    mutual
      type_known_seen : (t : AdaType) → IsKnownType p k types t → IsKnownType p inst more (type_seen k actuals t)
      type_known_seen (integer_type i) h = all.declared (integer_type i) h
      type_known_seen (enumeration i n) h = all.declared (enumeration i n) h
      type_known_seen (formal_type i j b) h = all.given j
      type_known_seen (array_type i x c) h = (
        all.declared (array_type i x c) h.0,
        (subtype_known_seen x h.1.0, (scalar_in k actuals x ∙ h.1.1.0, (length_seen x h.1.1.1.0, subtype_known_seen c h.1.1.1.1))),
      )
      type_known_seen (record_type i fs) h = (all.declared (record_type i fs) h.0, (field_seen k actuals fs h.1.0, fields_known_seen fs h.1.1))

      pub subtype_known_seen : (t : AdaSubtype) → IsKnownSubtype p k types t → IsKnownSubtype p inst more (subtype_seen k actuals t)
      subtype_known_seen (of_type t r) h = (bounds_seen r h.0, type_known_seen t h.1)

      fields_known_seen : (fs : Fields) → AreKnownFields p k types fs → AreKnownFields p inst more (fields_seen k actuals fs)
      fields_known_seen no_field h = tt
      fields_known_seen (and_field name t fs) h = (subtype_known_seen t h.0, fields_known_seen fs h.1)

    shape_seen : (t : AdaSubtype) → shape_in p k (subtype_in_tree t) ≡ shape_in p inst (subtype_in_tree (subtype_seen k actuals t))
    shape_seen t = sym (ap (shape_in p inst) (subtype_in_instance k actuals t) ∙ seen_shape p inst k (subtype_in_tree t))

    -- subprograms
    of_type_seen : (s : Shape) (t : AdaSubtype) → IsOfType p k types s t → IsOfType p inst more s (subtype_seen k actuals t)
    of_type_seen s t h = (
      λ e. h.0 (sym (scalar_in k actuals t) ∙ e),
      λ e. ((h.1 (sym (scalar_in k actuals t) ∙ e)).0, (h.1 (sym (scalar_in k actuals t) ∙ e)).1 ∙ shape_seen t),
    )

    parameters_seen : (qs : List ResolvedParameter) (rs : List Parameter) → AreParameters p k types qs rs
        → AreParameters p inst more qs (map (parameter_seen k actuals) rs)
    parameters_seen [] [] h = tt
    parameters_seen [] (r ∷ rs) h = absurd h
    parameters_seen (q ∷ qs) [] h = absurd h
    parameters_seen (q ∷ qs) (r ∷ rs) h = (
      record { mode = h.0.mode; type = of_type_seen q.shape r.subtype h.0.type; subtype = subtype_known_seen r.subtype h.0.subtype },
      parameters_seen qs rs h.1,
    )

    -- what a formal subprogram comes to is no part of an instance
    abbrev IsNoFormal : tree.Callee → Type 0
    IsNoFormal (tree.formal_subprogram j) = ⊥
    IsNoFormal c = Unit {0}

    target_seen : (c : tree.Callee) → IsNoFormal c → target_in p inst (callee_seen k c) ≡ target_in p k c
    target_seen tree.test_get h = refl
    target_seen tree.test_put h = refl
    target_seen (tree.subprogram here n) h = refl
    target_seen (tree.subprogram (of_instance i) n) h = refl
    target_seen (tree.formal_subprogram j) h = absurd h

    result_seen : (t : Target) (o : Option Parameter) → IsResult p k types t o → IsResult p inst more t (option_map (parameter_seen k actuals) o)
    result_seen t None h = h
    result_seen t (Some q) h = (h.0, subtype_known_seen q.subtype h.1)

    pub routine_known_seen : (r : Routine) → IsNoFormal r.callee → IsRoutine p k types r → IsRoutine p inst more (routine_seen k actuals r)
    routine_known_seen r apart h = record {
      parameters = subst (λ t. AreParameters p inst more (parameters_of p t) (map (parameter_seen k actuals) r.parameters)) (sym (target_seen r.callee apart))
          (parameters_seen (parameters_of p (target_in p k r.callee)) r.parameters h.parameters);
      result = subst (λ t. IsResult p inst more t (option_map (parameter_seen k actuals) r.result)) (sym (target_seen r.callee apart))
          (result_seen (target_in p k r.callee) r.result h.result);
    }

    -- exceptions
    exception_there : (e : tree.ExceptionName) → exception_in p inst (exception_seen k e) ≡ exception_in p k e
    exception_there (tree.predefined n) = refl
    exception_there (tree.declared here d) = refl
    exception_there (tree.declared (of_instance i) d) = refl

    module _ (shape_of shape_there : tree.Object → Shape) (Sees There : tree.Object → Type 0)
        (shown : (o : tree.Object) → There o → Sees (object_seen k o)) (shapes : (o : tree.Object) → There o → shape_there o ≡ shape_of (object_seen k o)) where
      -- what may be seen through an instance: whole objects, and no formal subprogram
      abbrev pub IsPlainEntity : Entity → Type 0
      IsPlainEntity (object v) = v.parts ≡ tree.whole
      IsPlainEntity (routine r) = IsNoFormal r.callee
      IsPlainEntity x = Unit {0}

      exception_known : (e : tree.ExceptionName) → IsException p k shape_there e → IsException p inst shape_of (exception_seen k e)
      exception_known e h = subst (λ n. (1 ≤ n) × (n ≤ 4 + length p.exceptions)) (sym (exception_there e)) h

      whole_variable : (o : tree.Object) (parts : tree.Parts) (t : AdaSubtype) (w : Bool) (x : Bool) (e : Option Static) (values : Spans) → parts ≡ tree.whole
          → IsVariable p k types shape_there There (record { object = o; parts = parts; subtype = t; is_writable = w; is_indexed = x; known = e; values = values })
          → IsVariable p inst more shape_of Sees (variable_seen k actuals (record { object = o; parts = parts; subtype = t; is_writable = w; is_indexed = x; known = e; values = values }))
      whole_variable o parts t w x e values is h =
          subst (λ q. IsVariable p inst more shape_of Sees
          (variable_seen k actuals (record { object = o; parts = q; subtype = t; is_writable = w; is_indexed = x; known = e; values = values }))) (sym is)
          (record {
            visible = shown o h.visible;
            parts = tt;
            shape = sym (shapes o h.visible) ∙ (whole_shape ∙ shape_seen t);
            subtype = subtype_known_seen t h.subtype;
          })
        where
          whole_shape : shape_there o ≡ shape_in p k (subtype_in_tree t)
          whole_shape = subst (λ q. part_shape (shape_there o) q ≡ shape_in p k (subtype_in_tree t)) is h.shape

      pub entity_known_seen : (x : Entity) → IsPlainEntity x → IsEntity p k types shape_there There x → IsEntity p inst more shape_of Sees (seen k actuals x)
      entity_known_seen hidden plain h = tt
      entity_known_seen (mark i t) plain h = subtype_known_seen t h
      entity_known_seen (literal t x) plain h = (type_known_seen t h.0, h.1)
      entity_known_seen (object v) plain h = whole_variable v.object v.parts v.subtype v.is_writable v.is_indexed v.known v.values plain h
      entity_known_seen (formal_object t e) plain h = (subtype_known_seen t h.0, value_seen e h.1)
      entity_known_seen (routine r) plain h = routine_known_seen r plain h
      entity_known_seen (raisable e) plain h = exception_known e h
      entity_known_seen component plain h = tt
      entity_known_seen test_io plain h = tt
      entity_known_seen (unit n) plain h = tt
