-- Copies of expressions mean what the generic's text means in the instance.
use Rattle.std.proofs.Common.{◌≡◌, ℕ, true, false, List, refl, ap}
use Rattle.cov_base.specs.Path.{Step}
use Rattle.ada_meaning.specs.Types.{Subtype, scalar, array, fields, subtype_of, Components, no_component, and_component}
use Rattle.ada_meaning.specs.Tree.{Object, library_object, local_object, Callee, Expr, literal, constant, attribute, read, signed, operation, relation, complement, conversion, call, decision, Parts, whole, component, element, Actuals, no_actual, by_expression, by_variable, by_composite, Test, condition, negation, operator, shape_of, Label}
use Rattle.ada_meaning.specs.Program.{Target, get_target, put_target, body_target, Program}
use Rattle.ada_meaning.specs.State.{Place}
use Rattle.ada_meaning.specs.Shape.{row, group}
use Rattle.ada_meaning.specs.Resolved.{ResolvedParameter, bounds_in, shape_in, shapes_in, target_in, place_in}
use Rattle.ada_meaning.specs.Calls.{Calls}
use Rattle.ada_meaning.specs.Expressions.{value, place, given, test, decides, named}
use Rattle.ada_meaning.specs.Copies.{callee_of, subtype_copy, components_copy, object_copy, callee_copy, expr_copy, parts_copy, actuals_copy, test_copy}

mutual
  pub shape_same : (p : Program) (i inst : ℕ) (t : Subtype) → shape_in p i (subtype_copy p inst t) ≡ shape_in p inst t
  shape_same p i inst (scalar r) = refl
  shape_same p i inst (array r t) = ap (row (bounds_in p inst r)) (shape_same p i inst t)
  shape_same p i inst (fields cs) = ap group (shapes_same p i inst cs)
  shape_same p i inst (subtype_of j t) = shape_same p i j t

  shapes_same : (p : Program) (i inst : ℕ) (cs : Components) → shapes_in p i (components_copy p inst cs) ≡ shapes_in p inst cs
  shapes_same p i inst no_component = refl
  shapes_same p i inst (and_component t cs) = simp (shape_same p i inst t, shapes_same p i inst cs) refl

module _ (p : Program) (calls : Calls) (inst : ℕ) where
  pub object_same : (o : Object) (depth : ℕ) → place_in p inst depth (object_copy p inst o) ≡ place_in p inst depth o
  object_same (library_object o d) depth = refl
  object_same (local_object d) depth = refl

  target_same : (t : Target) → target_in p inst (callee_of t) ≡ t
  target_same get_target = refl
  target_same put_target = refl
  target_same (body_target j n) = refl

  pub callee_same : (c : Callee) → target_in p inst (callee_copy p inst c) ≡ target_in p inst c
  callee_same c = target_same (target_in p inst c)

  pub expression_same : (t : Test) → shape_of (test_copy p inst t) ≡ shape_of t
  expression_same (condition at e) = refl
  expression_same (negation t) = simp (expression_same t) refl
  expression_same (operator neutral t u) = simp (expression_same t, expression_same u) refl

  mutual
    pub value_same : (e : Expr) → value p calls inst (expr_copy p inst e) ≡ value p calls inst e
    value_same (literal x) = refl
    value_same (constant e) = refl
    value_same (attribute o parts e) = simp (object_same o, place_same parts) refl
    value_same (read o parts) = simp (object_same o, place_same parts) refl
    value_same (signed s e) = simp (value_same e) refl
    value_same (operation o e f) = simp (value_same e, value_same f) refl
    value_same (relation r e f) = simp (value_same e, value_same f) refl
    value_same (complement e) = simp (value_same e) refl
    value_same (conversion r e) = simp (value_same e) refl
    value_same (call c actuals) = simp (callee_same c, given_same actuals) refl
    value_same (decision d t) = simp (test_same t) refl

    pub place_same : (parts : Parts) (q : Place) → place p calls inst (parts_copy p inst parts) q ≡ place p calls inst parts q
    place_same whole q = refl
    place_same (component n parts) q = simp (place_same parts) refl
    place_same (element r e parts) q = simp (value_same e, place_same parts) refl

    pub given_same : (actuals : Actuals) (qs : List ResolvedParameter) → given p calls inst (actuals_copy p inst actuals) qs ≡ given p calls inst actuals qs
    given_same no_actual qs = refl
    given_same (by_expression e rest) qs = simp (value_same e, given_same rest) refl
    given_same (by_variable o parts r rest) qs = simp (object_same o, place_same parts, given_same rest) refl
    given_same (by_composite o parts rest) qs = simp (object_same o, place_same parts, given_same rest) refl

    pub test_same : (t : Test) (n : ℕ) (steps : List Step) → test p calls inst (test_copy p inst t) n steps ≡ test p calls inst t n steps
    test_same (condition at e) n steps = simp (value_same e) refl
    test_same (negation t) n steps = simp (test_same t) refl
    test_same (operator true t u) n steps = simp (test_same t, test_same u, expression_same t) refl
    test_same (operator false t u) n steps = simp (test_same t, test_same u, expression_same t) refl

  pub decides_same : (d : Label) (t : Test) → decides p calls inst d (test_copy p inst t) ≡ decides p calls inst d t
  decides_same d t = simp (test_same t) refl

  pub named_same : (o : Object) (parts : Parts) → named p calls inst (object_copy p inst o) (parts_copy p inst parts) ≡ named p calls inst o parts
  named_same o parts = simp (object_same o, place_same parts) refl
