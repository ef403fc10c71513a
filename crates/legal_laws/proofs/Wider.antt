-- What is known where some types are declared and some objects are visible is known where there are more of both.
use Rattle.std.proofs.Common.{ℕ, List, [], ◌∷◌, Option, Some, None}
use Rattle.ada_meaning.specs.Program.{Program}
use Rattle.ada_meaning.specs.Resolved.{ResolvedParameter, target_in, parameters_of}
use Rattle.ada_meaning.specs.Shape.{Shape, word, row, group}
use Rattle.ada_meaning.specs.Tree as tree
use Rattle.ada_meaning.specs.WellFormed.{component_shape, IsExpr, IsTest, AreParts, AreActuals}
use Rattle.ada_rules.specs.Types.{AdaType, integer_type, enumeration, formal_type, array_type, record_type, AdaSubtype, of_type, Fields, no_field, and_field}
use Rattle.ada_rules.specs.Entities.{Variable, Parameter, Routine, Entity, hidden, mark, literal, object, formal_object, routine, raisable, component, test_io, unit, Region}
use Rattle.ada_rules.specs.Environment.{Env, regions_of, interface_of}
use Rattle.ada_rules.specs.Expressions.{part_of_interface}
use Rattle.legal_laws.specs.Known.{IsKnownType, IsKnownSubtype, AreKnownFields, AreParameters, IsResult, IsRoutine, IsVariable, IsEntity, IsRegion, IsEnv}
use Rattle.legal_laws.proofs.Passing.{every_so, some_so}

module _ (p : Program) (inst : ℕ) (shape_of : tree.Object → Shape) (Sees Shows : tree.Object → Type 0) (wider : (o : tree.Object) → Sees o → Shows o) where
  mutual
    pub expr_wider : (e : tree.Expr) → IsExpr p inst shape_of Sees e → IsExpr p inst shape_of Shows e
    expr_wider (tree.literal x) h = h
    expr_wider (tree.constant e) h = h
    expr_wider (tree.attribute o parts e) h = (wider o h.0, (parts_wider (shape_of o) parts h.1.0, h.1.1))
    expr_wider (tree.read o parts) h = (wider o h.0, (parts_wider (shape_of o) parts h.1.0, h.1.1))
    expr_wider (tree.signed s e) h = expr_wider e h
    expr_wider (tree.operation o e f) h = (expr_wider e h.0, expr_wider f h.1)
    expr_wider (tree.relation r e f) h = (expr_wider e h.0, expr_wider f h.1)
    expr_wider (tree.complement e) h = expr_wider e h
    expr_wider (tree.conversion r e) h = (h.0, expr_wider e h.1)
    expr_wider (tree.call c actuals) h = (h.0, actuals_wider (parameters_of p (target_in p inst c)) actuals h.1)
    expr_wider (tree.decision d t) h = test_wider t h

    pub parts_wider : (s : Shape) (parts : tree.Parts) → AreParts p inst shape_of Sees s parts → AreParts p inst shape_of Shows s parts
    parts_wider s tree.whole h = tt
    parts_wider (group ss) (tree.component n parts) h = (h.0, parts_wider (component_shape ss n) parts h.1)
    parts_wider (row b s) (tree.element r e parts) h = (h.0, (expr_wider e h.1.0, parts_wider s parts h.1.1))
    parts_wider (word b) (tree.component n parts) h = absurd h
    parts_wider (word b) (tree.element r e parts) h = absurd h
    parts_wider (row b s) (tree.component n parts) h = absurd h
    parts_wider (group ss) (tree.element r e parts) h = absurd h

    pub actuals_wider : (qs : List ResolvedParameter) (actuals : tree.Actuals) → AreActuals p inst shape_of Sees qs actuals
        → AreActuals p inst shape_of Shows qs actuals
    actuals_wider qs tree.no_actual h = h
    actuals_wider qs (tree.by_expression e rest) h = (h.0, (h.1.0, (h.1.1.0, (expr_wider e h.1.1.1.0, actuals_wider _ rest h.1.1.1.1))))
    actuals_wider qs (tree.by_variable o parts r rest) h = (
      h.0,
      (
        h.1.0,
        (
          h.1.1.0,
          (
            wider o h.1.1.1.0,
            (parts_wider (shape_of o) parts h.1.1.1.1.0, (h.1.1.1.1.1.0, (h.1.1.1.1.1.1.0, actuals_wider _ rest h.1.1.1.1.1.1.1))),
          ),
        ),
      ),
    )
    actuals_wider qs (tree.by_composite o parts rest) h =
        (h.0, (h.1.0, (wider o h.1.1.0, (parts_wider (shape_of o) parts h.1.1.1.0, (h.1.1.1.1.0, actuals_wider _ rest h.1.1.1.1.1)))))

    pub test_wider : (t : tree.Test) → IsTest p inst shape_of Sees t → IsTest p inst shape_of Shows t
    test_wider (tree.condition at e) h = expr_wider e h
    test_wider (tree.negation t) h = test_wider t h
    test_wider (tree.operator neutral t u) h = (test_wider t h.0, test_wider u h.1)

module _ (p : Program) (inst : ℕ) (declared more : AdaType → Type 0) (among : (t : AdaType) → declared t → more t) where
  mutual
    pub type_wider : (t : AdaType) → IsKnownType p inst declared t → IsKnownType p inst more t
    type_wider (integer_type i) h = among (integer_type i) h
    type_wider (enumeration i n) h = among (enumeration i n) h
    type_wider (formal_type i k b) h = among (formal_type i k b) h
    type_wider (array_type i x c) h =
        (among (array_type i x c) h.0, (subtype_wider x h.1.0, (h.1.1.0, (h.1.1.1.0, subtype_wider c h.1.1.1.1))))
    type_wider (record_type i fs) h = (among (record_type i fs) h.0, (h.1.0, fields_wider fs h.1.1))

    pub subtype_wider : (t : AdaSubtype) → IsKnownSubtype p inst declared t → IsKnownSubtype p inst more t
    subtype_wider (of_type t r) h = (h.0, type_wider t h.1)

    pub fields_wider : (fs : Fields) → AreKnownFields p inst declared fs → AreKnownFields p inst more fs
    fields_wider no_field h = tt
    fields_wider (and_field name t fs) h = (subtype_wider t h.0, fields_wider fs h.1)

  parameters_wider : (qs : List ResolvedParameter) (rs : List Parameter) → AreParameters p inst declared qs rs → AreParameters p inst more qs rs
  parameters_wider [] [] h = tt
  parameters_wider [] (r ∷ rs) h = absurd h
  parameters_wider (q ∷ qs) [] h = absurd h
  parameters_wider (q ∷ qs) (r ∷ rs) h =
      (record { mode = h.0.mode; type = h.0.type; subtype = subtype_wider r.subtype h.0.subtype }, parameters_wider qs rs h.1)

  result_wider : (r : Routine) (o : Option Parameter) → IsResult p inst declared (target_in p inst r.callee) o → IsResult p inst more (target_in p inst r.callee) o
  result_wider r None h = h
  result_wider r (Some q) h = (h.0, subtype_wider q.subtype h.1)

  pub routine_wider : (r : Routine) → IsRoutine p inst declared r → IsRoutine p inst more r
  routine_wider r h = record {
    parameters = parameters_wider (parameters_of p (target_in p inst r.callee)) r.parameters h.parameters;
    result = result_wider r r.result h.result;
  }

  module _ (shape_of : tree.Object → Shape) (Sees Shows : tree.Object → Type 0) (wider : (o : tree.Object) → Sees o → Shows o) where
    pub variable_wider : (v : Variable) → IsVariable p inst declared shape_of Sees v → IsVariable p inst more shape_of Shows v
    variable_wider v h = record {
      visible = wider v.object h.visible;
      parts = parts_wider p inst shape_of Sees Shows wider (shape_of v.object) v.parts h.parts;
      shape = h.shape;
      subtype = subtype_wider v.subtype h.subtype;
    }

    pub entity_wider : (x : Entity) → IsEntity p inst declared shape_of Sees x → IsEntity p inst more shape_of Shows x
    entity_wider hidden h = tt
    entity_wider (mark i t) h = subtype_wider t h
    entity_wider (literal t x) h = (type_wider t h.0, h.1)
    entity_wider (object v) h = variable_wider v h
    entity_wider (formal_object t e) h = (subtype_wider t h.0, h.1)
    entity_wider (routine r) h = routine_wider r h
    entity_wider (raisable e) h = h
    entity_wider component h = tt
    entity_wider test_io h = tt
    entity_wider (unit n) h = tt

    pub region_wider : (region : Region) → IsRegion p inst declared shape_of Sees region → IsRegion p inst more shape_of Shows region
    region_wider region h =
        every_so (λ e. IsEntity p inst declared shape_of Sees e.1) (λ e. IsEntity p inst more shape_of Shows e.1) region (λ e k. entity_wider e.1 k) h

    pub env_wider : (env : Env) → IsEnv p inst declared shape_of Sees env → IsEnv p inst more shape_of Shows env
    env_wider env h = record {
      step = h.step;
      integers = among _ h.integers;
      booleans = among _ h.booleans;
      regions = every_so (IsRegion p inst declared shape_of Sees) (IsRegion p inst more shape_of Shows) (regions_of env) region_wider h.regions;
      own = region_wider env.own h.own;
      units = λ n name. some_so (IsEntity p inst declared shape_of Sees) (IsEntity p inst more shape_of Shows)
          (part_of_interface env.world name (interface_of env.world n)) entity_wider (h.units n name);
      test_io = region_wider env.world.standard.test_io_declarations h.test_io;
    }
