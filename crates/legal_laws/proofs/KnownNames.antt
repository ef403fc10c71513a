-- What names denote where all entities are known: parts of objects, attributes, calls with their actuals.
use Rattle.std.proofs.Common.{◌≡◌, ◌≤◌, ◌+◌, ℕ, nat_eq, Bool, true, false, not, if◌then◌else◌, List, [], ◌∷◌, length, Option, Some, None, option_map, IfSome, codes, refl, sym, ap, ◌∙◌, subst, arith}
use Rattle.std.specs.Prelude.{◌&&◌}
use Rattle.std.specs.Option.{option_and_then}
use Rattle.std.proofs.lemmas.Bool.{eqb-true, false≢true}
use Rattle.cov_base.specs.Lists.{Everywhere}
use Rattle.ada_meaning.specs.Program.{Mode, in_mode, out_mode, in_out_mode, Program}
use Rattle.ada_meaning.specs.Resolved.{ResolvedParameter, shape_in, shapes_in, target_in, parameters_of}
use Rattle.ada_meaning.specs.Shape.{Shape, word, row, group}
use Rattle.ada_meaning.specs.Statics.{static_value, static_bounds, values_of}
use Rattle.ada_meaning.specs.Tree as tree
use Rattle.ada_meaning.specs.Types.{Static, Range, static_first, static_last, static_length}
use Rattle.ada_meaning.specs.WellFormed.{HasNumber, IsScalar, SetsVariable, component_shape, HasComponent, part_shape, IsExpr, AreParts, AreActuals}
use Rattle.ada_rules.specs.Types.{Identity, AdaType, integer_type, enumeration, formal_type, array_type, record_type, AdaSubtype, of_type, Fields, type_in, range_in, is_scalar, same_type, Kind, universal, kind_of, is_discrete, fits, subtype_in_tree, type_in_tree, fields_in_tree}
use Rattle.ada_rules.specs.Statics.{Spans}
use Rattle.ada_rules.specs.Entities.{same_name, Variable, Parameter, Routine, Entity, hidden, mark, literal, object, formal_object, routine, raisable, component, test_io, unit, Region, entity_of, found, shown, visible}
use Rattle.ada_rules.specs.Denoted.{Form, plain, test_form, Judged, valued, Denoted, a_mark, a_value, a_variable, a_routine, a_call, an_exception, a_unit, the_test_io, a_thing, denoted_of, followed_by, part_of, field_of, field_among, component_of, limit_of, extent_of, attribute_of_type, attribute_of_object, static_attribute, object_attribute, attribute_of, expr_of_form, expr_of, converts, conversion_of, element_of, written, by_name, by_value, passed_as, actuals_for, applied_to_one, applied_to, read_of, called, called_bare, value_of}
use Rattle.legal_laws.specs.Known.{AreAlikeTypes, AreApart, IsOrdered, IsKnownType, IsKnownSubtype, IsKnownKind, IsParameter, AreParameters, IsResult, IsRoutine, IsVariable, IsForm, IsJudged, IsDenoted, IsEntity, IsRegion}
use Rattle.legal_laws.proofs.Passing.{both_true, if_then, if_map, if_test, if_not, if_either, if_or}
use Rattle.legal_laws.proofs.AlikeTypes.{alike_turned}
use Rattle.legal_laws.proofs.KnownTypes.{order_bounds, low_there, high_there, range_known, type_known, types_alike, scalar_fits, converted_discrete, scalar_shape, same_composite, IsFieldAt, field_known}

pub no_parameters : (p : Program) (inst : ℕ) (declared : AdaType → Type 0) (qs : List ResolvedParameter) (rs : List Parameter)
    → AreParameters p inst declared qs rs → nat_eq (length rs) 0 ≡ true → qs ≡ []
no_parameters p inst declared [] rs are none = refl
no_parameters p inst declared (q ∷ qs) [] are none = absurd are
no_parameters p inst declared (q ∷ qs) (r ∷ rs) are none = absurd (filled (eqb-true (length (r ∷ rs)) 0 none))
  where
    filled : length (r ∷ rs) ≡ 0 → ⊥
    filled e = omega (arith, e)

some_parameter : {X : Type 0} (x : X) (xs : List X) → 1 ≤ length (x ∷ xs)
some_parameter x xs = omega (arith)

not_false : (b : Bool) → b ≡ false → not b ≡ true
not_false b h = ap not h

module _ (p : Program) (inst : ℕ) (declared : AdaType → Type 0) (apart : AreApart p declared) (shape_of : tree.Object → Shape) (Sees : tree.Object → Type 0) where
  -- in short
  abbrev Known : AdaType → Type 0
  Known t = IsKnownType p inst declared t

  abbrev KnownSubtype : AdaSubtype → Type 0
  KnownSubtype t = IsKnownSubtype p inst declared t

  abbrev Formed : tree.Expr → Type 0
  Formed e = IsExpr p inst shape_of Sees e

  abbrev Parts : Shape → tree.Parts → Type 0
  Parts s parts = AreParts p inst shape_of Sees s parts

  abbrev Passed : List ResolvedParameter → tree.Actuals → Type 0
  Passed qs actuals = AreActuals p inst shape_of Sees qs actuals

  abbrev Variables : Variable → Type 0
  Variables v = IsVariable p inst declared shape_of Sees v

  abbrev Values : Judged → Type 0
  Values x = IsJudged p inst declared shape_of Sees x

  abbrev Names : Denoted → Type 0
  Names d = IsDenoted p inst declared shape_of Sees d

  abbrev Entities : Entity → Type 0
  Entities x = IsEntity p inst declared shape_of Sees x

  abbrev Regions : Region → Type 0
  Regions region = IsRegion p inst declared shape_of Sees region

  abbrev Routines : Routine → Type 0
  Routines r = IsRoutine p inst declared r

  -- what is found among entities
  pub entity_known : (name : List ℕ) (region : Region) → Regions region → IfSome (entity_of name region) Entities
  entity_known name [] all = tt
  entity_known name (e ∷ region) all =
      if_either Entities (same_name name e.0) (Some e.1) (entity_of name region) all.0 (entity_known name region all.1)

  found_known : (name : List ℕ) (regions : List Region) → Everywhere Regions regions → IfSome (found name regions) Entities
  found_known name [] all = tt
  found_known name (r ∷ rs) all =
      if_or Entities (entity_of name r) (found name rs) (entity_known name r all.0) (found_known name rs all.1)

  pub shown_known : (o : Option Entity) → IfSome o Entities → IfSome (shown o) Entities
  shown_known None h = tt
  shown_known (Some hidden) h = tt
  shown_known (Some (mark i t)) h = h
  shown_known (Some (literal t x)) h = h
  shown_known (Some (object v)) h = h
  shown_known (Some (formal_object t e)) h = h
  shown_known (Some (routine r)) h = h
  shown_known (Some (raisable e)) h = h
  shown_known (Some component) h = h
  shown_known (Some test_io) h = h
  shown_known (Some (unit n)) h = h

  pub visible_known : (name : List ℕ) (regions : List Region) → Everywhere Regions regions → IfSome (visible name regions) Entities
  visible_known name regions all = shown_known (found name regions) (found_known name regions all)

  -- a value that reads no variable
  value_known : (e : tree.Expr) (k : Kind) (known : Option Static) (values : Option Spans) → Formed e → IsKnownKind p inst declared k
      → Values (valued e k known values)
  value_known e k known values h kind = record { form = λ d. h; kind = kind; variable = tt }

  pub entity_denoted : (x : Entity) → Entities x → Names (denoted_of x)
  entity_denoted hidden h = tt
  entity_denoted (mark i t) h = h
  entity_denoted (literal t x) h = record { form = λ d. h.1; kind = h.0; variable = tt }
  entity_denoted (object v) h = h
  entity_denoted (formal_object t e) h = record { form = λ d. h.1; kind = type_known p inst declared apart t h.0; variable = tt }
  entity_denoted (routine r) h = h
  entity_denoted (raisable e) h = h
  entity_denoted component h = tt
  entity_denoted test_io h = tt
  entity_denoted (unit n) h = tt

  -- an expression of a discrete type
  form_expr : (f : Form) → IsForm p inst declared shape_of Sees f → Formed (expr_of_form f)
  form_expr (plain e) h = h
  form_expr (test_form t) h = refl

  pub expr_known : (x : Judged) → Values x → is_discrete x.kind ≡ true → Formed (expr_of x)
  expr_known x h d = form_expr x.form (h.form d)

  -- parts of parts
  pub record AreFurther (s : Shape) (a b : tree.Parts) : Type 0 where
    pub parts : Parts s (followed_by a b)
    pub shape : part_shape s (followed_by a b) ≡ part_shape (part_shape s a) b

  further : (s : Shape) (a b : tree.Parts) → Parts s a → Parts (part_shape s a) b → AreFurther s a b
  further s tree.whole b h k = record { parts = k; shape = refl }
  further (group ss) (tree.component n a) b h k =
      let rest = further (component_shape ss n) a b h.1 k in record { parts = (h.0, rest.parts); shape = rest.shape }
  further (row c s) (tree.element r e a) b h k =
      let rest = further s a b h.1.1 k in record { parts = (h.0, (h.1.0, rest.parts)); shape = rest.shape }
  further (word c) (tree.component n a) b h k = absurd h
  further (word c) (tree.element r e a) b h k = absurd h
  further (row c s) (tree.component n a) b h k = absurd h
  further (group ss) (tree.element r e a) b h k = absurd h

  part_known : (v : Variable) (t : AdaSubtype) (indexed : Bool) (q : tree.Parts) → Variables v → Parts (shape_in p inst (subtype_in_tree v.subtype)) q
      → part_shape (shape_in p inst (subtype_in_tree v.subtype)) q ≡ shape_in p inst (subtype_in_tree t) → KnownSubtype t
      → Variables (part_of v t indexed q)
  part_known v t indexed q is parts shape known =
      let all = further (shape_of v.object) v.parts q is.parts (subst (λ s. Parts s q) (sym is.shape) parts) in
      record {
        visible = is.visible;
        parts = all.parts;
        shape = all.shape ∙ ap (λ s. part_shape s q) is.shape ∙ shape;
        subtype = known;
      }

  -- a component of a record
  field_part : (v : Variable) (i : Identity) (fs : Fields) (f : ℕ × AdaSubtype) → Variables v
      → shape_in p inst (subtype_in_tree v.subtype) ≡ group (shapes_in p inst (fields_in_tree fs))
      → IsFieldAt p inst declared apart (shapes_in p inst (fields_in_tree fs)) 0 f → Variables (part_of v f.1 false (tree.component f.0 tree.whole))
  field_part v i fs f is shape at =
      let place = the_place f.0 at.place at.stands in
      part_known v f.1 false (tree.component f.0 tree.whole) is
      (subst (λ s. Parts s (tree.component f.0 tree.whole)) (sym shape)
      (subst (λ n. HasComponent (shapes_in p inst (fields_in_tree fs)) n × Unit {0}) (sym place) (at.there, tt)))
      (ap (λ s. part_shape s (tree.component f.0 tree.whole)) shape
      ∙ ap (λ n. component_shape (shapes_in p inst (fields_in_tree fs)) n) place ∙ at.shape)
      at.subtype
    where
      the_place : (n k : ℕ) → n ≡ 0 + k → n ≡ k
      the_place n k e = omega (arith, e)

  typed_tree : (s : AdaSubtype) (t : AdaType) → type_in s ≡ t → subtype_in_tree s ≡ type_in_tree t (range_in s)
  typed_tree (of_type u r) t e = ap (λ x. type_in_tree x r) e

  typed_shape : (s : AdaSubtype) (t : AdaType) → type_in s ≡ t → shape_in p inst (subtype_in_tree s) ≡ shape_in p inst (type_in_tree t (range_in s))
  typed_shape s t e = ap (λ x. shape_in p inst x) (typed_tree s t e)

  typed_known : (s : AdaSubtype) (t : AdaType) → type_in s ≡ t → KnownSubtype s → Known t
  typed_known s t e h = subst Known e (type_known p inst declared apart s h)

  field_of_known : (name : List ℕ) (v : Variable) (t : AdaType) → type_in v.subtype ≡ t → Variables v → IfSome (field_of name v t) Names
  field_of_known name v (integer_type i) e is = tt
  field_of_known name v (enumeration i n) e is = tt
  field_of_known name v (formal_type i k b) e is = tt
  field_of_known name v (array_type i x c) e is = tt
  field_of_known name v (record_type i fs) e is =
      if_map (IsFieldAt p inst declared apart (shapes_in p inst (fields_in_tree fs)) 0) Names
      (λ f. a_variable (part_of v f.1 false (tree.component f.0 tree.whole))) (field_among name 0 fs)
      (field_known p inst declared apart name 0 fs (typed_known v.subtype (record_type i fs) e is.subtype).1.1)
      (λ f at. field_part v i fs f is (typed_shape v.subtype (record_type i fs) e) at)

  pub component_known : (name : List ℕ) (d : Denoted) → Names d → IfSome (component_of name d) Names
  component_known name (a_mark i t) h = tt
  component_known name (a_value x) h = tt
  component_known name (a_variable v) h = field_of_known name v (type_in v.subtype) refl h
  component_known name (a_routine r) h = tt
  component_known name (a_call r actuals) h = tt
  component_known name (an_exception e) h = tt
  component_known name (a_unit n) h = tt
  component_known name the_test_io h = tt
  component_known name a_thing h = tt

  -- an element of an array
  element_part : (v : Variable) (i : Identity) (x c : AdaSubtype) (e : Judged) → type_in v.subtype ≡ array_type i x c → Variables v → Values e
      → fits (type_in x) e.kind ≡ true → Variables (part_of v c true (tree.element (range_in x) (expr_of e) tree.whole))
  element_part v i x c e at is judged fit =
      let known = typed_known v.subtype (array_type i x c) at is.subtype in
      let shape = typed_shape v.subtype (array_type i x c) at in
      part_known v c true (tree.element (range_in x) (expr_of e) tree.whole) is
      (subst (λ s. Parts s (tree.element (range_in x) (expr_of e) tree.whole)) (sym shape)
      (refl, (expr_known e judged (scalar_fits p inst declared apart (type_in x) e.kind (type_known p inst declared apart x known.1.0) judged.kind known.1.1.0 fit), tt)))
      (ap (λ s. part_shape s (tree.element (range_in x) (expr_of e) tree.whole)) shape)
      known.1.1.1.1

  element_known : (v : Variable) (t : AdaType) (e : Judged) → type_in v.subtype ≡ t → Variables v → Values e → IfSome (element_of v t e) Names
  element_known v (integer_type i) e at is judged = tt
  element_known v (enumeration i n) e at is judged = tt
  element_known v (formal_type i k b) e at is judged = tt
  element_known v (array_type i x c) e at is judged =
      if_test Names (fits (type_in x) e.kind) (Some (a_variable (part_of v c true (tree.element (range_in x) (expr_of e) tree.whole))))
      (λ fit. element_part v i x c e at is judged fit)
  element_known v (record_type i fs) e at is judged = tt

  -- attributes
  abbrev IsAttribute : Static × Kind → Type 0
  IsAttribute a = HasNumber (static_value (values_of p) inst a.0) × IsKnownKind p inst declared a.1

  limit_known : (name : List ℕ) (t : AdaType) (r : Range) → IsOrdered p inst declared r → Known t → IfSome (limit_of name t r) IsAttribute
  limit_known name t r h k =
      if_either IsAttribute (same_name name (codes "first")) (Some (static_first r, kind_of t))
      (if same_name name (codes "last") then Some (static_last r, kind_of t) else None)
      (low_there (static_bounds (values_of p) inst r) h, k)
      (if_test IsAttribute (same_name name (codes "last")) (Some (static_last r, kind_of t)) (λ b. (high_there (static_bounds (values_of p) inst r) h, k)))

  extent_known : (name : List ℕ) (x : AdaSubtype) → KnownSubtype x → HasNumber (static_value (values_of p) inst (static_length (range_in x)))
      → IfSome (extent_of name x) IsAttribute
  extent_known name x h long =
      if_either IsAttribute (same_name name (codes "length")) (Some (static_length (range_in x), universal)) (limit_of name (type_in x) (range_in x))
      (long, tt) (limit_known name (type_in x) (range_in x) (range_known p inst declared apart x h) (type_known p inst declared apart x h))

  type_attribute : (name : List ℕ) (t : AdaType) (r : Range) → IsOrdered p inst declared r → Known t → IfSome (attribute_of_type name t r) IsAttribute
  type_attribute name (integer_type i) r h k = limit_known name (integer_type i) r h k
  type_attribute name (enumeration i n) r h k = limit_known name (enumeration i n) r h k
  type_attribute name (formal_type i n b) r h k = limit_known name (formal_type i n b) r h k
  type_attribute name (array_type i x c) r h k = extent_known name x k.1.0 k.1.1.1.0
  type_attribute name (record_type i fs) r h k = tt

  object_attributes : (name : List ℕ) (t : AdaType) → Known t → IfSome (attribute_of_object name t) IsAttribute
  object_attributes name (integer_type i) k = tt
  object_attributes name (enumeration i n) k = tt
  object_attributes name (formal_type i n b) k = tt
  object_attributes name (array_type i x c) k = extent_known name x k.1.0 k.1.1.1.0
  object_attributes name (record_type i fs) k = tt

  static_known : (a : Static × Kind) → IsAttribute a → Names (static_attribute a)
  static_known a h = record { form = λ d. h.0; kind = h.1; variable = tt }

  with_index : (v : Variable) (a : Static × Kind) (b : Bool) → Variables v → IsAttribute a
      → Names (if b then a_value (valued (tree.attribute v.object v.parts a.0) a.1 None None) else static_attribute a)
  with_index v a true is h = record { form = λ d. (is.visible, (is.parts, h.0)); kind = h.1; variable = tt }
  with_index v a false is h = static_known a h

  pub attribute_known : (name : List ℕ) (d : Denoted) → Names d → IfSome (attribute_of name d) Names
  attribute_known name (a_mark i (of_type t r)) h = if_map IsAttribute Names static_attribute (attribute_of_type name t r) (type_attribute name t r h.0 h.1) static_known
  attribute_known name (a_value x) h = tt
  attribute_known name (a_variable v) h =
      if_map IsAttribute Names (object_attribute v) (attribute_of_object name (type_in v.subtype))
      (object_attributes name (type_in v.subtype) (type_known p inst declared apart v.subtype h.subtype)) (λ a is. with_index v a v.is_indexed h is)
  attribute_known name (a_routine r) h = tt
  attribute_known name (a_call r actuals) h = tt
  attribute_known name (an_exception e) h = tt
  attribute_known name (a_unit n) h = tt
  attribute_known name the_test_io h = tt
  attribute_known name a_thing h = tt

  -- a conversion
  conversion_known : (t : AdaSubtype) (x : Judged) → KnownSubtype t → Values x → IfSome (conversion_of t x) Names
  conversion_known t x h judged =
      if_test Names (converts (type_in t) x.kind) _ (λ may. record {
        form = λ d. (
          order_bounds (static_bounds (values_of p) inst (range_in t)) (range_known p inst declared apart t h),
          expr_known x judged (converted_discrete p inst declared apart (type_in t) x.kind (type_known p inst declared apart t h) judged.kind may),
        );
        kind = type_known p inst declared apart t h;
        variable = tt;
      })

  -- the value of a variable, and of a call
  pub read_known : (v : Variable) → Variables v → Values (read_of v)
  read_known v is = record {
    form = λ d. (is.visible, (is.parts, subst IsScalar (sym is.shape) (scalar_shape p inst declared apart v.subtype d)));
    kind = type_known p inst declared apart v.subtype is.subtype;
    variable = (is, refl);
  }

  called_known : (r : Routine) (actuals : tree.Actuals) (o : Option Parameter) → IsResult p inst declared (target_in p inst r.callee) o
      → Passed (parameters_of p (target_in p inst r.callee)) actuals → IfSome (called r actuals o) Values
  called_known r actuals None is passed = tt
  called_known r actuals (Some q) is passed = record { form = λ d. (is.0, passed); kind = type_known p inst declared apart q.subtype is.1; variable = tt }

  bare_known : (r : Routine) → Routines r → IfSome (called_bare r (called r tree.no_actual r.result)) Values
  bare_known r h =
      if_test Values (nat_eq (length r.parameters) 0) (called r tree.no_actual r.result)
      (λ none. called_known r tree.no_actual r.result h.result
      (no_parameters p inst declared (parameters_of p (target_in p inst r.callee)) r.parameters h.parameters none))

  pub denoted_value : (d : Denoted) → Names d → IfSome (value_of d) Values
  denoted_value (a_mark i t) h = tt
  denoted_value (a_value x) h = h
  denoted_value (a_variable v) h = read_known v h
  denoted_value (a_routine r) h = bare_known r h
  denoted_value (a_call r actuals) h = called_known r actuals r.result h.routine.result h.given
  denoted_value (an_exception e) h = tt
  denoted_value (a_unit n) h = tt
  denoted_value the_test_io h = tt
  denoted_value a_thing h = tt

  -- actuals
  composite_actual : (q : ResolvedParameter) (qs : List ResolvedParameter) (r : Parameter) (v : Variable) (rest : tree.Actuals) → IsParameter p inst declared q r
      → Variables v → is_scalar (type_in r.subtype) ≡ false → AreAlikeTypes p (type_in r.subtype) (type_in v.subtype) → Passed qs rest
      → Passed (q ∷ qs) (tree.by_composite v.object v.parts rest)
  composite_actual q qs r v rest is known composite same more =
      let shape = is.type.1 composite in (
        some_parameter q qs,
        (
          shape.0,
          (
            known.visible,
            (
              known.parts,
              (
                known.shape ∙ sym (same_composite p inst declared apart r.subtype v.subtype composite same) ∙ sym shape.1,
                more,
              ),
            ),
          ),
        ),
      )

  variable_for : (q : ResolvedParameter) (qs : List ResolvedParameter) (r : Parameter) (v : Variable) (rest : tree.Actuals) (b : Bool)
      → is_scalar (type_in r.subtype) ≡ b → IsParameter p inst declared q r → SetsVariable r.mode → Variables v
      → AreAlikeTypes p (type_in r.subtype) (type_in v.subtype)
      → Passed qs rest
      → Passed (q ∷ qs) (if b then tree.by_variable v.object v.parts (range_in v.subtype) rest else tree.by_composite v.object v.parts rest)
  variable_for q qs r v rest true scalar is sets known same more = (
    some_parameter q qs,
    (
      is.type.0 scalar,
      (
        subst SetsVariable (sym is.mode) sets,
        (
          known.visible,
          (
            known.parts,
            (
              subst IsScalar (sym known.shape) (scalar_shape p inst declared apart v.subtype (sym same.scalar ∙ scalar)),
              (
                order_bounds (static_bounds (values_of p) inst (range_in v.subtype)) (range_known p inst declared apart v.subtype known.subtype),
                more,
              ),
            ),
          ),
        ),
      ),
    ),
  )
  variable_for q qs r v rest false composite is sets known same more = composite_actual q qs r v rest is known composite same more

  named_actual : (q : ResolvedParameter) (qs : List ResolvedParameter) (r : Parameter) (rest : tree.Actuals) (v : Variable) → IsParameter p inst declared q r
      → SetsVariable r.mode → Variables v → Passed qs rest → IfSome (by_name r rest v) (Passed (q ∷ qs))
  named_actual q qs r rest v is sets known more =
      if_test (Passed (q ∷ qs)) (v.is_writable && same_type (type_in v.subtype) (type_in r.subtype)) (Some (written (type_in r.subtype) v rest))
      (λ may. variable_for q qs r v rest (is_scalar (type_in r.subtype)) refl is sets known
      (alike_turned p (type_in v.subtype) (type_in r.subtype) (types_alike p inst declared apart (type_in v.subtype) (type_in r.subtype) (type_known p inst declared apart v.subtype known.subtype)
      (type_known p inst declared apart r.subtype is.subtype) (both_true v.is_writable (same_type (type_in v.subtype) (type_in r.subtype)) may).1)) more)

  -- what fits the type of a composite parameter is a variable of a type that is alike
  variable_type : (t : AdaType) (k : Kind) (u : AdaType) → Known t → Known u → k ≡ kind_of u → fits t k ≡ true → AreAlikeTypes p t u
  variable_type t k u h g is fit = types_alike p inst declared apart t u h g (subst (λ x. fits t x ≡ true) is fit)

  value_actual : (q : ResolvedParameter) (qs : List ResolvedParameter) (r : Parameter) (x : Judged) (rest : tree.Actuals) (b : Bool)
      → is_scalar (type_in r.subtype) ≡ b → IsParameter p inst declared q r → r.mode ≡ in_mode → Values x → fits (type_in r.subtype) x.kind ≡ true
      → Passed qs rest
      → IfSome (if b then Some (tree.by_expression (expr_of x) rest) else option_map (λ v. tree.by_composite v.object v.parts rest) x.variable) (Passed (q ∷ qs))
  value_actual q qs r x rest true scalar is mode judged fit more = (
    some_parameter q qs,
    (
      is.type.0 scalar,
      (
        is.mode ∙ mode,
        (
          expr_known x judged (scalar_fits p inst declared apart (type_in r.subtype) x.kind (type_known p inst declared apart r.subtype is.subtype) judged.kind scalar fit),
          more,
        ),
      ),
    ),
  )
  value_actual q qs r x rest false composite is mode judged fit more =
      if_map (λ v. Variables v × (x.kind ≡ kind_of (type_in v.subtype))) (Passed (q ∷ qs)) (λ v. tree.by_composite v.object v.parts rest) x.variable judged.variable
      (λ v known. composite_actual q qs r v rest is known.0 composite
      (variable_type (type_in r.subtype) x.kind (type_in v.subtype) (type_known p inst declared apart r.subtype is.subtype)
      (type_known p inst declared apart v.subtype known.0.subtype) known.1 fit) more)

  not_not : (b : Bool) → not b ≡ false → b ≡ true
  not_not true h = refl
  not_not false h = absurd (false≢true (sym h))

  by_value_known : (q : ResolvedParameter) (qs : List ResolvedParameter) (r : Parameter) (x : Judged) (rest : tree.Actuals) → IsParameter p inst declared q r
      → r.mode ≡ in_mode → Values x → Passed qs rest → IfSome (by_value r x rest) (Passed (q ∷ qs))
  by_value_known q qs r x rest is mode judged more =
      if_not (Passed (q ∷ qs)) (not (fits (type_in r.subtype) x.kind)) _
      (λ fit. value_actual q qs r x rest (is_scalar (type_in r.subtype)) refl is mode judged (not_not (fits (type_in r.subtype) x.kind) fit) more)

  by_name_known : (q : ResolvedParameter) (qs : List ResolvedParameter) (r : Parameter) (x : Judged) (rest : tree.Actuals) → IsParameter p inst declared q r
      → SetsVariable r.mode → Values x → Passed qs rest
      → IfSome (if x.is_name then option_and_then (by_name r rest) x.variable else None) (Passed (q ∷ qs))
  by_name_known q qs r x rest is sets judged more =
      if_test (Passed (q ∷ qs)) x.is_name (option_and_then (by_name r rest) x.variable)
      (λ named. if_then (λ v. Variables v × (x.kind ≡ kind_of (type_in v.subtype))) (Passed (q ∷ qs)) (by_name r rest) x.variable judged.variable
      (λ v known. named_actual q qs r rest v is sets known.0 more))

  passed_known : (q : ResolvedParameter) (qs : List ResolvedParameter) (m : Mode) (r : Parameter) (x : Judged) (rest : tree.Actuals)
      → IsParameter p inst declared q r → r.mode ≡ m → Values x → Passed qs rest → IfSome (passed_as m r x rest) (Passed (q ∷ qs))
  passed_known q qs in_mode r x rest is mode judged more = by_value_known q qs r x rest is mode judged more
  passed_known q qs out_mode r x rest is mode judged more = by_name_known q qs r x rest is (subst SetsVariable (sym mode) tt) judged more
  passed_known q qs in_out_mode r x rest is mode judged more = by_name_known q qs r x rest is (subst SetsVariable (sym mode) tt) judged more

  pub actuals_known : (qs : List ResolvedParameter) (rs : List Parameter) (xs : List Judged) → AreParameters p inst declared qs rs → Everywhere Values xs
      → IfSome (actuals_for rs xs) (Passed qs)
  actuals_known [] [] [] are judged = refl
  actuals_known [] [] (x ∷ xs) are judged = tt
  actuals_known [] (r ∷ rs) xs are judged = absurd are
  actuals_known (q ∷ qs) [] xs are judged = absurd are
  actuals_known (q ∷ qs) (r ∷ rs) [] are judged = tt
  actuals_known (q ∷ qs) (r ∷ rs) (x ∷ xs) are judged =
      if_then (Passed qs) (Passed (q ∷ qs)) (passed_as r.mode r x) (actuals_for rs xs) (actuals_known qs rs xs are.1 judged.1)
      (λ rest more. passed_known q qs r.mode r x rest are.0 refl judged.0 more)

  -- what stands in front of expressions in parentheses
  applied_to_each : (d : Denoted) (x : Judged) → Names d → Values x → IfSome (applied_to_one d x) Names
  applied_to_each (a_mark i t) x h judged = conversion_known t x h judged
  applied_to_each (a_value y) x h judged = tt
  applied_to_each (a_variable v) x h judged = element_known v (type_in v.subtype) x refl h judged
  applied_to_each (a_routine r) x h judged = tt
  applied_to_each (a_call r actuals) x h judged = tt
  applied_to_each (an_exception e) x h judged = tt
  applied_to_each (a_unit n) x h judged = tt
  applied_to_each the_test_io x h judged = tt
  applied_to_each a_thing x h judged = tt

  routine_applied : (r : Routine) (xs : List Judged) → Routines r → Everywhere Values xs → IfSome (applied_to (a_routine r) xs) Names
  routine_applied r xs h judged =
      if_map (Passed (parameters_of p (target_in p inst r.callee))) Names (a_call r) (actuals_for r.parameters xs)
      (actuals_known (parameters_of p (target_in p inst r.callee)) r.parameters xs h.parameters judged) (λ actuals passed. record { routine = h; given = passed })

  pub applied_known : (d : Denoted) (xs : List Judged) → Names d → Everywhere Values xs → IfSome (applied_to d xs) Names
  applied_known (a_routine r) xs h judged = routine_applied r xs h judged
  applied_known (a_mark i t) [] h judged = tt
  applied_known (a_mark i t) (x ∷ []) h judged = applied_to_each (a_mark i t) x h judged.0
  applied_known (a_mark i t) (x ∷ (y ∷ xs)) h judged = tt
  applied_known (a_value y) [] h judged = tt
  applied_known (a_value y) (x ∷ []) h judged = applied_to_each (a_value y) x h judged.0
  applied_known (a_value v) (x ∷ (y ∷ xs)) h judged = tt
  applied_known (a_variable v) [] h judged = tt
  applied_known (a_variable v) (x ∷ []) h judged = applied_to_each (a_variable v) x h judged.0
  applied_known (a_variable v) (x ∷ (y ∷ xs)) h judged = tt
  applied_known (a_call r actuals) [] h judged = tt
  applied_known (a_call r actuals) (x ∷ []) h judged = applied_to_each (a_call r actuals) x h judged.0
  applied_known (a_call r actuals) (x ∷ (y ∷ xs)) h judged = tt
  applied_known (an_exception e) [] h judged = tt
  applied_known (an_exception e) (x ∷ []) h judged = applied_to_each (an_exception e) x h judged.0
  applied_known (an_exception e) (x ∷ (y ∷ xs)) h judged = tt
  applied_known (a_unit n) [] h judged = tt
  applied_known (a_unit n) (x ∷ []) h judged = applied_to_each (a_unit n) x h judged.0
  applied_known (a_unit n) (x ∷ (y ∷ xs)) h judged = tt
  applied_known the_test_io [] h judged = tt
  applied_known the_test_io (x ∷ []) h judged = applied_to_each the_test_io x h judged.0
  applied_known the_test_io (x ∷ (y ∷ xs)) h judged = tt
  applied_known a_thing [] h judged = tt
  applied_known a_thing (x ∷ []) h judged = applied_to_each a_thing x h judged.0
  applied_known a_thing (x ∷ (y ∷ xs)) h judged = tt
