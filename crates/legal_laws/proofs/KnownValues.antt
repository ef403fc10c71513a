-- What objects are set to, the targets of assignments, and the ranges of loop parameters, in the step of types.
use Rattle.std.proofs.Common.{◌≡◌, ℕ, Bool, true, false, not, if◌then◌else◌, List, [], ◌∷◌, Some, None, option_map, IfSome, IfOk, refl, sym, ap, ◌∙◌, subst}
use Rattle.std.specs.Option.{option_and_then}
use Rattle.std.proofs.lemmas.Bool.{false≢true}
use Rattle.cov_base.specs.declared.position.Pos.{Pos}
use Rattle.ada_syntax.specs.Tree as source
use Rattle.ada_syntax.specs.Tree.{expr_pos, name_pos}
use Rattle.ada_syntax.specs.declared.declaration.DiscreteRange.{DiscreteRange}
use Rattle.ada_syntax.specs.declared.declaration.DiscreteRange.TheVariants as discrete
use Rattle.ada_syntax.specs.declared.declaration.Initial.{Initial}
use Rattle.ada_meaning.specs.Program.{Program}
use Rattle.ada_meaning.specs.Resolved.{shape_in, bounds_in}
use Rattle.ada_meaning.specs.Shape.{Shape, word, row}
use Rattle.ada_meaning.specs.Statics.{static_bounds, values_of}
use Rattle.ada_meaning.specs.Tree as tree
use Rattle.ada_meaning.specs.Types.{Range}
use Rattle.ada_meaning.specs.WellFormed.{IsScalar, IsExpr, IsTurns, IsValue, value_shape}
use Rattle.ada_rules.specs.Plan.{◌>>=◌, rule}
use Rattle.ada_rules.specs.Types.{Identity, AdaType, integer_type, enumeration, formal_type, array_type, record_type, AdaSubtype, of_type, type_in, range_in, base, is_scalar, Kind, universal, kind_of, is_discrete, fits, common, settled, subtype_in_tree}
use Rattle.ada_rules.specs.Entities.{Variable}
use Rattle.ada_rules.specs.Environment.{typed_rule, State, Given, given, Env}
use Rattle.ada_rules.specs.Denoted.{Judged, expr_of, Denoted, a_mark, a_value, a_variable, a_routine, a_call, an_exception, a_unit, the_test_io, a_thing}
use Rattle.ada_rules.specs.Expressions.{itself, denoted, judged, Marked, scalar_mark}
use Rattle.ada_rules.specs.Declarations.{value_for, any_value, known_of, NewValue, value_place, new_value}
use Rattle.ada_rules.specs.Statements.{any_variable, writable, target, Selector, any_selector, selector_of, selector, Turns, any_turns, turns_between, turns_over, turned}
use Rattle.legal_laws.specs.Kept.{OnlyDecides}
use Rattle.legal_laws.specs.Known.{AreApart, IsKnownSubtype, IsKnownKind, IsVariable, IsJudged, IsDenoted, IsEnv}
use Rattle.legal_laws.proofs.Passing.{if_then, if_map, if_test, if_not, if_each, answered, part_so, typed_so, both_ok}
use Rattle.legal_laws.proofs.KnownTypes.{order_bounds, range_known, type_known, types_alike, scalar_fits, scalar_shape, same_composite, IsCommon, common_known}
use Rattle.legal_laws.proofs.KnownNames.{expr_known}
use Rattle.legal_laws.proofs.KnownExpressions.{denoted_known, judged_known, scalar_mark_known}
use Rattle.legal_laws.proofs.KeptExpressions.{denoted_behind, judged_behind, scalar_mark_behind, only_both}

module _ (p : Program) (inst : ℕ) (declared : AdaType → Type 0) (apart : AreApart p declared) (shape_of : tree.Object → Shape) (Sees : tree.Object → Type 0) where
  abbrev KnownSubtype : AdaSubtype → Type 0
  KnownSubtype t = IsKnownSubtype p inst declared t

  abbrev Values : Judged → Type 0
  Values x = IsJudged p inst declared shape_of Sees x

  abbrev Variables : Variable → Type 0
  Variables v = IsVariable p inst declared shape_of Sees v

  abbrev ShapeOf : AdaSubtype → Shape
  ShapeOf t = shape_in p inst (subtype_in_tree t)

  -- what an object of a subtype is set to
  pub record IsSet (t : AdaSubtype) (v : tree.NewValue) : Type 0 where
    pub value : IsValue p inst shape_of Sees (ShapeOf t) v
    pub shape : value_shape p inst shape_of v ≡ ShapeOf t

  word_shape : (t : AdaSubtype) → is_scalar (type_in t) ≡ true → word (bounds_in p inst (range_in t)) ≡ ShapeOf t
  word_shape (of_type (integer_type i) r) h = refl
  word_shape (of_type (enumeration i n) r) h = refl
  word_shape (of_type (formal_type i k b) r) h = refl
  word_shape (of_type (array_type i x c) r) h = absurd (false≢true h)
  word_shape (of_type (record_type i fs) r) h = absurd (false≢true h)

  scalar_set : (t : AdaSubtype) (e : Judged) → KnownSubtype t → Values e → is_scalar (type_in t) ≡ true → fits (type_in t) e.kind ≡ true
      → IsSet t (tree.scalar_value (range_in t) (expr_of e))
  scalar_set t e known judged scalar fit = record {
    value = (
      scalar_shape p inst declared apart t scalar,
      (
        order_bounds (static_bounds (values_of p) inst (range_in t)) (range_known p inst declared apart t known),
        expr_known p inst declared apart shape_of Sees e judged
            (scalar_fits p inst declared apart (type_in t) e.kind (type_known p inst declared apart t known) judged.kind scalar fit),
      ),
    );
    shape = word_shape t scalar;
  }

  composite_set : (t : AdaSubtype) (v : Variable) (k : Kind) → KnownSubtype t → Variables v → k ≡ kind_of (type_in v.subtype) → is_scalar (type_in t) ≡ false
      → fits (type_in t) k ≡ true → IsSet t (tree.composite_value (subtype_in_tree t) v.object v.parts)
  composite_set t v k known variable is composite fit =
      let same = types_alike p inst declared apart (type_in t) (type_in v.subtype) (type_known p inst declared apart t known)
      (type_known p inst declared apart v.subtype variable.subtype) (subst (λ x. fits (type_in t) x ≡ true) is fit) in
      record {
        value = (
          variable.visible,
          (
            variable.parts,
            (variable.shape ∙ sym (same_composite p inst declared apart t v.subtype composite same), refl),
          ),
        );
        shape = refl;
      }

  bare_set : (t : AdaSubtype) (e : Judged) (b : Bool) → is_scalar (type_in t) ≡ b → KnownSubtype t → Values e → fits (type_in t) e.kind ≡ true
      → IfSome (if b then Some (tree.scalar_value (range_in t) (expr_of e))
      else option_map (λ v. tree.composite_value (subtype_in_tree t) v.object v.parts) e.variable) (IsSet t)
  bare_set t e true scalar known judged fit = scalar_set t e known judged scalar fit
  bare_set t e false composite known judged fit =
      if_map (λ v. Variables v × (e.kind ≡ kind_of (type_in v.subtype))) (IsSet t) (λ v. tree.composite_value (subtype_in_tree t) v.object v.parts) e.variable
      judged.variable (λ v h. composite_set t v e.kind known h.0 h.1 composite fit)

  not_false : (b : Bool) → not b ≡ false → b ≡ true
  not_false true h = refl
  not_false false h = absurd (false≢true (sym h))

  plain_set : (t : AdaSubtype) (e : Judged) → KnownSubtype t → Values e → IfSome (value_for t [] e) (IsSet t)
  plain_set (of_type (integer_type i) r) e known judged =
      if_not (IsSet (of_type (integer_type i) r)) (not (fits (integer_type i) e.kind)) _
      (λ h. bare_set (of_type (integer_type i) r) e true refl known judged (not_false (fits (integer_type i) e.kind) h))
  plain_set (of_type (enumeration i n) r) e known judged =
      if_not (IsSet (of_type (enumeration i n) r)) (not (fits (enumeration i n) e.kind)) _
      (λ h. bare_set (of_type (enumeration i n) r) e true refl known judged (not_false (fits (enumeration i n) e.kind) h))
  plain_set (of_type (formal_type i k b) r) e known judged =
      if_not (IsSet (of_type (formal_type i k b) r)) (not (fits (formal_type i k b) e.kind)) _
      (λ h. bare_set (of_type (formal_type i k b) r) e true refl known judged (not_false (fits (formal_type i k b) e.kind) h))
  plain_set (of_type (array_type i x c) r) e known judged =
      if_not (IsSet (of_type (array_type i x c) r)) (not (fits (array_type i x c) e.kind)) _
      (λ h. bare_set (of_type (array_type i x c) r) e false refl known judged (not_false (fits (array_type i x c) e.kind) h))
  plain_set (of_type (record_type i fs) r) e known judged =
      if_not (IsSet (of_type (record_type i fs) r)) (not (fits (record_type i fs) e.kind)) _
      (λ h. bare_set (of_type (record_type i fs) r) e false refl known judged (not_false (fits (record_type i fs) e.kind) h))

  others_set : (i : Identity) (x c : AdaSubtype) (r : Range) (v : tree.NewValue) → IsSet c v → IsSet (of_type (array_type i x c) r) (tree.others_value (range_in x) v)
  others_set i x c r v h = record { value = (refl, h.value); shape = ap (row (bounds_in p inst (range_in x))) h.shape }

  pub value_for_known : (t : AdaSubtype) (ps : List Pos) (e : Judged) → KnownSubtype t → Values e → IfSome (value_for t ps e) (IsSet t)
  value_for_known t [] e known judged = plain_set t e known judged
  value_for_known (of_type (integer_type i) r) (q ∷ ps) e known judged = tt
  value_for_known (of_type (enumeration i n) r) (q ∷ ps) e known judged = tt
  value_for_known (of_type (formal_type i k b) r) (q ∷ ps) e known judged = tt
  value_for_known (of_type (array_type i x c) r) (q ∷ ps) e known judged =
      if_map (IsSet c) (IsSet (of_type (array_type i x c) r)) (tree.others_value (range_in x)) (value_for c ps e)
      (value_for_known c ps e known.1.1.1.1.1 judged) (λ v h. others_set i x c r v h)
  value_for_known (of_type (record_type i fs) r) (q ∷ ps) e known judged = tt

  module _ (env : Env) (is : IsEnv p inst declared shape_of Sees env) where
    abbrev pub GivesValue : State → Given Judged → Type 0
    GivesValue s x = Values x.value × OnlyDecides s x.next

    pub expression : (s : State) (e : source.Expr) → IfOk (judged env itself s e).answer (GivesValue s)
    expression s e =
        both_ok (λ x. Values x.value) (λ x. OnlyDecides s x.next) (judged env itself s e).answer
        (judged_known p inst declared apart shape_of Sees env is itself s e) (judged_behind env itself s e)

    pub record IsNewValue (s : State) (t : AdaSubtype) (g : Given NewValue) : Type 0 where
      pub set : KnownSubtype t → IsSet t g.value.value
      pub only : OnlyDecides s g.next

    pub new_value_known : (s : State) (q : Pos) (t : AdaSubtype) (i : Initial) → IfOk (new_value env s q t i).answer (IsNewValue s t)
    new_value_known s q t i =
        answered (IsNewValue s t) (value_place q t i.others) _
        (part_so (GivesValue s) (IsNewValue s t) (judged env itself s i.value).answer
        (λ x. typed_rule env.step (given (record { value = any_value; known = None }) x.next)
        (option_map (λ v. given (record { value = v; known = known_of i.others x.value }) x.next) (value_for t i.others x.value)))
        (expression s i.value)
        (λ x h. typed_so (IsNewValue s t) env.step _ _ is.step
        (if_map (λ v. KnownSubtype t → IsSet t v) (IsNewValue s t) (λ v. given (record { value = v; known = known_of i.others x.value }) x.next)
        (value_for t i.others x.value)
        (if_each (λ known v. IsSet t v) (value_for t i.others x.value) (λ known. value_for_known t i.others x.value known h.0))
        (λ v k. record { set = k; only = h.1 }))))

    -- the target of an assignment
    pub record IsTarget (s : State) (g : Given Variable) : Type 0 where
      pub variable : Variables g.value
      pub only : OnlyDecides s g.next

    writable_known : (d : Denoted) → IsDenoted p inst declared shape_of Sees d → IfSome (writable d) Variables
    writable_known (a_mark i t) h = tt
    writable_known (a_value x) h = tt
    writable_known (a_variable v) h = if_test Variables v.is_writable (Some v) (λ b. h)
    writable_known (a_routine r) h = tt
    writable_known (a_call r actuals) h = tt
    writable_known (an_exception e) h = tt
    writable_known (a_unit n) h = tt
    writable_known the_test_io h = tt
    writable_known a_thing h = tt

    abbrev pub GivesName : State → Given Denoted → Type 0
    GivesName s d = IsDenoted p inst declared shape_of Sees d.value × OnlyDecides s d.next

    pub name : (s : State) (n : source.Name) → IfOk (denoted env s n).answer (GivesName s)
    name s n =
        both_ok (λ x. IsDenoted p inst declared shape_of Sees x.value) (λ x. OnlyDecides s x.next) (denoted env s n).answer
        (denoted_known p inst declared apart shape_of Sees env is s n) (denoted_behind env s n)

    pub target_known : (s : State) (n : source.Name) → IfOk (target env s n).answer (IsTarget s)
    target_known s n =
        answered (IsTarget s) (name_pos n) _
        (part_so (GivesName s) (IsTarget s) (denoted env s n).answer
        (λ d. typed_rule env.step (given any_variable d.next) (option_map (λ v. given v d.next) (writable d.value))) (name s n)
        (λ d h. typed_so (IsTarget s) env.step (given any_variable d.next) _ is.step
        (if_map Variables (IsTarget s) (λ v. given v d.next) (writable d.value) (writable_known d.value h.0) (λ v k. record { variable = k; only = h.1 }))))

    -- the selector of a case statement
    pub record IsSelector (s : State) (g : Given Selector) : Type 0 where
      pub expr : IsExpr p inst shape_of Sees g.value.expr
      pub only : OnlyDecides s g.next

    pub selector_known : (s : State) (e : source.Expr) → IfOk (selector env s e).answer (IsSelector s)
    selector_known s e =
        answered (IsSelector s) (expr_pos e) _
        (part_so (GivesValue s) (IsSelector s) (judged env itself s e).answer
        (λ x. typed_rule env.step (given any_selector x.next) (option_map (λ y. given y x.next) (selector_of x.value))) (expression s e)
        (λ x h. typed_so (IsSelector s) env.step (given any_selector x.next) _ is.step
        (if_map (λ y. IsExpr p inst shape_of Sees y.expr) (IsSelector s) (λ y. given y x.next) (selector_of x.value)
        (if_test (λ y. IsExpr p inst shape_of Sees y.expr) (is_discrete x.value.kind) _ (λ d. expr_known p inst declared apart shape_of Sees x.value h.0 d))
        (λ y k. record { expr = k; only = h.1 }))))

    -- the range of a loop parameter, whose subtype is scalar
    pub record AreTurns (s : State) (g : Given Turns) : Type 0 where
      pub over : IsTurns p inst shape_of Sees g.value.over
      pub scalar : IsScalar (ShapeOf g.value.subtype)
      pub subtype : KnownSubtype g.value.subtype
      pub only : OnlyDecides s g.next

    -- a subtype of the base range, of the type that two bounds fit
    based : (k : Kind) → IsKnownKind p inst declared k → is_discrete k ≡ true → KnownSubtype (of_type (settled k) base) × (is_scalar (settled k) ≡ true)
    based universal known d = ((((refl, refl), refl), is.integers), refl)
    based (kind_of t) known d = ((((refl, refl), refl), known), d)

    pub record IsTurn (t : Turns) : Type 0 where
      pub turns : IsTurns p inst shape_of Sees t.over
      pub scalar_type : is_scalar (type_in t.subtype) ≡ true
      pub known : KnownSubtype t.subtype

    bounds_turn : (x y : Judged) (k : Kind) → Values x → Values y → IsCommon p inst declared apart x.kind y.kind k → IfSome (turns_between x y k) IsTurn
    bounds_turn x y k left right both =
        if_test IsTurn (is_discrete k) _ (λ d. record {
          turns = (expr_known p inst declared apart shape_of Sees x left (both.left d), expr_known p inst declared apart shape_of Sees y right (both.right d));
          scalar_type = (based k both.known d).1;
          known = (based k both.known d).0;
        })

    as_turns : (s t : State) (x : Turns) → OnlyDecides s t → IsTurn x → AreTurns s (given x t)
    as_turns s t x only h = record {
      over = h.turns;
      scalar = scalar_shape p inst declared apart x.subtype h.scalar_type;
      subtype = h.known;
      only = only;
    }

    abbrev IsScalarMark : Marked → Type 0
    IsScalarMark m = KnownSubtype m.subtype × (is_scalar (type_in m.subtype) ≡ true)

    pub turned_known : (s : State) (r : DiscreteRange) → IfOk (turned env s r).answer (AreTurns s)
    turned_known s (discrete.Mark n) =
        answered (AreTurns s) (name_pos n) _
        (part_so (λ m. IsScalarMark m.value × OnlyDecides s m.next) (AreTurns s) (scalar_mark env s n).answer
        (λ m. rule (Some (given (turns_over m.value.subtype) m.next)))
        (both_ok (λ m. IsScalarMark m.value) (λ m. OnlyDecides s m.next) (scalar_mark env s n).answer
        (scalar_mark_known p inst declared apart shape_of Sees env is s n) (scalar_mark_behind env s n))
        (λ m h. as_turns s m.next (turns_over m.value.subtype) h.1 (record {
          turns = order_bounds (static_bounds (values_of p) inst (range_in m.value.subtype)) (range_known p inst declared apart m.value.subtype h.0.0);
          scalar_type = h.0.1;
          known = h.0.0;
        })))
    turned_known s (discrete.Bounds b) =
        answered (AreTurns s) (expr_pos b.low) _
        (part_so (GivesValue s) (AreTurns s) (judged env itself s b.low).answer
        (λ x. judged env itself x.next b.high >>= (λ y. typed_rule env.step (given any_turns y.next)
        (option_map (λ t. given t y.next) (option_and_then (turns_between x.value y.value) (common x.value.kind y.value.kind)))))
        (expression s b.low)
        (λ x h. part_so (GivesValue x.next) (AreTurns s) (judged env itself x.next b.high).answer
        (λ y. typed_rule env.step (given any_turns y.next)
        (option_map (λ t. given t y.next) (option_and_then (turns_between x.value y.value) (common x.value.kind y.value.kind))))
        (expression x.next b.high)
        (λ y k. typed_so (AreTurns s) env.step (given any_turns y.next) _ is.step
        (if_map IsTurn (AreTurns s) (λ t. given t y.next) (option_and_then (turns_between x.value y.value) (common x.value.kind y.value.kind))
        (if_then (IsCommon p inst declared apart x.value.kind y.value.kind) IsTurn (turns_between x.value y.value) (common x.value.kind y.value.kind)
        (common_known p inst declared apart x.value.kind y.value.kind h.0.kind k.0.kind) (λ c both. bounds_turn x.value y.value c h.0 k.0 both))
        (λ t turn. as_turns s y.next t (only_both s x.next y.next h.1 k.1) turn)))))
