-- What an instance has for its formals: an actual for each, which is known outside generics, and gives it what the text of the generic asks of it.
use Rattle.std.proofs.Common.{◌≡◌, ◌+◌, ℕ, zero, suc, ℤ, pos, Bool, true, false, if◌then◌else◌, List, [], ◌∷◌, ◌++◌, map, length, Option, Some, None, option_map, IfSome, Ok, IfOk, slice_get, refl, sym, ap, ◌∙◌, subst, arith, append_assoc, append-nil, length-append}
use Rattle.std.specs.Prelude.{unwrap_or, int_le}
use Rattle.std.proofs.lemmas.Bool.{false≢true}
use Rattle.cov_base.specs.Lists.{Everywhere}
use Rattle.cov_base.specs.declared.position.Pos.{Pos}
use Rattle.ada_syntax.specs.Tree as source
use Rattle.ada_syntax.specs.Tree.{expr_pos}
use Rattle.ada_syntax.specs.declared.unit.Instance.{Instance as SourceInstance}
use Rattle.ada_meaning.specs.Arithmetic.{base_range}
use Rattle.ada_meaning.specs.Program.{Bounds, FormalActual, Instance, Program}
use Rattle.ada_meaning.specs.Resolved.{formal_among, formal_of, formal_target, target_in}
use Rattle.ada_meaning.specs.Shape.{Shape}
use Rattle.ada_meaning.specs.Statics.{in_base, static_value, static_bounds, values_of, value_of_formal, bounds_of_formal}
use Rattle.ada_meaning.specs.Tree as tree
use Rattle.ada_meaning.specs.Types.{here, of_instance, static_formal, formal_range}
use Rattle.ada_meaning.specs.WellFormed.{IsInBase, AreInBase, HasNumber}
use Rattle.ada_rules.specs.Denoted.{Denoted, a_mark, a_routine}
use Rattle.ada_rules.specs.Entities.{Routine, Entity, hidden, mark, literal, object, formal_object, routine, raisable, component, test_io, unit, Region, Actual, object_actual, type_actual, routine_actual, subtype_seen, routine_seen}
use Rattle.ada_rules.specs.Environment.{typed_rule, generic_interface, World, interface_of, State, Given, given, Env}
use Rattle.ada_rules.specs.Declarations.{in_range}
use Rattle.ada_rules.specs.Expressions.{itself, denoted, judged, static_part}
use Rattle.ada_rules.specs.Instances.{matches_type, formal_is_integer, same_profile, actual_for_name, any_actual, actual_plan, formals_of_interface, actuals_judged, bounds_of, target_of, typed_actual}
use Rattle.ada_rules.specs.Plan.{◌>>=◌, rule}
use Rattle.ada_rules.specs.Statics.{instance_values, value_in}
use Rattle.ada_rules.specs.Types.{AdaType, integer_type, enumeration, formal_type, array_type, record_type, AdaSubtype, of_type, type_in, range_in, is_integer, is_scalar, fits}
use Rattle.ada_rules.specs.Units.{Walked, at_unit}
use Rattle.legal_laws.specs.Known.{AreApart, IsKnownSubtype, IsRoutine, IsDenoted, IsEnv}
use Rattle.legal_laws.specs.Valued.{AreOrdered, AreFactsInBase}
use Rattle.legal_laws.proofs.KnownExpressions.{denoted_known}
use Rattle.legal_laws.proofs.KnownTypes.{range_known}
use Rattle.legal_laws.proofs.Passing.{IfPassed, answered, part_so, typed_so, any_answer}
use Rattle.legal_laws.proofs.Values.{value_in_base, facts_in_base}
use Rattle.legal_programs.proofs.DecidedUnits.{every_at}
use Rattle.legal_programs.proofs.Passed.{of_ok}
use Rattle.legal_instances.specs.Resolved.{IsStaticActual, HaveStaticActuals}
use Rattle.legal_texts.proofs.InstancePlaces.{IsInstanceWalked, IsInstanceOf}
use Rattle.legal_texts.proofs.InterfaceWalk.{same_some}

-- a scalar subtype that is known outside generics
pub record IsGivenType (p : Program) (types : AdaType → Type 0) (u : AdaSubtype) : Type 0 where
  pub known : IsKnownSubtype p 0 types u
  pub scalar : is_scalar (type_in u) ≡ true
  pub declared : types (type_in u)

-- a subprogram that is known outside generics, with the profile of a formal one behind these actuals
pub record IsGivenRoutine (p : Program) (types : AdaType → Type 0) (k : ℕ) (before : List Actual) (f r : Routine) : Type 0 where
  pub known : IsRoutine p 0 types r
  pub same : same_profile (routine_seen k before f) r ≡ true

-- integer types are scalar
integer_scalar : (t : AdaType) → is_integer t ≡ true → is_scalar t ≡ true
integer_scalar (integer_type i) h = refl
integer_scalar (enumeration i n) h = absurd (false≢true h)
integer_scalar (formal_type i m b) h = refl
integer_scalar (array_type i x c) h = absurd (false≢true h)
integer_scalar (record_type i fs) h = absurd (false≢true h)

matching_scalar : (b : Bool) (t : AdaType) → matches_type b t ≡ true → is_scalar t ≡ true
matching_scalar true t h = integer_scalar t h
matching_scalar false t h = h

module _ (p : Program) (types : AdaType → Type 0) (k : ℕ) where
  -- an actual for a formal, behind others
  abbrev pub IsActualFor : List Actual → Entity → Actual → Type 0
  IsActualFor before (mark i t) (type_actual u) = IsGivenType p types u
  IsActualFor before (formal_object t e) (object_actual x) = Unit {0}
  IsActualFor before (routine f) (routine_actual r) = IsGivenRoutine p types k before f r
  IsActualFor before f a = ⊥

  abbrev pub AreActualsFor : List Actual → Region → List Actual → Type 0
  AreActualsFor before [] [] = Unit {0}
  AreActualsFor before (f ∷ fs) (a ∷ rest) = IsActualFor before f.1 a × AreActualsFor (before ++ a ∷ []) fs rest
  AreActualsFor before fs rest = ⊥

  pub record AreGiven (before : List Actual) (fs : Region) (actuals : List Actual) : Type 0 where
    pub after : List Actual
    pub is : actuals ≡ (before ++ after)
    pub fit : AreActualsFor before fs after

  joined : (before : List Actual) (f : List ℕ × Entity) (fs : Region) (a : Actual) (actuals : List Actual) → IsActualFor before f.1 a
      → AreGiven (before ++ a ∷ []) fs actuals → AreGiven before (f ∷ fs) actuals
  joined before f fs a actuals h rest = record {
    after = a ∷ rest.after;
    is = rest.is ∙ append_assoc before (a ∷ []) rest.after;
    fit = (h, rest.fit);
  }

  -- the actual for the formal with this place
  pub record IsGivenAt (actuals : List Actual) (m : ℕ) (f : Entity) : Type 0 where
    pub before : List Actual
    pub actual : Actual
    pub after : List Actual
    pub is : actuals ≡ (before ++ actual ∷ after)
    pub place : length before ≡ m
    pub fits : IsActualFor before f actual

  no_item : {X : Type 0} {x : X} → None ≡ Some x → ⊥
  no_item e = cc

  given_from : (before after : List Actual) (fs : Region) (m : ℕ) (e : List ℕ × Entity) → AreActualsFor before fs after → slice_get fs m ≡ Some e
      → IsGivenAt (before ++ after) (length before + m) e.1
  given_from before after [] zero e h there = absurd (no_item there)
  given_from before after [] (suc m) e h there = absurd (no_item there)
  given_from before [] (f ∷ fs) m e h there = absurd h
  given_from before (a ∷ after) (f ∷ fs) zero e h there = record {
    before = before;
    actual = a;
    after = after;
    is = refl;
    place = omega (arith);
    fits = subst (λ g. IsActualFor before g.1 a) (same_some there) h.0;
  }
  given_from before (a ∷ after) (f ∷ fs) (suc m) e h there =
      let rest = given_from (before ++ a ∷ []) after fs m e h.1 there in
      let longer : length (before ++ a ∷ []) ≡ length before + 1 = length-append before (a ∷ []) in
      let place = rest.place in
      record {
        before = rest.before;
        actual = rest.actual;
        after = rest.after;
        is = sym (append_assoc before (a ∷ []) after) ∙ rest.is;
        place = omega (arith, longer, place);
        fits = rest.fits;
      }

  -- where no actual stands in front
  pub given_at : (fs : Region) (actuals : List Actual) (m : ℕ) (e : List ℕ × Entity) → AreGiven [] fs actuals → slice_get fs m ≡ Some e → IsGivenAt actuals m e.1
  given_at fs actuals m e h there =
      let found = given_from [] h.after fs m e h.fit there in
      let place : length found.before ≡ 0 + m = found.place in
      record {
        before = found.before;
        actual = found.actual;
        after = found.after;
        is = h.is ∙ found.is;
        place = omega (arith, place);
        fits = found.fits;
      }

  -- each subtype that is given is of a type that is declared
  type_of : (before : List Actual) (f : Entity) (u : AdaSubtype) → IsActualFor before f (type_actual u) → types (type_in u)
  type_of before hidden u h = absurd h
  type_of before (mark i t) u h = h.declared
  type_of before (literal t x) u h = absurd h
  type_of before (object v) u h = absurd h
  type_of before (formal_object t e) u h = absurd h
  type_of before (routine r) u h = absurd h
  type_of before (raisable e) u h = absurd h
  type_of before component u h = absurd h
  type_of before test_io u h = absurd h
  type_of before (unit n) u h = absurd h

  types_from : (before : List Actual) (fs : Region) (after : List Actual) (m : ℕ) (u : AdaSubtype) → AreActualsFor before fs after
      → slice_get after m ≡ Some (type_actual u) → types (type_in u)
  types_from before fs [] zero u h there = absurd (no_item there)
  types_from before fs [] (suc m) u h there = absurd (no_item there)
  types_from before [] (a ∷ after) m u h there = absurd h
  types_from before (f ∷ fs) (a ∷ after) zero u h there = type_of before f.1 u (subst (IsActualFor before f.1) (same_some there) h.0)
  types_from before (f ∷ fs) (a ∷ after) (suc m) u h there = types_from (before ++ a ∷ []) fs after m u h.1 there

  pub given_types : (fs : Region) (actuals : List Actual) (m : ℕ) (u : AdaSubtype) → AreGiven [] fs actuals → slice_get actuals m ≡ Some (type_actual u)
      → types (type_in u)
  given_types fs actuals m u h there = types_from [] fs h.after m u h.fit (subst (λ xs. slice_get xs m ≡ Some (type_actual u)) h.is there)

  -- what an actual gives the text of the generic, in this instance
  abbrev pub Gives : List Actual → ℕ → Entity → Actual → Type 0
  Gives before m (mark i t) (type_actual u) = AreOrdered (static_bounds (values_of p) k (formal_range m)) × IsGivenType p types u
  Gives before m (formal_object t e) (object_actual x) = HasNumber (static_value (values_of p) k (static_formal m))
  Gives before m (routine f) (routine_actual r) =
      (target_in p k (tree.formal_subprogram m) ≡ target_in p 0 r.callee) × IsGivenRoutine p types k before f r
  Gives before m f a = ⊥

  -- the formal with this place gets this, by an actual that stands behind others
  pub record GivesAt (actuals : List Actual) (m : ℕ) (f : Entity) : Type 0 where
    pub before : List Actual
    pub actual : Actual
    pub after : List Actual
    pub is : actuals ≡ (before ++ actual ∷ after)
    pub gives : Gives before m f actual

  -- the walk over actuals, where all that they may name is known
  module _ (apart : AreApart p types) (shape_of : tree.Object → Shape) (Sees : tree.Object → Type 0) (env : Env) (is : IsEnv p 0 types shape_of Sees env) where
    abbrev Names : Denoted → Type 0
    Names d = IsDenoted p 0 types shape_of Sees d

    abbrev Fits : List Actual → Entity → Given Actual → Type 0
    Fits before f g = IsActualFor before f g.value

    abbrev AllGiven : List Actual → Region → Given (List Actual) → Type 0
    AllGiven before fs g = AreGiven before fs g.value

    declared_scalar : (t : AdaSubtype) → IsKnownSubtype p 0 types t → is_scalar (type_in t) ≡ true → types (type_in t)
    declared_scalar (of_type (integer_type i) r) h e = h.1
    declared_scalar (of_type (enumeration i n) r) h e = h.1
    declared_scalar (of_type (formal_type i m b) r) h e = h.1
    declared_scalar (of_type (array_type i x c) r) h e = absurd (false≢true e)
    declared_scalar (of_type (record_type i fs) r) h e = absurd (false≢true e)

    type_given : (u : AdaSubtype) → IsKnownSubtype p 0 types u → is_scalar (type_in u) ≡ true → IsGivenType p types u
    type_given u h e = record { known = h; scalar = e; declared = declared_scalar u h e }

    named_fits : (before : List Actual) (f : Entity) (s : State) (d : Denoted) → Names d
        → IfSome (option_map (λ a. given a s) (actual_for_name k before f d)) (Fits before f)
    named_fits before f s d h = of_both f d h
      where
        if_given : (g : Entity) (b : Bool) (a : Actual) → (b ≡ true → IsActualFor before g a)
            → IfSome (option_map (λ x. given x s) (if b then Some a else None)) (Fits before g)
        if_given g true a fit = fit refl
        if_given g false a fit = tt

        of_both : (g : Entity) (x : Denoted) → Names x → IfSome (option_map (λ a. given a s) (actual_for_name k before g x)) (Fits before g)
        of_both (mark i t) (a_mark j u) n =
            if_given (mark i t) (matches_type (formal_is_integer t) (type_in u)) (type_actual u)
            (λ e. type_given u n (matching_scalar (formal_is_integer t) (type_in u) e))
        of_both (routine g) (a_routine r) n =
            if_given (routine g) (same_profile (routine_seen k before g) r) (routine_actual r) (λ e. record { known = n; same = e })
        of_both g x n = tt

    actual_fits : (s : State) (before : List Actual) (f : Entity) (x : source.Expr) → IfPassed (actual_plan env s k before f x).outcome (Fits before f)
    actual_fits s before (formal_object t e) x =
        part_so (λ v. Unit {0}) (Fits before (formal_object t e))
        (static_part env s (fits (type_in (subtype_seen k before t))) (in_range (range_in (subtype_seen k before t))) x).answer
        (λ v. rule (Some (given (object_actual v.value.value) v.next)))
        (any_answer (static_part env s (fits (type_in (subtype_seen k before t))) (in_range (range_in (subtype_seen k before t))) x).answer) (λ v h. tt)
    actual_fits s before f (source.named q x) =
        part_so (λ d. Names d.value) (Fits before f) (denoted env s x).answer
        (λ d. typed_rule env.step (given any_actual d.next) (option_map (λ a. given a d.next) (actual_for_name k before f d.value)))
        (denoted_known p 0 types apart shape_of Sees env is s x)
        (λ d h. typed_so (Fits before f) env.step (given any_actual d.next) (option_map (λ a. given a d.next) (actual_for_name k before f d.value)) is.step
        (named_fits before f d.next d.value h))
    actual_fits s before f x =
        part_so (λ y. Unit {0}) (Fits before f) (judged env itself s x).answer (λ y. typed_rule env.step (given any_actual y.next) None)
        (any_answer (judged env itself s x).answer) (λ y h. typed_so (Fits before f) env.step (given any_actual y.next) None is.step tt)

    pub actuals_given : (s : State) (q : Pos) (before : List Actual) (fs : Region) (xs : List source.Expr)
        → IfOk (actuals_judged env s q k before fs xs).answer (AllGiven before fs)
    actuals_given s q before [] [] = record { after = []; is = sym (append-nil before); fit = tt }
    actuals_given s q before (f ∷ fs) [] =
        answered (AllGiven before (f ∷ fs)) q (typed_rule env.step (given before s) None).outcome
        (typed_so (AllGiven before (f ∷ fs)) env.step (given before s) None is.step tt)
    actuals_given s q before [] (x ∷ xs) =
        answered (AllGiven before []) q _
        (part_so (λ a. Unit {0}) (AllGiven before []) _ (λ a. actuals_judged env a.next q k before [] xs >>= (λ rest. typed_rule env.step rest None)) (any_answer _)
        (λ a u. part_so (λ r. Unit {0}) (AllGiven before []) (actuals_judged env a.next q k before [] xs).answer (λ rest. typed_rule env.step rest None)
        (any_answer (actuals_judged env a.next q k before [] xs).answer) (λ rest v. typed_so (AllGiven before []) env.step rest None is.step tt)))
    actuals_given s q before (f ∷ fs) (x ∷ xs) =
        answered (AllGiven before (f ∷ fs)) q _
        (part_so (Fits before f.1) (AllGiven before (f ∷ fs)) _
        (λ a. actuals_judged env a.next q k (before ++ a.value ∷ []) fs xs >>= (λ rest. rule (Some rest)))
        (answered (Fits before f.1) (expr_pos x) (actual_plan env s k before f.1 x).outcome (actual_fits s before f.1 x))
        (λ a h. part_so (AllGiven (before ++ a.value ∷ []) fs) (AllGiven before (f ∷ fs))
        (actuals_judged env a.next q k (before ++ a.value ∷ []) fs xs).answer (λ rest. rule (Some rest))
        (actuals_given a.next q (before ++ a.value ∷ []) fs xs)
        (λ rest g. joined before f fs a.value rest.value h g)))

    -- each formal has its actual
    pub actuals_fit : (s : State) (q : Pos) (fs : Region) (xs : List source.Expr) (g : Given (List Actual)) → (actuals_judged env s q k [] fs xs).answer ≡ Ok g
        → AreGiven [] fs g.value
    actuals_fit s q fs xs g h = of_ok (AllGiven [] fs) (actuals_judged env s q k [] fs xs).answer g h (actuals_given s q [] fs xs)

-- the actuals of a unit that is an instance, for the formals that its generic shows
pub instance_fits : (p : Program) (types : AdaType → Type 0) (apart : AreApart p types) (shape_of : tree.Object → Shape) (Sees : tree.Object → Type 0) (env : Env)
    (s : State) (q : Pos) (n k : ℕ) (i : SourceInstance) (y : Walked) (walked : IsInstanceWalked env s q n k i y) (formals region : Region)
    → interface_of env.world walked.generic ≡ generic_interface formals region → IsEnv p 0 types shape_of Sees env → AreGiven p types k [] formals walked.given.value
instance_fits p types apart shape_of Sees env s q n k i y walked formals region shows is =
    subst (λ fs. AreGiven p types k [] fs walked.given.value) (ap formals_of_interface (sym walked.there.is ∙ shows))
    (actuals_fit p types k apart shape_of Sees env is (at_unit s) q walked.there.formals i.actuals walked.given walked.judged)

-- what a call of a subprogram that stands for a formal one comes to, in no generic
pub target_outside : (p : Program) (c : tree.Callee) → target_of c ≡ target_in p 0 c
target_outside p tree.test_get = refl
target_outside p tree.test_put = refl
target_outside p (tree.subprogram here n) = refl
target_outside p (tree.subprogram (of_instance i) n) = refl
target_outside p (tree.formal_subprogram m) = refl

-- a number of the base range, or 0 for what is none
number_or_zero : (o : Option ℤ) → IfSome o IsInBase → HasNumber (in_base (unwrap_or o (pos 0)))
number_or_zero None h = refl
number_or_zero (Some x) h = subst (λ b. HasNumber (if b then Some x else None)) (sym h) h

abbrev AreOrderedBounds : Bounds → Type 0
AreOrderedBounds b = AreInBase b × (int_le b.low b.high ≡ true)

ordered_or : (o : Option Bounds) → AreOrdered o → AreOrderedBounds (unwrap_or o base_range)
ordered_or None h = absurd h
ordered_or (Some b) h = h

-- what the instance has for them
module _ (p : Program) (types : AdaType → Type 0) (k g : ℕ) (w : World) (actuals : List Actual) (of_instance_there : IsInstanceOf p k g w actuals) where
  mapped_at : (f : Actual → FormalActual) (before : List Actual) (a : Actual) (after : List Actual)
      → slice_get (map f (before ++ a ∷ after)) (length before) ≡ Some (f a)
  mapped_at f [] a after = refl
  mapped_at f (b ∷ before) a after = mapped_at f before a after

  abbrev typed : Actual → FormalActual
  typed a = typed_actual w.instances a

  -- the actual of the typed program for this formal
  formal_is : (before : List Actual) (a : Actual) (after : List Actual) (m : ℕ) → actuals ≡ (before ++ a ∷ after) → length before ≡ m → formal_of p k m ≡ Some (typed a)
  formal_is before a after m is place =
      ap (λ n. formal_of p n m) of_instance_there.number
      ∙ (ap (λ x. formal_among x m) of_instance_there.there
      ∙ (ap (λ xs. slice_get xs m) (of_instance_there.actuals_are ∙ ap (map typed) is)
      ∙ (ap (slice_get (map typed (before ++ a ∷ after))) (sym place) ∙ mapped_at typed before a after)))

  static_at : HaveStaticActuals p → (m : ℕ) (a : Actual) → formal_of p k m ≡ Some (typed a) → IsStaticActual p (typed a)
  static_at have m a is =
      let all = subst (λ (o : Option Instance). IfSome o (λ i. Everywhere (IsStaticActual p) i.actuals)) of_instance_there.there
      (every_at (λ (i : Instance). Everywhere (IsStaticActual p) i.actuals) p.instances of_instance_there.place have) in
      let same : slice_get of_instance_there.made.actuals m ≡ Some (typed a) =
      sym (ap (λ n. formal_of p n m) of_instance_there.number ∙ ap (λ x. formal_among x m) of_instance_there.there) ∙ is in
      subst (λ o. IfSome o (IsStaticActual p)) same (every_at (IsStaticActual p) of_instance_there.made.actuals m all)

  module _ (apart : AreApart p types) (have : HaveStaticActuals p) (base : Everywhere AreFactsInBase w.instances) where
    gives_of : (before : List Actual) (m : ℕ) (f : Entity) (a : Actual) → formal_of p k m ≡ Some (typed a) → IsActualFor p types k before f a → Gives p types k before m f a
    gives_of before m (mark i t) (type_actual u) is h =
        let bounds : static_bounds (values_of p) k (formal_range m) ≡ Some (bounds_of w.instances (range_in u)) = ap bounds_of_formal is in (
          subst AreOrdered (sym bounds)
              (subst AreOrderedBounds (sym (static_at have m (type_actual u) is))
              (ordered_or (static_bounds (values_of p) 0 (range_in u)) (range_known p 0 types apart u h.known))),
          h,
        )
    gives_of before m (mark i t) (object_actual x) is h = absurd h
    gives_of before m (mark i t) (routine_actual r) is h = absurd h
    gives_of before m (formal_object t e) (object_actual x) is h =
        subst HasNumber (sym (ap value_of_formal is))
        (number_or_zero (value_in w.instances 0 x) (value_in_base (instance_values w.instances) (facts_in_base w.instances base) 0 x))
    gives_of before m (formal_object t e) (type_actual u) is h = absurd h
    gives_of before m (formal_object t e) (routine_actual r) is h = absurd h
    gives_of before m (routine f) (routine_actual r) is h = (ap formal_target is ∙ target_outside p r.callee, h)
    gives_of before m (routine f) (object_actual x) is h = absurd h
    gives_of before m (routine f) (type_actual u) is h = absurd h
    gives_of before m hidden a is h = absurd h
    gives_of before m (literal t x) a is h = absurd h
    gives_of before m (object v) a is h = absurd h
    gives_of before m (raisable e) a is h = absurd h
    gives_of before m component a is h = absurd h
    gives_of before m test_io a is h = absurd h
    gives_of before m (unit n) a is h = absurd h

    -- each formal gets this
    pub gives_at : (fs : Region) (m : ℕ) (e : List ℕ × Entity) → AreGiven p types k [] fs actuals → slice_get fs m ≡ Some e → GivesAt p types k actuals m e.1
    gives_at fs m e h there =
        let found = given_at p types k fs actuals m e h there in
        record {
          before = found.before;
          actual = found.actual;
          after = found.after;
          is = found.is;
          gives = gives_of found.before m e.1 found.actual (formal_is found.before found.actual found.after m found.is found.place) found.fits;
        }
