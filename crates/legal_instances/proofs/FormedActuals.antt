-- Actuals look statically at what was declared before, so what an instance has for its formals stays what they come to.
use Rattle.std.proofs.Common.{◌≡◌, ℕ, ℤ, pos, Bool, true, false, if◌then◌else◌, List, [], ◌∷◌, ◌++◌, map, reverse, Option, Some, None, option_map, IfSome, IfOk, refl, sym, subst, ap, ◌∙◌, arith}
use Rattle.std.specs.Prelude.{unwrap_or}
use Rattle.std.specs.Option.{option_and_then}
use Rattle.cov_base.specs.Lists.{Everywhere}
use Rattle.cov_base.specs.TextOrder.{precedes}
use Rattle.cov_base.specs.declared.position.Pos.{Pos}
use Rattle.ada_syntax.specs.Tree as source
use Rattle.ada_syntax.specs.Tree.{expr_pos}
use Rattle.ada_meaning.specs.Arithmetic.{base_range}
use Rattle.ada_meaning.specs.Types.{Static, static_number}
use Rattle.ada_meaning.specs.WellFormed.{IsInBase}
use Rattle.ada_meaning.specs.Obligations.{inserted, in_order}
use Rattle.ada_meaning.specs.Program.{FormalActual, actual_object, actual_type, actual_subprogram, Instance}
use Rattle.ada_rules.specs.Plan.{◌>>=◌, rule}
use Rattle.ada_rules.specs.Denoted.{Denoted, a_mark, a_routine}
use Rattle.ada_rules.specs.Types.{Kind, of_type, type_in, range_in, fits}
use Rattle.ada_rules.specs.Entities.{Entity, mark, formal_object, routine, Region, Actual, object_actual, type_actual, routine_actual, routine_seen, subtype_seen}
use Rattle.ada_rules.specs.Environment.{typing, typed_rule, World, State, Given, given, map_given, demanded, Env}
use Rattle.ada_rules.specs.Expressions.{itself, denoted, judged, Valued, any_valued, static_known, accepted, static_part}
use Rattle.ada_rules.specs.Declarations.{in_range}
use Rattle.ada_rules.specs.Instances.{matches_type, formal_is_integer, same_profile, actual_for_name, any_actual, actual_plan, actuals_judged, number_of, bounds_of, typed_actual}
use Rattle.ada_rules.specs.Legal.{with_values}
use Rattle.ada_rules.specs.Statics.{Test, Facts, instance_values, value_in}
use Rattle.ada_rules.specs.Units.{env_of}
use Rattle.legal_laws.specs.Valued.{AreFactsInBase}
use Rattle.legal_laws.proofs.Passing.{IfPassed, answered, part_so, typed_so, any_answer, both_ok, if_then, if_test}
use Rattle.legal_laws.proofs.Values.{value_in_base, facts_in_base}
use Rattle.legal_laws.proofs.KnownBodies.{every_reversed}
use Rattle.legal_instances.specs.Within.{Made, IsRangeWithin, IsSubtypeWithin, IsNameWithin, IsHere}
use Rattle.legal_instances.proofs.ValuesAgree.{AgreeAt, Agree, bounds_agree}
use Rattle.legal_instances.proofs.WithinFormals.{actual_goes}
use Rattle.legal_instances.proofs.WithinMore.{IsMore, range_more, here_next}
use Rattle.legal_instances.proofs.WithinNames.{denoted_within}
use Rattle.legal_instances.proofs.WithinStatements.{Go}

-- a number in the base range
pub record IsBaseNumber (e : Static) : Type 0 where
  pub number : ℤ
  pub is : e ≡ static_number number
  pub base : IsInBase number

-- an actual in no generic
abbrev pub IsActualWithin : Made → Actual → Type 0
IsActualWithin had (object_actual e) = IsBaseNumber e
IsActualWithin had (type_actual t) = IsSubtypeWithin had false 0 t
IsActualWithin had (routine_actual r) = Unit {0}

abbrev pub AreActualsWithin : Made → List Actual → Type 0
AreActualsWithin had actuals = Everywhere (IsActualWithin had) actuals

-- one more
more_actuals : (had : Made) (xs : List Actual) (x : Actual) → AreActualsWithin had xs → IsActualWithin had x → AreActualsWithin had (xs ++ x ∷ [])
more_actuals had [] x h k = (k, tt)
more_actuals had (y ∷ xs) x h k = (h.0, more_actuals had xs x h.1 k)

module _ (had : Made) (w : World) (base : Everywhere AreFactsInBase w.instances) (m : ℕ) (name : List ℕ) (outer : Region) where
  abbrev env : Env
  env = env_of typing w m name outer

  abbrev OneWithin : Given Actual → Type 0
  OneWithin a = IsActualWithin had a.value

  abbrev AllWithin : Given (List Actual) → Type 0
  AllWithin xs = AreActualsWithin had xs.value

  named_so : (n : ℕ) (before : List Actual) (f : Entity) (d : Given Denoted) → IsNameWithin had false 0 d.value
      → IfSome (option_map (λ a. given a d.next) (actual_for_name n before f d.value)) OneWithin
  named_so n before f d h = of_both f d.value h
    where
      if_given : (b : Bool) (a : Actual) → IsActualWithin had a → IfSome (option_map (λ x. given x d.next) (if b then Some a else None)) OneWithin
      if_given true a k = k
      if_given false a k = tt

      of_both : (f : Entity) (x : Denoted) → IsNameWithin had false 0 x → IfSome (option_map (λ a. given a d.next) (actual_for_name n before f x)) OneWithin
      of_both (mark i t) (a_mark j u) k = if_given (matches_type (formal_is_integer t) (type_in u)) (type_actual u) k
      of_both (routine g) (a_routine r) k = if_given (same_profile (routine_seen n before g) r) (routine_actual r) tt
      of_both g x k = tt

  -- a static expression in no generic is its value
  number_so : (z : Static) → IsBaseNumber (static_number (unwrap_or (value_in w.instances 0 z) (pos 0)))
  number_so z = record {
    number = unwrap_or (value_in w.instances 0 z) (pos 0);
    is = refl;
    base = or_zero (value_in w.instances 0 z) (value_in_base (instance_values w.instances) (facts_in_base w.instances base) 0 z);
  }
    where
      or_zero : (o : Option ℤ) → IfSome o IsInBase → IsInBase (unwrap_or o (pos 0))
      or_zero None h = refl
      or_zero (Some x) h = h

  any_known : (o : Option Static) → IfSome o (λ z. Unit {0})
  any_known None = tt
  any_known (Some z) = tt

  abbrev NumberSo : Given Valued → Type 0
  NumberSo v = IsBaseNumber v.value.value

  static_number_so : (s : State) (accepts : Kind → Bool) (test : Static → Test) (e : source.Expr) → IfOk (static_part env s accepts test e).answer NumberSo
  static_number_so s accepts test e =
      answered NumberSo (expr_pos e) _
      (part_so (λ y. Unit {0}) NumberSo (judged env itself s e).answer
      (λ y. typed_rule env.step (given any_valued y.next) (option_and_then (accepted env y.next (expr_pos e) accepts test y.value) y.value.known))
      (any_answer (judged env itself s e).answer)
      (λ y u. typed_so NumberSo env.step (given any_valued y.next) (option_and_then (accepted env y.next (expr_pos e) accepts test y.value) y.value.known) refl
      (if_then (λ z. Unit {0}) NumberSo (accepted env y.next (expr_pos e) accepts test y.value) y.value.known (any_known y.value.known)
      (λ z k. if_test NumberSo (accepts y.value.kind)
      (Some (map_given (λ v. record { value = v; kind = y.value.kind }) (static_known env z (demanded env (expr_pos e) (test z) y.next)))) (λ b. number_so z)))))

  actual_so : (s : State) (n : ℕ) (before : List Actual) (f : Entity) (x : source.Expr) → IsHere had env s → IfPassed (actual_plan env s n before f x).outcome OneWithin
  actual_so s n before (formal_object t e) x here =
      part_so NumberSo OneWithin
      (static_part env s (fits (type_in (subtype_seen n before t))) (in_range (range_in (subtype_seen n before t))) x).answer
      (λ v. rule (Some (given (object_actual v.value.value) v.next)))
      (static_number_so s (fits (type_in (subtype_seen n before t))) (in_range (range_in (subtype_seen n before t))) x) (λ v h. h)
  actual_so s n before f (source.named p x) here =
      part_so (λ d. IsNameWithin had false 0 d.value) OneWithin (denoted env s x).answer
      (λ d. typed_rule env.step (given any_actual d.next) (option_map (λ a. given a d.next) (actual_for_name n before f d.value)))
      (denoted_within had false 0 env here.place s x)
      (λ d h. typed_so OneWithin env.step (given any_actual d.next) (option_map (λ a. given a d.next) (actual_for_name n before f d.value)) refl (named_so n before f d h))
  actual_so s n before f x here =
      part_so (λ y. Unit {0}) OneWithin (judged env itself s x).answer (λ y. typed_rule env.step (given any_actual y.next) None)
      (any_answer (judged env itself s x).answer) (λ y h. typed_so OneWithin env.step (given any_actual y.next) None refl tt)

  pub actuals_so : (s : State) (p : Pos) (n : ℕ) (before : List Actual) (fs : Region) (xs : List source.Expr) → IsHere had env s → AreActualsWithin had before
      → IfOk (actuals_judged env s p n before fs xs).answer AllWithin
  actuals_so s p n before [] [] here h = h
  actuals_so s p n before (f ∷ fs) [] here h = answered AllWithin p (typed_rule env.step (given before s) None).outcome (typed_so AllWithin env.step (given before s) None refl tt)
  actuals_so s p n before [] (x ∷ xs) here h =
      answered AllWithin p _
      (part_so (λ a. Unit {0}) AllWithin _ (λ a. actuals_judged env a.next p n before [] xs >>= (λ rest. typed_rule env.step rest None)) (any_answer _)
      (λ a u. part_so (λ r. Unit {0}) AllWithin (actuals_judged env a.next p n before [] xs).answer (λ rest. typed_rule env.step rest None)
      (any_answer (actuals_judged env a.next p n before [] xs).answer) (λ rest k. typed_so AllWithin env.step rest None refl tt)))
  actuals_so s p n before (f ∷ fs) (x ∷ xs) here h =
      answered AllWithin p _
      (part_so (λ a. OneWithin a × Go had None s a) AllWithin _ (λ a. actuals_judged env a.next p n (before ++ a.value ∷ []) fs xs >>= (λ rest. rule (Some rest)))
      (both_ok OneWithin (Go had None s) _
      (answered OneWithin (expr_pos x) (actual_plan env s n before f.1 x).outcome (actual_so s n before f.1 x here))
      (answered (Go had None s) (expr_pos x) (actual_plan env s n before f.1 x).outcome (actual_goes had env s n before f.1 x here)))
      (λ a k. part_so AllWithin AllWithin (actuals_judged env a.next p n (before ++ a.value ∷ []) fs xs).answer (λ rest. rule (Some rest))
      (actuals_so a.next p n (before ++ a.value ∷ []) fs xs (here_next had env s a.next here k.1) (more_actuals had before a.value h k.0)) (λ rest l. l)))

-- what an instance has for a formal is what the actual comes to behind these facts
abbrev pub IsFormed : Made → List Facts → FormalActual → Type 0
IsFormed had facts (actual_object e x) = IsBaseNumber e × (x ≡ number_of facts e)
IsFormed had facts (actual_type r b c) = IsRangeWithin had false 0 r × (b ≡ bounds_of facts r)
IsFormed had facts (actual_subprogram t) = Unit {0}

abbrev pub AreFormed : Made → List Facts → List Instance → Type 0
AreFormed had facts is = Everywhere (λ i. Everywhere (IsFormed had facts) i.actuals) is

pub formed_first : (had : Made) (facts : List Facts) (actuals : List Actual) → AreActualsWithin had actuals → Everywhere (IsFormed had facts) (map (typed_actual facts) actuals)
formed_first had facts [] h = tt
formed_first had facts (object_actual e ∷ actuals) h = ((h.0, refl), formed_first had facts actuals h.1)
formed_first had facts (type_actual (of_type t r) ∷ actuals) h = ((h.0.0, refl), formed_first had facts actuals h.1)
formed_first had facts (routine_actual r ∷ actuals) h = (tt, formed_first had facts actuals h.1)

module _ (had more : Made) (grown : IsMore had more) (fs gs : List Facts) (others : Agree had (instance_values fs) (instance_values gs)) where
  outside : AgreeAt (instance_values fs) (instance_values gs) 0 0
  outside = record { objects = λ k. refl; types = λ k. refl; constants = λ k less. refl }

  pub formed_stays : (actuals : List FormalActual) → Everywhere (IsFormed had fs) actuals → Everywhere (IsFormed more gs) actuals
  formed_stays [] h = tt
  formed_stays (actual_object e x ∷ actuals) h = (
    (h.0.0, h.0.1 ∙ subst (λ z. number_of fs z ≡ number_of gs z) (sym h.0.0.is) refl),
    formed_stays actuals h.1,
  )
  formed_stays (actual_type r b c ∷ actuals) h = (
    (
      range_more had more grown false false (λ e. e) 0 0 (omega (arith)) r h.0.0,
      h.0.1 ∙ ap (λ o. unwrap_or o base_range) (bounds_agree had (instance_values fs) (instance_values gs) others false 0 0 outside r h.0.0),
    ),
    formed_stays actuals h.1,
  )
  formed_stays (actual_subprogram t ∷ actuals) h = (tt, formed_stays actuals h.1)

  pub all_formed_stay : (is : List Instance) → AreFormed had fs is → AreFormed more gs is
  all_formed_stay [] h = tt
  all_formed_stay (i ∷ is) h = (formed_stays i.actuals h.0, all_formed_stay is h.1)

-- in another order, and with the values of constants
every_inserted : {X : Type 0} (P : X → Type 0) (before : X → X → Bool) (x : X) (xs : List X) → P x → Everywhere P xs → Everywhere P (inserted before x xs)
every_inserted P before x [] h k = (h, tt)
every_inserted P before x (y ∷ xs) h k = by_test (before y x) (every_inserted P before x xs h k.1)
  where
    by_test : (b : Bool) → Everywhere P (inserted before x xs) → Everywhere P (if b then y ∷ inserted before x xs else x ∷ y ∷ xs)
    by_test true rest = (k.0, rest)
    by_test false rest = (h, k)

every_in_order : {X : Type 0} (P : X → Type 0) (before : X → X → Bool) (xs : List X) → Everywhere P xs → Everywhere P (in_order before xs)
every_in_order P before [] h = tt
every_in_order P before (x ∷ xs) h = every_inserted P before x (in_order before xs) h.0 (every_in_order P before xs h.1)

pub formed_in_order : (had : Made) (facts : List Facts) (is : List Instance) → AreFormed had facts is → AreFormed had facts (in_order (λ a b. precedes a.place b.place) (reverse is))
formed_in_order had facts is h =
    every_in_order (λ i. Everywhere (IsFormed had facts) i.actuals) (λ a b. precedes a.place b.place) (reverse is)
    (every_reversed (λ i. Everywhere (IsFormed had facts) i.actuals) is h)

pub formed_with_values : (had : Made) (facts : List Facts) (is : List Instance) (fs : List Facts) → AreFormed had facts is → AreFormed had facts (with_values is fs)
formed_with_values had facts [] [] h = tt
formed_with_values had facts [] (f ∷ fs) h = tt
formed_with_values had facts (i ∷ is) [] h = h
formed_with_values had facts (i ∷ is) (f ∷ fs) h = (h.0, formed_with_values had facts is fs h.1)
