-- The walk only adds to its state: what the final program keeps of a later state it keeps of an earlier one, in both steps.
use Rattle.std.proofs.Common.{◌≡◌, ◌≤◌, ℕ, Bool, true, false, if◌then◌else◌, List, [], ◌∷◌, ◌++◌, length, Option, Some, None, option_map, IfSome, IfOk, refl, sym, ap, ◌∙◌, arith, le_refl, le_trans}
use Rattle.std.specs.Option.{option_and_then}
use Rattle.cov_base.specs.declared.position.Pos.{Pos}
use Rattle.cov_base.specs.Lists.{Everywhere}
use Rattle.ada_syntax.specs.Tree as source
use Rattle.ada_syntax.specs.Tree.{expr_pos, name_pos}
use Rattle.ada_syntax.specs.declared.declaration.Bounds.{Bounds}
use Rattle.ada_syntax.specs.declared.declaration.Component.{Component}
use Rattle.ada_syntax.specs.declared.declaration.Constancy.{Constancy}
use Rattle.ada_syntax.specs.declared.declaration.Declaration.{Declaration}
use Rattle.ada_syntax.specs.declared.declaration.DeclarationKind.{DeclarationKind}
use Rattle.ada_syntax.specs.declared.declaration.DeclarationKind.TheVariants as declares
use Rattle.ada_syntax.specs.declared.declaration.DiscreteRange.{DiscreteRange}
use Rattle.ada_syntax.specs.declared.declaration.DiscreteRange.TheVariants as discrete
use Rattle.ada_syntax.specs.declared.declaration.Initial.{Initial}
use Rattle.ada_syntax.specs.declared.declaration.SubtypeIndication.{SubtypeIndication}
use Rattle.ada_syntax.specs.declared.declaration.TypeDefinition.{TypeDefinition}
use Rattle.ada_syntax.specs.declared.declaration.TypeDefinition.TheVariants as definition
use Rattle.ada_syntax.specs.declared.name.Identifier.{Identifier}
use Rattle.ada_meaning.specs.Program.{Program}
use Rattle.ada_meaning.specs.Program as program
use Rattle.ada_meaning.specs.Shape.{Shape}
use Rattle.ada_meaning.specs.Tree as tree
use Rattle.ada_meaning.specs.Types.{Static, Range}
use Rattle.ada_rules.specs.Plan.{Plan, ◌>>=◌, rule}
use Rattle.ada_rules.specs.Types.{Identity, integer_type, array_type, record_type, AdaSubtype, of_type, type_in, range_in, base, integer_subtype, Kind, is_integral, is_discrete, is_scalar, fits, common}
use Rattle.ada_rules.specs.Entities.{component, Region}
use Rattle.ada_rules.specs.Environment.{typed_rule, State, Given, given, map_given, Env, with_local, opened, new_identity, one_type_more, demanded, hide, hide_all, started}
use Rattle.ada_rules.specs.Denoted.{Judged}
use Rattle.ada_rules.specs.Expressions.{itself, judged, Valued, any_valued, static_known, accepted, static_part, Marked, mark_part, scalar_mark}
use Rattle.ada_rules.specs.Declarations.{in_range, ordered, bounded, constrained, constraint_of, indicated, index_between, index_of, with_fields, all_as, fields_of, enumerated, unchanged, defined, value_for, any_value, known_of, NewValue, value_place, new_value, innermost, initial_for, LibraryValue, known_value, library_value, Declared, may_be_bare, one_name, known_constant, lying_in, with_objects, local_bare, local_set, with_library_objects, library_declared, no_library_value, objects_declared, exception_declared, exceptions_from, type_counted, type_declared, subtype_declared, kind_declared, declared, all_declared}
use Rattle.ada_rules.specs.Statics.{Test, Facts, in_order}
use Rattle.legal_laws.specs.Kept.{OnlyDecides, OnlyStatics}
use Rattle.legal_laws.specs.Served.{Serves, IsFinal}
use Rattle.legal_laws.specs.Valued.{AreFactsInBase}
use Rattle.legal_laws.proofs.Passing.{IfPassed, if_test, answered, part_so, weaker_ok, typed_either, any_answer}
use Rattle.legal_laws.proofs.Constants.{serves_demanded, serves_decided, static_before, final_before}
use Rattle.legal_laws.proofs.KeptStatics.{decides_statics, static_only}
use Rattle.legal_laws.proofs.KeptExpressions.{judged_behind, mark_part_behind, scalar_mark_behind}
use Rattle.legal_laws.proofs.KnownObjects.{counted_length, counted_shapes, constant_only, constant_before}

module _ (p : Program) (facts : List Facts) (are : Everywhere AreFactsInBase facts) (inst : ℕ) (shape_of : tree.Object → Shape) where
  abbrev Final : Option ℕ → State → Type 0
  Final o s = IsFinal facts inst p shape_of o s

  abbrev pub Counted : State → Type 0
  Counted s = s.objects ≡ length s.words

  pub record Leads (o : Option ℕ) (s t : State) : Type 0 where
    pub back : Counted s → Final o t → Final o s
    pub counted : Counted s → Counted t
    pub rise : s.types ≤ t.types

  pub leads_same : (o : Option ℕ) (s : State) → Leads o s s
  leads_same o s = record { back = λ c h. h; counted = λ c. c; rise = le_refl s.types }

  pub leads_both : (o : Option ℕ) (s t u : State) → Leads o s t → Leads o t u → Leads o s u
  leads_both o s t u h k = record {
    back = λ c all. h.back c (k.back (h.counted c) all);
    counted = λ c. k.counted (h.counted c);
    rise = le_trans h.rise k.rise;
  }

  pub leads_statics : (o : Option ℕ) (s t : State) → OnlyStatics s t → (Serves facts inst o t → Serves facts inst o s) → Leads o s t
  leads_statics o s t only back = record {
    back = λ c all. final_before facts are inst p shape_of o s t only back all;
    counted = λ c. ap (λ x. x.objects) only ∙ c ∙ sym (ap (λ x. length x.words) only);
    rise = let same = ap (λ x. x.types) only in omega (arith, same);
  }

  pub leads_decides : (o : Option ℕ) (s t : State) → OnlyDecides s t → Leads o s t
  leads_decides o s t only = leads_statics o s t (decides_statics s t only) (serves_decided facts are inst o s t only)

  pub leads_demanded : (o : Option ℕ) (env : Env) (q : Pos) (t : Test) (s : State) → Leads o s (demanded env q t s)
  leads_demanded o env q t s = leads_statics o s (demanded env q t s) refl (serves_demanded facts are inst o env q t s)

  pub leads_started : (o : Option ℕ) (s : State) → Leads o s (started s)
  leads_started o s = record {
    back = λ c all. record {
      serves = record { met = all.serves.met; constants = all.serves.constants; limits = all.serves.limits };
      shaped = all.shaped;
      listed = all.listed;
    };
    counted = λ c. c;
    rise = le_refl s.types;
  }

  leads_typed : (o : Option ℕ) (s : State) → Leads o s (one_type_more s)
  leads_typed o s = record {
    back = λ c all. record {
      serves = record { met = all.serves.met; constants = all.serves.constants; limits = all.serves.limits };
      shaped = all.shaped;
      listed = all.listed;
    };
    counted = λ c. c;
    rise = omega (arith);
  }

  leads_counted : (o : Option ℕ) (env : Env) (q : Pos) (t : AdaSubtype) (s : State) → Leads o s (type_counted env q t s)
  leads_counted o env q t s = record {
    back = λ c all. record {
      serves = record { met = all.serves.met; constants = all.serves.constants; limits = all.serves.limits.1 };
      shaped = all.shaped;
      listed = all.listed;
    };
    counted = λ c. c;
    rise = le_refl s.types;
  }

  pub leads_objects : (o : Option ℕ) (t : AdaSubtype) (is : List Identifier) (s : State) → Leads o s (with_objects t is s)
  leads_objects o t is s = record {
    back = λ c all. record {
      serves = record { met = all.serves.met; constants = all.serves.constants; limits = all.serves.limits };
      shaped = (counted_shapes p inst shape_of facts t is s.words s.objects c all.shaped).before;
      listed = all.listed;
    };
    counted = λ c. let count = counted_length t is s.words in omega (arith, c, count);
    rise = le_refl s.types;
  }

  leads_library : (o : Option ℕ) (env : Env) (t : AdaSubtype) (v : program.Initial) (is : List Identifier) (s : State) → Leads o s (with_library_objects env t v is s)
  leads_library o env t v is s = record {
    back = λ c all. record {
      serves = record { met = all.serves.met; constants = all.serves.constants; limits = all.serves.limits };
      shaped = all.shaped;
      listed = all.listed;
    };
    counted = λ c. c;
    rise = le_refl s.types;
  }

  leads_raised : (o : Option ℕ) (env : Env) (i : Identifier) (s : State) → Leads o s (exception_declared env i s)
  leads_raised o env i s = record {
    back = λ c all. record {
      serves = record { met = all.serves.met; constants = all.serves.constants; limits = all.serves.limits };
      shaped = all.shaped;
      listed = all.listed.1;
    };
    counted = λ c. c;
    rise = le_refl s.types;
  }

  leads_constant : (env : Env) (c : Constancy) (t : AdaSubtype) (f : Static → Option Static) (k : Option Static) (s : State)
      → Leads env.generic s (known_constant env c t f k s).next
  leads_constant env c t f k s =
      leads_statics env.generic s (known_constant env c t f k s).next (constant_only facts are inst env c t f k s) (constant_before facts are inst env c t f k s)

  -- of what a construct gives
  abbrev pub Lead : {A : Type 0} → Option ℕ → State → Given A → Type 0
  Lead o s g = Leads o s g.next

  module _ (env : Env) where
    abbrev o : Option ℕ
    o = env.generic

    pub expression_leads : (s : State) (e : source.Expr) → IfOk (judged env itself s e).answer (Lead o s)
    expression_leads s e = weaker_ok (λ x. OnlyDecides s x.next) (Lead o s) (judged env itself s e).answer (judged_behind env itself s e) (λ x h. leads_decides o s x.next h)

    accepted_leads : (s t : State) (q : Pos) (accepts : Kind → Bool) (test : Static → Test) (x : Judged) (known : Option Static) → Leads o s t
        → IfSome (option_and_then (accepted env t q accepts test x) known) (Lead o s)
    accepted_leads s t q accepts test x None h = tt
    accepted_leads s t q accepts test x (Some e) h =
        let asked = demanded env q (test e) t in
        if_test (Lead o s) (accepts x.kind) (Some (map_given (λ v. record { value = v; kind = x.kind }) (static_known env e asked)))
        (λ b. leads_both o s asked (static_known env e asked).next (leads_both o s t asked h (leads_demanded o env q (test e) t))
        (leads_statics o asked (static_known env e asked).next (static_only env e asked) (static_before facts are inst o env e asked refl)))

    pub static_leads : (s : State) (accepts : Kind → Bool) (test : Static → Test) (e : source.Expr) → IfOk (static_part env s accepts test e).answer (Lead o s)
    static_leads s accepts test e =
        answered (Lead o s) (expr_pos e) _
        (part_so (Lead o s) (Lead o s) (judged env itself s e).answer
        (λ x. typed_rule env.step (given any_valued x.next) (option_and_then (accepted env x.next (expr_pos e) accepts test x.value) x.value.known))
        (expression_leads s e)
        (λ x h. typed_either (Lead o s) env.step (given any_valued x.next) _ h (accepted_leads s x.next (expr_pos e) accepts test x.value x.value.known h)))

    bounded_leads : (s : State) (accepts : Kind → Bool) (r : Range) (b : Bounds) → IfOk (bounded env s accepts r b).answer (Lead o s)
    bounded_leads s accepts r b =
        answered (Lead o s) (expr_pos b.low) _
        (part_so (Lead o s) (Lead o s) (static_part env s accepts (in_range r) b.low).answer
        (λ low. static_part env low.next accepts (in_range r) b.high >>= (λ high. rule (Some (ordered env (expr_pos b.low) low.value.value high.value.value high.next))))
        (static_leads s accepts (in_range r) b.low)
        (λ low h. part_so (Lead o low.next) (Lead o s) (static_part env low.next accepts (in_range r) b.high).answer
        (λ high. rule (Some (ordered env (expr_pos b.low) low.value.value high.value.value high.next)))
        (static_leads low.next accepts (in_range r) b.high)
        (λ high k. leads_both o s low.next _ h (leads_both o low.next high.next _ k
        (leads_demanded o env (expr_pos b.low) (in_order low.value.value high.value.value) high.next)))))

    constraint_leads : (s : State) (m : Given Marked) (c : Option Bounds) → Leads o s m.next → IfPassed (constraint_of env m c).outcome (Lead o s)
    constraint_leads s m None h = h
    constraint_leads s m (Some b) h =
        part_so (Lead o m.next) (Lead o s) (bounded env m.next (fits (type_in m.value.subtype)) (range_in m.value.subtype) b).answer
        (λ r. typed_rule env.step (given m.value.subtype r.next) (constrained m.value r))
        (bounded_leads m.next (fits (type_in m.value.subtype)) (range_in m.value.subtype) b)
        (λ r k. typed_either (Lead o s) env.step (given m.value.subtype r.next) (constrained m.value r) (leads_both o s m.next r.next h k)
        (if_test (Lead o s) (is_scalar (type_in m.value.subtype)) _ (λ b. leads_both o s m.next r.next h k)))

    mark_leads : (s : State) (n : source.Name) → IfOk (mark_part env s n).answer (Lead o s)
    mark_leads s n = weaker_ok (λ x. OnlyDecides s x.next) (Lead o s) (mark_part env s n).answer (mark_part_behind env s n) (λ x h. leads_decides o s x.next h)

    pub scalar_mark_leads : (s : State) (n : source.Name) → IfOk (scalar_mark env s n).answer (Lead o s)
    scalar_mark_leads s n =
        weaker_ok (λ x. OnlyDecides s x.next) (Lead o s) (scalar_mark env s n).answer (scalar_mark_behind env s n) (λ x h. leads_decides o s x.next h)

    pub indicated_leads : (s : State) (i : SubtypeIndication) → IfOk (indicated env s i).answer (Lead o s)
    indicated_leads s i =
        answered (Lead o s) (name_pos i.mark) _
        (part_so (Lead o s) (Lead o s) (mark_part env s i.mark).answer (λ m. constraint_of env m i.constraint) (mark_leads s i.mark)
        (λ m h. constraint_leads s m i.constraint h))

    between_leads : (s : State) (q : Pos) (low high : Given Valued) (c : Option Kind) → Leads o s high.next
        → IfSome (option_map (index_between env q low high) c) (Lead o s)
    between_leads s q low high None h = tt
    between_leads s q low high (Some k) h = leads_both o s high.next _ h (leads_demanded o env q (in_order low.value.value high.value.value) high.next)

    index_leads : (s : State) (r : DiscreteRange) → IfOk (index_of env s r).answer (Lead o s)
    index_leads s (discrete.Mark n) =
        answered (Lead o s) (name_pos n) _
        (part_so (Lead o s) (Lead o s) (scalar_mark env s n).answer (λ m. rule (Some (given m.value.subtype m.next))) (scalar_mark_leads s n) (λ m h. h))
    index_leads s (discrete.Bounds b) =
        answered (Lead o s) (expr_pos b.low) _
        (part_so (Lead o s) (Lead o s) (static_part env s is_discrete (in_range base) b.low).answer
        (λ low. static_part env low.next is_discrete (in_range base) b.high >>= (λ high. typed_rule env.step (given integer_subtype high.next)
        (option_map (index_between env (expr_pos b.low) low high) (common low.value.kind high.value.kind))))
        (static_leads s is_discrete (in_range base) b.low)
        (λ low h. part_so (Lead o low.next) (Lead o s) (static_part env low.next is_discrete (in_range base) b.high).answer
        (λ high. typed_rule env.step (given integer_subtype high.next)
        (option_map (index_between env (expr_pos b.low) low high) (common low.value.kind high.value.kind)))
        (static_leads low.next is_discrete (in_range base) b.high)
        (λ high k. typed_either (Lead o s) env.step (given integer_subtype high.next) _ (leads_both o s low.next high.next h k)
        (between_leads s (expr_pos b.low) low high (common low.value.kind high.value.kind) (leads_both o s low.next high.next h k)))))

    -- what follows a value that a rule on types gives
    pub mapped_leads : {A B : Type 0} (s t : State) (f : A → B) (x : Option A) → Leads o s t → IfSome (option_map (λ v. given (f v) t) x) (Lead o s)
    mapped_leads s t f None h = tt
    mapped_leads s t f (Some v) h = h

    pub new_value_leads : (s : State) (q : Pos) (t : AdaSubtype) (i : Initial) → IfOk (new_value env s q t i).answer (Lead o s)
    new_value_leads s q t i =
        answered (Lead o s) (value_place q t i.others) _
        (part_so (Lead o s) (Lead o s) (judged env itself s i.value).answer
        (λ x. typed_rule env.step (given (record { value = any_value; known = None }) x.next)
        (option_map (λ v. given (record { value = v; known = known_of i.others x.value }) x.next) (value_for t i.others x.value)))
        (expression_leads s i.value)
        (λ x h. typed_either (Lead o s) env.step _ _ h (mapped_leads s x.next (λ v. record { value = v; known = known_of i.others x.value }) (value_for t i.others x.value) h)))

    library_value_leads : (s : State) (q : Pos) (t : AdaSubtype) (i : Initial) → IfOk (library_value env s q t i).answer (Lead o s)
    library_value_leads s q t i =
        answered (Lead o s) (value_place q t i.others) _
        (part_so (Lead o s) (Lead o s) (static_part env s (λ k. true) (in_range (range_in (innermost t i.others))) i.value).answer
        (λ x. typed_rule env.step (given (record { initial = program.no_initial; known = None }) x.next)
        (option_map (λ v. given (record { initial = v; known = known_value i.others x.value }) x.next) (initial_for t i.others x.value)))
        (static_leads s (λ k. true) (in_range (range_in (innermost t i.others))) i.value)
        (λ x h. typed_either (Lead o s) env.step _ _ h (mapped_leads s x.next (λ v. record { initial = v; known = known_value i.others x.value }) (initial_for t i.others x.value) h)))

  -- the components of a record
  fields_lead : (env : Env) (s : State) (q : Pos) (cs : List Component) → IfOk (fields_of env s q cs).answer (Lead env.generic s)
  fields_lead env s q [] = leads_same env.generic s
  fields_lead env s q (c ∷ cs) =
      answered (Lead env.generic s) q _
      (part_so (λ x. Unit {0}) (Lead env.generic s) (hide_all q env.local c.names).answer
      (λ names. indicated (with_local env names) s c.indication
      >>= (λ t. fields_of (with_local env (all_as component names c.names)) t.next q cs
      >>= (λ fs. rule (Some (given (with_fields c.names t.value fs.value) fs.next)))))
      (any_answer (hide_all q env.local c.names).answer)
      (λ names u. part_so (Lead env.generic s) (Lead env.generic s) (indicated (with_local env names) s c.indication).answer
      (λ t. fields_of (with_local env (all_as component names c.names)) t.next q cs >>= (λ fs. rule (Some (given (with_fields c.names t.value fs.value) fs.next))))
      (indicated_leads (with_local env names) s c.indication)
      (λ t h. part_so (Lead env.generic t.next) (Lead env.generic s) (fields_of (with_local env (all_as component names c.names)) t.next q cs).answer
      (λ fs. rule (Some (given (with_fields c.names t.value fs.value) fs.next)))
      (fields_lead (with_local env (all_as component names c.names)) t.next q cs)
      (λ fs k. leads_both env.generic s t.next fs.next h k))))

  defined_leads : (env : Env) (s : State) (q : Pos) (i : Identity) (d : TypeDefinition) → IfOk (defined env s q i d).answer (Lead env.generic s)
  defined_leads env s q i (definition.Integer b) =
      answered (Lead env.generic s) q _
      (part_so (Lead env.generic s) (Lead env.generic s) (bounded env s is_integral base b).answer
      (λ r. rule (Some (unchanged env.local (of_type (integer_type i) r.value) r.next))) (bounded_leads env s is_integral base b) (λ r h. h))
  defined_leads env s q i (definition.Enumeration names) =
      answered (Lead env.generic s) q _
      (part_so (λ x. Unit {0}) (Lead env.generic s) (hide_all q env.local names).answer (λ region. rule (Some (given (enumerated i region names) s)))
      (any_answer (hide_all q env.local names).answer) (λ region u. leads_same env.generic s))
  defined_leads env s q i (definition.Array r c) =
      answered (Lead env.generic s) q _
      (part_so (Lead env.generic s) (Lead env.generic s) (index_of env s r).answer
      (λ x. indicated env x.next c >>= (λ t. rule (Some (unchanged env.local (of_type (array_type i x.value t.value) base) t.next))))
      (index_leads env s r)
      (λ x h. part_so (Lead env.generic x.next) (Lead env.generic s) (indicated env x.next c).answer
      (λ t. rule (Some (unchanged env.local (of_type (array_type i x.value t.value) base) t.next))) (indicated_leads env x.next c)
      (λ t k. leads_both env.generic s x.next t.next h k)))
  defined_leads env s q i (definition.Record cs) =
      answered (Lead env.generic s) q _
      (part_so (Lead env.generic s) (Lead env.generic s) (fields_of (opened env) s q cs).answer
      (λ fs. rule (Some (unchanged env.local (of_type (record_type i fs.value) base) fs.next))) (fields_lead (opened env) s q cs) (λ fs h. h))

  -- declarations
  abbrev pub LeadsOn : Option ℕ → State → Declared → Type 0
  LeadsOn o s x = Leads o s x.next

  exceptions_lead : (env : Env) (s : State) (region : Region) (is : List Identifier) → LeadsOn env.generic s (exceptions_from env s region is)
  exceptions_lead env s region [] = leads_same env.generic s
  exceptions_lead env s region (i ∷ is) =
      leads_both env.generic s (exception_declared env i s) _ (leads_raised env.generic env i s) (exceptions_lead env (exception_declared env i s) _ is)

  pub library_leads : (env : Env) (c : Constancy) (region : Region) (is : List Identifier) (t : AdaSubtype) (v : LibraryValue) (s : State)
      → LeadsOn env.generic s (library_declared env c region is t v s)
  library_leads env c region is t v s =
      let k = known_constant env c t (λ e. Some e) v.known s in
      leads_both env.generic s k.next (with_library_objects env t v.initial is k.next) (leads_constant env c t (λ e. Some e) v.known s)
      (leads_library env.generic env t v.initial is k.next)

  pub set_leads : (env : Env) (q : Pos) (c : Constancy) (region : Region) (is : List Identifier) (t : AdaSubtype) (v : Given NewValue) (s : State) → Leads env.generic s v.next
      → LeadsOn env.generic s (local_set env q c region is t v)
  set_leads env q c region is t v s h =
      let k = known_constant env c t (lying_in env t) v.value.known v.next in
      leads_both env.generic s v.next (started (with_objects t is k.next)) h
      (leads_both env.generic v.next k.next (started (with_objects t is k.next)) (leads_constant env c t (lying_in env t) v.value.known v.next)
      (leads_both env.generic k.next (with_objects t is k.next) (started (with_objects t is k.next)) (leads_objects env.generic t is k.next)
      (leads_started env.generic (with_objects t is k.next))))

  either_plan : {B : Type 0} (P : B → Type 0) (b : Bool) (x y : Plan B) → IfPassed x.outcome P → IfPassed y.outcome P → IfPassed (if b then x else y).outcome P
  either_plan P true x y h k = h
  either_plan P false x y h k = k

  mapped_any : {A B : Type 0} (P : B → Type 0) (x : Option A) (y : B) → P y → IfSome (option_map (λ u. y) x) P
  mapped_any P None y h = tt
  mapped_any P (Some u) y h = h

  objects_lead : (env : Env) (q : Pos) (c : Constancy) (region : Region) (is : List Identifier) (s : State) (t : Given AdaSubtype) (i : Option Initial)
      → Leads env.generic s t.next → IfPassed (objects_declared env q c region is t i).outcome (LeadsOn env.generic s)
  objects_lead env q c region is s t None h =
      let library = leads_both env.generic s t.next _ h (library_leads env c region is t.value no_library_value t.next) in
      let bare = leads_both env.generic s t.next _ h (leads_objects env.generic t.value is t.next) in
      either_plan (LeadsOn env.generic s) env.is_library
      (typed_rule env.step (library_declared env c region is t.value no_library_value t.next)
      (option_map (λ u. library_declared env c region is t.value no_library_value t.next) (may_be_bare c)))
      (typed_rule env.step (local_bare c region is t) (option_map (λ u. local_bare c region is t) (may_be_bare c)))
      (typed_either (LeadsOn env.generic s) env.step _ _ library (mapped_any (LeadsOn env.generic s) (may_be_bare c) _ library))
      (typed_either (LeadsOn env.generic s) env.step _ _ bare (mapped_any (LeadsOn env.generic s) (may_be_bare c) _ bare))
  objects_lead env q c region is s t (Some i) h =
      either_plan (LeadsOn env.generic s) env.is_library
      (library_value (with_local env region) t.next q t.value i >>= (λ v. typed_rule env.step (library_declared env c region is t.value v.value v.next)
      (option_map (λ u. library_declared env c region is t.value v.value v.next) (one_name is))))
      (new_value (with_local env region) t.next q t.value i >>= (λ v. typed_rule env.step (local_set env q c region is t.value v)
      (option_map (λ u. local_set env q c region is t.value v) (one_name is))))
      (part_so (Lead env.generic t.next) (LeadsOn env.generic s) (library_value (with_local env region) t.next q t.value i).answer
      (λ v. typed_rule env.step (library_declared env c region is t.value v.value v.next)
      (option_map (λ u. library_declared env c region is t.value v.value v.next) (one_name is)))
      (library_value_leads (with_local env region) t.next q t.value i)
      (λ v k. let all = leads_both env.generic s t.next _ h (leads_both env.generic t.next v.next _ k (library_leads env c region is t.value v.value v.next)) in
      typed_either (LeadsOn env.generic s) env.step _ _ all (mapped_any (LeadsOn env.generic s) (one_name is) _ all)))
      (part_so (Lead env.generic t.next) (LeadsOn env.generic s) (new_value (with_local env region) t.next q t.value i).answer
      (λ v. typed_rule env.step (local_set env q c region is t.value v) (option_map (λ u. local_set env q c region is t.value v) (one_name is)))
      (new_value_leads (with_local env region) t.next q t.value i)
      (λ v k. let all = set_leads env q c region is t.value v s (leads_both env.generic s t.next v.next h k) in
      typed_either (LeadsOn env.generic s) env.step _ _ all (mapped_any (LeadsOn env.generic s) (one_name is) _ all)))

  kind_leads : (env : Env) (s : State) (q : Pos) (d : DeclarationKind) → IfPassed (kind_declared env s q d).outcome (LeadsOn env.generic s)
  kind_leads env s q (declares.Type i d) =
      part_so (λ x. Unit {0}) (LeadsOn env.generic s) (hide env.local i).answer
      (λ region. defined (with_local env region) (one_type_more s) q (new_identity env s) d >>= (λ x. rule (Some (type_declared env q i (new_identity env s) x))))
      (any_answer (hide env.local i).answer)
      (λ region u. part_so (Lead env.generic (one_type_more s)) (LeadsOn env.generic s) (defined (with_local env region) (one_type_more s) q (new_identity env s) d).answer
      (λ x. rule (Some (type_declared env q i (new_identity env s) x))) (defined_leads (with_local env region) (one_type_more s) q (new_identity env s) d)
      (λ x h. leads_both env.generic s (one_type_more s) _ (leads_typed env.generic s)
      (leads_both env.generic (one_type_more s) x.next _ h (leads_counted env.generic env q x.value.subtype x.next))))
  kind_leads env s q (declares.Subtype i t) =
      part_so (λ x. Unit {0}) (LeadsOn env.generic s) (hide env.local i).answer
      (λ region. indicated (with_local env region) (one_type_more s) t >>= (λ x. rule (Some (subtype_declared i region (new_identity env s) x))))
      (any_answer (hide env.local i).answer)
      (λ region u. part_so (Lead env.generic (one_type_more s)) (LeadsOn env.generic s) (indicated (with_local env region) (one_type_more s) t).answer
      (λ x. rule (Some (subtype_declared i region (new_identity env s) x))) (indicated_leads (with_local env region) (one_type_more s) t)
      (λ x h. leads_both env.generic s (one_type_more s) x.next (leads_typed env.generic s) h))
  kind_leads env s q (declares.Object is c t i) =
      part_so (λ x. Unit {0}) (LeadsOn env.generic s) (hide_all q env.local is).answer
      (λ region. indicated (with_local env region) s t >>= (λ x. objects_declared env q c region is x i)) (any_answer (hide_all q env.local is).answer)
      (λ region u. part_so (Lead env.generic s) (LeadsOn env.generic s) (indicated (with_local env region) s t).answer
      (λ x. objects_declared env q c region is x i) (indicated_leads (with_local env region) s t) (λ x h. objects_lead env q c region is s x i h))
  kind_leads env s q (declares.Exception is) =
      part_so (λ x. Unit {0}) (LeadsOn env.generic s) (hide_all q env.local is).answer (λ region. rule (Some (exceptions_from env s region is)))
      (any_answer (hide_all q env.local is).answer) (λ region u. exceptions_lead env s region is)
  kind_leads env s q (declares.Pragma a) = leads_same env.generic s

  pub declaration_leads : (env : Env) (s : State) (d : Declaration) → IfOk (declared env s d).answer (LeadsOn env.generic s)
  declaration_leads env s d = answered (LeadsOn env.generic s) d.pos (kind_declared env s d.pos d.kind).outcome (kind_leads env s d.pos d.kind)

  pub declarations_lead : (env : Env) (s : State) (q : Pos) (ds : List Declaration) → IfOk (all_declared env s q ds).answer (LeadsOn env.generic s)
  declarations_lead env s q [] = leads_same env.generic s
  declarations_lead env s q (d ∷ ds) =
      answered (LeadsOn env.generic s) q _
      (part_so (LeadsOn env.generic s) (LeadsOn env.generic s) (declared env s d).answer
      (λ x. all_declared (with_local env x.region) x.next q ds >>= (λ xs. rule (Some (record { region = xs.region; next = xs.next; made = x.made ++ xs.made }))))
      (declaration_leads env s d)
      (λ x h. part_so (LeadsOn env.generic x.next) (LeadsOn env.generic s) (all_declared (with_local env x.region) x.next q ds).answer
      (λ xs. rule (Some (record { region = xs.region; next = xs.next; made = x.made ++ xs.made })))
      (declarations_lead (with_local env x.region) x.next q ds)
      (λ xs k. leads_both env.generic s x.next xs.next h k)))
