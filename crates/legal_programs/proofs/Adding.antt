-- Declarations only add to the state, in both steps.
use Rattle.std.proofs.Common.{◌≡◌, ◌+◌, ℕ, Bool, true, false, if◌then◌else◌, List, [], ◌∷◌, ◌++◌, map, length, Option, Some, None, option_map, IfSome, IfOk, refl, sym, ap, ◌∙◌, subst, arith}
use Rattle.std.specs.Option.{option_and_then}
use Rattle.cov_base.specs.declared.position.Pos.{Pos}
use Rattle.ada_syntax.specs.Tree as source
use Rattle.ada_syntax.specs.Tree.{expr_pos, name_pos}
use Rattle.ada_syntax.specs.declared.declaration.Bounds.{Bounds}
use Rattle.ada_syntax.specs.declared.declaration.Component.{Component}
use Rattle.ada_syntax.specs.declared.declaration.Constancy.{Constancy}
use Rattle.ada_syntax.specs.declared.declaration.Constancy.TheVariants as constancy
use Rattle.ada_syntax.specs.declared.declaration.Declaration.{Declaration}
use Rattle.ada_syntax.specs.declared.declaration.DeclarationKind.{DeclarationKind}
use Rattle.ada_syntax.specs.declared.declaration.DeclarationKind.TheVariants as declares
use Rattle.ada_syntax.specs.declared.declaration.DiscreteRange.{DiscreteRange}
use Rattle.ada_syntax.specs.declared.declaration.DiscreteRange.TheVariants as discrete
use Rattle.ada_syntax.specs.declared.declaration.Initial.{Initial}
use Rattle.ada_syntax.specs.declared.declaration.SubtypeIndication.{SubtypeIndication}
use Rattle.ada_syntax.specs.declared.declaration.TypeDefinition.{TypeDefinition}
use Rattle.ada_syntax.specs.declared.declaration.TypeDefinition.TheVariants as definition
use Rattle.ada_syntax.specs.declared.name.Identifier.{Identifier}
use Rattle.ada_meaning.specs.Program.{LibraryObject, GenericConstant}
use Rattle.ada_meaning.specs.Program as program
use Rattle.ada_meaning.specs.Types.{Static, static_number, static_formal, static_constant, static_first, static_last, static_length, static_sign, static_operation, static_of, Range}
use Rattle.ada_rules.specs.Plan.{Plan, ◌>>=◌, rule}
use Rattle.ada_rules.specs.Types.{Identity, integer_type, array_type, record_type, AdaSubtype, of_type, type_in, range_in, base, integer_subtype, Kind, is_integral, is_discrete, is_scalar, fits, common, subtype_in_tree}
use Rattle.ada_rules.specs.Entities.{component, Region}
use Rattle.ada_rules.specs.Environment.{typed_rule, State, Given, given, map_given, Env, with_local, opened, new_identity, one_type_more, demanded, hide, hide_all, started}
use Rattle.ada_rules.specs.Denoted.{Judged}
use Rattle.ada_rules.specs.Expressions.{itself, judged, Valued, any_valued, value_named, static_known, accepted, static_part, Marked, mark_part, scalar_mark}
use Rattle.ada_rules.specs.Declarations.{in_range, ordered, bounded, constrained, constraint_of, indicated, index_between, index_of, with_fields, all_as, fields_of, enumerated, unchanged, defined, value_for, any_value, known_of, NewValue, value_place, new_value, innermost, initial_for, LibraryValue, known_value, library_value, Declared, may_be_bare, one_name, numbered, known_constant, lying_in, with_objects, local_bare, local_set, library_objects, with_library_objects, library_declared, no_library_value, objects_declared, exception_declared, exceptions_from, type_counted, type_declared, subtype_declared, kind_declared, declared, all_declared}
use Rattle.ada_rules.specs.Statics.{Test, in_order}
use Rattle.legal_laws.specs.Kept.{OnlyDecides}
use Rattle.legal_laws.proofs.Passing.{IfPassed, if_test, answered, part_so, weaker_ok, typed_either, any_answer}
use Rattle.legal_laws.proofs.KeptExpressions.{judged_behind, mark_part_behind, scalar_mark_behind}
use Rattle.legal_programs.specs.Growing.{IsLonger, CountsDown, AreObjectsNumbered, AreExceptionsNumbered, Adds}
use Rattle.legal_programs.proofs.Lists.{longer_same, longer_by, longer_both}

-- a state in which nothing of these was added
pub adds_none : (s t : State) → t.demands ≡ s.demands → t.types_declared ≡ s.types_declared → t.objects_declared ≡ s.objects_declared
    → t.library_objects ≡ s.library_objects → t.constants_declared ≡ s.constants_declared → t.exceptions_declared ≡ s.exceptions_declared
    → t.exceptions ≡ s.exceptions → t.subprograms ≡ s.subprograms → t.subprogram_words ≡ s.subprogram_words → t.instances_declared ≡ s.instances_declared
    → t.unit_words ≡ s.unit_words → Adds s t
adds_none s t demands types objects library constants declared exceptions subprograms words instances units = record {
  demands = longer_same s.demands t.demands demands;
  types = longer_same s.types_declared t.types_declared types;
  objects = longer_same s.objects_declared t.objects_declared objects;
  constants = longer_same s.constants_declared t.constants_declared constants;
  exceptions = longer_same s.exceptions_declared t.exceptions_declared declared;
  objects_numbered = subst (λ n. CountsDown n (map (λ o. o.declaration) s.objects_declared) → CountsDown t.library_objects (map (λ o. o.declaration) t.objects_declared)) library
      (subst (λ os. CountsDown t.library_objects (map (λ o. o.declaration) os) → CountsDown t.library_objects (map (λ o. o.declaration) t.objects_declared)) objects (λ h. h));
  exceptions_numbered = subst (λ n. CountsDown n (map (λ e. e.declaration) s.exceptions_declared) → CountsDown t.exceptions (map (λ e. e.declaration) t.exceptions_declared)) exceptions
      (subst (λ es. CountsDown t.exceptions (map (λ e. e.declaration) es) → CountsDown t.exceptions (map (λ e. e.declaration) t.exceptions_declared)) declared (λ h. h));
  subprograms = subprograms;
  subprogram_words = words;
  instances = instances;
  unit_words = units;
}

pub adds_same : (s : State) → Adds s s
adds_same s = adds_none s s refl refl refl refl refl refl refl refl refl refl refl

pub adds_both : (s t u : State) → Adds s t → Adds t u → Adds s u
adds_both s t u h k = record {
  demands = longer_both s.demands t.demands u.demands h.demands k.demands;
  types = longer_both s.types_declared t.types_declared u.types_declared h.types k.types;
  objects = longer_both s.objects_declared t.objects_declared u.objects_declared h.objects k.objects;
  constants = longer_both s.constants_declared t.constants_declared u.constants_declared h.constants k.constants;
  exceptions = longer_both s.exceptions_declared t.exceptions_declared u.exceptions_declared h.exceptions k.exceptions;
  objects_numbered = λ n. k.objects_numbered (h.objects_numbered n);
  exceptions_numbered = λ n. k.exceptions_numbered (h.exceptions_numbered n);
  subprograms = k.subprograms ∙ h.subprograms;
  subprogram_words = k.subprogram_words ∙ h.subprogram_words;
  instances = k.instances ∙ h.instances;
  unit_words = k.unit_words ∙ h.unit_words;
}

pub adds_decides : (s t : State) → OnlyDecides s t → Adds s t
adds_decides s t only =
    adds_none s t (ap (λ x. x.demands) only) (ap (λ x. x.types_declared) only) (ap (λ x. x.objects_declared) only) (ap (λ x. x.library_objects) only)
    (ap (λ x. x.constants_declared) only) (ap (λ x. x.exceptions_declared) only) (ap (λ x. x.exceptions) only) (ap (λ x. x.subprograms) only)
    (ap (λ x. x.subprogram_words) only) (ap (λ x. x.instances_declared) only) (ap (λ x. x.unit_words) only)

pub adds_demanded : (env : Env) (q : Pos) (t : Test) (s : State) → Adds s (demanded env q t s)
adds_demanded env q t s = record {
  demands = longer_by _ s.demands;
  types = longer_same s.types_declared s.types_declared refl;
  objects = longer_same s.objects_declared s.objects_declared refl;
  constants = longer_same s.constants_declared s.constants_declared refl;
  exceptions = longer_same s.exceptions_declared s.exceptions_declared refl;
  objects_numbered = λ n. n;
  exceptions_numbered = λ n. n;
  subprograms = refl;
  subprogram_words = refl;
  instances = refl;
  unit_words = refl;
}

adds_constants : (s t : State) → IsLonger s.constants_declared t.constants_declared → t ≡ record s { constants_declared = t.constants_declared } → Adds s t
adds_constants s t longer only = record {
  demands = longer_same s.demands t.demands (ap (λ x. x.demands) only);
  types = longer_same s.types_declared t.types_declared (ap (λ x. x.types_declared) only);
  objects = longer_same s.objects_declared t.objects_declared (ap (λ x. x.objects_declared) only);
  constants = longer;
  exceptions = longer_same s.exceptions_declared t.exceptions_declared (ap (λ x. x.exceptions_declared) only);
  objects_numbered = subst AreObjectsNumbered (sym only);
  exceptions_numbered = subst AreExceptionsNumbered (sym only);
  subprograms = ap (λ x. x.subprograms) only;
  subprogram_words = ap (λ x. x.subprogram_words) only;
  instances = ap (λ x. x.instances_declared) only;
  unit_words = ap (λ x. x.unit_words) only;
}

-- one constant more
adds_constant_more : (s : State) (c : GenericConstant) → Adds s (record s { constants_declared = c ∷ s.constants_declared })
adds_constant_more s c = record {
  demands = longer_same s.demands s.demands refl;
  types = longer_same s.types_declared s.types_declared refl;
  objects = longer_same s.objects_declared s.objects_declared refl;
  constants = longer_by c s.constants_declared;
  exceptions = longer_same s.exceptions_declared s.exceptions_declared refl;
  objects_numbered = λ n. n;
  exceptions_numbered = λ n. n;
  subprograms = refl;
  subprogram_words = refl;
  instances = refl;
  unit_words = refl;
}

named_adds : (g : ℕ) (e : Static) (s : State) → Adds s (value_named g e s).next
named_adds g (static_number x) s = adds_same s
named_adds g (static_formal k) s = adds_same s
named_adds g (static_constant k) s = adds_same s
named_adds g (static_first r) s = adds_constant_more s _
named_adds g (static_last r) s = adds_constant_more s _
named_adds g (static_length r) s = adds_constant_more s _
named_adds g (static_sign op e) s =
    adds_both s (value_named g e s).next _ (named_adds g e s) (adds_constant_more (value_named g e s).next _)
named_adds g (static_operation op e f) s =
    let x = value_named g e s in
    let y = value_named g f x.next in
    adds_both s x.next _ (named_adds g e s) (adds_both x.next y.next _ (named_adds g f x.next) (adds_constant_more y.next _))
named_adds g (static_of i e) s = adds_constant_more s _

known_adds : (o : Option ℕ) (env : Env) (e : Static) (s : State) → Adds s (static_known (record env { generic = o }) e s).next
known_adds None env e s = adds_same s
known_adds (Some g) env e s = named_adds g e s

static_known_adds : (env : Env) (e : Static) (s : State) → Adds s (static_known env e s).next
static_known_adds env e s = known_adds env.generic env e s

numbered_adds : (o : Option ℕ) (r : Range) (e : Static) (f : Option Static) (s : State) → Adds s (numbered o r e f s).next
numbered_adds None r e f s = adds_same s
numbered_adds (Some g) r e f s =
    adds_both s (value_named g e s).next _ (named_adds g e s) (adds_constant_more (value_named g e s).next _)

adds_constant : (env : Env) (c : Constancy) (t : AdaSubtype) (f : Static → Option Static) (k : Option Static) (s : State)
    → Adds s (known_constant env c t f k s).next
adds_constant env constancy.Constant t f (Some e) s = numbered_adds env.generic (range_in t) e (f e) s
adds_constant env constancy.Constant t f None s = adds_same s
adds_constant env constancy.Variable t f k s = adds_same s

pub adds_started : (s : State) → Adds s (started s)
adds_started s = adds_none s (started s) refl refl refl refl refl refl refl refl refl refl refl

pub adds_typed : (s : State) → Adds s (one_type_more s)
adds_typed s = adds_none s (one_type_more s) refl refl refl refl refl refl refl refl refl refl refl

adds_counted : (env : Env) (q : Pos) (t : AdaSubtype) (s : State) → Adds s (type_counted env q t s)
adds_counted env q t s = record {
  demands = longer_same s.demands s.demands refl;
  types = longer_by _ s.types_declared;
  objects = longer_same s.objects_declared s.objects_declared refl;
  constants = longer_same s.constants_declared s.constants_declared refl;
  exceptions = longer_same s.exceptions_declared s.exceptions_declared refl;
  objects_numbered = λ n. n;
  exceptions_numbered = λ n. n;
  subprograms = refl;
  subprogram_words = refl;
  instances = refl;
  unit_words = refl;
}

pub adds_objects : (t : AdaSubtype) (is : List Identifier) (s : State) → Adds s (with_objects t is s)
adds_objects t is s = adds_none s (with_objects t is s) refl refl refl refl refl refl refl refl refl refl refl

library_longer : (env : Env) (t : AdaSubtype) (v : program.Initial) (n : ℕ) (is : List Identifier) (os : List LibraryObject)
    → IsLonger os (library_objects env t v n is os)
library_longer env t v n [] os = longer_same os os refl
library_longer env t v n (i ∷ is) os =
    longer_both os _ _ (longer_by (record { declaration = n; generic = env.generic; subtype = subtype_in_tree t; initial = v }) os)
    (library_longer env t v (n + 1) is (record { declaration = n; generic = env.generic; subtype = subtype_in_tree t; initial = v } ∷ os))

library_numbered : (env : Env) (t : AdaSubtype) (v : program.Initial) (n m : ℕ) (is : List Identifier) (os : List LibraryObject) → m ≡ n + length is
    → CountsDown n (map (λ o. o.declaration) os) → CountsDown m (map (λ o. o.declaration) (library_objects env t v n is os))
library_numbered env t v n m [] os e h = let same : n ≡ m = omega (arith, e) in subst (λ k. CountsDown k (map (λ o. o.declaration) os)) same h
library_numbered env t v n m (i ∷ is) os e h = library_numbered env t v (n + 1) m is _ (omega (arith, e)) (refl, h)

adds_library : (env : Env) (t : AdaSubtype) (v : program.Initial) (is : List Identifier) (s : State) → Adds s (with_library_objects env t v is s)
adds_library env t v is s = record {
  demands = longer_same s.demands s.demands refl;
  types = longer_same s.types_declared s.types_declared refl;
  objects = library_longer env t v s.library_objects is s.objects_declared;
  constants = longer_same s.constants_declared s.constants_declared refl;
  exceptions = longer_same s.exceptions_declared s.exceptions_declared refl;
  objects_numbered = library_numbered env t v s.library_objects (s.library_objects + length is) is s.objects_declared refl;
  exceptions_numbered = λ n. n;
  subprograms = refl;
  subprogram_words = refl;
  instances = refl;
  unit_words = refl;
}

adds_raised : (env : Env) (i : Identifier) (s : State) → Adds s (exception_declared env i s)
adds_raised env i s = record {
  demands = longer_same s.demands s.demands refl;
  types = longer_same s.types_declared s.types_declared refl;
  objects = longer_same s.objects_declared s.objects_declared refl;
  constants = longer_same s.constants_declared s.constants_declared refl;
  exceptions = longer_by _ s.exceptions_declared;
  objects_numbered = λ n. n;
  exceptions_numbered = λ n. (refl, n);
  subprograms = refl;
  subprogram_words = refl;
  instances = refl;
  unit_words = refl;
}

-- of what a construct gives
abbrev pub Add : {A : Type 0} → State → Given A → Type 0
Add s g = Adds s g.next

module _ (env : Env) where
  pub expression_adds : (s : State) (e : source.Expr) → IfOk (judged env itself s e).answer (Add s)
  expression_adds s e = weaker_ok (λ x. OnlyDecides s x.next) (Add s) (judged env itself s e).answer (judged_behind env itself s e) (λ x h. adds_decides s x.next h)

  accepted_adds : (s t : State) (q : Pos) (accepts : Kind → Bool) (test : Static → Test) (x : Judged) (known : Option Static) → Adds s t
      → IfSome (option_and_then (accepted env t q accepts test x) known) (Add s)
  accepted_adds s t q accepts test x None h = tt
  accepted_adds s t q accepts test x (Some e) h =
      let asked = demanded env q (test e) t in
      if_test (Add s) (accepts x.kind) (Some (map_given (λ v. record { value = v; kind = x.kind }) (static_known env e asked)))
      (λ b. adds_both s asked (static_known env e asked).next (adds_both s t asked h (adds_demanded env q (test e) t))
      (static_known_adds env e asked))

  pub static_adds : (s : State) (accepts : Kind → Bool) (test : Static → Test) (e : source.Expr) → IfOk (static_part env s accepts test e).answer (Add s)
  static_adds s accepts test e =
      answered (Add s) (expr_pos e) _
      (part_so (Add s) (Add s) (judged env itself s e).answer
      (λ x. typed_rule env.step (given any_valued x.next) (option_and_then (accepted env x.next (expr_pos e) accepts test x.value) x.value.known))
      (expression_adds s e)
      (λ x h. typed_either (Add s) env.step (given any_valued x.next) _ h (accepted_adds s x.next (expr_pos e) accepts test x.value x.value.known h)))

  bounded_adds : (s : State) (accepts : Kind → Bool) (r : Range) (b : Bounds) → IfOk (bounded env s accepts r b).answer (Add s)
  bounded_adds s accepts r b =
      answered (Add s) (expr_pos b.low) _
      (part_so (Add s) (Add s) (static_part env s accepts (in_range r) b.low).answer
      (λ low. static_part env low.next accepts (in_range r) b.high >>= (λ high. rule (Some (ordered env (expr_pos b.low) low.value.value high.value.value high.next))))
      (static_adds s accepts (in_range r) b.low)
      (λ low h. part_so (Add low.next) (Add s) (static_part env low.next accepts (in_range r) b.high).answer
      (λ high. rule (Some (ordered env (expr_pos b.low) low.value.value high.value.value high.next)))
      (static_adds low.next accepts (in_range r) b.high)
      (λ high k. adds_both s low.next _ h (adds_both low.next high.next _ k
      (adds_demanded env (expr_pos b.low) (in_order low.value.value high.value.value) high.next)))))

  constraint_adds : (s : State) (m : Given Marked) (c : Option Bounds) → Adds s m.next → IfPassed (constraint_of env m c).outcome (Add s)
  constraint_adds s m None h = h
  constraint_adds s m (Some b) h =
      part_so (Add m.next) (Add s) (bounded env m.next (fits (type_in m.value.subtype)) (range_in m.value.subtype) b).answer
      (λ r. typed_rule env.step (given m.value.subtype r.next) (constrained m.value r))
      (bounded_adds m.next (fits (type_in m.value.subtype)) (range_in m.value.subtype) b)
      (λ r k. typed_either (Add s) env.step (given m.value.subtype r.next) (constrained m.value r) (adds_both s m.next r.next h k)
      (if_test (Add s) (is_scalar (type_in m.value.subtype)) _ (λ b. adds_both s m.next r.next h k)))

  mark_adds : (s : State) (n : source.Name) → IfOk (mark_part env s n).answer (Add s)
  mark_adds s n = weaker_ok (λ x. OnlyDecides s x.next) (Add s) (mark_part env s n).answer (mark_part_behind env s n) (λ x h. adds_decides s x.next h)

  pub scalar_mark_adds : (s : State) (n : source.Name) → IfOk (scalar_mark env s n).answer (Add s)
  scalar_mark_adds s n =
      weaker_ok (λ x. OnlyDecides s x.next) (Add s) (scalar_mark env s n).answer (scalar_mark_behind env s n) (λ x h. adds_decides s x.next h)

  pub indicated_adds : (s : State) (i : SubtypeIndication) → IfOk (indicated env s i).answer (Add s)
  indicated_adds s i =
      answered (Add s) (name_pos i.mark) _
      (part_so (Add s) (Add s) (mark_part env s i.mark).answer (λ m. constraint_of env m i.constraint) (mark_adds s i.mark)
      (λ m h. constraint_adds s m i.constraint h))

  between_adds : (s : State) (q : Pos) (low high : Given Valued) (c : Option Kind) → Adds s high.next
      → IfSome (option_map (index_between env q low high) c) (Add s)
  between_adds s q low high None h = tt
  between_adds s q low high (Some k) h = adds_both s high.next _ h (adds_demanded env q (in_order low.value.value high.value.value) high.next)

  index_adds : (s : State) (r : DiscreteRange) → IfOk (index_of env s r).answer (Add s)
  index_adds s (discrete.Mark n) =
      answered (Add s) (name_pos n) _
      (part_so (Add s) (Add s) (scalar_mark env s n).answer (λ m. rule (Some (given m.value.subtype m.next))) (scalar_mark_adds s n) (λ m h. h))
  index_adds s (discrete.Bounds b) =
      answered (Add s) (expr_pos b.low) _
      (part_so (Add s) (Add s) (static_part env s is_discrete (in_range base) b.low).answer
      (λ low. static_part env low.next is_discrete (in_range base) b.high >>= (λ high. typed_rule env.step (given integer_subtype high.next)
      (option_map (index_between env (expr_pos b.low) low high) (common low.value.kind high.value.kind))))
      (static_adds s is_discrete (in_range base) b.low)
      (λ low h. part_so (Add low.next) (Add s) (static_part env low.next is_discrete (in_range base) b.high).answer
      (λ high. typed_rule env.step (given integer_subtype high.next)
      (option_map (index_between env (expr_pos b.low) low high) (common low.value.kind high.value.kind)))
      (static_adds low.next is_discrete (in_range base) b.high)
      (λ high k. typed_either (Add s) env.step (given integer_subtype high.next) _ (adds_both s low.next high.next h k)
      (between_adds s (expr_pos b.low) low high (common low.value.kind high.value.kind) (adds_both s low.next high.next h k)))))

  -- what follows a value that a rule on types gives
  pub mapped_adds : {A B : Type 0} (s t : State) (f : A → B) (x : Option A) → Adds s t → IfSome (option_map (λ v. given (f v) t) x) (Add s)
  mapped_adds s t f None h = tt
  mapped_adds s t f (Some v) h = h

  pub new_value_adds : (s : State) (q : Pos) (t : AdaSubtype) (i : Initial) → IfOk (new_value env s q t i).answer (Add s)
  new_value_adds s q t i =
      answered (Add s) (value_place q t i.others) _
      (part_so (Add s) (Add s) (judged env itself s i.value).answer
      (λ x. typed_rule env.step (given (record { value = any_value; known = None }) x.next)
      (option_map (λ v. given (record { value = v; known = known_of i.others x.value }) x.next) (value_for t i.others x.value)))
      (expression_adds s i.value)
      (λ x h. typed_either (Add s) env.step _ _ h (mapped_adds s x.next (λ v. record { value = v; known = known_of i.others x.value }) (value_for t i.others x.value) h)))

  library_value_adds : (s : State) (q : Pos) (t : AdaSubtype) (i : Initial) → IfOk (library_value env s q t i).answer (Add s)
  library_value_adds s q t i =
      answered (Add s) (value_place q t i.others) _
      (part_so (Add s) (Add s) (static_part env s (λ k. true) (in_range (range_in (innermost t i.others))) i.value).answer
      (λ x. typed_rule env.step (given (record { initial = program.no_initial; known = None }) x.next)
      (option_map (λ v. given (record { initial = v; known = known_value i.others x.value }) x.next) (initial_for t i.others x.value)))
      (static_adds s (λ k. true) (in_range (range_in (innermost t i.others))) i.value)
      (λ x h. typed_either (Add s) env.step _ _ h (mapped_adds s x.next (λ v. record { initial = v; known = known_value i.others x.value }) (initial_for t i.others x.value) h)))

-- the components of a record
fields_add : (env : Env) (s : State) (q : Pos) (cs : List Component) → IfOk (fields_of env s q cs).answer (Add s)
fields_add env s q [] = adds_same s
fields_add env s q (c ∷ cs) =
    answered (Add s) q _
    (part_so (λ x. Unit {0}) (Add s) (hide_all q env.local c.names).answer
    (λ names. indicated (with_local env names) s c.indication
    >>= (λ t. fields_of (with_local env (all_as component names c.names)) t.next q cs
    >>= (λ fs. rule (Some (given (with_fields c.names t.value fs.value) fs.next)))))
    (any_answer (hide_all q env.local c.names).answer)
    (λ names u. part_so (Add s) (Add s) (indicated (with_local env names) s c.indication).answer
    (λ t. fields_of (with_local env (all_as component names c.names)) t.next q cs >>= (λ fs. rule (Some (given (with_fields c.names t.value fs.value) fs.next))))
    (indicated_adds (with_local env names) s c.indication)
    (λ t h. part_so (Add t.next) (Add s) (fields_of (with_local env (all_as component names c.names)) t.next q cs).answer
    (λ fs. rule (Some (given (with_fields c.names t.value fs.value) fs.next)))
    (fields_add (with_local env (all_as component names c.names)) t.next q cs)
    (λ fs k. adds_both s t.next fs.next h k))))

defined_adds : (env : Env) (s : State) (q : Pos) (i : Identity) (d : TypeDefinition) → IfOk (defined env s q i d).answer (Add s)
defined_adds env s q i (definition.Integer b) =
    answered (Add s) q _
    (part_so (Add s) (Add s) (bounded env s is_integral base b).answer
    (λ r. rule (Some (unchanged env.local (of_type (integer_type i) r.value) r.next))) (bounded_adds env s is_integral base b) (λ r h. h))
defined_adds env s q i (definition.Enumeration names) =
    answered (Add s) q _
    (part_so (λ x. Unit {0}) (Add s) (hide_all q env.local names).answer (λ region. rule (Some (given (enumerated i region names) s)))
    (any_answer (hide_all q env.local names).answer) (λ region u. adds_same s))
defined_adds env s q i (definition.Array r c) =
    answered (Add s) q _
    (part_so (Add s) (Add s) (index_of env s r).answer
    (λ x. indicated env x.next c >>= (λ t. rule (Some (unchanged env.local (of_type (array_type i x.value t.value) base) t.next))))
    (index_adds env s r)
    (λ x h. part_so (Add x.next) (Add s) (indicated env x.next c).answer
    (λ t. rule (Some (unchanged env.local (of_type (array_type i x.value t.value) base) t.next))) (indicated_adds env x.next c)
    (λ t k. adds_both s x.next t.next h k)))
defined_adds env s q i (definition.Record cs) =
    answered (Add s) q _
    (part_so (Add s) (Add s) (fields_of (opened env) s q cs).answer
    (λ fs. rule (Some (unchanged env.local (of_type (record_type i fs.value) base) fs.next))) (fields_add (opened env) s q cs) (λ fs h. h))

-- declarations
abbrev pub AddsOn : State → Declared → Type 0
AddsOn s x = Adds s x.next

exceptions_add : (env : Env) (s : State) (region : Region) (is : List Identifier) → AddsOn s (exceptions_from env s region is)
exceptions_add env s region [] = adds_same s
exceptions_add env s region (i ∷ is) =
    adds_both s (exception_declared env i s) _ (adds_raised env i s) (exceptions_add env (exception_declared env i s) _ is)

pub library_adds : (env : Env) (c : Constancy) (region : Region) (is : List Identifier) (t : AdaSubtype) (v : LibraryValue) (s : State)
    → AddsOn s (library_declared env c region is t v s)
library_adds env c region is t v s =
    let k = known_constant env c t (λ e. Some e) v.known s in
    adds_both s k.next (with_library_objects env t v.initial is k.next) (adds_constant env c t (λ e. Some e) v.known s)
    (adds_library env t v.initial is k.next)

pub set_adds : (env : Env) (q : Pos) (c : Constancy) (region : Region) (is : List Identifier) (t : AdaSubtype) (v : Given NewValue) (s : State) → Adds s v.next
    → AddsOn s (local_set env q c region is t v)
set_adds env q c region is t v s h =
    let k = known_constant env c t (lying_in env t) v.value.known v.next in
    adds_both s v.next (started (with_objects t is k.next)) h
    (adds_both v.next k.next (started (with_objects t is k.next)) (adds_constant env c t (lying_in env t) v.value.known v.next)
    (adds_both k.next (with_objects t is k.next) (started (with_objects t is k.next)) (adds_objects t is k.next)
    (adds_started (with_objects t is k.next))))

either_plan : {B : Type 0} (P : B → Type 0) (b : Bool) (x y : Plan B) → IfPassed x.outcome P → IfPassed y.outcome P → IfPassed (if b then x else y).outcome P
either_plan P true x y h k = h
either_plan P false x y h k = k

mapped_any : {A B : Type 0} (P : B → Type 0) (x : Option A) (y : B) → P y → IfSome (option_map (λ u. y) x) P
mapped_any P None y h = tt
mapped_any P (Some u) y h = h

objects_add : (env : Env) (q : Pos) (c : Constancy) (region : Region) (is : List Identifier) (s : State) (t : Given AdaSubtype) (i : Option Initial)
    → Adds s t.next → IfPassed (objects_declared env q c region is t i).outcome (AddsOn s)
objects_add env q c region is s t None h =
    let library = adds_both s t.next _ h (library_adds env c region is t.value no_library_value t.next) in
    let bare = adds_both s t.next _ h (adds_objects t.value is t.next) in
    either_plan (AddsOn s) env.is_library
    (typed_rule env.step (library_declared env c region is t.value no_library_value t.next)
    (option_map (λ u. library_declared env c region is t.value no_library_value t.next) (may_be_bare c)))
    (typed_rule env.step (local_bare c region is t) (option_map (λ u. local_bare c region is t) (may_be_bare c)))
    (typed_either (AddsOn s) env.step _ _ library (mapped_any (AddsOn s) (may_be_bare c) _ library))
    (typed_either (AddsOn s) env.step _ _ bare (mapped_any (AddsOn s) (may_be_bare c) _ bare))
objects_add env q c region is s t (Some i) h =
    either_plan (AddsOn s) env.is_library
    (library_value (with_local env region) t.next q t.value i >>= (λ v. typed_rule env.step (library_declared env c region is t.value v.value v.next)
    (option_map (λ u. library_declared env c region is t.value v.value v.next) (one_name is))))
    (new_value (with_local env region) t.next q t.value i >>= (λ v. typed_rule env.step (local_set env q c region is t.value v)
    (option_map (λ u. local_set env q c region is t.value v) (one_name is))))
    (part_so (Add t.next) (AddsOn s) (library_value (with_local env region) t.next q t.value i).answer
    (λ v. typed_rule env.step (library_declared env c region is t.value v.value v.next)
    (option_map (λ u. library_declared env c region is t.value v.value v.next) (one_name is)))
    (library_value_adds (with_local env region) t.next q t.value i)
    (λ v k. let all = adds_both s t.next _ h (adds_both t.next v.next _ k (library_adds env c region is t.value v.value v.next)) in
    typed_either (AddsOn s) env.step _ _ all (mapped_any (AddsOn s) (one_name is) _ all)))
    (part_so (Add t.next) (AddsOn s) (new_value (with_local env region) t.next q t.value i).answer
    (λ v. typed_rule env.step (local_set env q c region is t.value v) (option_map (λ u. local_set env q c region is t.value v) (one_name is)))
    (new_value_adds (with_local env region) t.next q t.value i)
    (λ v k. let all = set_adds env q c region is t.value v s (adds_both s t.next v.next h k) in
    typed_either (AddsOn s) env.step _ _ all (mapped_any (AddsOn s) (one_name is) _ all)))

kind_adds : (env : Env) (s : State) (q : Pos) (d : DeclarationKind) → IfPassed (kind_declared env s q d).outcome (AddsOn s)
kind_adds env s q (declares.Type i d) =
    part_so (λ x. Unit {0}) (AddsOn s) (hide env.local i).answer
    (λ region. defined (with_local env region) (one_type_more s) q (new_identity env s) d >>= (λ x. rule (Some (type_declared env q i (new_identity env s) x))))
    (any_answer (hide env.local i).answer)
    (λ region u. part_so (Add (one_type_more s)) (AddsOn s) (defined (with_local env region) (one_type_more s) q (new_identity env s) d).answer
    (λ x. rule (Some (type_declared env q i (new_identity env s) x))) (defined_adds (with_local env region) (one_type_more s) q (new_identity env s) d)
    (λ x h. adds_both s (one_type_more s) _ (adds_typed s)
    (adds_both (one_type_more s) x.next _ h (adds_counted env q x.value.subtype x.next))))
kind_adds env s q (declares.Subtype i t) =
    part_so (λ x. Unit {0}) (AddsOn s) (hide env.local i).answer
    (λ region. indicated (with_local env region) (one_type_more s) t >>= (λ x. rule (Some (subtype_declared i region (new_identity env s) x))))
    (any_answer (hide env.local i).answer)
    (λ region u. part_so (Add (one_type_more s)) (AddsOn s) (indicated (with_local env region) (one_type_more s) t).answer
    (λ x. rule (Some (subtype_declared i region (new_identity env s) x))) (indicated_adds (with_local env region) (one_type_more s) t)
    (λ x h. adds_both s (one_type_more s) x.next (adds_typed s) h))
kind_adds env s q (declares.Object is c t i) =
    part_so (λ x. Unit {0}) (AddsOn s) (hide_all q env.local is).answer
    (λ region. indicated (with_local env region) s t >>= (λ x. objects_declared env q c region is x i)) (any_answer (hide_all q env.local is).answer)
    (λ region u. part_so (Add s) (AddsOn s) (indicated (with_local env region) s t).answer
    (λ x. objects_declared env q c region is x i) (indicated_adds (with_local env region) s t) (λ x h. objects_add env q c region is s x i h))
kind_adds env s q (declares.Exception is) =
    part_so (λ x. Unit {0}) (AddsOn s) (hide_all q env.local is).answer (λ region. rule (Some (exceptions_from env s region is)))
    (any_answer (hide_all q env.local is).answer) (λ region u. exceptions_add env s region is)
kind_adds env s q (declares.Pragma a) = adds_same s

pub declaration_adds : (env : Env) (s : State) (d : Declaration) → IfOk (declared env s d).answer (AddsOn s)
declaration_adds env s d = answered (AddsOn s) d.pos (kind_declared env s d.pos d.kind).outcome (kind_adds env s d.pos d.kind)

pub declarations_add : (env : Env) (s : State) (q : Pos) (ds : List Declaration) → IfOk (all_declared env s q ds).answer (AddsOn s)
declarations_add env s q [] = adds_same s
declarations_add env s q (d ∷ ds) =
    answered (AddsOn s) q _
    (part_so (AddsOn s) (AddsOn s) (declared env s d).answer
    (λ x. all_declared (with_local env x.region) x.next q ds >>= (λ xs. rule (Some (record { region = xs.region; next = xs.next; made = x.made ++ xs.made }))))
    (declaration_adds env s d)
    (λ x h. part_so (AddsOn x.next) (AddsOn s) (all_declared (with_local env x.region) x.next q ds).answer
    (λ xs. rule (Some (record { region = xs.region; next = xs.next; made = x.made ++ xs.made })))
    (declarations_add (with_local env x.region) x.next q ds)
    (λ xs k. adds_both s x.next xs.next h k)))
