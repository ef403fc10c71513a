-- What the types weigh that declarations declare, in both steps.
use Rattle.std.proofs.Common.{◌≡◌, ◌+◌, ℕ, Bool, true, false, if◌then◌else◌, List, [], ◌∷◌, ◌++◌, length, Option, Some, None, option_map, IfSome, IfOk, ◌≤◌, suc, Result, Ok, Err, refl, ap, ◌∙◌, arith}
use Rattle.std.specs.Option.{option_and_then}
use Rattle.cov_base.specs.declared.position.Pos.{Pos}
use Rattle.ada_syntax.specs.Tree as source
use Rattle.ada_syntax.specs.Tree.{expr_pos, name_pos}
use Rattle.ada_syntax.specs.declared.declaration.Bounds.{Bounds}
use Rattle.ada_syntax.specs.declared.declaration.Component.{Component}
use Rattle.ada_syntax.specs.declared.declaration.Constancy.{Constancy}
use Rattle.ada_syntax.specs.declared.declaration.Constancy.TheVariants as constancy
use Rattle.ada_syntax.specs.declared.declaration.Declaration.{Declaration}
use Rattle.ada_syntax.specs.declared.declaration.DeclarationKind.{DeclarationKind}
use Rattle.ada_syntax.specs.declared.declaration.DeclarationKind.TheVariants as declares
use Rattle.ada_syntax.specs.declared.declaration.DiscreteRange.{DiscreteRange}
use Rattle.ada_syntax.specs.declared.declaration.DiscreteRange.TheVariants as discrete
use Rattle.ada_syntax.specs.declared.declaration.Initial.{Initial}
use Rattle.ada_syntax.specs.declared.declaration.SubtypeIndication.{SubtypeIndication}
use Rattle.ada_syntax.specs.declared.declaration.TypeDefinition.{TypeDefinition}
use Rattle.ada_syntax.specs.declared.declaration.TypeDefinition.TheVariants as definition
use Rattle.ada_syntax.specs.declared.name.Identifier.{Identifier}
use Rattle.ada_meaning.specs.Program.{LibraryObject, GenericConstant}
use Rattle.ada_meaning.specs.Program as program
use Rattle.ada_meaning.specs.Types.{Static, static_number, static_formal, static_constant, static_first, static_last, static_length, static_sign, static_operation, static_of, Range}
use Rattle.ada_rules.specs.Plan.{Plan, Outcome, refused_in, broken, passed, ◌>>=◌, rule}
use Rattle.ada_rules.specs.Types.{Identity, integer_type, array_type, record_type, AdaSubtype, of_type, type_in, range_in, base, integer_subtype, Kind, is_integral, is_discrete, is_scalar, fits, common, Fields, subtype_in_tree, fields_in_tree}
use Rattle.ada_rules.specs.Entities.{component, Region}
use Rattle.ada_rules.specs.Environment.{typed_rule, State, Given, given, map_given, Env, with_local, opened, new_identity, one_type_more, demanded, hide, hide_all, started}
use Rattle.ada_rules.specs.Denoted.{Judged}
use Rattle.ada_rules.specs.Expressions.{itself, judged, Valued, any_valued, value_named, static_known, accepted, static_part, Marked, mark_part, scalar_mark}
use Rattle.ada_rules.specs.Declarations.{in_range, ordered, bounded, constrained, constraint_of, indicated, index_between, index_of, with_fields, all_as, fields_of, enumerated, unchanged, Defined, defined, value_for, any_value, known_of, NewValue, value_place, new_value, innermost, initial_for, LibraryValue, known_value, library_value, Declared, may_be_bare, one_name, numbered, known_constant, lying_in, with_objects, local_bare, local_set, with_library_objects, library_declared, no_library_value, objects_declared, exception_declared, exceptions_from, type_counted, type_declared, subtype_declared, kind_declared, declared, all_declared}
use Rattle.ada_rules.specs.Statics.{Test, in_order}
use Rattle.legal_laws.specs.Kept.{OnlyDecides}
use Rattle.legal_laws.proofs.Passing.{IfPassed, if_test, answered, part_so, weaker_ok, typed_either, any_answer}
use Rattle.legal_laws.proofs.KeptExpressions.{judged_behind, mark_part_behind, scalar_mark_behind}
use Rattle.std.specs.Prelude.{sum_by}
use Rattle.std.proofs.lemmas.List.Sums.{sum_by-cons}
use Rattle.ada_syntax.specs.Nodes.{name_nodes, expr_nodes, range_nodes, indication_nodes, component_nodes, definition_nodes}
use Rattle.ada_tree.specs.Weights.{stands_in}
use Rattle.legal_types.specs.TypeTokens.{kind_types, declared_types}
use Rattle.program_weights.specs.TypeWeights.{component_count, shape_weight, types_weight, types_weight_in}
use Rattle.legal_types.specs.Weights.{Keeps, Weighs}
use Rattle.legal_types.specs.TextGenerics.{part_in}

-- what a construct gives keeps them
abbrev pub Keep : {A : Type 0} → State → Given A → Type 0
Keep s g = Keeps s g.next

abbrev pub KeepsOn : State → Declared → Type 0
KeepsOn s x = Keeps s x.next

abbrev pub WeighsOn : Option ℕ → ℕ → State → Declared → Type 0
WeighsOn o n s x = Weighs o n s x.next

pub keeps_both : (s t u : State) → Keeps s t → Keeps t u → Keeps s u
keeps_both s t u h k = record { types = k.types ∙ h.types }

pub keeps_decides : (s t : State) → OnlyDecides s t → Keeps s t
keeps_decides s t only = record { types = ap (λ x. x.types_declared) only }

pub keeps_demanded : (env : Env) (q : Pos) (t : Test) (s : State) → Keeps s (demanded env q t s)
keeps_demanded env q t s = record { types = refl }

keeps_constant_more : (s : State) (c : GenericConstant) → Keeps s (record s { constants_declared = c ∷ s.constants_declared })
keeps_constant_more s c = record { types = refl }

pub keeps_same : (s : State) → Keeps s s
keeps_same s = record { types = refl }

-- what weighs nothing, and two weights
pub of_keeps : (o : Option ℕ) (n : ℕ) (s t : State) → Keeps s t → Weighs o n s t
of_keeps o n s t h = record {
  most = at_most n (types_weight t.types_declared) (types_weight s.types_declared) (ap types_weight h.types);
  each = λ g. at_most (part_in g o n) (types_weight_in g t.types_declared) (types_weight_in g s.types_declared) (ap (types_weight_in g) h.types);
}
  where
    at_most : (m a b : ℕ) → a ≡ b → a ≤ m + b
    at_most m a b e = omega (arith, e)

pub weighs_both : (o : Option ℕ) (m n : ℕ) (s t u : State) → Weighs o m s t → Weighs o n t u → Weighs o (m + n) s u
weighs_both o m n s t u h k = record {
  most = summed m n (types_weight s.types_declared) (types_weight t.types_declared) (types_weight u.types_declared) h.most k.most;
  each = λ g. each_summed (stands_in g o) (types_weight_in g s.types_declared) (types_weight_in g t.types_declared) (types_weight_in g u.types_declared) (h.each g) (k.each g);
}
  where
    summed : (m n a b c : ℕ) → b ≤ m + a → c ≤ n + b → c ≤ (m + n) + a
    summed m n a b c p q = omega (arith, p, q)

    each_summed : (at : Bool) (a b c : ℕ) → b ≤ (if at then m else 0) + a → c ≤ (if at then n else 0) + b → c ≤ (if at then m + n else 0) + a
    each_summed true a b c p q = summed m n a b c p q
    each_summed false a b c p q = summed 0 0 a b c p q

pub weighs_behind : (o : Option ℕ) (n : ℕ) (s t u : State) → Keeps s t → Weighs o n t u → Weighs o n s u
weighs_behind o n s t u h k = record {
  most = moved n (types_weight s.types_declared) (types_weight t.types_declared) (types_weight u.types_declared) (ap types_weight h.types) k.most;
  each = λ g. moved (part_in g o n) (types_weight_in g s.types_declared) (types_weight_in g t.types_declared) (types_weight_in g u.types_declared) (ap (types_weight_in g) h.types) (k.each g);
}
  where
    moved : (n a b c : ℕ) → b ≡ a → c ≤ n + b → c ≤ n + a
    moved n a b c e h = omega (arith, e, h)

pub of_passed : (o : Option ℕ) (n : ℕ) (s : State) (x : Outcome Declared) → IfPassed x (KeepsOn s) → IfPassed x (WeighsOn o n s)
of_passed o n s (refused_in q) h = tt
of_passed o n s broken h = tt
of_passed o n s (passed x) h = of_keeps o n s x.next h

counted_weighs : (env : Env) (q : Pos) (t : AdaSubtype) (s u : State) (n : ℕ) → shape_weight (subtype_in_tree t) ≤ n → Keeps s u
    → Weighs env.generic n s (type_counted env q t u)
counted_weighs env q t s u n light h = record {
  most = one_more n (shape_weight (subtype_in_tree t)) (types_weight u.types_declared) (types_weight s.types_declared) light (ap types_weight h.types);
  each = λ g. one_each (stands_in g env.generic) (types_weight_in g u.types_declared) (types_weight_in g s.types_declared) (ap (types_weight_in g) h.types);
}
  where
    one_more : (n w a b : ℕ) → w ≤ n → a ≡ b → (w + 0) + a ≤ n + b
    one_more n w a b h e = omega (arith, h, e)

    one_each : (at : Bool) (a b : ℕ) → a ≡ b → (if at then shape_weight (subtype_in_tree t) + 0 else 0) + a ≤ (if at then n else 0) + b
    one_each true a b e = one_more n (shape_weight (subtype_in_tree t)) a b light e
    one_each false a b e = omega (arith, e)

pub both_answers : {A : Type 0} (P Q : A → Type 0) (answer : Result A Pos) → IfOk answer P → IfOk answer Q → IfOk answer (λ x. P x × Q x)
both_answers P Q (Ok x) h k = (h, k)
both_answers P Q (Err p) h k = tt

named_keeps : (g : ℕ) (e : Static) (s : State) → Keeps s (value_named g e s).next
named_keeps g (static_number x) s = keeps_same s
named_keeps g (static_formal k) s = keeps_same s
named_keeps g (static_constant k) s = keeps_same s
named_keeps g (static_first r) s = keeps_constant_more s _
named_keeps g (static_last r) s = keeps_constant_more s _
named_keeps g (static_length r) s = keeps_constant_more s _
named_keeps g (static_sign op e) s =
    keeps_both s (value_named g e s).next _ (named_keeps g e s) (keeps_constant_more (value_named g e s).next _)
named_keeps g (static_operation op e f) s =
    let x = value_named g e s in
    let y = value_named g f x.next in
    keeps_both s x.next _ (named_keeps g e s) (keeps_both x.next y.next _ (named_keeps g f x.next) (keeps_constant_more y.next _))
named_keeps g (static_of i e) s = keeps_constant_more s _

known_keeps : (o : Option ℕ) (env : Env) (e : Static) (s : State) → Keeps s (static_known (record env { generic = o }) e s).next
known_keeps None env e s = keeps_same s
known_keeps (Some g) env e s = named_keeps g e s

static_known_keeps : (env : Env) (e : Static) (s : State) → Keeps s (static_known env e s).next
static_known_keeps env e s = known_keeps env.generic env e s

numbered_keeps : (o : Option ℕ) (r : Range) (e : Static) (f : Option Static) (s : State) → Keeps s (numbered o r e f s).next
numbered_keeps None r e f s = keeps_same s
numbered_keeps (Some g) r e f s =
    keeps_both s (value_named g e s).next _ (named_keeps g e s) (keeps_constant_more (value_named g e s).next _)

keeps_constant : (env : Env) (c : Constancy) (t : AdaSubtype) (f : Static → Option Static) (k : Option Static) (s : State)
    → Keeps s (known_constant env c t f k s).next
keeps_constant env constancy.Constant t f (Some e) s = numbered_keeps env.generic (range_in t) e (f e) s
keeps_constant env constancy.Constant t f None s = keeps_same s
keeps_constant env constancy.Variable t f k s = keeps_same s

pub keeps_started : (s : State) → Keeps s (started s)
keeps_started s = record { types = refl }

pub keeps_typed : (s : State) → Keeps s (one_type_more s)
keeps_typed s = record { types = refl }

pub keeps_objects : (t : AdaSubtype) (is : List Identifier) (s : State) → Keeps s (with_objects t is s)
keeps_objects t is s = record { types = refl }

keeps_library : (env : Env) (t : AdaSubtype) (v : program.Initial) (is : List Identifier) (s : State) → Keeps s (with_library_objects env t v is s)
keeps_library env t v is s = record { types = refl }

keeps_raised : (env : Env) (i : Identifier) (s : State) → Keeps s (exception_declared env i s)
keeps_raised env i s = record { types = refl }

module _ (env : Env) where
  pub expression_keeps : (s : State) (e : source.Expr) → IfOk (judged env itself s e).answer (Keep s)
  expression_keeps s e = weaker_ok (λ x. OnlyDecides s x.next) (Keep s) (judged env itself s e).answer (judged_behind env itself s e) (λ x h. keeps_decides s x.next h)

  accepted_keeps : (s t : State) (q : Pos) (accepts : Kind → Bool) (test : Static → Test) (x : Judged) (known : Option Static) → Keeps s t
      → IfSome (option_and_then (accepted env t q accepts test x) known) (Keep s)
  accepted_keeps s t q accepts test x None h = tt
  accepted_keeps s t q accepts test x (Some e) h =
      let asked = demanded env q (test e) t in
      if_test (Keep s) (accepts x.kind) (Some (map_given (λ v. record { value = v; kind = x.kind }) (static_known env e asked)))
      (λ b. keeps_both s asked (static_known env e asked).next (keeps_both s t asked h (keeps_demanded env q (test e) t))
      (static_known_keeps env e asked))

  pub static_keeps : (s : State) (accepts : Kind → Bool) (test : Static → Test) (e : source.Expr) → IfOk (static_part env s accepts test e).answer (Keep s)
  static_keeps s accepts test e =
      answered (Keep s) (expr_pos e) _
      (part_so (Keep s) (Keep s) (judged env itself s e).answer
      (λ x. typed_rule env.step (given any_valued x.next) (option_and_then (accepted env x.next (expr_pos e) accepts test x.value) x.value.known))
      (expression_keeps s e)
      (λ x h. typed_either (Keep s) env.step (given any_valued x.next) _ h (accepted_keeps s x.next (expr_pos e) accepts test x.value x.value.known h)))

  bounded_keeps : (s : State) (accepts : Kind → Bool) (r : Range) (b : Bounds) → IfOk (bounded env s accepts r b).answer (Keep s)
  bounded_keeps s accepts r b =
      answered (Keep s) (expr_pos b.low) _
      (part_so (Keep s) (Keep s) (static_part env s accepts (in_range r) b.low).answer
      (λ low. static_part env low.next accepts (in_range r) b.high >>= (λ high. rule (Some (ordered env (expr_pos b.low) low.value.value high.value.value high.next))))
      (static_keeps s accepts (in_range r) b.low)
      (λ low h. part_so (Keep low.next) (Keep s) (static_part env low.next accepts (in_range r) b.high).answer
      (λ high. rule (Some (ordered env (expr_pos b.low) low.value.value high.value.value high.next)))
      (static_keeps low.next accepts (in_range r) b.high)
      (λ high k. keeps_both s low.next _ h (keeps_both low.next high.next _ k
      (keeps_demanded env (expr_pos b.low) (in_order low.value.value high.value.value) high.next)))))

  constraint_keeps : (s : State) (m : Given Marked) (c : Option Bounds) → Keeps s m.next → IfPassed (constraint_of env m c).outcome (Keep s)
  constraint_keeps s m None h = h
  constraint_keeps s m (Some b) h =
      part_so (Keep m.next) (Keep s) (bounded env m.next (fits (type_in m.value.subtype)) (range_in m.value.subtype) b).answer
      (λ r. typed_rule env.step (given m.value.subtype r.next) (constrained m.value r))
      (bounded_keeps m.next (fits (type_in m.value.subtype)) (range_in m.value.subtype) b)
      (λ r k. typed_either (Keep s) env.step (given m.value.subtype r.next) (constrained m.value r) (keeps_both s m.next r.next h k)
      (if_test (Keep s) (is_scalar (type_in m.value.subtype)) _ (λ b. keeps_both s m.next r.next h k)))

  mark_keeps : (s : State) (n : source.Name) → IfOk (mark_part env s n).answer (Keep s)
  mark_keeps s n = weaker_ok (λ x. OnlyDecides s x.next) (Keep s) (mark_part env s n).answer (mark_part_behind env s n) (λ x h. keeps_decides s x.next h)

  pub scalar_mark_keeps : (s : State) (n : source.Name) → IfOk (scalar_mark env s n).answer (Keep s)
  scalar_mark_keeps s n =
      weaker_ok (λ x. OnlyDecides s x.next) (Keep s) (scalar_mark env s n).answer (scalar_mark_behind env s n) (λ x h. keeps_decides s x.next h)

  pub indicated_keeps : (s : State) (i : SubtypeIndication) → IfOk (indicated env s i).answer (Keep s)
  indicated_keeps s i =
      answered (Keep s) (name_pos i.mark) _
      (part_so (Keep s) (Keep s) (mark_part env s i.mark).answer (λ m. constraint_of env m i.constraint) (mark_keeps s i.mark)
      (λ m h. constraint_keeps s m i.constraint h))

  between_keeps : (s : State) (q : Pos) (low high : Given Valued) (c : Option Kind) → Keeps s high.next
      → IfSome (option_map (index_between env q low high) c) (Keep s)
  between_keeps s q low high None h = tt
  between_keeps s q low high (Some k) h = keeps_both s high.next _ h (keeps_demanded env q (in_order low.value.value high.value.value) high.next)

  index_keeps : (s : State) (r : DiscreteRange) → IfOk (index_of env s r).answer (Keep s)
  index_keeps s (discrete.Mark n) =
      answered (Keep s) (name_pos n) _
      (part_so (Keep s) (Keep s) (scalar_mark env s n).answer (λ m. rule (Some (given m.value.subtype m.next))) (scalar_mark_keeps s n) (λ m h. h))
  index_keeps s (discrete.Bounds b) =
      answered (Keep s) (expr_pos b.low) _
      (part_so (Keep s) (Keep s) (static_part env s is_discrete (in_range base) b.low).answer
      (λ low. static_part env low.next is_discrete (in_range base) b.high >>= (λ high. typed_rule env.step (given integer_subtype high.next)
      (option_map (index_between env (expr_pos b.low) low high) (common low.value.kind high.value.kind))))
      (static_keeps s is_discrete (in_range base) b.low)
      (λ low h. part_so (Keep low.next) (Keep s) (static_part env low.next is_discrete (in_range base) b.high).answer
      (λ high. typed_rule env.step (given integer_subtype high.next)
      (option_map (index_between env (expr_pos b.low) low high) (common low.value.kind high.value.kind)))
      (static_keeps low.next is_discrete (in_range base) b.high)
      (λ high k. typed_either (Keep s) env.step (given integer_subtype high.next) _ (keeps_both s low.next high.next h k)
      (between_keeps s (expr_pos b.low) low high (common low.value.kind high.value.kind) (keeps_both s low.next high.next h k)))))

  -- what follows a value that a rule on types gives
  pub mapped_keeps : {A B : Type 0} (s t : State) (f : A → B) (x : Option A) → Keeps s t → IfSome (option_map (λ v. given (f v) t) x) (Keep s)
  mapped_keeps s t f None h = tt
  mapped_keeps s t f (Some v) h = h

  pub new_value_keeps : (s : State) (q : Pos) (t : AdaSubtype) (i : Initial) → IfOk (new_value env s q t i).answer (Keep s)
  new_value_keeps s q t i =
      answered (Keep s) (value_place q t i.others) _
      (part_so (Keep s) (Keep s) (judged env itself s i.value).answer
      (λ x. typed_rule env.step (given (record { value = any_value; known = None }) x.next)
      (option_map (λ v. given (record { value = v; known = known_of i.others x.value }) x.next) (value_for t i.others x.value)))
      (expression_keeps s i.value)
      (λ x h. typed_either (Keep s) env.step _ _ h (mapped_keeps s x.next (λ v. record { value = v; known = known_of i.others x.value }) (value_for t i.others x.value) h)))

  library_value_keeps : (s : State) (q : Pos) (t : AdaSubtype) (i : Initial) → IfOk (library_value env s q t i).answer (Keep s)
  library_value_keeps s q t i =
      answered (Keep s) (value_place q t i.others) _
      (part_so (Keep s) (Keep s) (static_part env s (λ k. true) (in_range (range_in (innermost t i.others))) i.value).answer
      (λ x. typed_rule env.step (given (record { initial = program.no_initial; known = None }) x.next)
      (option_map (λ v. given (record { initial = v; known = known_value i.others x.value }) x.next) (initial_for t i.others x.value)))
      (static_keeps s (λ k. true) (in_range (range_in (innermost t i.others))) i.value)
      (λ x h. typed_either (Keep s) env.step _ _ h (mapped_keeps s x.next (λ v. record { initial = v; known = known_value i.others x.value }) (initial_for t i.others x.value) h)))

-- the components of a record
fields_keep : (env : Env) (s : State) (q : Pos) (cs : List Component) → IfOk (fields_of env s q cs).answer (Keep s)
fields_keep env s q [] = keeps_same s
fields_keep env s q (c ∷ cs) =
    answered (Keep s) q _
    (part_so (λ x. Unit {0}) (Keep s) (hide_all q env.local c.names).answer
    (λ names. indicated (with_local env names) s c.indication
    >>= (λ t. fields_of (with_local env (all_as component names c.names)) t.next q cs
    >>= (λ fs. rule (Some (given (with_fields c.names t.value fs.value) fs.next)))))
    (any_answer (hide_all q env.local c.names).answer)
    (λ names u. part_so (Keep s) (Keep s) (indicated (with_local env names) s c.indication).answer
    (λ t. fields_of (with_local env (all_as component names c.names)) t.next q cs >>= (λ fs. rule (Some (given (with_fields c.names t.value fs.value) fs.next))))
    (indicated_keeps (with_local env names) s c.indication)
    (λ t h. part_so (Keep t.next) (Keep s) (fields_of (with_local env (all_as component names c.names)) t.next q cs).answer
    (λ fs. rule (Some (given (with_fields c.names t.value fs.value) fs.next)))
    (fields_keep (with_local env (all_as component names c.names)) t.next q cs)
    (λ fs k. keeps_both s t.next fs.next h k))))

defined_keeps : (env : Env) (s : State) (q : Pos) (i : Identity) (d : TypeDefinition) → IfOk (defined env s q i d).answer (Keep s)
defined_keeps env s q i (definition.Integer b) =
    answered (Keep s) q _
    (part_so (Keep s) (Keep s) (bounded env s is_integral base b).answer
    (λ r. rule (Some (unchanged env.local (of_type (integer_type i) r.value) r.next))) (bounded_keeps env s is_integral base b) (λ r h. h))
defined_keeps env s q i (definition.Enumeration names) =
    answered (Keep s) q _
    (part_so (λ x. Unit {0}) (Keep s) (hide_all q env.local names).answer (λ region. rule (Some (given (enumerated i region names) s)))
    (any_answer (hide_all q env.local names).answer) (λ region u. keeps_same s))
defined_keeps env s q i (definition.Array r c) =
    answered (Keep s) q _
    (part_so (Keep s) (Keep s) (index_of env s r).answer
    (λ x. indicated env x.next c >>= (λ t. rule (Some (unchanged env.local (of_type (array_type i x.value t.value) base) t.next))))
    (index_keeps env s r)
    (λ x h. part_so (Keep x.next) (Keep s) (indicated env x.next c).answer
    (λ t. rule (Some (unchanged env.local (of_type (array_type i x.value t.value) base) t.next))) (indicated_keeps env x.next c)
    (λ t k. keeps_both s x.next t.next h k)))
defined_keeps env s q i (definition.Record cs) =
    answered (Keep s) q _
    (part_so (Keep s) (Keep s) (fields_of (opened env) s q cs).answer
    (λ fs. rule (Some (unchanged env.local (of_type (record_type i fs.value) base) fs.next))) (fields_keep (opened env) s q cs) (λ fs h. h))

exceptions_keep : (env : Env) (s : State) (region : Region) (is : List Identifier) → KeepsOn s (exceptions_from env s region is)
exceptions_keep env s region [] = keeps_same s
exceptions_keep env s region (i ∷ is) =
    keeps_both s (exception_declared env i s) _ (keeps_raised env i s) (exceptions_keep env (exception_declared env i s) _ is)

pub library_keeps : (env : Env) (c : Constancy) (region : Region) (is : List Identifier) (t : AdaSubtype) (v : LibraryValue) (s : State)
    → KeepsOn s (library_declared env c region is t v s)
library_keeps env c region is t v s =
    let k = known_constant env c t (λ e. Some e) v.known s in
    keeps_both s k.next (with_library_objects env t v.initial is k.next) (keeps_constant env c t (λ e. Some e) v.known s)
    (keeps_library env t v.initial is k.next)

pub set_keeps : (env : Env) (q : Pos) (c : Constancy) (region : Region) (is : List Identifier) (t : AdaSubtype) (v : Given NewValue) (s : State) → Keeps s v.next
    → KeepsOn s (local_set env q c region is t v)
set_keeps env q c region is t v s h =
    let k = known_constant env c t (lying_in env t) v.value.known v.next in
    keeps_both s v.next (started (with_objects t is k.next)) h
    (keeps_both v.next k.next (started (with_objects t is k.next)) (keeps_constant env c t (lying_in env t) v.value.known v.next)
    (keeps_both k.next (with_objects t is k.next) (started (with_objects t is k.next)) (keeps_objects t is k.next)
    (keeps_started (with_objects t is k.next))))

either_plan : {B : Type 0} (P : B → Type 0) (b : Bool) (x y : Plan B) → IfPassed x.outcome P → IfPassed y.outcome P → IfPassed (if b then x else y).outcome P
either_plan P true x y h k = h
either_plan P false x y h k = k

mapped_any : {A B : Type 0} (P : B → Type 0) (x : Option A) (y : B) → P y → IfSome (option_map (λ u. y) x) P
mapped_any P None y h = tt
mapped_any P (Some u) y h = h

objects_keep : (env : Env) (q : Pos) (c : Constancy) (region : Region) (is : List Identifier) (s : State) (t : Given AdaSubtype) (i : Option Initial)
    → Keeps s t.next → IfPassed (objects_declared env q c region is t i).outcome (KeepsOn s)
objects_keep env q c region is s t None h =
    let library = keeps_both s t.next _ h (library_keeps env c region is t.value no_library_value t.next) in
    let bare = keeps_both s t.next _ h (keeps_objects t.value is t.next) in
    either_plan (KeepsOn s) env.is_library
    (typed_rule env.step (library_declared env c region is t.value no_library_value t.next)
    (option_map (λ u. library_declared env c region is t.value no_library_value t.next) (may_be_bare c)))
    (typed_rule env.step (local_bare c region is t) (option_map (λ u. local_bare c region is t) (may_be_bare c)))
    (typed_either (KeepsOn s) env.step _ _ library (mapped_any (KeepsOn s) (may_be_bare c) _ library))
    (typed_either (KeepsOn s) env.step _ _ bare (mapped_any (KeepsOn s) (may_be_bare c) _ bare))
objects_keep env q c region is s t (Some i) h =
    either_plan (KeepsOn s) env.is_library
    (library_value (with_local env region) t.next q t.value i >>= (λ v. typed_rule env.step (library_declared env c region is t.value v.value v.next)
    (option_map (λ u. library_declared env c region is t.value v.value v.next) (one_name is))))
    (new_value (with_local env region) t.next q t.value i >>= (λ v. typed_rule env.step (local_set env q c region is t.value v)
    (option_map (λ u. local_set env q c region is t.value v) (one_name is))))
    (part_so (Keep t.next) (KeepsOn s) (library_value (with_local env region) t.next q t.value i).answer
    (λ v. typed_rule env.step (library_declared env c region is t.value v.value v.next)
    (option_map (λ u. library_declared env c region is t.value v.value v.next) (one_name is)))
    (library_value_keeps (with_local env region) t.next q t.value i)
    (λ v k. let all = keeps_both s t.next _ h (keeps_both t.next v.next _ k (library_keeps env c region is t.value v.value v.next)) in
    typed_either (KeepsOn s) env.step _ _ all (mapped_any (KeepsOn s) (one_name is) _ all)))
    (part_so (Keep t.next) (KeepsOn s) (new_value (with_local env region) t.next q t.value i).answer
    (λ v. typed_rule env.step (local_set env q c region is t.value v) (option_map (λ u. local_set env q c region is t.value v) (one_name is)))
    (new_value_keeps (with_local env region) t.next q t.value i)
    (λ v k. let all = set_keeps env q c region is t.value v s (keeps_both s t.next v.next h k) in
    typed_either (KeepsOn s) env.step _ _ all (mapped_any (KeepsOn s) (one_name is) _ all)))

-- how many fields components make, and what a definition weighs
with_fields_count : (is : List Identifier) (t : AdaSubtype) (fs : Fields) → component_count (fields_in_tree (with_fields is t fs)) ≡ length is + component_count (fields_in_tree fs)
with_fields_count [] t fs = let none : (n : ℕ) → n ≡ 0 + n = λ n. omega arith in none _
with_fields_count (i ∷ is) t fs =
    let one : (a b n : ℕ) → a ≡ b + n → suc a ≡ suc b + n = λ a b n e. omega (arith, e) in
    one _ (length is) _ (with_fields_count is t fs)

fields_few : (env : Env) (s : State) (q : Pos) (cs : List Component)
    → IfOk (fields_of env s q cs).answer (λ fs. component_count (fields_in_tree fs.value) ≤ sum_by component_nodes cs)
fields_few env s q [] = let none : 0 ≤ sum_by component_nodes [] = omega arith in none
fields_few env s q (c ∷ cs) =
    answered (λ (fs : Given Fields). component_count (fields_in_tree fs.value) ≤ sum_by component_nodes (c ∷ cs)) q _
    (part_so (λ x. Unit {0}) (λ (fs : Given Fields). component_count (fields_in_tree fs.value) ≤ sum_by component_nodes (c ∷ cs)) (hide_all q env.local c.names).answer
    (λ names. indicated (with_local env names) s c.indication
    >>= (λ t. fields_of (with_local env (all_as component names c.names)) t.next q cs
    >>= (λ fs. rule (Some (given (with_fields c.names t.value fs.value) fs.next)))))
    (any_answer (hide_all q env.local c.names).answer)
    (λ names u. part_so (λ x. Unit {0}) (λ (fs : Given Fields). component_count (fields_in_tree fs.value) ≤ sum_by component_nodes (c ∷ cs)) (indicated (with_local env names) s c.indication).answer
    (λ t. fields_of (with_local env (all_as component names c.names)) t.next q cs >>= (λ fs. rule (Some (given (with_fields c.names t.value fs.value) fs.next))))
    (any_answer (indicated (with_local env names) s c.indication).answer)
    (λ t v. part_so (λ (fs : Given Fields). component_count (fields_in_tree fs.value) ≤ sum_by component_nodes cs) (λ (fs : Given Fields). component_count (fields_in_tree fs.value) ≤ sum_by component_nodes (c ∷ cs))
    (fields_of (with_local env (all_as component names c.names)) t.next q cs).answer
    (λ fs. rule (Some (given (with_fields c.names t.value fs.value) fs.next)))
    (fields_few (with_local env (all_as component names c.names)) t.next q cs)
    (λ fs k. sums (component_count (fields_in_tree (with_fields c.names t.value fs.value))) (length c.names) (component_count (fields_in_tree fs.value)) (indication_nodes c.indication)
    (sum_by component_nodes cs) (sum_by component_nodes (c ∷ cs)) (with_fields_count c.names t.value fs.value) k (sum_by-cons component_nodes c cs)))))
  where
    sums : (n a b m r all : ℕ) → n ≡ a + b → b ≤ r → all ≡ (a + m) + r → n ≤ all
    sums n a b m r all same few sum = omega (arith, same, few, sum)

-- each name and each expression has a token
some_token : (n m : ℕ) → 1 ≤ n → 1 ≤ n + m
some_token n m h = omega (arith, h)

one_token : (n : source.Name) → 1 ≤ name_nodes n
one_token (source.simple i) = omega arith
one_token (source.selected n i) = some_token (name_nodes n) 1 (one_token n)
one_token (source.attribute n i) = some_token (name_nodes n) 1 (one_token n)
one_token (source.applied n es) = some_token (name_nodes n) _ (one_token n)

middle_token : (a b : ℕ) → 1 ≤ a + 1 + b
middle_token a b = omega (arith)

index_token : (r : DiscreteRange) → 1 ≤ range_nodes r
index_token (discrete.Mark n) = one_token n
index_token (discrete.Bounds b) = middle_token (expr_nodes b.low) (expr_nodes b.high)

-- the type that a definition makes weighs no more than its declaration has tokens
abbrev IsLight : TypeDefinition → Given Defined → Type 0
IsLight d x = shape_weight (subtype_in_tree x.value.subtype) ≤ 3 + definition_nodes d

array_light : (a b : ℕ) → 1 ≤ a → 1 ≤ b → 7 ≤ 3 + (2 + a + b)
array_light a b h k = omega (arith, h, k)

record_light : (n m : ℕ) → n ≤ m → 6 + n ≤ 3 + (3 + m)
record_light n m h = omega (arith, h)

nothing_light : (n : ℕ) → 0 ≤ n
nothing_light n = omega arith

defined_light : (env : Env) (s : State) (q : Pos) (i : Identity) (d : TypeDefinition) → IfOk (defined env s q i d).answer (IsLight d)
defined_light env s q i (definition.Integer b) =
    answered (IsLight (definition.Integer b)) q _
    (part_so (λ x. Unit {0}) (IsLight (definition.Integer b)) (bounded env s is_integral base b).answer
    (λ r. rule (Some (unchanged env.local (of_type (integer_type i) r.value) r.next))) (any_answer (bounded env s is_integral base b).answer) (λ r u. nothing_light _))
defined_light env s q i (definition.Enumeration names) =
    answered (IsLight (definition.Enumeration names)) q _
    (part_so (λ x. Unit {0}) (IsLight (definition.Enumeration names)) (hide_all q env.local names).answer (λ region. rule (Some (given (enumerated i region names) s)))
    (any_answer (hide_all q env.local names).answer) (λ region u. nothing_light _))
defined_light env s q i (definition.Array r c) =
    answered (IsLight (definition.Array r c)) q _
    (part_so (λ x. Unit {0}) (IsLight (definition.Array r c)) (index_of env s r).answer
    (λ x. indicated env x.next c >>= (λ t. rule (Some (unchanged env.local (of_type (array_type i x.value t.value) base) t.next))))
    (any_answer (index_of env s r).answer)
    (λ x u. part_so (λ y. Unit {0}) (IsLight (definition.Array r c)) (indicated env x.next c).answer
    (λ t. rule (Some (unchanged env.local (of_type (array_type i x.value t.value) base) t.next))) (any_answer (indicated env x.next c).answer)
    (λ t v. array_light (range_nodes r) (indication_nodes c) (index_token r) (some_token (name_nodes c.mark) _ (one_token c.mark)))))
defined_light env s q i (definition.Record cs) =
    answered (IsLight (definition.Record cs)) q _
    (part_so (λ (fs : Given Fields). component_count (fields_in_tree fs.value) ≤ sum_by component_nodes cs) (IsLight (definition.Record cs)) (fields_of (opened env) s q cs).answer
    (λ fs. rule (Some (unchanged env.local (of_type (record_type i fs.value) base) fs.next))) (fields_few (opened env) s q cs)
    (λ fs h. record_light (component_count (fields_in_tree fs.value)) (sum_by component_nodes cs) h))

kind_weighs : (env : Env) (s : State) (q : Pos) (d : DeclarationKind) → IfPassed (kind_declared env s q d).outcome (WeighsOn env.generic (kind_types d) s)
kind_weighs env s q (declares.Type i d) =
    part_so (λ x. Unit {0}) (WeighsOn env.generic (kind_types (declares.Type i d)) s) (hide env.local i).answer
    (λ region. defined (with_local env region) (one_type_more s) q (new_identity env s) d >>= (λ x. rule (Some (type_declared env q i (new_identity env s) x))))
    (any_answer (hide env.local i).answer)
    (λ region u. part_so (λ x. Keeps (one_type_more s) x.next × IsLight d x) (WeighsOn env.generic (kind_types (declares.Type i d)) s)
    (defined (with_local env region) (one_type_more s) q (new_identity env s) d).answer
    (λ x. rule (Some (type_declared env q i (new_identity env s) x)))
    (both_answers (Keep (one_type_more s)) (IsLight d) _ (defined_keeps (with_local env region) (one_type_more s) q (new_identity env s) d)
    (defined_light (with_local env region) (one_type_more s) q (new_identity env s) d))
    (λ x h. counted_weighs env q x.value.subtype s x.next (kind_types (declares.Type i d)) h.1 (keeps_both s (one_type_more s) x.next (keeps_typed s) h.0)))
kind_weighs env s q (declares.Subtype i t) =
    part_so (λ x. Unit {0}) (WeighsOn env.generic 0 s) (hide env.local i).answer
    (λ region. indicated (with_local env region) (one_type_more s) t >>= (λ x. rule (Some (subtype_declared i region (new_identity env s) x))))
    (any_answer (hide env.local i).answer)
    (λ region u. part_so (Keep (one_type_more s)) (WeighsOn env.generic 0 s) (indicated (with_local env region) (one_type_more s) t).answer
    (λ x. rule (Some (subtype_declared i region (new_identity env s) x))) (indicated_keeps (with_local env region) (one_type_more s) t)
    (λ x h. of_keeps env.generic 0 s x.next (keeps_both s (one_type_more s) x.next (keeps_typed s) h)))
kind_weighs env s q (declares.Object is c t i) =
    part_so (λ x. Unit {0}) (WeighsOn env.generic 0 s) (hide_all q env.local is).answer
    (λ region. indicated (with_local env region) s t >>= (λ x. objects_declared env q c region is x i)) (any_answer (hide_all q env.local is).answer)
    (λ region u. part_so (Keep s) (WeighsOn env.generic 0 s) (indicated (with_local env region) s t).answer
    (λ x. objects_declared env q c region is x i) (indicated_keeps (with_local env region) s t)
    (λ x h. of_passed env.generic 0 s (objects_declared env q c region is x i).outcome (objects_keep env q c region is s x i h)))
kind_weighs env s q (declares.Exception is) =
    part_so (λ x. Unit {0}) (WeighsOn env.generic 0 s) (hide_all q env.local is).answer (λ region. rule (Some (exceptions_from env s region is)))
    (any_answer (hide_all q env.local is).answer) (λ region u. of_keeps env.generic 0 s (exceptions_from env s region is).next (exceptions_keep env s region is))
kind_weighs env s q (declares.Pragma a) = of_keeps env.generic 0 s s (keeps_same s)

pub declaration_weighs : (env : Env) (s : State) (d : Declaration) → IfOk (declared env s d).answer (WeighsOn env.generic (kind_types d.kind) s)
declaration_weighs env s d = answered (WeighsOn env.generic (kind_types d.kind) s) d.pos (kind_declared env s d.pos d.kind).outcome (kind_weighs env s d.pos d.kind)

pub declarations_weigh : (env : Env) (s : State) (q : Pos) (ds : List Declaration) → IfOk (all_declared env s q ds).answer (WeighsOn env.generic (declared_types ds) s)
declarations_weigh env s q [] = of_keeps env.generic 0 s s (keeps_same s)
declarations_weigh env s q (d ∷ ds) =
    answered (WeighsOn env.generic (declared_types (d ∷ ds)) s) q _
    (part_so (WeighsOn env.generic (kind_types d.kind) s) (WeighsOn env.generic (declared_types (d ∷ ds)) s) (declared env s d).answer
    (λ x. all_declared (with_local env x.region) x.next q ds >>= (λ xs. rule (Some (record { region = xs.region; next = xs.next; made = x.made ++ xs.made }))))
    (declaration_weighs env s d)
    (λ x h. part_so (WeighsOn env.generic (declared_types ds) x.next) (WeighsOn env.generic (declared_types (d ∷ ds)) s) (all_declared (with_local env x.region) x.next q ds).answer
    (λ xs. rule (Some (record { region = xs.region; next = xs.next; made = x.made ++ xs.made })))
    (declarations_weigh (with_local env x.region) x.next q ds)
    (λ xs k. weighs_both env.generic (kind_types d.kind) (declared_types ds) s x.next xs.next h k)))
