-- Static expressions, and all constructs below declarations and statements, change no more of the state than decisions, demands, constants of
-- generics and the places where a limit is passed, in both steps.
use Rattle.std.proofs.Common.{◌≡◌, ℕ, Bool, true, false, List, [], ◌∷◌, Option, Some, None, option_map, IfSome, IfOk, refl, sym, ap, ◌∙◌}
use Rattle.std.specs.Option.{option_and_then}
use Rattle.cov_base.specs.declared.position.Pos.{Pos}
use Rattle.ada_syntax.specs.Tree as source
use Rattle.ada_syntax.specs.Tree.{expr_pos, name_pos}
use Rattle.ada_syntax.specs.declared.declaration.Bounds.{Bounds}
use Rattle.ada_syntax.specs.declared.declaration.Component.{Component}
use Rattle.ada_syntax.specs.declared.declaration.DiscreteRange.{DiscreteRange}
use Rattle.ada_syntax.specs.declared.declaration.DiscreteRange.TheVariants as discrete
use Rattle.ada_syntax.specs.declared.declaration.Initial.{Initial}
use Rattle.ada_syntax.specs.declared.declaration.SubtypeIndication.{SubtypeIndication}
use Rattle.ada_syntax.specs.declared.declaration.TypeDefinition.{TypeDefinition}
use Rattle.ada_syntax.specs.declared.declaration.TypeDefinition.TheVariants as definition
use Rattle.ada_meaning.specs.Program.{Program}
use Rattle.ada_meaning.specs.Program as program
use Rattle.ada_meaning.specs.Tree as tree
use Rattle.ada_meaning.specs.Types.{Static, Range}
use Rattle.ada_rules.specs.Plan.{◌>>=◌, rule}
use Rattle.ada_rules.specs.Types.{Identity, integer_type, array_type, record_type, AdaSubtype, of_type, type_in, range_in, base, integer_subtype, Kind, is_integral, is_discrete, is_scalar, fits, common}
use Rattle.ada_rules.specs.Entities.{component}
use Rattle.ada_rules.specs.Environment.{typed_rule, State, Given, given, map_given, Env, with_local, opened, demanded, hide_all}
use Rattle.ada_rules.specs.Denoted.{Judged}
use Rattle.ada_rules.specs.Expressions.{itself, judged, Valued, any_valued, static_known, accepted, static_part, Marked, mark_part, scalar_mark}
use Rattle.ada_rules.specs.Declarations.{in_range, ordered, bounded, constrained, constraint_of, indicated, index_between, index_of, with_fields, all_as, fields_of, enumerated, unchanged, defined, value_for, any_value, known_of, value_place, new_value, innermost, initial_for, known_value, library_value}
use Rattle.ada_rules.specs.Statics.{Test, in_order}
use Rattle.ada_syntax.specs.declared.statement.Choice.{Choice}
use Rattle.ada_syntax.specs.declared.statement.Choice.TheVariants as choice
use Rattle.ada_syntax.specs.declared.statement.ExceptionChoice.{ExceptionChoice}
use Rattle.ada_syntax.specs.declared.statement.ExceptionChoice.TheVariants as taken
use Rattle.ada_rules.specs.Statements.{any_variable, writable, target, Selector, any_selector, selector_of, selector, among, chosen, all_chosen, any_turns, turns_between, turns_over, turned, exception_of, where_allowed, caught, all_caught}
use Rattle.ada_meaning.specs.Program.{GenericConstant}
use Rattle.ada_meaning.specs.Types.{static_number, static_formal, static_constant, static_first, static_last, static_length, static_sign, static_operation, static_of}
use Rattle.ada_rules.specs.Expressions.{value_named, denoted, decision}
use Rattle.ada_rules.specs.Declarations.{numbered}
use Rattle.legal_laws.specs.Kept.{OnlyDecides, with_statics, OnlyStatics}
use Rattle.legal_laws.proofs.Passing.{IfPassed, if_test, answered, part_so, weaker_ok, typed_either, any_answer}
use Rattle.legal_laws.proofs.KeptExpressions.{judged_behind, mark_part_behind, scalar_mark_behind, denoted_behind, decision_behind}

-- nothing else changes where a value is named
abbrev pub with_named : State → List GenericConstant → State
with_named s cs = record s { constants_declared = cs }

abbrev pub OnlyNames : State → State → Type 0
OnlyNames s t = t ≡ with_named s t.constants_declared

pub named_only : (g : ℕ) (e : Static) (s : State) → OnlyNames s (value_named g e s).next
named_only g (static_number x) s = refl
named_only g (static_formal k) s = refl
named_only g (static_constant k) s = refl
named_only g (static_first r) s = refl
named_only g (static_last r) s = refl
named_only g (static_length r) s = refl
named_only g (static_sign op e) s = ap (λ x. with_named x (value_named g (static_sign op e) s).next.constants_declared) (named_only g e s)
named_only g (static_operation op e f) s =
    ap (λ x. with_named x (value_named g (static_operation op e f) s).next.constants_declared) (named_only g f (value_named g e s).next)
    ∙ ap (λ x. with_named x (value_named g (static_operation op e f) s).next.constants_declared) (named_only g e s)
named_only g (static_of i e) s = refl

-- static expressions make demands, and name constants
pub decides_statics : (s t : State) → OnlyDecides s t → OnlyStatics s t
decides_statics s t h = h ∙ ap (λ x. with_statics s t.decisions t.excesses x.demands x.constants_declared) (sym h)

names_statics : (s t : State) → OnlyNames s t → OnlyStatics s t
names_statics s t h = h ∙ ap (λ x. with_statics s x.decisions x.excesses x.demands t.constants_declared) (sym h)

pub statics_both : (s t u : State) → OnlyStatics s t → OnlyStatics t u → OnlyStatics s u
statics_both s t u h k = k ∙ ap (λ x. with_statics x u.decisions u.excesses u.demands u.constants_declared) h

known_only : (o : Option ℕ) (env : Env) (e : Static) (s : State) → OnlyStatics s (static_known (record env { generic = o }) e s).next
known_only None env e s = refl
known_only (Some g) env e s = names_statics s (value_named g e s).next (named_only g e s)

pub static_only : (env : Env) (e : Static) (s : State) → OnlyStatics s (static_known env e s).next
static_only env e s = known_only env.generic env e s

pub numbered_only : (o : Option ℕ) (r : Range) (e : Static) (f : Option Static) (s : State) → OnlyStatics s (numbered o r e f s).next
numbered_only None r e f s = refl
numbered_only (Some g) r e f s =
    names_statics s (numbered (Some g) r e f s).next
    (ap (λ x. with_named x (numbered (Some g) r e f s).next.constants_declared) (named_only g e s))

-- what a construct gives, behind this state
abbrev pub Behind : {A : Type 0} → State → Given A → Type 0
Behind s g = OnlyStatics s g.next

module _ (env : Env) where
  pub expression_keeps : (s : State) (e : source.Expr) → IfOk (judged env itself s e).answer (Behind s)
  expression_keeps s e = weaker_ok (λ x. OnlyDecides s x.next) (Behind s) (judged env itself s e).answer (judged_behind env itself s e) (λ x h. decides_statics s x.next h)

  accepted_keeps : (s t : State) (q : Pos) (accepts : Kind → Bool) (test : Static → Test) (x : Judged) (known : Option Static) → OnlyStatics s t
      → IfSome (option_and_then (accepted env t q accepts test x) known) (Behind s)
  accepted_keeps s t q accepts test x None h = tt
  accepted_keeps s t q accepts test x (Some e) h =
      let asked = demanded env q (test e) t in
      if_test (Behind s) (accepts x.kind) (Some (map_given (λ v. record { value = v; kind = x.kind }) (static_known env e asked)))
      (λ b. statics_both s asked (static_known env e asked).next (statics_both s t asked h refl)
      (static_only env e asked))

  pub static_keeps : (s : State) (accepts : Kind → Bool) (test : Static → Test) (e : source.Expr) → IfOk (static_part env s accepts test e).answer (Behind s)
  static_keeps s accepts test e =
      answered (Behind s) (expr_pos e) _
      (part_so (Behind s) (Behind s) (judged env itself s e).answer
      (λ x. typed_rule env.step (given any_valued x.next) (option_and_then (accepted env x.next (expr_pos e) accepts test x.value) x.value.known))
      (expression_keeps s e)
      (λ x h. typed_either (Behind s) env.step (given any_valued x.next) _ h (accepted_keeps s x.next (expr_pos e) accepts test x.value x.value.known h)))

  bounded_keeps : (s : State) (accepts : Kind → Bool) (r : Range) (b : Bounds) → IfOk (bounded env s accepts r b).answer (Behind s)
  bounded_keeps s accepts r b =
      answered (Behind s) (expr_pos b.low) _
      (part_so (Behind s) (Behind s) (static_part env s accepts (in_range r) b.low).answer
      (λ low. static_part env low.next accepts (in_range r) b.high >>= (λ high. rule (Some (ordered env (expr_pos b.low) low.value.value high.value.value high.next))))
      (static_keeps s accepts (in_range r) b.low)
      (λ low h. part_so (Behind low.next) (Behind s) (static_part env low.next accepts (in_range r) b.high).answer
      (λ high. rule (Some (ordered env (expr_pos b.low) low.value.value high.value.value high.next)))
      (static_keeps low.next accepts (in_range r) b.high)
      (λ high k. statics_both s low.next _ h (statics_both low.next high.next _ k
      refl))))

  constraint_keeps : (s : State) (m : Given Marked) (c : Option Bounds) → OnlyStatics s m.next → IfPassed (constraint_of env m c).outcome (Behind s)
  constraint_keeps s m None h = h
  constraint_keeps s m (Some b) h =
      part_so (Behind m.next) (Behind s) (bounded env m.next (fits (type_in m.value.subtype)) (range_in m.value.subtype) b).answer
      (λ r. typed_rule env.step (given m.value.subtype r.next) (constrained m.value r))
      (bounded_keeps m.next (fits (type_in m.value.subtype)) (range_in m.value.subtype) b)
      (λ r k. typed_either (Behind s) env.step (given m.value.subtype r.next) (constrained m.value r) (statics_both s m.next r.next h k)
      (if_test (Behind s) (is_scalar (type_in m.value.subtype)) _ (λ b. statics_both s m.next r.next h k)))

  mark_keeps : (s : State) (n : source.Name) → IfOk (mark_part env s n).answer (Behind s)
  mark_keeps s n = weaker_ok (λ x. OnlyDecides s x.next) (Behind s) (mark_part env s n).answer (mark_part_behind env s n) (λ x h. decides_statics s x.next h)

  pub scalar_mark_keeps : (s : State) (n : source.Name) → IfOk (scalar_mark env s n).answer (Behind s)
  scalar_mark_keeps s n =
      weaker_ok (λ x. OnlyDecides s x.next) (Behind s) (scalar_mark env s n).answer (scalar_mark_behind env s n) (λ x h. decides_statics s x.next h)

  pub indicated_keeps : (s : State) (i : SubtypeIndication) → IfOk (indicated env s i).answer (Behind s)
  indicated_keeps s i =
      answered (Behind s) (name_pos i.mark) _
      (part_so (Behind s) (Behind s) (mark_part env s i.mark).answer (λ m. constraint_of env m i.constraint) (mark_keeps s i.mark)
      (λ m h. constraint_keeps s m i.constraint h))

  between_keeps : (s : State) (q : Pos) (low high : Given Valued) (c : Option Kind) → OnlyStatics s high.next
      → IfSome (option_map (index_between env q low high) c) (Behind s)
  between_keeps s q low high None h = tt
  between_keeps s q low high (Some k) h = statics_both s high.next _ h refl

  index_keeps : (s : State) (r : DiscreteRange) → IfOk (index_of env s r).answer (Behind s)
  index_keeps s (discrete.Mark n) =
      answered (Behind s) (name_pos n) _
      (part_so (Behind s) (Behind s) (scalar_mark env s n).answer (λ m. rule (Some (given m.value.subtype m.next))) (scalar_mark_keeps s n) (λ m h. h))
  index_keeps s (discrete.Bounds b) =
      answered (Behind s) (expr_pos b.low) _
      (part_so (Behind s) (Behind s) (static_part env s is_discrete (in_range base) b.low).answer
      (λ low. static_part env low.next is_discrete (in_range base) b.high >>= (λ high. typed_rule env.step (given integer_subtype high.next)
      (option_map (index_between env (expr_pos b.low) low high) (common low.value.kind high.value.kind))))
      (static_keeps s is_discrete (in_range base) b.low)
      (λ low h. part_so (Behind low.next) (Behind s) (static_part env low.next is_discrete (in_range base) b.high).answer
      (λ high. typed_rule env.step (given integer_subtype high.next)
      (option_map (index_between env (expr_pos b.low) low high) (common low.value.kind high.value.kind)))
      (static_keeps low.next is_discrete (in_range base) b.high)
      (λ high k. typed_either (Behind s) env.step (given integer_subtype high.next) _ (statics_both s low.next high.next h k)
      (between_keeps s (expr_pos b.low) low high (common low.value.kind high.value.kind) (statics_both s low.next high.next h k)))))

  -- what follows a value that a rule on types gives
  pub mapped_keeps : {A B : Type 0} (s t : State) (f : A → B) (x : Option A) → OnlyStatics s t → IfSome (option_map (λ v. given (f v) t) x) (Behind s)
  mapped_keeps s t f None h = tt
  mapped_keeps s t f (Some v) h = h

  pub new_value_keeps : (s : State) (q : Pos) (t : AdaSubtype) (i : Initial) → IfOk (new_value env s q t i).answer (Behind s)
  new_value_keeps s q t i =
      answered (Behind s) (value_place q t i.others) _
      (part_so (Behind s) (Behind s) (judged env itself s i.value).answer
      (λ x. typed_rule env.step (given (record { value = any_value; known = None }) x.next)
      (option_map (λ v. given (record { value = v; known = known_of i.others x.value }) x.next) (value_for t i.others x.value)))
      (expression_keeps s i.value)
      (λ x h. typed_either (Behind s) env.step _ _ h (mapped_keeps s x.next (λ v. record { value = v; known = known_of i.others x.value }) (value_for t i.others x.value) h)))

  pub library_value_keeps : (s : State) (q : Pos) (t : AdaSubtype) (i : Initial) → IfOk (library_value env s q t i).answer (Behind s)
  library_value_keeps s q t i =
      answered (Behind s) (value_place q t i.others) _
      (part_so (Behind s) (Behind s) (static_part env s (λ k. true) (in_range (range_in (innermost t i.others))) i.value).answer
      (λ x. typed_rule env.step (given (record { initial = program.no_initial; known = None }) x.next)
      (option_map (λ v. given (record { initial = v; known = known_value i.others x.value }) x.next) (initial_for t i.others x.value)))
      (static_keeps s (λ k. true) (in_range (range_in (innermost t i.others))) i.value)
      (λ x h. typed_either (Behind s) env.step _ _ h (mapped_keeps s x.next (λ v. record { initial = v; known = known_value i.others x.value }) (initial_for t i.others x.value) h)))

  pub name_keeps : (s : State) (n : source.Name) → IfOk (denoted env s n).answer (Behind s)
  name_keeps s n =
      weaker_ok (λ x. OnlyDecides s x.next) (Behind s) (denoted env s n).answer (denoted_behind env s n) (λ x h. decides_statics s x.next h)

  pub decision_keeps : (s : State) (q : Pos) (e : source.Expr) → IfOk (decision env s q e).answer (Behind s)
  decision_keeps s q e =
      weaker_ok (λ x. OnlyDecides s x.next) (Behind s) (decision env s q e).answer (decision_behind env s q e) (λ x h. decides_statics s x.next h)

  pub target_keeps : (s : State) (n : source.Name) → IfOk (target env s n).answer (Behind s)
  target_keeps s n =
      answered (Behind s) (name_pos n) _
      (part_so (Behind s) (Behind s) (denoted env s n).answer
      (λ d. typed_rule env.step (given any_variable d.next) (option_map (λ v. given v d.next) (writable d.value))) (name_keeps s n)
      (λ d h. typed_either (Behind s) env.step (given any_variable d.next) _ h
      (mapped_keeps s d.next (λ v. v) (writable d.value) h)))

  pub selector_keeps : (s : State) (e : source.Expr) → IfOk (selector env s e).answer (Behind s)
  selector_keeps s e =
      answered (Behind s) (expr_pos e) _
      (part_so (Behind s) (Behind s) (judged env itself s e).answer
      (λ x. typed_rule env.step (given any_selector x.next) (option_map (λ y. given y x.next) (selector_of x.value)))
      (expression_keeps s e)
      (λ x h. typed_either (Behind s) env.step (given any_selector x.next) _ h
      (mapped_keeps s x.next (λ v. v) (selector_of x.value) h)))

  pub turned_keeps : (s : State) (r : DiscreteRange) → IfOk (turned env s r).answer (Behind s)
  turned_keeps s (discrete.Mark n) =
      answered (Behind s) (name_pos n) _
      (part_so (Behind s) (Behind s) (scalar_mark env s n).answer (λ m. rule (Some (given (turns_over m.value.subtype) m.next)))
      (scalar_mark_keeps s n) (λ m h. h))
  turned_keeps s (discrete.Bounds b) =
      answered (Behind s) (expr_pos b.low) _
      (part_so (Behind s) (Behind s) (judged env itself s b.low).answer
      (λ x. judged env itself x.next b.high >>= (λ y. typed_rule env.step (given any_turns y.next)
      (option_map (λ t. given t y.next) (option_and_then (turns_between x.value y.value) (common x.value.kind y.value.kind)))))
      (expression_keeps s b.low)
      (λ x h. part_so (Behind x.next) (Behind s) (judged env itself x.next b.high).answer
      (λ y. typed_rule env.step (given any_turns y.next)
      (option_map (λ t. given t y.next) (option_and_then (turns_between x.value y.value) (common x.value.kind y.value.kind))))
      (expression_keeps x.next b.high)
      (λ y k. typed_either (Behind s) env.step (given any_turns y.next) _ (statics_both s x.next y.next h k)
      (mapped_keeps s y.next (λ v. v) (option_and_then (turns_between x.value y.value) (common x.value.kind y.value.kind))
      (statics_both s x.next y.next h k)))))

  -- choices
  chosen_keeps : (s : State) (x : Selector) (c : Choice) → IfOk (chosen env s x c).answer (Behind s)
  chosen_keeps s x (choice.Value e) =
      answered (Behind s) (expr_pos e) _
      (part_so (Behind s) (Behind s) (static_part env s (fits x.type) (among x.values) e).answer
      (λ v. rule (Some (given (tree.value_choice v.value.value) v.next)))
      (static_keeps s (fits x.type) (among x.values) e) (λ v h. h))
  chosen_keeps s x (choice.Range b) =
      answered (Behind s) (expr_pos b.low) _
      (part_so (Behind s) (Behind s) (static_part env s (fits x.type) (among x.values) b.low).answer
      (λ low. static_part env low.next (fits x.type) (among x.values) b.high >>= (λ high. rule (Some (given (tree.range_choice low.value.value high.value.value)
      (demanded env (expr_pos b.low) (in_order low.value.value high.value.value) high.next)))))
      (static_keeps s (fits x.type) (among x.values) b.low)
      (λ low h. part_so (Behind low.next) (Behind s) (static_part env low.next (fits x.type) (among x.values) b.high).answer
      (λ high. rule (Some (given (tree.range_choice low.value.value high.value.value)
      (demanded env (expr_pos b.low) (in_order low.value.value high.value.value) high.next))))
      (static_keeps low.next (fits x.type) (among x.values) b.high)
      (λ high k. statics_both s low.next _ h (statics_both low.next high.next _ k
      refl))))
  chosen_keeps s x (choice.Others q) = refl

  pub all_chosen_keep : (s : State) (x : Selector) (q : Pos) (cs : List Choice) → IfOk (all_chosen env s x q cs).answer (Behind s)
  all_chosen_keep s x q [] = refl
  all_chosen_keep s x q (c ∷ cs) =
      answered (Behind s) q _
      (part_so (Behind s) (Behind s) (chosen env s x c).answer
      (λ d. all_chosen env d.next x q cs >>= (λ ds. rule (Some (given (d.value ∷ ds.value) ds.next)))) (chosen_keeps s x c)
      (λ d h. part_so (Behind d.next) (Behind s) (all_chosen env d.next x q cs).answer (λ ds. rule (Some (given (d.value ∷ ds.value) ds.next)))
      (all_chosen_keep d.next x q cs) (λ ds k. statics_both s d.next ds.next h k)))

  allowed_keeps : {A : Type 0} (s : State) (b : Bool) (x : Given A) → Behind s x → IfSome (where_allowed b x) (Behind s)
  allowed_keeps s true x h = h
  allowed_keeps s false x h = tt

  caught_keeps : (s : State) (b : Bool) (c : ExceptionChoice) → IfOk (caught env s b c).answer (Behind s)
  caught_keeps s b (taken.Named n) =
      answered (Behind s) (name_pos n) _
      (part_so (Behind s) (Behind s) (denoted env s n).answer
      (λ d. typed_rule env.step (given tree.other_exceptions d.next) (option_map (λ e. given (tree.named_exception e) d.next) (exception_of d.value))) (name_keeps s n)
      (λ d h. typed_either (Behind s) env.step (given tree.other_exceptions d.next) _ h
      (mapped_keeps s d.next tree.named_exception (exception_of d.value) h)))
  caught_keeps s b (taken.Others q) =
      answered (Behind s) q _
      (typed_either (Behind s) env.step (given tree.other_exceptions s) (where_allowed b (given tree.other_exceptions s)) (refl)
      (allowed_keeps s b (given tree.other_exceptions s) (refl)))

  pub all_caught_keep : (s : State) (b : Bool) (q : Pos) (cs : List ExceptionChoice) → IfOk (all_caught env s b q cs).answer (Behind s)
  all_caught_keep s b q [] = refl
  all_caught_keep s b q (c ∷ cs) =
      answered (Behind s) q _
      (part_so (Behind s) (Behind s) (caught env s b c).answer
      (λ d. all_caught env d.next b q cs >>= (λ ds. rule (Some (given (d.value ∷ ds.value) ds.next)))) (caught_keeps s b c)
      (λ d h. part_so (Behind d.next) (Behind s) (all_caught env d.next b q cs).answer (λ ds. rule (Some (given (d.value ∷ ds.value) ds.next)))
      (all_caught_keep d.next b q cs) (λ ds k. statics_both s d.next ds.next h k)))

-- the components of a record
fields_keep : (env : Env) (s : State) (q : Pos) (cs : List Component) → IfOk (fields_of env s q cs).answer (Behind s)
fields_keep env s q [] = refl
fields_keep env s q (c ∷ cs) =
    answered (Behind s) q _
    (part_so (λ x. Unit {0}) (Behind s) (hide_all q env.local c.names).answer
    (λ names. indicated (with_local env names) s c.indication
    >>= (λ t. fields_of (with_local env (all_as component names c.names)) t.next q cs
    >>= (λ fs. rule (Some (given (with_fields c.names t.value fs.value) fs.next)))))
    (any_answer (hide_all q env.local c.names).answer)
    (λ names u. part_so (Behind s) (Behind s) (indicated (with_local env names) s c.indication).answer
    (λ t. fields_of (with_local env (all_as component names c.names)) t.next q cs >>= (λ fs. rule (Some (given (with_fields c.names t.value fs.value) fs.next))))
    (indicated_keeps (with_local env names) s c.indication)
    (λ t h. part_so (Behind t.next) (Behind s) (fields_of (with_local env (all_as component names c.names)) t.next q cs).answer
    (λ fs. rule (Some (given (with_fields c.names t.value fs.value) fs.next)))
    (fields_keep (with_local env (all_as component names c.names)) t.next q cs)
    (λ fs k. statics_both s t.next fs.next h k))))

pub defined_keeps : (env : Env) (s : State) (q : Pos) (i : Identity) (d : TypeDefinition) → IfOk (defined env s q i d).answer (Behind s)
defined_keeps env s q i (definition.Integer b) =
    answered (Behind s) q _
    (part_so (Behind s) (Behind s) (bounded env s is_integral base b).answer
    (λ r. rule (Some (unchanged env.local (of_type (integer_type i) r.value) r.next))) (bounded_keeps env s is_integral base b) (λ r h. h))
defined_keeps env s q i (definition.Enumeration names) =
    answered (Behind s) q _
    (part_so (λ x. Unit {0}) (Behind s) (hide_all q env.local names).answer (λ region. rule (Some (given (enumerated i region names) s)))
    (any_answer (hide_all q env.local names).answer) (λ region u. refl))
defined_keeps env s q i (definition.Array r c) =
    answered (Behind s) q _
    (part_so (Behind s) (Behind s) (index_of env s r).answer
    (λ x. indicated env x.next c >>= (λ t. rule (Some (unchanged env.local (of_type (array_type i x.value t.value) base) t.next))))
    (index_keeps env s r)
    (λ x h. part_so (Behind x.next) (Behind s) (indicated env x.next c).answer
    (λ t. rule (Some (unchanged env.local (of_type (array_type i x.value t.value) base) t.next))) (indicated_keeps env x.next c)
    (λ t k. statics_both s x.next t.next h k)))
defined_keeps env s q i (definition.Record cs) =
    answered (Behind s) q _
    (part_so (Behind s) (Behind s) (fields_of (opened env) s q cs).answer
    (λ fs. rule (Some (unchanged env.local (of_type (record_type i fs.value) base) fs.next))) (fields_keep (opened env) s q cs) (λ fs h. h))
