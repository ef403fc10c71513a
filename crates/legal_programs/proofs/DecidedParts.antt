-- What stands in declarations and statements: static expressions and types have no decisions, and values have those of their expressions.
use Rattle.std.proofs.Common.{◌≡◌, ℕ, Bool, true, false, if◌then◌else◌, List, [], ◌∷◌, ◌++◌, Option, Some, None, option_map, IfSome, IfOk, refl, sym, ap, ◌∙◌}
use Rattle.std.specs.Prelude.{not, unwrap_or}
use Rattle.std.specs.Option.{option_and_then}
use Rattle.cov_base.specs.declared.position.Pos.{Pos}
use Rattle.ada_syntax.specs.Tree as source
use Rattle.ada_syntax.specs.Tree.{expr_pos, name_pos}
use Rattle.ada_syntax.specs.declared.declaration.Bounds.{Bounds}
use Rattle.ada_syntax.specs.declared.declaration.Component.{Component}
use Rattle.ada_syntax.specs.declared.declaration.Constancy.{Constancy}
use Rattle.ada_syntax.specs.declared.declaration.Constancy.TheVariants as constancy
use Rattle.ada_syntax.specs.declared.declaration.DiscreteRange.{DiscreteRange}
use Rattle.ada_syntax.specs.declared.declaration.DiscreteRange.TheVariants as discrete
use Rattle.ada_syntax.specs.declared.declaration.Initial.{Initial}
use Rattle.ada_syntax.specs.declared.declaration.SubtypeIndication.{SubtypeIndication}
use Rattle.ada_syntax.specs.declared.declaration.TypeDefinition.{TypeDefinition}
use Rattle.ada_syntax.specs.declared.declaration.TypeDefinition.TheVariants as definition
use Rattle.ada_syntax.specs.declared.statement.Choice.{Choice}
use Rattle.ada_syntax.specs.declared.statement.Choice.TheVariants as choice
use Rattle.ada_syntax.specs.declared.statement.ExceptionChoice.{ExceptionChoice}
use Rattle.ada_syntax.specs.declared.statement.ExceptionChoice.TheVariants as taken
use Rattle.ada_meaning.specs.Collected.{in_expr, in_parts, in_value, in_turns}
use Rattle.ada_meaning.specs.Tree as tree
use Rattle.ada_meaning.specs.Types.{Static, Range}
use Rattle.ada_rules.specs.Plan.{◌>>=◌, rule}
use Rattle.ada_rules.specs.Types.{Identity, integer_type, enumeration, formal_type, array_type, record_type, AdaSubtype, of_type, type_in, range_in, base, integer_subtype, Kind, is_integral, is_discrete, is_scalar, fits, common, subtype_in_tree}
use Rattle.ada_rules.specs.Entities.{key, component, Variable, Region, redefined}
use Rattle.ada_syntax.specs.declared.name.Identifier.{Identifier}
use Rattle.ada_rules.specs.Environment.{Step, naming, typing, typed_rule, State, Given, given, map_given, Env, with_local, opened, demanded, hide_all}
use Rattle.ada_rules.specs.Denoted.{Judged, Denoted, a_mark, a_variable, an_exception, expr_of}
use Rattle.ada_rules.specs.Expressions.{itself, is_circuit, denoted, judged, Valued, any_valued, value_named, static_known, accepted, static_part, Marked, any_mark, marked, mark_or_any, mark_part, scalar_only, scalar_mark}
use Rattle.ada_rules.specs.Declarations.{in_range, ordered, bounded, constrained, constraint_of, indicated, index_between, index_of, with_fields, all_as, fields_of, enumerated, unchanged, defined, value_for, any_value, known_of, NewValue, value_place, new_value, numbered, known_constant}
use Rattle.ada_rules.specs.Statements.{any_variable, writable, target, Selector, any_selector, selector_of, selector, among, chosen, all_chosen, any_turns, turns_between, turns_over, Turns, turned, exception_of, where_allowed, caught, all_caught}
use Rattle.ada_rules.specs.Statics.{Test, in_order}
use Rattle.legal_laws.proofs.KeptStatics.{named_only}
use Rattle.legal_laws.proofs.Passing.{IfPassed, if_map, if_then, if_test, if_not, answered, ruled_so, part_so, typed_so, typed_either, any_answer}
use Rattle.legal_programs.specs.Deciding.{Decides, IsWholeRegion, IsWholeEnv, in_form, in_denoted, IsPlain, IsClear, DenotesFrom, JudgesFrom}
use Rattle.legal_programs.proofs.Deciding.{decides_none, decides_same, decides_joined, decides_as, decides_behind}
use Rattle.legal_programs.proofs.DecidedExpressions.{in_expr_of, any_of, denoted_decides, judged_decides}
use Rattle.legal_programs.proofs.WholeRegions.{local_whole, opened_whole, all_hidden_whole, redefined_whole}

-- nothing is decided
abbrev pub Calm : {A : Type 0} → State → Given A → Type 0
Calm s g = Decides s [] g.next

calm_both : (s t u : State) → Decides s [] t → Decides t [] u → Decides s [] u
calm_both s t u h k = decides_behind s t u [] h k

calm_demanded : (env : Env) (q : Pos) (t : Test) (s : State) → Decides s [] (demanded env q t s)
calm_demanded env q t s = decides_none s (demanded env q t s) refl refl

known_calm : (o : Option ℕ) (env : Env) (e : Static) (s : State) → Decides s [] (static_known (record env { generic = o }) e s).next
known_calm None env e s = decides_same s
known_calm (Some g) env e s =
    decides_none s (value_named g e s).next (ap (λ x. x.decisions) (named_only g e s)) (ap (λ x. x.excesses) (named_only g e s))

pub constant_calm : (env : Env) (c : Constancy) (t : AdaSubtype) (f : Static → Option Static) (k : Option Static) (s : State)
    → Decides s [] (known_constant env c t f k s).next
constant_calm env constancy.Constant t f (Some e) s = numbered_calm env.generic (range_in t) e (f e) s
  where
    numbered_calm : (o : Option ℕ) (r : Range) (e : Static) (f : Option Static) (s : State) → Decides s [] (numbered o r e f s).next
    numbered_calm None r e f s = decides_same s
    numbered_calm (Some g) r e f s =
        decides_none s (numbered (Some g) r e f s).next (ap (λ x. x.decisions) (named_only g e s)) (ap (λ x. x.excesses) (named_only g e s))
constant_calm env constancy.Constant t f None s = decides_same s
constant_calm env constancy.Variable t f k s = decides_same s

mapped_calm : {A B : Type 0} (s t : State) (f : A → B) (x : Option A) → Decides s [] t → IfSome (option_map (λ v. given (f v) t) x) (Calm s)
mapped_calm s t f None h = tt
mapped_calm s t f (Some v) h = h

module _ (env : Env) (step : env.step ≡ typing) (is : IsWholeEnv env) where
  accepted_calm : (s : State) (q : Pos) (accepts : Kind → Bool) (test : Static → Test) (x : Given Judged) (o : Option Static)
      → IfSome o (λ e. (k : ℕ) → in_form k x.value.form ≡ []) → ((k : ℕ) → Decides s (in_form k x.value.form) x.next)
      → IfSome (option_and_then (accepted env x.next q accepts test x.value) o) (Calm s)
  accepted_calm s q accepts test x None known h = tt
  accepted_calm s q accepts test x (Some e) known h =
      let asked = demanded env q (test e) x.next in
      if_test (Calm s) (accepts x.value.kind) (Some (map_given (λ v. record { value = v; kind = x.value.kind }) (static_known env e asked)))
      (λ b. calm_both s asked (static_known env e asked).next
      (calm_both s x.next asked (decides_as s x.next (in_form 0 x.value.form) [] (known 0) (h 0)) (calm_demanded env q (test e) x.next))
      (known_calm env.generic env e asked))

  pub static_calm : (s : State) (accepts : Kind → Bool) (test : Static → Test) (e : source.Expr) → IfOk (static_part env s accepts test e).answer (Calm s)
  static_calm s accepts test e =
      answered (Calm s) (expr_pos e) _
      (part_so (JudgesFrom itself (is_circuit e) s) (Calm s) (judged env itself s e).answer
      (λ x. typed_rule env.step (given any_valued x.next) (option_and_then (accepted env x.next (expr_pos e) accepts test x.value) x.value.known))
      (judged_decides env step is itself s e)
      (λ x h. typed_so (Calm s) env.step (given any_valued x.next) _ step
      (accepted_calm s (expr_pos e) accepts test x x.value.known h.clear.known h.decides)))

  bounded_calm : (s : State) (accepts : Kind → Bool) (r : Range) (b : Bounds) → IfOk (bounded env s accepts r b).answer (Calm s)
  bounded_calm s accepts r b =
      answered (Calm s) (expr_pos b.low) _
      (part_so (Calm s) (Calm s) (static_part env s accepts (in_range r) b.low).answer
      (λ low. static_part env low.next accepts (in_range r) b.high >>= (λ high. rule (Some (ordered env (expr_pos b.low) low.value.value high.value.value high.next))))
      (static_calm s accepts (in_range r) b.low)
      (λ low h. part_so (Calm low.next) (Calm s) (static_part env low.next accepts (in_range r) b.high).answer
      (λ high. rule (Some (ordered env (expr_pos b.low) low.value.value high.value.value high.next)))
      (static_calm low.next accepts (in_range r) b.high)
      (λ high k. calm_both s low.next _ h (calm_both low.next high.next _ k
      (calm_demanded env (expr_pos b.low) (in_order low.value.value high.value.value) high.next)))))

  constraint_calm : (s : State) (m : Given Marked) (c : Option Bounds) → Decides s [] m.next → IfPassed (constraint_of env m c).outcome (Calm s)
  constraint_calm s m None h = h
  constraint_calm s m (Some b) h =
      part_so (Calm m.next) (Calm s) (bounded env m.next (fits (type_in m.value.subtype)) (range_in m.value.subtype) b).answer
      (λ r. typed_rule env.step (given m.value.subtype r.next) (constrained m.value r))
      (bounded_calm m.next (fits (type_in m.value.subtype)) (range_in m.value.subtype) b)
      (λ r k. typed_either (Calm s) env.step (given m.value.subtype r.next) (constrained m.value r) (calm_both s m.next r.next h k)
      (if_test (Calm s) (is_scalar (type_in m.value.subtype)) _ (λ b. calm_both s m.next r.next h k)))

  -- marks
  mark_calm_of : (s : State) (d : Given Denoted) → DenotesFrom s d → IfSome (option_map (λ m. given m d.next) (marked d.value)) (Calm s)
  mark_calm_of s d h = of_denoted d.value (h.decides 0)
    where
      of_denoted : (x : Denoted) → Decides s (in_denoted 0 x) d.next → IfSome (option_map (λ m. given m d.next) (marked x)) (Calm s)
      of_denoted (a_mark i t) k = k
      of_denoted x k = tt

  mark_any : (s : State) (d : Given Denoted) (e : Step) → e ≡ typing → DenotesFrom s d → IfSome (option_map (λ m. given m d.next) (mark_or_any e d.value)) (Calm s)
  mark_any s d naming same h = absurd (cc same)
  mark_any s d typing same h = mark_calm_of s d h

  pub mark_calm : (s : State) (n : source.Name) → IfOk (mark_part env s n).answer (Calm s)
  mark_calm s n =
      answered (Calm s) (name_pos n) _
      (part_so (DenotesFrom s) (Calm s) (denoted env s n).answer (λ d. rule (option_map (λ m. given m d.next) (mark_or_any env.step d.value)))
      (denoted_decides env step is s n)
      (λ d h. ruled_so (Calm s) (option_map (λ m. given m d.next) (mark_or_any env.step d.value)) (mark_any s d env.step step h)))

  scalar_calm_of : (s : State) (d : Given Denoted) → DenotesFrom s d → IfSome (option_map (λ m. given m d.next) (option_and_then scalar_only (marked d.value))) (Calm s)
  scalar_calm_of s d h = of_denoted d.value (h.decides 0)
    where
      of_mark : (m : Marked) (b : Bool) → Decides s [] d.next → IfSome (option_map (λ n. given n d.next) (if b then Some m else None)) (Calm s)
      of_mark m true k = k
      of_mark m false k = tt

      of_denoted : (x : Denoted) → Decides s (in_denoted 0 x) d.next → IfSome (option_map (λ m. given m d.next) (option_and_then scalar_only (marked x))) (Calm s)
      of_denoted (a_mark i t) k = of_mark (record { identity = Some i; subtype = t }) (is_scalar (type_in t)) k
      of_denoted x k = tt

  pub scalar_mark_calm : (s : State) (n : source.Name) → IfOk (scalar_mark env s n).answer (Calm s)
  scalar_mark_calm s n =
      answered (Calm s) (name_pos n) _
      (part_so (DenotesFrom s) (Calm s) (denoted env s n).answer
      (λ d. typed_rule env.step (given (unwrap_or (marked d.value) any_mark) d.next)
      (option_map (λ m. given m d.next) (option_and_then scalar_only (marked d.value))))
      (denoted_decides env step is s n)
      (λ d h. typed_so (Calm s) env.step (given (unwrap_or (marked d.value) any_mark) d.next) _ step (scalar_calm_of s d h)))

  pub indicated_calm : (s : State) (i : SubtypeIndication) → IfOk (indicated env s i).answer (Calm s)
  indicated_calm s i =
      answered (Calm s) (name_pos i.mark) _
      (part_so (Calm s) (Calm s) (mark_part env s i.mark).answer (λ m. constraint_of env m i.constraint) (mark_calm s i.mark)
      (λ m h. constraint_calm s m i.constraint h))

  between_calm : (s : State) (q : Pos) (low high : Given Valued) (c : Option Kind) → Decides s [] high.next
      → IfSome (option_map (index_between env q low high) c) (Calm s)
  between_calm s q low high None h = tt
  between_calm s q low high (Some k) h = calm_both s high.next _ h (calm_demanded env q (in_order low.value.value high.value.value) high.next)

  index_calm : (s : State) (r : DiscreteRange) → IfOk (index_of env s r).answer (Calm s)
  index_calm s (discrete.Mark n) =
      answered (Calm s) (name_pos n) _
      (part_so (Calm s) (Calm s) (scalar_mark env s n).answer (λ m. rule (Some (given m.value.subtype m.next))) (scalar_mark_calm s n) (λ m h. h))
  index_calm s (discrete.Bounds b) =
      answered (Calm s) (expr_pos b.low) _
      (part_so (Calm s) (Calm s) (static_part env s is_discrete (in_range base) b.low).answer
      (λ low. static_part env low.next is_discrete (in_range base) b.high >>= (λ high. typed_rule env.step (given integer_subtype high.next)
      (option_map (index_between env (expr_pos b.low) low high) (common low.value.kind high.value.kind))))
      (static_calm s is_discrete (in_range base) b.low)
      (λ low h. part_so (Calm low.next) (Calm s) (static_part env low.next is_discrete (in_range base) b.high).answer
      (λ high. typed_rule env.step (given integer_subtype high.next)
      (option_map (index_between env (expr_pos b.low) low high) (common low.value.kind high.value.kind)))
      (static_calm low.next is_discrete (in_range base) b.high)
      (λ high k. typed_either (Calm s) env.step (given integer_subtype high.next) _ (calm_both s low.next high.next h k)
      (between_calm s (expr_pos b.low) low high (common low.value.kind high.value.kind) (calm_both s low.next high.next h k)))))

  -- what an object is set to
  abbrev pub ValueFrom : State → Given NewValue → Type 0
  ValueFrom s g = (k : ℕ) → Decides s (in_value k g.value.value) g.next

  composite_value_in : (t : AdaSubtype) (x : Judged) (o : Option Variable) → IfSome o (λ v. (k : ℕ) → in_form k x.form ≡ in_parts k v.parts)
      → IfSome (option_map (λ v. tree.composite_value (subtype_in_tree t) v.object v.parts) o) (λ v. (k : ℕ) → in_value k v ≡ in_form k x.form)
  composite_value_in t x None h = tt
  composite_value_in t x (Some v) h = λ k. sym (h k)

  plain_value_in : (t : AdaSubtype) (x : Judged) → IsClear x → IsPlain x.form → IfSome (value_for t [] x) (λ v. (k : ℕ) → in_value k v ≡ in_form k x.form)
  plain_value_in (of_type (integer_type i) r) x c p = if_not _ (not (fits (integer_type i) x.kind)) _ (λ e k. in_expr_of k x p)
  plain_value_in (of_type (enumeration i n) r) x c p = if_not _ (not (fits (enumeration i n) x.kind)) _ (λ e k. in_expr_of k x p)
  plain_value_in (of_type (formal_type i j b) r) x c p = if_not _ (not (fits (formal_type i j b) x.kind)) _ (λ e k. in_expr_of k x p)
  plain_value_in (of_type (array_type i y z) r) x c p =
      if_not _ (not (fits (array_type i y z) x.kind)) _ (λ e. composite_value_in (of_type (array_type i y z) r) x x.variable c.variable)
  plain_value_in (of_type (record_type i fs) r) x c p =
      if_not _ (not (fits (record_type i fs) x.kind)) _ (λ e. composite_value_in (of_type (record_type i fs) r) x x.variable c.variable)

  pub value_in : (t : AdaSubtype) (ps : List Pos) (x : Judged) → IsClear x → IsPlain x.form → IfSome (value_for t ps x) (λ v. (k : ℕ) → in_value k v ≡ in_form k x.form)
  value_in t [] x c p = plain_value_in t x c p
  value_in (of_type (array_type i y z) r) (q ∷ ps) x c p =
      if_map (λ v. (k : ℕ) → in_value k v ≡ in_form k x.form) (λ v. (k : ℕ) → in_value k v ≡ in_form k x.form) (tree.others_value (range_in y)) (value_for z ps x)
      (value_in z ps x c p) (λ v h. h)
  value_in (of_type (integer_type i) r) (q ∷ ps) x c p = tt
  value_in (of_type (enumeration i n) r) (q ∷ ps) x c p = tt
  value_in (of_type (formal_type i j b) r) (q ∷ ps) x c p = tt
  value_in (of_type (record_type i fs) r) (q ∷ ps) x c p = tt

  pub new_value_decides : (s : State) (q : Pos) (t : AdaSubtype) (i : Initial) → IfOk (new_value env s q t i).answer (ValueFrom s)
  new_value_decides s q t i =
      answered (ValueFrom s) (value_place q t i.others) _
      (part_so (JudgesFrom itself (is_circuit i.value) s) (ValueFrom s) (judged env itself s i.value).answer
      (λ x. typed_rule env.step (given (record { value = any_value; known = None }) x.next)
      (option_map (λ v. given (record { value = v; known = known_of i.others x.value }) x.next) (value_for t i.others x.value)))
      (judged_decides env step is itself s i.value)
      (λ x h. typed_so (ValueFrom s) env.step _ _ step
      (if_map (λ v. (k : ℕ) → in_value k v ≡ in_form k x.value.form) (ValueFrom s) (λ v. given (record { value = v; known = known_of i.others x.value }) x.next) (value_for t i.others x.value)
      (value_in t i.others x.value h.clear h.is_plain)
      (λ v e k. decides_as s x.next (in_form k x.value.form) (in_value k v) (sym (e k)) (h.decides k)))))

  -- targets, selectors, turns
  abbrev pub TargetFrom : State → Given Variable → Type 0
  TargetFrom s g = (k : ℕ) → Decides s (in_parts k g.value.parts) g.next

  target_of : (s : State) (d : Given Denoted) → DenotesFrom s d → IfSome (option_map (λ v. given v d.next) (writable d.value)) (TargetFrom s)
  target_of s d h = of_denoted d.value h.decides
    where
      of_variable : (v : Variable) (b : Bool) → ((k : ℕ) → Decides s (in_parts k v.parts) d.next) → IfSome (option_map (λ w. given w d.next) (if b then Some v else None)) (TargetFrom s)
      of_variable v true k = k
      of_variable v false k = tt

      of_denoted : (x : Denoted) → ((k : ℕ) → Decides s (in_denoted k x) d.next) → IfSome (option_map (λ v. given v d.next) (writable x)) (TargetFrom s)
      of_denoted (a_variable v) k = of_variable v v.is_writable k
      of_denoted x k = tt

  pub target_decides : (s : State) (n : source.Name) → IfOk (target env s n).answer (TargetFrom s)
  target_decides s n =
      answered (TargetFrom s) (name_pos n) _
      (part_so (DenotesFrom s) (TargetFrom s) (denoted env s n).answer
      (λ d. typed_rule env.step (given any_variable d.next) (option_map (λ v. given v d.next) (writable d.value))) (denoted_decides env step is s n)
      (λ d h. typed_so (TargetFrom s) env.step (given any_variable d.next) _ step (target_of s d h)))

  abbrev pub SelectorFrom : State → Given Selector → Type 0
  SelectorFrom s g = (k : ℕ) → Decides s (in_expr k g.value.expr) g.next

  pub selector_decides : (s : State) (e : source.Expr) → IfOk (selector env s e).answer (SelectorFrom s)
  selector_decides s e =
      answered (SelectorFrom s) (expr_pos e) _
      (part_so (JudgesFrom itself (is_circuit e) s) (SelectorFrom s) (judged env itself s e).answer
      (λ x. typed_rule env.step (given any_selector x.next) (option_map (λ y. given y x.next) (selector_of x.value)))
      (judged_decides env step is itself s e)
      (λ x h. typed_so (SelectorFrom s) env.step (given any_selector x.next) _ step
      (if_map (λ y. (k : ℕ) → in_expr k y.expr ≡ in_form k x.value.form) (SelectorFrom s) (λ y. given y x.next) (selector_of x.value)
      (if_test (λ y. (k : ℕ) → in_expr k y.expr ≡ in_form k x.value.form) (is_discrete x.value.kind) _ (λ b k. in_expr_of k x.value h.is_plain))
      (λ y same k. decides_as s x.next (in_form k x.value.form) (in_expr k y.expr) (sym (same k)) (h.decides k)))))

  abbrev pub TurnsFrom : State → Given Turns → Type 0
  TurnsFrom s g = (k : ℕ) → Decides s (in_turns k g.value.over) g.next

  pub turned_decides : (s : State) (r : DiscreteRange) → IfOk (turned env s r).answer (TurnsFrom s)
  turned_decides s (discrete.Mark n) =
      answered (TurnsFrom s) (name_pos n) _
      (part_so (Calm s) (TurnsFrom s) (scalar_mark env s n).answer (λ m. rule (Some (given (turns_over m.value.subtype) m.next)))
      (scalar_mark_calm s n) (λ m h k. h))
  turned_decides s (discrete.Bounds b) =
      answered (TurnsFrom s) (expr_pos b.low) _
      (part_so (JudgesFrom itself (is_circuit b.low) s) (TurnsFrom s) (judged env itself s b.low).answer
      (λ x. judged env itself x.next b.high >>= (λ y. typed_rule env.step (given any_turns y.next)
      (option_map (λ t. given t y.next) (option_and_then (turns_between x.value y.value) (common x.value.kind y.value.kind)))))
      (judged_decides env step is itself s b.low)
      (λ x h. part_so (JudgesFrom itself (is_circuit b.high) x.next) (TurnsFrom s) (judged env itself x.next b.high).answer
      (λ y. typed_rule env.step (given any_turns y.next)
      (option_map (λ t. given t y.next) (option_and_then (turns_between x.value y.value) (common x.value.kind y.value.kind))))
      (judged_decides env step is itself x.next b.high)
      (λ y l. typed_so (TurnsFrom s) env.step (given any_turns y.next) _ step
      (if_map (λ t. (k : ℕ) → in_turns k t.over ≡ (in_expr k (expr_of x.value) ++ in_expr k (expr_of y.value))) (TurnsFrom s) (λ t. given t y.next)
      (option_and_then (turns_between x.value y.value) (common x.value.kind y.value.kind))
      (if_then (λ k. Unit {0}) (λ t. (k : ℕ) → in_turns k t.over ≡ (in_expr k (expr_of x.value) ++ in_expr k (expr_of y.value))) (turns_between x.value y.value)
      (common x.value.kind y.value.kind) (any_of (common x.value.kind y.value.kind))
      (λ c u. if_test (λ t. (k : ℕ) → in_turns k t.over ≡ (in_expr k (expr_of x.value) ++ in_expr k (expr_of y.value))) (is_discrete c) _ (λ b k. refl)))
      (λ t same k. decides_as s y.next (in_form k x.value.form ++ in_form k y.value.form) (in_turns k t.over)
      (sym (same k ∙ (λ i. in_expr_of k x.value h.is_plain i ++ in_expr_of k y.value l.is_plain i)))
      (decides_joined s x.next y.next _ _ (h.decides k) (l.decides k)))))))

  -- choices
  chosen_calm : (s : State) (x : Selector) (c : Choice) → IfOk (chosen env s x c).answer (Calm s)
  chosen_calm s x (choice.Value e) =
      answered (Calm s) (expr_pos e) _
      (part_so (Calm s) (Calm s) (static_part env s (fits x.type) (among x.values) e).answer
      (λ v. rule (Some (given (tree.value_choice v.value.value) v.next))) (static_calm s (fits x.type) (among x.values) e) (λ v h. h))
  chosen_calm s x (choice.Range b) =
      answered (Calm s) (expr_pos b.low) _
      (part_so (Calm s) (Calm s) (static_part env s (fits x.type) (among x.values) b.low).answer
      (λ low. static_part env low.next (fits x.type) (among x.values) b.high >>= (λ high. rule (Some (given (tree.range_choice low.value.value high.value.value)
      (demanded env (expr_pos b.low) (in_order low.value.value high.value.value) high.next)))))
      (static_calm s (fits x.type) (among x.values) b.low)
      (λ low h. part_so (Calm low.next) (Calm s) (static_part env low.next (fits x.type) (among x.values) b.high).answer
      (λ high. rule (Some (given (tree.range_choice low.value.value high.value.value)
      (demanded env (expr_pos b.low) (in_order low.value.value high.value.value) high.next))))
      (static_calm low.next (fits x.type) (among x.values) b.high)
      (λ high k. calm_both s low.next _ h (calm_both low.next high.next _ k
      (calm_demanded env (expr_pos b.low) (in_order low.value.value high.value.value) high.next)))))
  chosen_calm s x (choice.Others q) = decides_same s

  pub all_chosen_calm : (s : State) (x : Selector) (q : Pos) (cs : List Choice) → IfOk (all_chosen env s x q cs).answer (Calm s)
  all_chosen_calm s x q [] = decides_same s
  all_chosen_calm s x q (c ∷ cs) =
      answered (Calm s) q _
      (part_so (Calm s) (Calm s) (chosen env s x c).answer
      (λ d. all_chosen env d.next x q cs >>= (λ ds. rule (Some (given (d.value ∷ ds.value) ds.next)))) (chosen_calm s x c)
      (λ d h. part_so (Calm d.next) (Calm s) (all_chosen env d.next x q cs).answer (λ ds. rule (Some (given (d.value ∷ ds.value) ds.next)))
      (all_chosen_calm d.next x q cs) (λ ds k. calm_both s d.next ds.next h k)))

  -- exceptions
  pub exception_calm : {A : Type 0} (s : State) (d : Given Denoted) (f : tree.ExceptionName → A) → DenotesFrom s d
      → IfSome (option_map (λ e. given (f e) d.next) (exception_of d.value)) (Calm s)
  exception_calm s d f h = of_denoted d.value (h.decides 0)
    where
      of_denoted : (x : Denoted) → Decides s (in_denoted 0 x) d.next → IfSome (option_map (λ e. given (f e) d.next) (exception_of x)) (Calm s)
      of_denoted (an_exception e) k = k
      of_denoted x k = tt

  caught_calm : (s : State) (b : Bool) (c : ExceptionChoice) → IfOk (caught env s b c).answer (Calm s)
  caught_calm s b (taken.Named n) =
      answered (Calm s) (name_pos n) _
      (part_so (DenotesFrom s) (Calm s) (denoted env s n).answer
      (λ d. typed_rule env.step (given tree.other_exceptions d.next) (option_map (λ e. given (tree.named_exception e) d.next) (exception_of d.value)))
      (denoted_decides env step is s n)
      (λ d h. typed_so (Calm s) env.step (given tree.other_exceptions d.next) _ step (exception_calm s d tree.named_exception h)))
  caught_calm s b (taken.Others q) =
      answered (Calm s) q _
      (typed_either (Calm s) env.step (given tree.other_exceptions s) (where_allowed b (given tree.other_exceptions s)) (decides_same s)
      (if_test (Calm s) b (Some (given tree.other_exceptions s)) (λ e. decides_same s)))

  pub all_caught_calm : (s : State) (b : Bool) (q : Pos) (cs : List ExceptionChoice) → IfOk (all_caught env s b q cs).answer (Calm s)
  all_caught_calm s b q [] = decides_same s
  all_caught_calm s b q (c ∷ cs) =
      answered (Calm s) q _
      (part_so (Calm s) (Calm s) (caught env s b c).answer
      (λ d. all_caught env d.next b q cs >>= (λ ds. rule (Some (given (d.value ∷ ds.value) ds.next)))) (caught_calm s b c)
      (λ d h. part_so (Calm d.next) (Calm s) (all_caught env d.next b q cs).answer (λ ds. rule (Some (given (d.value ∷ ds.value) ds.next)))
      (all_caught_calm d.next b q cs) (λ ds k. calm_both s d.next ds.next h k)))

-- the components of a record, and types
all_as_whole : (region : Region) (is : List Identifier) → IsWholeRegion region → IsWholeRegion (all_as component region is)
all_as_whole region [] all = all
all_as_whole region (i ∷ is) all = all_as_whole (redefined (key i) component region) is (redefined_whole (key i) component region tt all)

pub fields_calm : (env : Env) → env.step ≡ typing → IsWholeEnv env → (s : State) (q : Pos) (cs : List Component) → IfOk (fields_of env s q cs).answer (Calm s)
fields_calm env step is s q [] = decides_same s
fields_calm env step is s q (c ∷ cs) =
    answered (Calm s) q _
    (part_so IsWholeRegion (Calm s) (hide_all q env.local c.names).answer
    (λ names. indicated (with_local env names) s c.indication
    >>= (λ t. fields_of (with_local env (all_as component names c.names)) t.next q cs
    >>= (λ fs. rule (Some (given (with_fields c.names t.value fs.value) fs.next)))))
    (all_hidden_whole q env.local c.names is.regions.0)
    (λ names u. part_so (Calm s) (Calm s) (indicated (with_local env names) s c.indication).answer
    (λ t. fields_of (with_local env (all_as component names c.names)) t.next q cs >>= (λ fs. rule (Some (given (with_fields c.names t.value fs.value) fs.next))))
    (indicated_calm (with_local env names) step (local_whole env names is u) s c.indication)
    (λ t h. part_so (Calm t.next) (Calm s) (fields_of (with_local env (all_as component names c.names)) t.next q cs).answer
    (λ fs. rule (Some (given (with_fields c.names t.value fs.value) fs.next)))
    (fields_calm (with_local env (all_as component names c.names)) step (local_whole env (all_as component names c.names) is (all_as_whole names c.names u)) t.next q cs)
    (λ fs k. calm_both s t.next fs.next h k))))

pub defined_calm : (env : Env) → env.step ≡ typing → IsWholeEnv env → (s : State) (q : Pos) (i : Identity) (d : TypeDefinition) → IfOk (defined env s q i d).answer (Calm s)
defined_calm env step is s q i (definition.Integer b) =
    answered (Calm s) q _
    (part_so (Calm s) (Calm s) (bounded env s is_integral base b).answer
    (λ r. rule (Some (unchanged env.local (of_type (integer_type i) r.value) r.next))) (bounded_calm env step is s is_integral base b) (λ r h. h))
defined_calm env step is s q i (definition.Enumeration names) =
    answered (Calm s) q _
    (part_so (λ x. Unit {0}) (Calm s) (hide_all q env.local names).answer (λ region. rule (Some (given (enumerated i region names) s)))
    (any_answer (hide_all q env.local names).answer) (λ region u. decides_same s))
defined_calm env step is s q i (definition.Array r c) =
    answered (Calm s) q _
    (part_so (Calm s) (Calm s) (index_of env s r).answer
    (λ x. indicated env x.next c >>= (λ t. rule (Some (unchanged env.local (of_type (array_type i x.value t.value) base) t.next))))
    (index_calm env step is s r)
    (λ x h. part_so (Calm x.next) (Calm s) (indicated env x.next c).answer
    (λ t. rule (Some (unchanged env.local (of_type (array_type i x.value t.value) base) t.next))) (indicated_calm env step is x.next c)
    (λ t k. calm_both s x.next t.next h k)))
defined_calm env step is s q i (definition.Record cs) =
    answered (Calm s) q _
    (part_so (Calm s) (Calm s) (fields_of (opened env) s q cs).answer
    (λ fs. rule (Some (unchanged env.local (of_type (record_type i fs.value) base) fs.next))) (fields_calm (opened env) step (opened_whole env is) s q cs) (λ fs h. h))
