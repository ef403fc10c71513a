-- Declarations and statements come to no more nodes than they have tokens that count outside declarations of types.
use Rattle.std.proofs.Common.{◌≡◌, ◌≤◌, ◌+◌, ℕ, suc, nat_eq, Bool, true, false, if◌then◌else◌, List, [], ◌∷◌, ◌++◌, length, Option, Some, None, option_map, IfSome, IfOk, refl, sym, ap, subst, arith}
use Rattle.std.specs.Prelude.{◌&&◌, not, is_none, sum_by}
use Rattle.std.specs.Option.{option_and_then}
use Rattle.std.proofs.lemmas.List.Sums.{sum_by-cons}
use Rattle.cov_base.specs.declared.position.Pos.{Pos}
use Rattle.ada_syntax.specs.Nodes.{if_present, expr_nodes, name_nodes, bounds_nodes, range_nodes, indication_nodes, initial_nodes, constancy_nodes, kind_nodes, choice_nodes, exception_choice_nodes, direction_nodes}
use Rattle.ada_syntax.specs.StatementTree as text
use Rattle.ada_syntax.specs.Tree as source
use Rattle.ada_syntax.specs.Tree.{expr_pos, name_pos}
use Rattle.ada_syntax.specs.declared.declaration.Constancy.{Constancy}
use Rattle.ada_syntax.specs.declared.declaration.Declaration.{Declaration}
use Rattle.ada_syntax.specs.declared.declaration.DeclarationKind.{DeclarationKind}
use Rattle.ada_syntax.specs.declared.declaration.DeclarationKind.TheVariants as declares
use Rattle.ada_syntax.specs.declared.declaration.DiscreteRange.{DiscreteRange}
use Rattle.ada_syntax.specs.declared.declaration.DiscreteRange.TheVariants as discrete
use Rattle.ada_syntax.specs.declared.declaration.Initial.{Initial}
use Rattle.ada_syntax.specs.declared.declaration.SubtypeIndication.{SubtypeIndication}
use Rattle.ada_syntax.specs.declared.name.Identifier.{Identifier}
use Rattle.ada_syntax.specs.declared.statement.Choice.{Choice}
use Rattle.ada_syntax.specs.declared.statement.Choice.TheVariants as choice
use Rattle.ada_syntax.specs.declared.statement.ExceptionChoice.{ExceptionChoice}
use Rattle.ada_syntax.specs.declared.statement.ExceptionChoice.TheVariants as taken
use Rattle.ada_syntax.specs.declared.statement.LoopScheme.TheVariants as scheme
use Rattle.ada_meaning.specs.Tree as tree
use Rattle.ada_rules.specs.Plan.{◌>>=◌, rule}
use Rattle.ada_rules.specs.Types.{integer_type, enumeration, formal_type, array_type, record_type, AdaSubtype, of_type, type_in, range_in, is_discrete, fits, common, subtype_in_tree}
use Rattle.ada_rules.specs.Entities.{key, Variable, Parameter, Region}
use Rattle.ada_rules.specs.Environment.{typing, Returning, no_result, result_of, typed_rule, State, Given, given, Env, with_local, opened, in_loop, in_handler, new_identity, one_type_more, hide, hide_all, statement_label, started}
use Rattle.ada_rules.specs.Denoted.{Judged, Denoted, a_routine, a_call, a_variable, an_exception, expr_of}
use Rattle.ada_rules.specs.Expressions.{itself, denoted, judged, decision, scalar_mark}
use Rattle.ada_rules.specs.Declarations.{indicated, defined, NewValue, value_place, new_value, any_value, known_of, value_for, Declared, may_be_bare, one_name, bare_declarations, local_bare, local_set, objects_declared, exceptions_from, type_declared, subtype_declared, kind_declared, declared, all_declared}
use Rattle.ada_rules.specs.Statements.{stmts_of, one, any_variable, writable, target, call_of, Chosen, branches_of, Selector, any_selector, selector_of, selector, chosen, all_chosen, Arm, alternatives_of, ends_with_others, case_of, Turns, any_turns, turns_between, turns_over, turned, loop_parameter, one_object_more, is_reverse, returned, returned_value, exception_of, where_allowed, caught, all_caught, is_last, declarations_in, Frame, block_of, typed_stmt, stated, all_stated, branched, all_arms, all_handlers, all_handled}
use Rattle.legal_laws.proofs.KnownObjects.{of_one}
use Rattle.legal_laws.proofs.NumberedObjects.{exceptions_made, inside_only, mapped_any}
use Rattle.legal_laws.proofs.Passing.{IfPassed, if_map, if_then, if_test, if_not, answered, part_so, typed_so, both_ok, any_answer, some_so}
use Rattle.legal_programs.specs.Deciding.{IsWholeRegion, IsWholeEnv}
use Rattle.legal_programs.proofs.WholeRegions.{local_whole, opened_whole, loop_whole, handler_whole, hidden_whole, all_hidden_whole, RegionWhole, declared_whole}
use Rattle.legal_counts.specs.Choices.{IsFilled, HasChoices, HaveChoices, BranchesHaveChoices, AlternativesHaveChoices, HandlersHaveChoices, HandledHasChoices}
use Rattle.statement_code.specs.Sizes as size
use Rattle.legal_programs.proofs.DecidedExpressions.{any_of}
use Rattle.legal_counts.proofs.NodesOfExpressions.{FewIn, NameIn, expr_in, denoted_few, judged_few, DecisionIn, decision_few}
use Rattle.legal_counts.proofs.OutsideTypes.{kind_outside, declaration_outside, statement_outside, statements_outside, else_outside, branches_outside, alternatives_outside, handlers_outside, handled_outside, exception_part_outside}

-- each name and each expression has a token
some_token : (n m : ℕ) → 1 ≤ n → 1 ≤ n + m
some_token n m h = omega (arith, h)

first_token : (n : ℕ) → 1 ≤ 1 + n
first_token n = omega (arith)

middle_token : (a b : ℕ) → 1 ≤ a + 1 + b
middle_token a b = omega (arith)

one_token : (n : source.Name) → 1 ≤ name_nodes n
one_token (source.simple i) = first_token 0
one_token (source.selected n i) = some_token (name_nodes n) 1 (one_token n)
one_token (source.attribute n i) = some_token (name_nodes n) 1 (one_token n)
one_token (source.applied n es) = some_token (name_nodes n) _ (one_token n)

expr_token : (e : source.Expr) → 1 ≤ expr_nodes e
expr_token (source.numeral p n) = first_token 0
expr_token (source.named p n) = one_token n
expr_token (source.parenthesized p e) = expr_token e
expr_token (source.unary p op e) = first_token (expr_nodes e)
expr_token (source.binary p a op b) = middle_token (expr_nodes a) (expr_nodes b)
expr_token (source.relation p a op b) = middle_token (expr_nodes a) (expr_nodes b)
expr_token (source.logical p a op b) = some_token_of (expr_nodes a) _ (expr_nodes b) (expr_token a)
  where
    some_token_of : (a b c : ℕ) → 1 ≤ a → 1 ≤ a + b + c
    some_token_of a b c h = omega (arith, h)

-- what an object is set to
composite_few : (c : ℕ) (t : AdaSubtype) (o : Option Variable) → IfSome o (λ v. suc (size.parts_nodes v.parts) ≤ c)
    → IfSome (option_map (λ v. tree.composite_value (subtype_in_tree t) v.object v.parts) o) (λ v. size.value_nodes v ≤ c)
composite_few c t None h = tt
composite_few c t (Some v) h = h

plain_value_few : (c : ℕ) (t : AdaSubtype) (x : Judged) → FewIn c x → IfSome (value_for t [] x) (λ v. size.value_nodes v ≤ c)
plain_value_few c (of_type (integer_type i) r) x h = if_not _ (not (fits (integer_type i) x.kind)) _ (λ e. expr_in c x h)
plain_value_few c (of_type (enumeration i n) r) x h = if_not _ (not (fits (enumeration i n) x.kind)) _ (λ e. expr_in c x h)
plain_value_few c (of_type (formal_type i j b) r) x h = if_not _ (not (fits (formal_type i j b) x.kind)) _ (λ e. expr_in c x h)
plain_value_few c (of_type (array_type i y z) r) x h =
    if_not _ (not (fits (array_type i y z) x.kind)) _ (λ e. composite_few c (of_type (array_type i y z) r) x.variable h.variable)
plain_value_few c (of_type (record_type i fs) r) x h =
    if_not _ (not (fits (record_type i fs) x.kind)) _ (λ e. composite_few c (of_type (record_type i fs) r) x.variable h.variable)

value_few : (c top : ℕ) (t : AdaSubtype) (ps : List Pos) (x : Judged) → length ps + c ≤ top → FewIn c x → IfSome (value_for t ps x) (λ v. size.value_nodes v ≤ top)
value_few c top t [] x le h =
    some_so (λ v. size.value_nodes v ≤ c) (λ v. size.value_nodes v ≤ top) (value_for t [] x) (λ v k. omega (arith, le, k)) (plain_value_few c t x h)
value_few c top (of_type (array_type i y z) r) (q ∷ ps) x le h =
    if_map (λ v. size.value_nodes v ≤ length ps + c) (λ v. size.value_nodes v ≤ top) (tree.others_value (range_in y)) (value_for z ps x)
    (value_few c (length ps + c) z ps x (at_itself (length ps + c)) h) (λ v k. one_before (size.value_nodes v) k)
  where
    at_itself : (n : ℕ) → n ≤ n
    at_itself n = omega (arith)

    one_before : (n : ℕ) → n ≤ length ps + c → suc n ≤ top
    one_before n k = omega (arith, le, k)
value_few c top (of_type (integer_type i) r) (q ∷ ps) x le h = tt
value_few c top (of_type (enumeration i n) r) (q ∷ ps) x le h = tt
value_few c top (of_type (formal_type i j b) r) (q ∷ ps) x le h = tt
value_few c top (of_type (record_type i fs) r) (q ∷ ps) x le h = tt

same_nodes : (n : ℕ) → n ≤ n
same_nodes n = omega (arith)

nothing_in : (n : ℕ) → 0 ≤ n
nothing_in n = omega (arith)

module _ (env : Env) (step : env.step ≡ typing) (is : IsWholeEnv env) where
  abbrev SetIn : ℕ → Given NewValue → Type 0
  SetIn c g = size.value_nodes g.value.value ≤ c

  new_value_few : (s : State) (q : Pos) (t : AdaSubtype) (i : Initial) → IfOk (new_value env s q t i).answer (SetIn (initial_nodes i))
  new_value_few s q t i =
      answered (SetIn (initial_nodes i)) (value_place q t i.others) _
      (part_so (λ x. FewIn (expr_nodes i.value) x.value) (SetIn (initial_nodes i)) (judged env itself s i.value).answer
      (λ x. typed_rule env.step (given (record { value = any_value; known = None }) x.next)
      (option_map (λ v. given (record { value = v; known = known_of i.others x.value }) x.next) (value_for t i.others x.value)))
      (judged_few env step is itself s i.value)
      (λ x h. typed_so (SetIn (initial_nodes i)) env.step _ _ step
      (if_map (λ v. size.value_nodes v ≤ initial_nodes i) (SetIn (initial_nodes i))
      (λ v. given (record { value = v; known = known_of i.others x.value }) x.next) (value_for t i.others x.value)
      (value_few (expr_nodes i.value) (initial_nodes i) t i.others x.value (same_nodes (length i.others + expr_nodes i.value)) h)
      (λ v k. k))))

  -- targets, selectors and the ranges of loops
  abbrev TargetIn : ℕ → Given Variable → Type 0
  TargetIn c g = suc (size.parts_nodes g.value.parts) ≤ c

  target_of : (c : ℕ) (t : State) (d : Denoted) → NameIn c d → IfSome (option_map (λ v. given v t) (writable d)) (TargetIn c)
  target_of c t (a_variable v) h = of_variable v.is_writable
    where
      of_variable : (b : Bool) → IfSome (option_map (λ w. given w t) (if b then Some v else None)) (TargetIn c)
      of_variable true = h
      of_variable false = tt
  target_of c t d h = tt

  target_few : (s : State) (n : source.Name) → IfOk (target env s n).answer (TargetIn (name_nodes n))
  target_few s n =
      answered (TargetIn (name_nodes n)) (name_pos n) _
      (part_so (λ d. NameIn (name_nodes n) d.value) (TargetIn (name_nodes n)) (denoted env s n).answer
      (λ d. typed_rule env.step (given any_variable d.next) (option_map (λ v. given v d.next) (writable d.value))) (denoted_few env step is s n)
      (λ d h. typed_so (TargetIn (name_nodes n)) env.step (given any_variable d.next) _ step (target_of (name_nodes n) d.next d.value h)))

  abbrev SelectorIn : ℕ → Given Selector → Type 0
  SelectorIn c g = size.expr_nodes g.value.expr ≤ c

  selector_few : (s : State) (e : source.Expr) → IfOk (selector env s e).answer (SelectorIn (expr_nodes e))
  selector_few s e =
      answered (SelectorIn (expr_nodes e)) (expr_pos e) _
      (part_so (λ x. FewIn (expr_nodes e) x.value) (SelectorIn (expr_nodes e)) (judged env itself s e).answer
      (λ x. typed_rule env.step (given any_selector x.next) (option_map (λ y. given y x.next) (selector_of x.value)))
      (judged_few env step is itself s e)
      (λ x h. typed_so (SelectorIn (expr_nodes e)) env.step (given any_selector x.next) _ step
      (if_map (λ y. size.expr_nodes y.expr ≤ expr_nodes e) (SelectorIn (expr_nodes e)) (λ y. given y x.next) (selector_of x.value)
      (if_test (λ y. size.expr_nodes y.expr ≤ expr_nodes e) (is_discrete x.value.kind) _ (λ b. expr_in (expr_nodes e) x.value h))
      (λ y k. k))))

  abbrev TurnsIn : ℕ → Given Turns → Type 0
  TurnsIn c g = size.range_nodes g.value.over ≤ c

  turned_few : (s : State) (r : DiscreteRange) → IfOk (turned env s r).answer (TurnsIn (range_nodes r))
  turned_few s (discrete.Mark n) =
      answered (TurnsIn (name_nodes n)) (name_pos n) _
      (part_so (λ m. Unit {0}) (TurnsIn (name_nodes n)) (scalar_mark env s n).answer (λ m. rule (Some (given (turns_over m.value.subtype) m.next)))
      (any_answer (scalar_mark env s n).answer) (λ m u. one_token n))
  turned_few s (discrete.Bounds b) =
      let all = bounds_nodes b in
      answered (TurnsIn all) (expr_pos b.low) _
      (part_so (λ x. FewIn (expr_nodes b.low) x.value) (TurnsIn all) (judged env itself s b.low).answer
      (λ x. judged env itself x.next b.high >>= (λ y. typed_rule env.step (given any_turns y.next)
      (option_map (λ t. given t y.next) (option_and_then (turns_between x.value y.value) (common x.value.kind y.value.kind)))))
      (judged_few env step is itself s b.low)
      (λ x h. part_so (λ y. FewIn (expr_nodes b.high) y.value) (TurnsIn all) (judged env itself x.next b.high).answer
      (λ y. typed_rule env.step (given any_turns y.next)
      (option_map (λ t. given t y.next) (option_and_then (turns_between x.value y.value) (common x.value.kind y.value.kind))))
      (judged_few env step is itself x.next b.high)
      (λ y l. typed_so (TurnsIn all) env.step (given any_turns y.next) _ step
      (if_map (λ t. size.range_nodes t.over ≤ all) (TurnsIn all) (λ t. given t y.next)
      (option_and_then (turns_between x.value y.value) (common x.value.kind y.value.kind))
      (if_then (λ k. Unit {0}) (λ t. size.range_nodes t.over ≤ all) (turns_between x.value y.value) (common x.value.kind y.value.kind) (any_of (common x.value.kind y.value.kind))
      (λ c u. if_test (λ t. size.range_nodes t.over ≤ all) (is_discrete c) _
      (λ b2. around (size.expr_nodes (expr_of x.value)) (size.expr_nodes (expr_of y.value)) (expr_nodes b.low) (expr_nodes b.high) (expr_in (expr_nodes b.low) x.value h) (expr_in (expr_nodes b.high) y.value l))))
      (λ t k. k)))))
    where
      around : (a b m n : ℕ) → a ≤ m → b ≤ n → a + b ≤ m + 1 + n
      around a b m n h k = omega (arith, h, k)

-- declarations
abbrev pub Declares : ℕ → Declared → Type 0
Declares c x = size.declarations_nodes x.made ≤ c

bare_nodes : (t : AdaSubtype) (n : ℕ) (is : List Identifier) → size.declarations_nodes (bare_declarations t n is) ≡ length is
bare_nodes t n [] = refl
bare_nodes t n (i ∷ is) = next (size.declarations_nodes (bare_declarations t (n + 1) is)) (length is) (bare_nodes t (n + 1) is)
  where
    next : (a b : ℕ) → a ≡ b → 1 + a ≡ suc b
    next a b e = omega (arith, e)

both_declared : (ds es : List tree.Declaration) → size.declarations_nodes (ds ++ es) ≡ size.declarations_nodes ds + size.declarations_nodes es
both_declared [] es = none (size.declarations_nodes es)
  where
    none : (n : ℕ) → n ≡ 0 + n
    none n = omega (arith)
both_declared (d ∷ ds) es = next (size.declaration_nodes d) (size.declarations_nodes (ds ++ es)) (size.declarations_nodes ds) (size.declarations_nodes es) (both_declared ds es)
  where
    next : (n a b c : ℕ) → a ≡ b + c → n + a ≡ (n + b) + c
    next n a b c e = omega (arith, e)

module _ (env : Env) (step : env.step ≡ typing) (whole : IsWholeEnv env) (inside : env.is_library ≡ false) where
  objects_few : (q : Pos) (c : Constancy) (region : Region) (h : IsWholeRegion region) (is : List Identifier) (x : SubtypeIndication) (t : Given AdaSubtype) (i : Option Initial)
      → IfPassed (objects_declared env q c region is t i).outcome (Declares (kind_nodes (declares.Object is c x i)))
  objects_few q c region h is x t None =
      let all = kind_nodes (declares.Object is c x None) in
      inside_only (Declares all) env.is_library _ _ inside
      (typed_so (Declares all) env.step (local_bare c region is t) (option_map (λ u. local_bare c region is t) (may_be_bare c)) step
      (mapped_any (Declares all) (may_be_bare c) (local_bare c region is t)
      (bare_in (size.declarations_nodes (bare_declarations t.value t.next.objects is)) (length is) (constancy_nodes c) (indication_nodes x) (bare_nodes t.value t.next.objects is))))
    where
      bare_in : (n m a b : ℕ) → n ≡ m → n ≤ m + a + b + 0
      bare_in n m a b e = omega (arith, e)
  objects_few q c region h is x t (Some i) =
      let all = kind_nodes (declares.Object is c x (Some i)) in
      inside_only (Declares all) env.is_library _ _ inside
      (part_so (SetIn (with_local env region) step (local_whole env region whole h) (initial_nodes i)) (Declares all) (new_value (with_local env region) t.next q t.value i).answer
      (λ v. typed_rule env.step (local_set env q c region is t.value v) (option_map (λ u. local_set env q c region is t.value v) (one_name is)))
      (new_value_few (with_local env region) step (local_whole env region whole h) t.next q t.value i)
      (λ v l. typed_so (Declares all) env.step _ _ step
      (of_one (Declares all) is (λ js. local_set env q c region js t.value v) tt
      (λ j same. set_in (size.value_nodes v.value.value) (length is) (constancy_nodes c) (indication_nodes x) (initial_nodes i) l))))
    where
      set_in : (n m a b d : ℕ) → n ≤ d → suc n + 0 ≤ m + a + b + (1 + d)
      set_in n m a b d h = omega (arith, h)

  kind_few : (s : State) (q : Pos) (d : DeclarationKind) → IfPassed (kind_declared env s q d).outcome (Declares (kind_outside d))
  kind_few s q (declares.Type i d) =
      let all = kind_outside (declares.Type i d) in
      part_so (λ x. Unit {0}) (Declares all) (hide env.local i).answer
      (λ region. defined (with_local env region) (one_type_more s) q (new_identity env s) d >>= (λ x. rule (Some (type_declared env q i (new_identity env s) x))))
      (any_answer (hide env.local i).answer)
      (λ region u. part_so (λ x. Unit {0}) (Declares all) (defined (with_local env region) (one_type_more s) q (new_identity env s) d).answer
      (λ x. rule (Some (type_declared env q i (new_identity env s) x))) (any_answer (defined (with_local env region) (one_type_more s) q (new_identity env s) d).answer)
      (λ x h. nothing_in all))
  kind_few s q (declares.Subtype i t) =
      let all = kind_nodes (declares.Subtype i t) in
      part_so (λ x. Unit {0}) (Declares all) (hide env.local i).answer
      (λ region. indicated (with_local env region) (one_type_more s) t >>= (λ x. rule (Some (subtype_declared i region (new_identity env s) x))))
      (any_answer (hide env.local i).answer)
      (λ region u. part_so (λ x. Unit {0}) (Declares all) (indicated (with_local env region) (one_type_more s) t).answer
      (λ x. rule (Some (subtype_declared i region (new_identity env s) x))) (any_answer (indicated (with_local env region) (one_type_more s) t).answer)
      (λ x h. nothing_in all))
  kind_few s q (declares.Object is c t i) =
      let all = kind_nodes (declares.Object is c t i) in
      part_so IsWholeRegion (Declares all) (hide_all q env.local is).answer
      (λ region. indicated (with_local env region) s t >>= (λ x. objects_declared env q c region is x i)) (all_hidden_whole q env.local is whole.regions.0)
      (λ region h. part_so (λ x. Unit {0}) (Declares all) (indicated (with_local env region) s t).answer (λ x. objects_declared env q c region is x i)
      (any_answer (indicated (with_local env region) s t).answer) (λ x u. objects_few q c region h is t x i))
  kind_few s q (declares.Exception is) =
      let all = kind_outside (declares.Exception is) in
      part_so (λ x. Unit {0}) (Declares all) (hide_all q env.local is).answer (λ region. rule (Some (exceptions_from env s region is)))
      (any_answer (hide_all q env.local is).answer)
      (λ region u. subst (λ ds. size.declarations_nodes ds ≤ all) (sym (exceptions_made env s region is)) (nothing_in all))
  kind_few s q (declares.Pragma a) = nothing_in (kind_nodes (declares.Pragma a))

  declaration_few : (s : State) (d : Declaration) → IfOk (declared env s d).answer (Declares (declaration_outside d))
  declaration_few s d = answered (Declares (declaration_outside d)) d.pos (kind_declared env s d.pos d.kind).outcome (kind_few s d.pos d.kind)

abbrev pub DeclaresIn : ℕ → Declared → Type 0
DeclaresIn c x = Declares c x × RegionWhole x

pub declarations_few : (env : Env) (s : State) (q : Pos) (ds : List Declaration) → env.step ≡ typing → IsWholeEnv env → env.is_library ≡ false
    → IfOk (all_declared env s q ds).answer (DeclaresIn (sum_by declaration_outside ds))
declarations_few env s q [] step whole inside = (nothing_in (sum_by declaration_outside []), whole.regions.0)
declarations_few env s q (d ∷ ds) step whole inside =
    let all = sum_by declaration_outside (d ∷ ds) in
    answered (DeclaresIn all) q _
    (part_so (DeclaresIn (declaration_outside d)) (DeclaresIn all) (declared env s d).answer
    (λ x. all_declared (with_local env x.region) x.next q ds >>= (λ xs. rule (Some (record { region = xs.region; next = xs.next; made = x.made ++ xs.made }))))
    (both_ok (Declares (declaration_outside d)) RegionWhole (declared env s d).answer (declaration_few env step whole inside s d) (declared_whole env s d whole.regions.0))
    (λ x h. part_so (DeclaresIn (sum_by declaration_outside ds)) (DeclaresIn all) (all_declared (with_local env x.region) x.next q ds).answer
    (λ xs. rule (Some (record { region = xs.region; next = xs.next; made = x.made ++ xs.made })))
    (declarations_few (with_local env x.region) x.next q ds step (local_whole env x.region whole h.1) inside)
    (λ xs k. (
      all_in (size.declarations_nodes (x.made ++ xs.made)) (size.declarations_nodes x.made) (size.declarations_nodes xs.made) (declaration_outside d) (sum_by declaration_outside ds) all
          (both_declared x.made xs.made) (sum_by-cons declaration_outside d ds) h.0 k.0,
      k.1,
    ))))
  where
    all_in : (n a b c e all : ℕ) → n ≡ a + b → all ≡ c + e → a ≤ c → b ≤ e → n ≤ all
    all_in n a b c e all same sum h k = omega (arith, same, sum, h, k)

-- choices
chosen_count : (env : Env) (s : State) (x : Selector) (p : Pos) (cs : List Choice) → IfOk (all_chosen env s x p cs).answer (λ ds. length ds.value ≡ length cs)
chosen_count env s x p [] = refl
chosen_count env s x p (c ∷ cs) =
    answered (λ (ds : Given (List tree.Choice)). length ds.value ≡ suc (length cs)) p _
    (part_so (λ d. Unit {0}) (λ ds. length ds.value ≡ suc (length cs)) (chosen env s x c).answer
    (λ d. all_chosen env d.next x p cs >>= (λ ds. rule (Some (given (d.value ∷ ds.value) ds.next)))) (any_answer (chosen env s x c).answer)
    (λ d u. part_so (λ ds. length ds.value ≡ length cs) (λ ds. length ds.value ≡ suc (length cs)) (all_chosen env d.next x p cs).answer
    (λ ds. rule (Some (given (d.value ∷ ds.value) ds.next))) (chosen_count env d.next x p cs) (λ ds h. ap suc h)))

caught_count : (env : Env) (s : State) (b : Bool) (p : Pos) (cs : List ExceptionChoice) → IfOk (all_caught env s b p cs).answer (λ ds. length ds.value ≡ length cs)
caught_count env s b p [] = refl
caught_count env s b p (c ∷ cs) =
    answered (λ (ds : Given (List tree.ExceptionChoice)). length ds.value ≡ suc (length cs)) p _
    (part_so (λ d. Unit {0}) (λ ds. length ds.value ≡ suc (length cs)) (caught env s b c).answer
    (λ d. all_caught env d.next b p cs >>= (λ ds. rule (Some (given (d.value ∷ ds.value) ds.next)))) (any_answer (caught env s b c).answer)
    (λ d u. part_so (λ ds. length ds.value ≡ length cs) (λ ds. length ds.value ≡ suc (length cs)) (all_caught env d.next b p cs).answer
    (λ ds. rule (Some (given (d.value ∷ ds.value) ds.next))) (caught_count env d.next b p cs) (λ ds h. ap suc h)))

choice_token : (c : Choice) → 1 ≤ choice_nodes c
choice_token (choice.Value e) = expr_token e
choice_token (choice.Range b) = middle_token (expr_nodes b.low) (expr_nodes b.high)
choice_token (choice.Others p) = first_token 0

exception_token : (c : ExceptionChoice) → 1 ≤ exception_choice_nodes c
exception_token (taken.Named n) = one_token n
exception_token (taken.Others p) = first_token 0

filled : {X : Type 0} (f : X → ℕ) (cs : List X) → ((c : X) → 1 ≤ f c) → IsFilled cs → 1 ≤ sum_by f cs
filled f [] each h = absurd h
filled f (c ∷ cs) each h = let sum = sum_by-cons f c cs in let one_at = each c in omega (arith, sum, one_at)

-- statements
abbrev As : ℕ → Given (List tree.Stmt) → Type 0
As c g = size.statements_nodes (stmts_of g.value) ≤ c

abbrev chosen_nodes : List Chosen → ℕ
chosen_nodes [] = 0
chosen_nodes (c ∷ cs) = (suc (size.test_nodes c.test) + size.statements_nodes (stmts_of c.statements)) + chosen_nodes cs

abbrev arm_nodes : List Arm → ℕ
arm_nodes [] = 0
arm_nodes (a ∷ rest) = suc (length a.choices + size.statements_nodes (stmts_of a.statements) + arm_nodes rest)

abbrev BranchesAs : ℕ → Given (List Chosen) → Type 0
BranchesAs c g = chosen_nodes g.value ≤ c

abbrev ArmsAs : ℕ → Given (List Arm) → Type 0
ArmsAs c g = arm_nodes g.value ≤ c

abbrev HandlersAs : ℕ → Given tree.Handlers → Type 0
HandlersAs c g = size.handlers_nodes g.value ≤ c

abbrev pub FrameAs : ℕ → Given Frame → Type 0
FrameAs c f = size.statements_nodes (stmts_of f.value.statements) + size.handlers_nodes f.value.handlers ≤ c

branches_are : (cs : List Chosen) (other : List tree.Stmt) → size.branches_nodes (branches_of cs other) ≡ chosen_nodes cs + size.statements_nodes (stmts_of other)
branches_are [] other = none (size.statements_nodes (stmts_of other))
  where
    none : (n : ℕ) → n ≡ 0 + n
    none n = omega (arith)
branches_are (c ∷ cs) other =
    next (suc (size.test_nodes c.test) + size.statements_nodes (stmts_of c.statements)) (size.branches_nodes (branches_of cs other)) (chosen_nodes cs) (size.statements_nodes (stmts_of other)) (branches_are cs other)
  where
    next : (n a b c : ℕ) → a ≡ b + c → n + a ≡ (n + b) + c
    next n a b c e = omega (arith, e)

alternatives_are : (arms : List Arm) → size.alternatives_nodes (alternatives_of arms) ≡ arm_nodes arms
alternatives_are [] = refl
alternatives_are (a ∷ rest) = ap (λ n. suc (length a.choices + size.statements_nodes (stmts_of a.statements) + n)) (alternatives_are rest)

joined_nodes : (xs ys : List tree.Stmt) → size.statements_nodes (stmts_of (xs ++ ys)) ≡ size.statements_nodes (stmts_of xs) + size.statements_nodes (stmts_of ys)
joined_nodes [] ys = none (size.statements_nodes (stmts_of ys))
  where
    none : (n : ℕ) → n ≡ 0 + n
    none n = omega (arith)
joined_nodes (x ∷ xs) ys =
    next (size.statement_nodes x) (size.statements_nodes (stmts_of (xs ++ ys))) (size.statements_nodes (stmts_of xs)) (size.statements_nodes (stmts_of ys)) (joined_nodes xs ys)
  where
    next : (n a b c : ℕ) → a ≡ b + c → n + a ≡ (n + b) + c
    next n a b c e = omega (arith, e)

one_in : (x : tree.Stmt) (c : ℕ) → size.statement_nodes x ≤ c → size.statements_nodes (stmts_of (x ∷ [])) ≤ c
one_in x c h = alone (size.statement_nodes x) c h
  where
    alone : (n m : ℕ) → n ≤ m → n + 0 ≤ m
    alone n m h = omega (arith, h)

stmt_in : (env : Env) (t : State) (l : tree.Label) (x : Option tree.Stmt) (c : ℕ) → env.step ≡ typing → IfSome x (λ y. size.statement_nodes y ≤ c)
    → IfPassed (typed_stmt env l t x).outcome (As c)
stmt_in env t l x c step h =
    typed_so (As c) env.step (one (tree.null_statement l) t) (option_map (λ y. one y t) x) step
    (if_map (λ y. size.statement_nodes y ≤ c) (As c) (λ y. one y t) x h (λ y k. one_in y c k))

call_in : (c : ℕ) (l : tree.Label) (d : Denoted) → NameIn c d → IfSome (call_of l d) (λ y. size.statement_nodes y ≤ c)
call_in c l (a_routine r) h = if_test (λ y. size.statement_nodes y ≤ c) (nat_eq (length r.parameters) 0) _ (if_none r.result)
  where
    if_none : (o : Option Parameter) → (nat_eq (length r.parameters) 0 ≡ true)
        → IfSome (if is_none o then Some (tree.procedure_call l r.callee tree.no_actual) else None) (λ y. size.statement_nodes y ≤ c)
    if_none None e = h
    if_none (Some q) e = tt
call_in c l (a_call r actuals) h = if_none r.result
  where
    if_none : (o : Option Parameter) → IfSome (if is_none o then Some (tree.procedure_call l r.callee actuals) else None) (λ y. size.statement_nodes y ≤ c)
    if_none None = h
    if_none (Some q) = tt
call_in c l d h = tt

allowed_in : (c : ℕ) (b : Bool) (x : tree.Stmt) → size.statement_nodes x ≤ c → IfSome (where_allowed b x) (λ y. size.statement_nodes y ≤ c)
allowed_in c b x h = if_test (λ y. size.statement_nodes y ≤ c) b (Some x) (λ e. h)

returned_in : (l : tree.Label) (r : Returning) → IfSome (returned l r) (λ y. size.statement_nodes y ≤ 1 + 0)
returned_in l no_result = same_nodes 1
returned_in l (result_of t) = tt

value_returned : (c : ℕ) (l : tree.Label) (x : Judged) (r : Returning) → FewIn c x → IfSome (returned_value l x r) (λ y. size.statement_nodes y ≤ 1 + c)
value_returned c l x no_result h = tt
value_returned c l x (result_of t) h =
    if_test (λ y. size.statement_nodes y ≤ 1 + c) (fits (type_in t) x.kind) _ (λ e. one_behind (size.expr_nodes (expr_of x)) c (expr_in c x h))
  where
    one_behind : (n c : ℕ) → n ≤ c → suc n ≤ 1 + c
    one_behind n c h = omega (arith, h)

raised_in : (c : ℕ) (l : tree.Label) (d : Denoted) → IfSome (option_map (tree.raise_statement l) (exception_of d)) (λ y. size.statement_nodes y ≤ 1 + c)
raised_in c l (an_exception e) = first_token c
raised_in c l d = tt

else_in : (es : text.Statements) → statements_outside es ≤ else_outside es
else_in text.no_statements = same_nodes 0
else_in (text.then_also x xs) = behind_one (statement_outside x) (statements_outside xs)
  where
    behind_one : (a b : ℕ) → a + b ≤ 1 + a + b
    behind_one a b = omega (arith)

exception_part_in : (hs : text.Handlers) → handlers_outside hs ≤ exception_part_outside hs
exception_part_in text.no_handlers = same_nodes 0
exception_part_in (text.handler cs ss hs) = behind_one (length cs) (sum_by exception_choice_nodes cs) (statements_outside ss) (handlers_outside hs)
  where
    behind_one : (a b c d : ℕ) → a + b + c + d ≤ 1 + a + b + c + d
    behind_one a b c d = omega (arith)

declare_in : (ds : Option (List Declaration)) → sum_by declaration_outside (declarations_in ds) ≤ if_present (λ xs. 1 + sum_by declaration_outside xs) ds
declare_in None = same_nodes 0
declare_in (Some ds) = behind_one (sum_by declaration_outside ds)
  where
    behind_one : (a : ℕ) → a ≤ 1 + a
    behind_one a = omega (arith)

-- a block or a body
pub block_in : (ds : List tree.Declaration) (f : Frame) (c d : ℕ) → size.declarations_nodes ds ≤ c
    → size.statements_nodes (stmts_of f.statements) + size.handlers_nodes f.handlers ≤ d → size.block_nodes (block_of ds f) ≤ c + d
block_in ds f c d h k = three (size.declarations_nodes ds) (size.statements_nodes (stmts_of f.statements)) (size.handlers_nodes f.handlers) c d h k
  where
    three : (n a b c d : ℕ) → n ≤ c → a + b ≤ d → n + a + b ≤ c + d
    three n a b c d h k = omega (arith, h, k)

-- counts of statements
set_counts : (p v n i : ℕ) → suc p ≤ n → v ≤ i → suc (p + v) ≤ n + 1 + i
set_counts p v n i h k = omega (arith, h, k)

choose_counts : (bs t xs ys zs e ss rest es other : ℕ) → bs ≡ ys + zs → t ≤ e → xs ≤ ss → ys ≤ rest → zs ≤ es → es ≤ other
    → suc (suc t + xs + bs) ≤ 4 + e + ss + rest + other
choose_counts bs t xs ys zs e ss rest es other same a b c d f = omega (arith, same, a, b, c, d, f)

select_counts : (x alternatives arms e rest : ℕ) → alternatives ≡ arms → x ≤ e → arms ≤ rest → suc (x + alternatives) ≤ 4 + e + rest
select_counts x alternatives arms e rest same h k = omega (arith, same, h, k)

loop_counts : (xs ss : ℕ) → xs ≤ ss → suc xs ≤ 0 + 3 + ss
loop_counts xs ss h = omega (arith, h)

while_counts : (t xs e ss : ℕ) → t ≤ e → xs ≤ ss → suc (suc t + xs) ≤ (1 + e) + 3 + ss
while_counts t xs e ss h k = omega (arith, h, k)

for_counts : (r xs d range ss : ℕ) → r ≤ range → xs ≤ ss → suc (r + xs) ≤ (3 + d + range) + 3 + ss
for_counts r xs d range ss h k = omega (arith, h, k)

exit_counts : (t e : ℕ) → t ≤ e → suc (suc t) ≤ 1 + (1 + e)
exit_counts t e h = omega (arith, h)

block_counts : (b ds declare h : ℕ) → b ≤ ds + h → ds ≤ declare → suc b ≤ 2 + declare + h
block_counts b ds declare h k l = omega (arith, k, l)

branch_counts : (t xs ys e ss rest : ℕ) → t ≤ e → xs ≤ ss → ys ≤ rest → suc t + xs + ys ≤ 2 + e + ss + rest
branch_counts t xs ys e ss rest a b c = omega (arith, a, b, c)

arm_counts : (n m xs ys sum ss rest : ℕ) → n ≡ m → xs ≤ ss → ys ≤ rest → 1 ≤ sum → suc (n + xs + ys) ≤ m + sum + ss + rest
arm_counts n m xs ys sum ss rest same a b c = omega (arith, same, a, b, c)

mutual
  stated_few : (env : Env) (s : State) (x : text.Statement) → env.step ≡ typing → IsWholeEnv env → HasChoices x → IfOk (stated env s x).answer (As (statement_outside x))
  stated_few env s (text.null q) step whole cs = same_nodes 1
  stated_few env s (text.assignment q n i) step whole cs =
      let all = name_nodes n + 1 + initial_nodes i in
      answered (As all) q _
      (part_so (TargetIn env step whole (name_nodes n)) (As all) (target env (started s) n).answer
      (λ v. new_value env v.next q v.value.subtype i >>= (λ x. rule (Some (one (tree.assignment (statement_label s q) v.value.object v.value.parts x.value.value) x.next))))
      (target_few env step whole (started s) n)
      (λ v h. part_so (SetIn env step whole (initial_nodes i)) (As all) (new_value env v.next q v.value.subtype i).answer
      (λ x. rule (Some (one (tree.assignment (statement_label s q) v.value.object v.value.parts x.value.value) x.next)))
      (new_value_few env step whole v.next q v.value.subtype i)
      (λ x k. one_in (tree.assignment (statement_label s q) v.value.object v.value.parts x.value.value) all
      (set_counts (size.parts_nodes v.value.parts) (size.value_nodes x.value.value) (name_nodes n) (initial_nodes i) h k))))
  stated_few env s (text.call q n) step whole cs =
      answered (As (name_nodes n)) q _
      (part_so (λ d. NameIn (name_nodes n) d.value) (As (name_nodes n)) (denoted env (started s) n).answer
      (λ d. typed_stmt env (statement_label s q) d.next (call_of (statement_label s q) d.value)) (denoted_few env step whole (started s) n)
      (λ d h. stmt_in env d.next (statement_label s q) (call_of (statement_label s q) d.value) (name_nodes n) step
      (call_in (name_nodes n) (statement_label s q) d.value h)))
  stated_few env s (text.exemption q a) step whole cs = nothing_in (statement_outside (text.exemption q a))
  stated_few env s (text.conditional q e ss bs es) step whole cs =
      let all = 4 + expr_nodes e + statements_outside ss + branches_outside bs + else_outside es in
      answered (As all) q _
      (part_so (DecisionIn env step whole (expr_nodes e)) (As all) (decision env (started s) q e).answer
      (λ t. all_stated env t.next q ss >>= (λ xs. branched env xs.next q bs >>= (λ ys. all_stated env ys.next q es
      >>= (λ zs. rule (Some (one (tree.if_statement (statement_label s q) (tree.branch t.value.0 t.value.1 (stmts_of xs.value) (branches_of ys.value zs.value))) zs.next))))))
      (decision_few env step whole (started s) q e)
      (λ t u. part_so (As (statements_outside ss)) (As all) (all_stated env t.next q ss).answer
      (λ xs. branched env xs.next q bs >>= (λ ys. all_stated env ys.next q es
      >>= (λ zs. rule (Some (one (tree.if_statement (statement_label s q) (tree.branch t.value.0 t.value.1 (stmts_of xs.value) (branches_of ys.value zs.value))) zs.next)))))
      (all_few env t.next q ss step whole cs.0)
      (λ xs h. part_so (BranchesAs (branches_outside bs)) (As all) (branched env xs.next q bs).answer
      (λ ys. all_stated env ys.next q es
      >>= (λ zs. rule (Some (one (tree.if_statement (statement_label s q) (tree.branch t.value.0 t.value.1 (stmts_of xs.value) (branches_of ys.value zs.value))) zs.next))))
      (branched_few env xs.next q bs step whole cs.1)
      (λ ys k. part_so (As (statements_outside es)) (As all) (all_stated env ys.next q es).answer
      (λ zs. rule (Some (one (tree.if_statement (statement_label s q) (tree.branch t.value.0 t.value.1 (stmts_of xs.value) (branches_of ys.value zs.value))) zs.next)))
      (all_few env ys.next q es step whole cs.2)
      (λ zs l. one_in (tree.if_statement (statement_label s q) (tree.branch t.value.0 t.value.1 (stmts_of xs.value) (branches_of ys.value zs.value))) all
      (choose_counts (size.branches_nodes (branches_of ys.value zs.value)) (size.test_nodes t.value.1) (size.statements_nodes (stmts_of xs.value)) (chosen_nodes ys.value) (size.statements_nodes (stmts_of zs.value))
      (expr_nodes e) (statements_outside ss) (branches_outside bs) (statements_outside es) (else_outside es) (branches_are ys.value zs.value) u h k l (else_in es)))))))
  stated_few env s (text.case_of q e alternatives) step whole cs =
      let all = 4 + expr_nodes e + alternatives_outside alternatives in
      answered (As all) q _
      (part_so (SelectorIn env step whole (expr_nodes e)) (As all) (selector env (started s) e).answer
      (λ x. all_arms env x.next x.value q alternatives
      >>= (λ arms. typed_rule env.step (one (tree.null_statement (statement_label s q)) arms.next) (case_of env s q x.value arms)))
      (selector_few env step whole (started s) e)
      (λ x u. part_so (ArmsAs (alternatives_outside alternatives)) (As all) (all_arms env x.next x.value q alternatives).answer
      (λ arms. typed_rule env.step (one (tree.null_statement (statement_label s q)) arms.next) (case_of env s q x.value arms))
      (arms_few env x.next x.value q alternatives step whole cs)
      (λ arms h. typed_so (As all) env.step (one (tree.null_statement (statement_label s q)) arms.next) (case_of env s q x.value arms) step
      (if_test (As all) (ends_with_others arms.value) _
      (λ b. one_in (tree.case_statement (statement_label s q) x.value.expr (alternatives_of arms.value)) all
      (select_counts (size.expr_nodes x.value.expr) (size.alternatives_nodes (alternatives_of arms.value)) (arm_nodes arms.value) (expr_nodes e) (alternatives_outside alternatives)
      (alternatives_are arms.value) u h))))))
  stated_few env s (text.repeat q scheme.Forever ss) step whole cs =
      let all = 0 + 3 + statements_outside ss in
      answered (As all) q _
      (part_so (As (statements_outside ss)) (As all) (all_stated (in_loop env) (started s) q ss).answer
      (λ xs. rule (Some (one (tree.bare_loop (statement_label s q) (stmts_of xs.value)) xs.next)))
      (all_few (in_loop env) (started s) q ss step (loop_whole env whole) cs)
      (λ xs h. one_in (tree.bare_loop (statement_label s q) (stmts_of xs.value)) all (loop_counts (size.statements_nodes (stmts_of xs.value)) (statements_outside ss) h)))
  stated_few env s (text.repeat q (scheme.While e) ss) step whole cs =
      let all = (1 + expr_nodes e) + 3 + statements_outside ss in
      answered (As all) q _
      (part_so (DecisionIn env step whole (expr_nodes e)) (As all) (decision env (started s) q e).answer
      (λ t. all_stated (in_loop env) t.next q ss >>= (λ xs. rule (Some (one (tree.while_loop (statement_label s q) t.value.0 t.value.1 (stmts_of xs.value)) xs.next))))
      (decision_few env step whole (started s) q e)
      (λ t u. part_so (As (statements_outside ss)) (As all) (all_stated (in_loop env) t.next q ss).answer
      (λ xs. rule (Some (one (tree.while_loop (statement_label s q) t.value.0 t.value.1 (stmts_of xs.value)) xs.next)))
      (all_few (in_loop env) t.next q ss step (loop_whole env whole) cs)
      (λ xs h. one_in (tree.while_loop (statement_label s q) t.value.0 t.value.1 (stmts_of xs.value)) all
      (while_counts (size.test_nodes t.value.1) (size.statements_nodes (stmts_of xs.value)) (expr_nodes e) (statements_outside ss) u h))))
  stated_few env s (text.repeat q (scheme.For i d r) ss) step whole cs =
      let all = (3 + direction_nodes d + range_nodes r) + 3 + statements_outside ss in
      answered (As all) q _
      (part_so IsWholeRegion (As all) (hide [] i).answer
      (λ region. turned (with_local (opened env) region) (started s) r
      >>= (λ t. all_stated (in_loop (with_local (opened env) ((key i, loop_parameter t.next.objects t.value) ∷ []))) (one_object_more q t.value.subtype t.next) q ss
      >>= (λ xs. rule (Some (one (tree.for_loop (statement_label s q) t.next.objects (is_reverse d) t.value.over (stmts_of xs.value)) xs.next)))))
      (hidden_whole [] i tt)
      (λ region v. part_so (λ t. size.range_nodes t.value.over ≤ range_nodes r) (As all) (turned (with_local (opened env) region) (started s) r).answer
      (λ t. all_stated (in_loop (with_local (opened env) ((key i, loop_parameter t.next.objects t.value) ∷ []))) (one_object_more q t.value.subtype t.next) q ss
      >>= (λ xs. rule (Some (one (tree.for_loop (statement_label s q) t.next.objects (is_reverse d) t.value.over (stmts_of xs.value)) xs.next))))
      (turned_few (with_local (opened env) region) step (local_whole (opened env) region (opened_whole env whole) v) (started s) r)
      (λ t u. part_so (As (statements_outside ss)) (As all)
      (all_stated (in_loop (with_local (opened env) ((key i, loop_parameter t.next.objects t.value) ∷ []))) (one_object_more q t.value.subtype t.next) q ss).answer
      (λ xs. rule (Some (one (tree.for_loop (statement_label s q) t.next.objects (is_reverse d) t.value.over (stmts_of xs.value)) xs.next)))
      (all_few (in_loop (with_local (opened env) ((key i, loop_parameter t.next.objects t.value) ∷ []))) (one_object_more q t.value.subtype t.next) q ss step
      (loop_whole _ (local_whole (opened env) ((key i, loop_parameter t.next.objects t.value) ∷ []) (opened_whole env whole) (refl, tt))) cs)
      (λ xs h. one_in (tree.for_loop (statement_label s q) t.next.objects (is_reverse d) t.value.over (stmts_of xs.value)) all
      (for_counts (size.range_nodes t.value.over) (size.statements_nodes (stmts_of xs.value)) (direction_nodes d) (range_nodes r) (statements_outside ss) u h)))))
  stated_few env s (text.exit q None) step whole cs =
      answered (As (1 + 0)) q _
      (stmt_in env (started s) (statement_label s q) (where_allowed env.is_looping (tree.exit_statement (statement_label s q))) (1 + 0) step
      (allowed_in (1 + 0) env.is_looping (tree.exit_statement (statement_label s q)) (same_nodes 1)))
  stated_few env s (text.exit q (Some e)) step whole cs =
      let all = 1 + (1 + expr_nodes e) in
      answered (As all) q _
      (part_so (DecisionIn env step whole (expr_nodes e)) (As all) (decision env (started s) q e).answer
      (λ t. typed_stmt env (statement_label s q) t.next (where_allowed env.is_looping (tree.exit_when (statement_label s q) t.value.0 t.value.1)))
      (decision_few env step whole (started s) q e)
      (λ t u. stmt_in env t.next (statement_label s q) (where_allowed env.is_looping (tree.exit_when (statement_label s q) t.value.0 t.value.1)) all step
      (allowed_in all env.is_looping (tree.exit_when (statement_label s q) t.value.0 t.value.1) (exit_counts (size.test_nodes t.value.1) (expr_nodes e) u))))
  stated_few env s (text.returns q None) step whole cs =
      answered (As (1 + 0)) q _
      (stmt_in env (started s) (statement_label s q) (returned (statement_label s q) env.returning) (1 + 0) step (returned_in (statement_label s q) env.returning))
  stated_few env s (text.returns q (Some e)) step whole cs =
      let all = 1 + expr_nodes e in
      answered (As all) q _
      (part_so (λ x. FewIn (expr_nodes e) x.value) (As all) (judged env itself (started s) e).answer
      (λ x. typed_stmt env (statement_label s q) x.next (returned_value (statement_label s q) x.value env.returning)) (judged_few env step whole itself (started s) e)
      (λ x u. stmt_in env x.next (statement_label s q) (returned_value (statement_label s q) x.value env.returning) all step
      (value_returned (expr_nodes e) (statement_label s q) x.value env.returning u)))
  stated_few env s (text.raise q None) step whole cs =
      answered (As (1 + 0)) q _
      (stmt_in env (started s) (statement_label s q) (where_allowed env.is_handling (tree.raise_again (statement_label s q))) (1 + 0) step
      (allowed_in (1 + 0) env.is_handling (tree.raise_again (statement_label s q)) (same_nodes 1)))
  stated_few env s (text.raise q (Some n)) step whole cs =
      let all = 1 + name_nodes n in
      answered (As all) q _
      (part_so (λ d. Unit {0}) (As all) (denoted env (started s) n).answer
      (λ d. typed_stmt env (statement_label s q) d.next (option_map (tree.raise_statement (statement_label s q)) (exception_of d.value)))
      (any_answer (denoted env (started s) n).answer)
      (λ d u. stmt_in env d.next (statement_label s q) (option_map (tree.raise_statement (statement_label s q)) (exception_of d.value)) all step
      (raised_in (name_nodes n) (statement_label s q) d.value)))
  stated_few env s (text.block q ds h) step whole cs =
      let declare = if_present (λ xs. 1 + sum_by declaration_outside xs) ds in
      let sum = sum_by declaration_outside (declarations_in ds) in
      let all = 2 + declare + handled_outside h in
      answered (As all) q _
      (part_so (DeclaresIn sum) (As all) (all_declared (opened env) s q (declarations_in ds)).answer
      (λ x. all_handled (with_local (opened env) x.region) x.next q h >>= (λ f. rule (Some (one (tree.block_statement (block_of x.made f.value)) f.next))))
      (declarations_few (opened env) s q (declarations_in ds) step (opened_whole env whole) refl)
      (λ x u. part_so (FrameAs (handled_outside h)) (As all) (all_handled (with_local (opened env) x.region) x.next q h).answer
      (λ f. rule (Some (one (tree.block_statement (block_of x.made f.value)) f.next)))
      (handled_few (with_local (opened env) x.region) x.next q h step (local_whole (opened env) x.region (opened_whole env whole) u.1) cs)
      (λ f k. one_in (tree.block_statement (block_of x.made f.value)) all
      (block_counts (size.block_nodes (block_of x.made f.value)) sum declare (handled_outside h) (block_in x.made f.value sum (handled_outside h) u.0 k) (declare_in ds)))))

  all_few : (env : Env) (s : State) (q : Pos) (xs : text.Statements) → env.step ≡ typing → IsWholeEnv env → HaveChoices xs → IfOk (all_stated env s q xs).answer (As (statements_outside xs))
  all_few env s q text.no_statements step whole cs = same_nodes 0
  all_few env s q (text.then_also x xs) step whole cs =
      let all = statement_outside x + statements_outside xs in
      answered (As all) q _
      (part_so (As (statement_outside x)) (As all) (stated env s x).answer
      (λ y. all_stated env y.next q xs >>= (λ ys. rule (Some (given (y.value ++ ys.value) ys.next)))) (stated_few env s x step whole cs.0)
      (λ y h. part_so (As (statements_outside xs)) (As all) (all_stated env y.next q xs).answer (λ ys. rule (Some (given (y.value ++ ys.value) ys.next)))
      (all_few env y.next q xs step whole cs.1)
      (λ ys k. both_in (size.statements_nodes (stmts_of (y.value ++ ys.value))) (size.statements_nodes (stmts_of y.value)) (size.statements_nodes (stmts_of ys.value)) (statement_outside x) (statements_outside xs)
      (joined_nodes y.value ys.value) h k)))
    where
      both_in : (n a b c d : ℕ) → n ≡ a + b → a ≤ c → b ≤ d → n ≤ c + d
      both_in n a b c d e h k = omega (arith, e, h, k)

  branched_few : (env : Env) (s : State) (q : Pos) (bs : text.Branches) → env.step ≡ typing → IsWholeEnv env → BranchesHaveChoices bs → IfOk (branched env s q bs).answer (BranchesAs (branches_outside bs))
  branched_few env s q text.no_branches step whole cs = same_nodes 0
  branched_few env s q (text.branch e ss bs) step whole cs =
      let all = 2 + expr_nodes e + statements_outside ss + branches_outside bs in
      answered (BranchesAs all) q _
      (part_so (DecisionIn env step whole (expr_nodes e)) (BranchesAs all) (decision env s q e).answer
      (λ t. all_stated env t.next q ss >>= (λ xs. branched env xs.next q bs
      >>= (λ ys. rule (Some (given (record { label = t.value.0; test = t.value.1; statements = xs.value } ∷ ys.value) ys.next)))))
      (decision_few env step whole s q e)
      (λ t u. part_so (As (statements_outside ss)) (BranchesAs all) (all_stated env t.next q ss).answer
      (λ xs. branched env xs.next q bs >>= (λ ys. rule (Some (given (record { label = t.value.0; test = t.value.1; statements = xs.value } ∷ ys.value) ys.next))))
      (all_few env t.next q ss step whole cs.0)
      (λ xs h. part_so (BranchesAs (branches_outside bs)) (BranchesAs all) (branched env xs.next q bs).answer
      (λ ys. rule (Some (given (record { label = t.value.0; test = t.value.1; statements = xs.value } ∷ ys.value) ys.next)))
      (branched_few env xs.next q bs step whole cs.1)
      (λ ys k. branch_counts (size.test_nodes t.value.1) (size.statements_nodes (stmts_of xs.value)) (chosen_nodes ys.value) (expr_nodes e) (statements_outside ss) (branches_outside bs) u h k))))

  arms_few : (env : Env) (s : State) (x : Selector) (q : Pos) (rest : text.Alternatives) → env.step ≡ typing → IsWholeEnv env → AlternativesHaveChoices rest
      → IfOk (all_arms env s x q rest).answer (ArmsAs (alternatives_outside rest))
  arms_few env s x q text.no_alternatives step whole all_filled = same_nodes 0
  arms_few env s x q (text.alternative cs ss rest) step whole all_filled =
      let all = length cs + sum_by choice_nodes cs + statements_outside ss + alternatives_outside rest in
      answered (ArmsAs all) q _
      (part_so (λ ds. length ds.value ≡ length cs) (ArmsAs all) (all_chosen env s x q cs).answer
      (λ ds. all_stated env ds.next q ss >>= (λ xs. all_arms env xs.next x q rest
      >>= (λ ys. rule (Some (given (record { choices = ds.value; statements = xs.value } ∷ ys.value) ys.next)))))
      (chosen_count env s x q cs)
      (λ ds u. part_so (As (statements_outside ss)) (ArmsAs all) (all_stated env ds.next q ss).answer
      (λ xs. all_arms env xs.next x q rest >>= (λ ys. rule (Some (given (record { choices = ds.value; statements = xs.value } ∷ ys.value) ys.next))))
      (all_few env ds.next q ss step whole all_filled.1)
      (λ xs h. part_so (ArmsAs (alternatives_outside rest)) (ArmsAs all) (all_arms env xs.next x q rest).answer
      (λ ys. rule (Some (given (record { choices = ds.value; statements = xs.value } ∷ ys.value) ys.next)))
      (arms_few env xs.next x q rest step whole all_filled.2)
      (λ ys k. arm_counts (length ds.value) (length cs) (size.statements_nodes (stmts_of xs.value)) (arm_nodes ys.value) (sum_by choice_nodes cs) (statements_outside ss) (alternatives_outside rest)
      u h k (filled choice_nodes cs choice_token all_filled.0)))))

  handlers_few : (env : Env) (s : State) (q : Pos) (hs : text.Handlers) → env.step ≡ typing → IsWholeEnv env → HandlersHaveChoices hs → IfOk (all_handlers env s q hs).answer (HandlersAs (handlers_outside hs))
  handlers_few env s q text.no_handlers step whole all_filled = same_nodes 0
  handlers_few env s q (text.handler cs ss hs) step whole all_filled =
      let all = length cs + sum_by exception_choice_nodes cs + statements_outside ss + handlers_outside hs in
      answered (HandlersAs all) q _
      (part_so (λ ds. length ds.value ≡ length cs) (HandlersAs all) (all_caught env s (is_last hs && nat_eq (length cs) 1) q cs).answer
      (λ ds. all_stated (in_handler env) ds.next q ss >>= (λ xs. all_handlers env xs.next q hs
      >>= (λ ys. rule (Some (given (tree.handler ds.value (stmts_of xs.value) ys.value) ys.next)))))
      (caught_count env s (is_last hs && nat_eq (length cs) 1) q cs)
      (λ ds u. part_so (As (statements_outside ss)) (HandlersAs all) (all_stated (in_handler env) ds.next q ss).answer
      (λ xs. all_handlers env xs.next q hs >>= (λ ys. rule (Some (given (tree.handler ds.value (stmts_of xs.value) ys.value) ys.next))))
      (all_few (in_handler env) ds.next q ss step (handler_whole env whole) all_filled.1)
      (λ xs h. part_so (HandlersAs (handlers_outside hs)) (HandlersAs all) (all_handlers env xs.next q hs).answer
      (λ ys. rule (Some (given (tree.handler ds.value (stmts_of xs.value) ys.value) ys.next)))
      (handlers_few env xs.next q hs step whole all_filled.2)
      (λ ys k. arm_counts (length ds.value) (length cs) (size.statements_nodes (stmts_of xs.value)) (size.handlers_nodes ys.value) (sum_by exception_choice_nodes cs) (statements_outside ss) (handlers_outside hs)
      u h k (filled exception_choice_nodes cs exception_token all_filled.0)))))

  pub handled_few : (env : Env) (s : State) (q : Pos) (h : text.Handled) → env.step ≡ typing → IsWholeEnv env → HandledHasChoices h → IfOk (all_handled env s q h).answer (FrameAs (handled_outside h))
  handled_few env s q (text.handled ss hs) step whole all_filled =
      let all = statements_outside ss + exception_part_outside hs in
      answered (FrameAs all) q _
      (part_so (As (statements_outside ss)) (FrameAs all) (all_stated env s q ss).answer
      (λ xs. all_handlers env xs.next q hs >>= (λ ys. rule (Some (given (record { statements = xs.value; handlers = ys.value }) ys.next))))
      (all_few env s q ss step whole all_filled.0)
      (λ xs h. part_so (HandlersAs (handlers_outside hs)) (FrameAs all) (all_handlers env xs.next q hs).answer
      (λ ys. rule (Some (given (record { statements = xs.value; handlers = ys.value }) ys.next)))
      (handlers_few env xs.next q hs step whole all_filled.1)
      (λ ys k. both_in (size.statements_nodes (stmts_of xs.value)) (size.handlers_nodes ys.value) (statements_outside ss) (handlers_outside hs) (exception_part_outside hs) h k (exception_part_in hs))))
    where
      both_in : (a b c d e : ℕ) → a ≤ c → b ≤ d → d ≤ e → a + b ≤ c + e
      both_in a b c d e h k l = omega (arith, h, k, l)
