-- Calls, choices, branches and handlers in the step of types.
use Rattle.std.proofs.Common.{◌≡◌, ◌≤◌, ℕ, nat_eq, Bool, true, false, if◌then◌else◌, is_none, List, [], ◌∷◌, ◌++◌, length, Option, Some, None, option_map, IfSome, IfOk, arith}
use Rattle.cov_base.specs.declared.position.Pos.{Pos}
use Rattle.cov_base.specs.Lists.{Everywhere}
use Rattle.ada_syntax.specs.Tree.{Expr, expr_pos, name_pos}
use Rattle.ada_syntax.specs.declared.statement.Choice.{Choice}
use Rattle.ada_syntax.specs.declared.statement.Choice.TheVariants as choice
use Rattle.ada_syntax.specs.declared.statement.ExceptionChoice.{ExceptionChoice}
use Rattle.ada_syntax.specs.declared.statement.ExceptionChoice.TheVariants as taken
use Rattle.ada_meaning.specs.Program.{in_mode, out_mode, Target, get_target, put_target, body_target, Program}
use Rattle.ada_meaning.specs.Resolved.{ResolvedParameter, target_in, parameters_of}
use Rattle.ada_meaning.specs.Shape.{Shape}
use Rattle.ada_meaning.specs.Statics.{static_value, static_bounds, values_of}
use Rattle.ada_meaning.specs.Tree as tree
use Rattle.ada_meaning.specs.Types.{Static}
use Rattle.ada_meaning.specs.WellFormed.{HasNumber, HasChoice, AreActuals, IsCall, IsException, IsChoice, IsExceptionChoice, IsStatement, AreStatements, AreBranches, AreAlternatives, IsTest}
use Rattle.ada_rules.specs.Plan.{◌>>=◌, rule}
use Rattle.ada_rules.specs.Types.{AdaType, type_in, range_in, fits}
use Rattle.ada_rules.specs.Entities.{Parameter, Routine}
use Rattle.ada_rules.specs.Environment.{Returning, no_result, result_of, typed_rule, State, Given, given, Env, demanded}
use Rattle.ada_rules.specs.Denoted.{Judged, Denoted, a_mark, a_value, a_variable, a_routine, a_call, an_exception, a_unit, the_test_io, a_thing}
use Rattle.ada_rules.specs.Expressions.{denoted, Valued, static_part}
use Rattle.ada_rules.specs.Statements.{stmts_of, procedure_called, call_of, Chosen, branches_of, Selector, among, chosen, all_chosen, Arm, alternatives_of, returned, returned_value, exception_of, where_allowed, caught, all_caught}
use Rattle.ada_rules.specs.Statics.{Facts, in_order, holds}
use Rattle.legal_laws.specs.Kept.{OnlyDecides}
use Rattle.legal_laws.specs.Known.{CallsProcedure, IsResult, IsJudged, IsDenoted}
use Rattle.legal_laws.specs.Served.{Serves}
use Rattle.legal_laws.specs.Standing.{ReturnsAs, Stands}
use Rattle.legal_laws.specs.Valued.{AreFactsInBase, HaveFacts}
use Rattle.legal_laws.proofs.Passing.{if_map, if_test, answered, part_so, typed_so}
use Rattle.legal_laws.proofs.Values.{choice_demanded}
use Rattle.legal_laws.proofs.Constants.{serves_demanded}
use Rattle.legal_laws.proofs.KnownTypes.{order_bounds, range_known, type_known, scalar_fits}
use Rattle.legal_laws.proofs.KnownNames.{expr_known, no_parameters}
use Rattle.legal_laws.proofs.KnownStatics.{IsStaticPart, static_part_known}
use Rattle.legal_laws.proofs.KnownValues.{name}

cons_is_empty : {X : Type 0} {x : X} {xs : List X} → x ∷ xs ≡ [] → ⊥
cons_is_empty e = cc

out_is_in : out_mode ≡ in_mode → ⊥
out_is_in e = cc

none_left : 1 ≤ length {A = ResolvedParameter} [] → ⊥
none_left h = omega (arith, h)

module _ (p : Program) (inst : ℕ) (shape_of : tree.Object → Shape) (Sees : tree.Object → Type 0) where
  abbrev Passed : List ResolvedParameter → tree.Actuals → Type 0
  Passed qs actuals = AreActuals p inst shape_of Sees qs actuals

  -- Put and Get have one parameter each
  put_called : (actuals : tree.Actuals) → Passed (parameters_of p put_target) actuals → IsCall p inst shape_of Sees put_target actuals
  put_called tree.no_actual h = absurd (cons_is_empty h)
  put_called (tree.by_expression e tree.no_actual) h = h.1.1.1.0
  put_called (tree.by_expression e (tree.by_expression f rest)) h = absurd (none_left h.1.1.1.1.0)
  put_called (tree.by_expression e (tree.by_variable o parts r rest)) h = absurd (none_left h.1.1.1.1.0)
  put_called (tree.by_expression e (tree.by_composite o parts rest)) h = absurd (none_left h.1.1.1.1.0)
  put_called (tree.by_variable o parts r rest) h = absurd h.1.1.0
  put_called (tree.by_composite o parts rest) h = absurd h.1.0

  get_called : (actuals : tree.Actuals) → Passed (parameters_of p get_target) actuals → IsCall p inst shape_of Sees get_target actuals
  get_called tree.no_actual h = absurd (cons_is_empty h)
  get_called (tree.by_expression e rest) h = absurd (out_is_in h.1.1.0)
  get_called (tree.by_variable o parts r tree.no_actual) h = (h.1.1.1.0, (h.1.1.1.1.0, (h.1.1.1.1.1.0, h.1.1.1.1.1.1.0)))
  get_called (tree.by_variable o parts r (tree.by_expression f rest)) h = absurd (none_left h.1.1.1.1.1.1.1.0)
  get_called (tree.by_variable o parts r (tree.by_variable q more s rest)) h = absurd (none_left h.1.1.1.1.1.1.1.0)
  get_called (tree.by_variable o parts r (tree.by_composite q more rest)) h = absurd (none_left h.1.1.1.1.1.1.1.0)
  get_called (tree.by_composite o parts rest) h = absurd h.1.0

  target_called : (t : Target) (actuals : tree.Actuals) → CallsProcedure p t → Passed (parameters_of p t) actuals → IsCall p inst shape_of Sees t actuals
  target_called get_target actuals is h = get_called actuals h
  target_called put_target actuals is h = put_called actuals h
  target_called (body_target j m) actuals is h = (is, h)

  module _ (declared : AdaType → Type 0) (function looping handling : Bool) where
    abbrev Shown : tree.Stmt → Type 0
    Shown x = IsStatement p inst shape_of function Sees looping handling x

    procedure_known : (l : tree.Label) (r : Routine) (actuals : tree.Actuals) (o : Option Parameter) → IsResult p inst declared (target_in p inst r.callee) o
        → Passed (parameters_of p (target_in p inst r.callee)) actuals → IfSome (if is_none o then Some (tree.procedure_call l r.callee actuals) else None) Shown
    procedure_known l r actuals None is h = target_called (target_in p inst r.callee) actuals is h
    procedure_known l r actuals (Some q) is h = tt

    pub call_known : (l : tree.Label) (d : Denoted) → IsDenoted p inst declared shape_of Sees d → IfSome (call_of l d) Shown
    call_known l (a_mark i t) h = tt
    call_known l (a_value x) h = tt
    call_known l (a_variable v) h = tt
    call_known l (a_routine r) h =
        if_test Shown (nat_eq (length r.parameters) 0) (procedure_called l r tree.no_actual)
        (λ none. procedure_known l r tree.no_actual r.result h.result
        (no_parameters p inst declared (parameters_of p (target_in p inst r.callee)) r.parameters h.parameters none))
    call_known l (a_call r actuals) h = procedure_known l r actuals r.result h.routine.result h.given
    call_known l (an_exception e) h = tt
    call_known l (a_unit n) h = tt
    call_known l the_test_io h = tt
    call_known l a_thing h = tt

    -- `return`
    pub returned_known : (l : tree.Label) (r : Returning) → ReturnsAs p inst declared function r → IfSome (returned l r) Shown
    returned_known l no_result h = h
    returned_known l (result_of t) h = tt

  -- statements in a row, branches and alternatives
  module _ (function looping handling : Bool) where
    abbrev All : tree.Stmts → Type 0
    All ss = AreStatements p inst shape_of function Sees looping handling ss

    pub statements_joined : (xs ys : List tree.Stmt) → All (stmts_of xs) → All (stmts_of ys) → All (stmts_of (xs ++ ys))
    statements_joined [] ys h k = k
    statements_joined (x ∷ xs) ys h k = (h.0, statements_joined xs ys h.1 k)

    abbrev pub IsBranch : Chosen → Type 0
    IsBranch c = IsTest p inst shape_of Sees c.test × All (stmts_of c.statements)

    pub branches_known : (cs : List Chosen) (other : List tree.Stmt) → Everywhere IsBranch cs → All (stmts_of other)
        → AreBranches p inst shape_of function Sees looping handling (branches_of cs other)
    branches_known [] other h k = k
    branches_known (c ∷ cs) other h k = (h.0.0, (h.0.1, branches_known cs other h.1 k))

    abbrev pub IsArm : Arm → Type 0
    IsArm a = (HasChoice a.choices × Everywhere (IsChoice p inst shape_of) a.choices) × All (stmts_of a.statements)

    pub alternatives_known : (arms : List Arm) → Everywhere IsArm arms
        → AreAlternatives p inst shape_of function Sees looping handling (alternatives_of arms)
    alternatives_known [] h = tt
    alternatives_known (a ∷ rest) h = (h.0.0, (h.0.1, alternatives_known rest h.1))

-- an exception by name
pub exception_known : (p : Program) (inst : ℕ) (declared : AdaType → Type 0) (shape_of : tree.Object → Shape) (Sees : tree.Object → Type 0) (d : Denoted)
    → IsDenoted p inst declared shape_of Sees d → IfSome (exception_of d) (IsException p inst shape_of)
exception_known p inst declared shape_of Sees (a_mark i t) h = tt
exception_known p inst declared shape_of Sees (a_value x) h = tt
exception_known p inst declared shape_of Sees (a_variable v) h = tt
exception_known p inst declared shape_of Sees (a_routine r) h = tt
exception_known p inst declared shape_of Sees (a_call r actuals) h = tt
exception_known p inst declared shape_of Sees (an_exception e) h = h
exception_known p inst declared shape_of Sees (a_unit n) h = tt
exception_known p inst declared shape_of Sees the_test_io h = tt
exception_known p inst declared shape_of Sees a_thing h = tt

module _ (p : Program) (facts : List Facts) (has : HaveFacts p.instances facts) (are : Everywhere AreFactsInBase facts) (inst : ℕ) (shape_of : tree.Object → Shape)
    (types : AdaType → Type 0) (Sees : tree.Object → Type 0) (env : Env) (s : State) (st : Stands p inst shape_of types Sees env s) where
  -- a value that is returned
  pub value_returned : (function looping handling : Bool) (l : tree.Label) (x : Judged) (r : Returning) → ReturnsAs p inst types function r
      → IsJudged p inst types shape_of Sees x → IfSome (returned_value l x r) (IsStatement p inst shape_of function Sees looping handling)
  value_returned function looping handling l x no_result h judged = tt
  value_returned function looping handling l x (result_of t) h judged =
      if_test (IsStatement p inst shape_of function Sees looping handling) (fits (type_in t) x.kind) _
      (λ fit. (
        h.0,
        (
          order_bounds (static_bounds (values_of p) inst (range_in t)) (range_known p inst types st.apart t h.1.1),
          expr_known p inst types st.apart shape_of Sees x judged
              (scalar_fits p inst types st.apart (type_in t) x.kind (type_known p inst types st.apart t h.1.1) judged.kind h.1.0 fit),
        ),
      ))

  -- choices of an alternative
  abbrev Last : State → Type 0
  Last t = Serves facts inst env.generic t

  pub record AreChosen (t : State) (g : Given tree.Choice) : Type 0 where
    pub before : Last g.next → Last t
    pub choice : Last g.next → IsChoice p inst shape_of g.value

  among_numbers : (x : Selector) (e : Static) → holds facts inst (among x.values e) ≡ true → HasNumber (static_value (values_of p) inst e)
  among_numbers x e h = choice_demanded p facts has are inst e x.values h

  abbrev Part : State → Selector → Given Valued → Type 0
  Part t x g = IsStaticPart p facts has are inst types st.apart shape_of Sees env st.place st.world t (fits x.type) g

  part : (t : State) (x : Selector) (e : Expr) → IfOk (static_part env t (fits x.type) (among x.values) e).answer (Part t x)
  part t x e = static_part_known p facts has are inst types st.apart shape_of Sees env st.place st.world t (fits x.type) (among x.values) e (among_numbers x)

  chosen_known : (t : State) (x : Selector) (c : Choice) → IfOk (chosen env t x c).answer (AreChosen t)
  chosen_known t x (choice.Value e) =
      answered (AreChosen t) (expr_pos e) _
      (part_so (Part t x) (AreChosen t) (static_part env t (fits x.type) (among x.values) e).answer
      (λ v. rule (Some (given (tree.value_choice v.value.value) v.next))) (part t x e)
      (λ v h. record { before = h.before; choice = h.number }))
  chosen_known t x (choice.Range b) =
      answered (AreChosen t) (expr_pos b.low) _
      (part_so (Part t x) (AreChosen t) (static_part env t (fits x.type) (among x.values) b.low).answer
      (λ low. static_part env low.next (fits x.type) (among x.values) b.high >>= (λ high. rule (Some (given (tree.range_choice low.value.value high.value.value)
      (demanded env (expr_pos b.low) (in_order low.value.value high.value.value) high.next)))))
      (part t x b.low)
      (λ low h. part_so (Part low.next x) (AreChosen t) (static_part env low.next (fits x.type) (among x.values) b.high).answer
      (λ high. rule (Some (given (tree.range_choice low.value.value high.value.value)
      (demanded env (expr_pos b.low) (in_order low.value.value high.value.value) high.next))))
      (part low.next x b.high)
      (λ high k. record {
        before = λ all. h.before (k.before (serves_demanded facts are inst env.generic env (expr_pos b.low) (in_order low.value.value high.value.value) high.next all));
        choice = λ all.
            let last = serves_demanded facts are inst env.generic env (expr_pos b.low) (in_order low.value.value high.value.value) high.next all in
            (h.number (k.before last), k.number last);
      })))
  chosen_known t x (choice.Others q) = record { before = λ all. all; choice = λ all. tt }

  pub record AreAllChosen (t : State) (cs : List Choice) (g : Given (List tree.Choice)) : Type 0 where
    pub before : Last g.next → Last t
    pub some : HasChoice cs → HasChoice g.value
    pub choices : Last g.next → Everywhere (IsChoice p inst shape_of) g.value

  pub all_chosen_known : (t : State) (x : Selector) (q : Pos) (cs : List Choice) → IfOk (all_chosen env t x q cs).answer (AreAllChosen t cs)
  all_chosen_known t x q [] = record { before = λ all. all; some = λ h. h; choices = λ all. tt }
  all_chosen_known t x q (c ∷ cs) =
      answered (AreAllChosen t (c ∷ cs)) q _
      (part_so (AreChosen t) (AreAllChosen t (c ∷ cs)) (chosen env t x c).answer
      (λ d. all_chosen env d.next x q cs >>= (λ ds. rule (Some (given (d.value ∷ ds.value) ds.next)))) (chosen_known t x c)
      (λ d h. part_so (AreAllChosen d.next cs) (AreAllChosen t (c ∷ cs)) (all_chosen env d.next x q cs).answer
      (λ ds. rule (Some (given (d.value ∷ ds.value) ds.next))) (all_chosen_known d.next x q cs)
      (λ ds k. record {
        before = λ all. h.before (k.before all);
        some = λ u. tt;
        choices = λ all. (h.choice (k.before all), k.choices all);
      })))

  -- choices of a handler
  abbrev Caught : Given tree.ExceptionChoice → Type 0
  Caught g = IsExceptionChoice p inst shape_of g.value

  allowed_known : (b : Bool) (g : Given tree.ExceptionChoice) → Caught g → IfSome (where_allowed b g) Caught
  allowed_known true g h = h
  allowed_known false g h = tt

  caught_known : (t : State) (b : Bool) (c : ExceptionChoice) → IfOk (caught env t b c).answer Caught
  caught_known t b (taken.Named n) =
      answered Caught (name_pos n) _
      (part_so (λ d. IsDenoted p inst types shape_of Sees d.value × OnlyDecides t d.next) Caught (denoted env t n).answer
      (λ d. typed_rule env.step (given tree.other_exceptions d.next) (option_map (λ e. given (tree.named_exception e) d.next) (exception_of d.value)))
      (name p inst types st.apart shape_of Sees env st.place t n)
      (λ d h. typed_so Caught env.step (given tree.other_exceptions d.next) _ st.place.step
      (if_map (IsException p inst shape_of) Caught (λ e. given (tree.named_exception e) d.next) (exception_of d.value)
      (exception_known p inst types shape_of Sees d.value h.0) (λ e k. k))))
  caught_known t b (taken.Others q) =
      answered Caught q _
      (typed_so Caught env.step (given tree.other_exceptions t) (where_allowed b (given tree.other_exceptions t)) st.place.step
      (allowed_known b (given tree.other_exceptions t) tt))

  pub record AreAllCaught (cs : List ExceptionChoice) (g : Given (List tree.ExceptionChoice)) : Type 0 where
    pub some : HasChoice cs → HasChoice g.value
    pub choices : Everywhere (IsExceptionChoice p inst shape_of) g.value

  pub all_caught_known : (t : State) (b : Bool) (q : Pos) (cs : List ExceptionChoice) → IfOk (all_caught env t b q cs).answer (AreAllCaught cs)
  all_caught_known t b q [] = record { some = λ h. h; choices = tt }
  all_caught_known t b q (c ∷ cs) =
      answered (AreAllCaught (c ∷ cs)) q _
      (part_so Caught (AreAllCaught (c ∷ cs)) (caught env t b c).answer
      (λ d. all_caught env d.next b q cs >>= (λ ds. rule (Some (given (d.value ∷ ds.value) ds.next)))) (caught_known t b c)
      (λ d h. part_so (AreAllCaught cs) (AreAllCaught (c ∷ cs)) (all_caught env d.next b q cs).answer (λ ds. rule (Some (given (d.value ∷ ds.value) ds.next)))
      (all_caught_known d.next b q cs) (λ ds k. record { some = λ u. tt; choices = (h, k.choices) })))
