-- The events of expressions are those of decisions in them.
use Rattle.std.proofs.Common.{ℕ, ◌+◌, pos, true, false, not, List, [], ◌∷◌, drop, None, refl}
use Rattle.cov_base.specs.declared.event.Event.{Event}
use Rattle.cov_base.specs.declared.event.Event.TheVariants.{Done}
use Rattle.cov_base.specs.declared.event.Vector.{Vector}
use Rattle.cov_base.specs.Graph.{graph}
use Rattle.cov_base.specs.Path.{Step, IsPathVector, vector_of}
use Rattle.cov_base.specs.Lists.{Everywhere}
use Rattle.ada_meaning.specs.Tree.{Object, Expr, literal, constant, attribute, read, signed, operation, relation, complement, conversion, call, decision, Parts, whole, component, element, Actuals, no_actual, by_expression, by_variable, by_composite, Test, condition, negation, operator, shape_of, conditions_of, Label}
use Rattle.ada_meaning.specs.Program.{Target, get_target, put_target, body_target, Program}
use Rattle.ada_meaning.specs.Arithmetic.{base_range, sign_of, holds, number_of_truth, is_true}
use Rattle.ada_meaning.specs.State.{Place, part_at}
use Rattle.ada_meaning.specs.Resolved.{ResolvedParameter, number_in, bounds_in, target_in, parameters_of, place_in}
use Rattle.ada_meaning.specs.Calls.{Argument, of_value, of_composite, Calls, next_parameter, word_bounds}
use Rattle.ada_meaning.specs.Expressions.{value, place, given, test, decides, named, performed, completed, Evaluation}
use Rattle.ada_meaning.specs.Collected.{Standing, Decision, in_expr, in_parts, in_actuals, in_test, in_decision}
use Rattle.ada_meaning.proofs.Quiet.{fetch_quiet, depth_now_quiet}
use Rattle.ada_meaning.proofs.QuietParts.{check_quiet, checked_quiet, operated_quiet, argument_of_quiet, get_word_quiet, put_word_quiet, with_one_quiet, result_of_quiet}
use Rattle.ada_meaning.proofs.Evaluations.{LeadsToOutcome, evaluation_leads}
use Rattle.ada_meaning.proofs.Keeping.{in_first, in_second, Keeps, bind_keeps_given, bind_keeps, then_keeps, if_keeps, quiet_keeps, happens_keeps, give_keeps, tick_keeps}

-- the body of each subprogram adds only events of the kind
abbrev pub CallsKeep : (Event → Type 0) → Calls → Type 0
CallsKeep Q calls = (j n : ℕ) (arguments : List Argument) → Keeps Q (calls j n arguments)

-- events of a decision are of the kind, with the vectors of paths of its graph
abbrev pub IsKnown : (Event → Type 0) → Decision → Type 0
IsKnown Q h = (inst : ℕ) (v : Vector) → IsPathVector (graph (shape_of h.test)) v → Q (Done (record { 0 = h.label.number }) (record { 0 = inst }) v)

module _ {Q : Event → Type 0} (p : Program) {calls : Calls} (keep : CallsKeep Q calls) (inst : ℕ) where
  pub performed_keeps : (t : Target) (arguments : List Argument) → Keeps Q (performed calls t arguments)
  performed_keeps get_target arguments = then_keeps (quiet_keeps (with_one_quiet get_word_quiet arguments)) (give_keeps None)
  performed_keeps put_target arguments = then_keeps (quiet_keeps (with_one_quiet put_word_quiet arguments)) (give_keeps None)
  performed_keeps (body_target j n) arguments = keep j n arguments

  -- the end of an evaluation whose steps are a path to its outcome
  completed_keeps : (d : Label) (t : Test) (v : Evaluation) → LeadsToOutcome t v
      → ((i : ℕ) (w : Vector) → IsPathVector (graph (shape_of t)) w → Q (Done (record { 0 = d.number }) (record { 0 = i }) w))
      → Keeps Q (completed d inst v)
  completed_keeps d t v leads known = then_keeps (happens_keeps (Done (record { 0 = d.number }) (record { 0 = inst }) (vector_of v.steps))
      (known inst (vector_of v.steps) (record { path = v.steps; ends = v.outcome; leads = leads; shown = refl }))) (give_keeps v.outcome)

  module _ (s : ℕ) where
    -- the decisions of a part are known
    abbrev AreKnown : List Decision → Type 0
    AreKnown hs = Everywhere (IsKnown Q) hs

    mutual
      pub value_keeps : (e : Expr) → AreKnown (in_expr s e) → Keeps Q (value p calls inst e)
      value_keeps (literal x) known = then_keeps tick_keeps (give_keeps x)
      value_keeps (constant e) known = then_keeps tick_keeps (give_keeps (number_in p inst e))
      value_keeps (attribute o parts e) known = then_keeps tick_keeps (bind_keeps (quiet_keeps depth_now_quiet) (λ depth.
          bind_keeps (place_keeps parts (place_in p inst depth o) known) (λ q. give_keeps (number_in p inst e))))
      value_keeps (read o parts) known = then_keeps tick_keeps (bind_keeps (quiet_keeps depth_now_quiet) (λ depth.
          bind_keeps (place_keeps parts (place_in p inst depth o) known) (λ q. quiet_keeps (fetch_quiet q))))
      value_keeps (signed o e) known =
          then_keeps tick_keeps (bind_keeps (value_keeps e known) (λ x. quiet_keeps (checked_quiet base_range (sign_of o x))))
      value_keeps (operation o e f) known =
          then_keeps tick_keeps (bind_keeps (value_keeps e (in_first (IsKnown Q) (in_expr s e) (in_expr s f) known)) (λ x.
          bind_keeps (value_keeps f (in_second (IsKnown Q) (in_expr s e) (in_expr s f) known)) (λ y. quiet_keeps (operated_quiet o x y))))
      value_keeps (relation r e f) known =
          then_keeps tick_keeps (bind_keeps (value_keeps e (in_first (IsKnown Q) (in_expr s e) (in_expr s f) known)) (λ x.
          bind_keeps (value_keeps f (in_second (IsKnown Q) (in_expr s e) (in_expr s f) known)) (λ y. give_keeps (number_of_truth (holds r x y)))))
      value_keeps (complement e) known =
          then_keeps tick_keeps (bind_keeps (value_keeps e known) (λ x. give_keeps (number_of_truth (not (is_true x)))))
      value_keeps (conversion r e) known =
          then_keeps tick_keeps (bind_keeps (value_keeps e known) (λ x. quiet_keeps (checked_quiet (bounds_in p inst r) x)))
      value_keeps (call c actuals) known = then_keeps tick_keeps (bind_keeps (given_keeps actuals (parameters_of p (target_in p inst c)) known) (λ arguments.
          bind_keeps (performed_keeps (target_in p inst c) arguments) (λ r. quiet_keeps (result_of_quiet r))))
      value_keeps (decision d t) known = then_keeps tick_keeps (bind_keeps_given (test_keeps t 0 [] known.1) (evaluation_leads p calls inst t) (λ v leads.
          bind_keeps (completed_keeps d t v leads known.0) (λ b. give_keeps (number_of_truth b))))

      pub place_keeps : (parts : Parts) (q : Place) → AreKnown (in_parts s parts) → Keeps Q (place p calls inst parts q)
      place_keeps whole q known = give_keeps q
      place_keeps (component n parts) q known = then_keeps tick_keeps (place_keeps parts (part_at (pos n) q) known)
      place_keeps (element r e parts) q known =
          then_keeps tick_keeps (bind_keeps (value_keeps e (in_first (IsKnown Q) (in_expr s e) (in_parts s parts) known)) (λ i.
          then_keeps (quiet_keeps (check_quiet (bounds_in p inst r) i))
          (place_keeps parts (part_at i q) (in_second (IsKnown Q) (in_expr s e) (in_parts s parts) known))))

      pub given_keeps : (actuals : Actuals) (qs : List ResolvedParameter) → AreKnown (in_actuals s actuals) → Keeps Q (given p calls inst actuals qs)
      given_keeps no_actual qs known = give_keeps []
      given_keeps (by_expression e actuals) qs known =
          then_keeps tick_keeps (bind_keeps (value_keeps e (in_first (IsKnown Q) (in_expr s e) (in_actuals s actuals) known)) (λ x.
          then_keeps (quiet_keeps (check_quiet (word_bounds (next_parameter qs).shape) x))
          (bind_keeps (given_keeps actuals (drop 1 qs) (in_second (IsKnown Q) (in_expr s e) (in_actuals s actuals) known)) (λ arguments.
          give_keeps (of_value x ∷ arguments)))))
      given_keeps (by_variable o parts r actuals) qs known = then_keeps tick_keeps (bind_keeps (quiet_keeps depth_now_quiet) (λ depth.
          bind_keeps (place_keeps parts (place_in p inst depth o) (in_first (IsKnown Q) (in_parts s parts) (in_actuals s actuals) known)) (λ q.
          bind_keeps (quiet_keeps (argument_of_quiet (next_parameter qs).mode (word_bounds (next_parameter qs).shape) q (bounds_in p inst r))) (λ argument.
          bind_keeps (given_keeps actuals (drop 1 qs) (in_second (IsKnown Q) (in_parts s parts) (in_actuals s actuals) known)) (λ arguments.
          give_keeps (argument ∷ arguments))))))
      given_keeps (by_composite o parts actuals) qs known = then_keeps tick_keeps (bind_keeps (quiet_keeps depth_now_quiet) (λ depth.
          bind_keeps (place_keeps parts (place_in p inst depth o) (in_first (IsKnown Q) (in_parts s parts) (in_actuals s actuals) known)) (λ q.
          bind_keeps (given_keeps actuals (drop 1 qs) (in_second (IsKnown Q) (in_parts s parts) (in_actuals s actuals) known)) (λ arguments.
          give_keeps (of_composite q ∷ arguments)))))

      pub test_keeps : (t : Test) (n : ℕ) (steps : List Step) → AreKnown (in_test s t) → Keeps Q (test p calls inst t n steps)
      test_keeps (condition at e) n steps known = then_keeps tick_keeps (bind_keeps (value_keeps e known) (λ x.
          give_keeps (record { outcome = is_true x; steps = record { at_node = n; value = is_true x } ∷ steps })))
      test_keeps (negation t) n steps known = then_keeps tick_keeps (bind_keeps (test_keeps t n steps known) (λ v.
          give_keeps (record { outcome = not v.outcome; steps = v.steps })))
      test_keeps (operator true t u) n steps known =
          then_keeps tick_keeps (bind_keeps (test_keeps t n steps (in_first (IsKnown Q) (in_test s t) (in_test s u) known)) (λ v.
          if_keeps v.outcome (test_keeps u (n + conditions_of t) v.steps (in_second (IsKnown Q) (in_test s t) (in_test s u) known)) (give_keeps v)))
      test_keeps (operator false t u) n steps known =
          then_keeps tick_keeps (bind_keeps (test_keeps t n steps (in_first (IsKnown Q) (in_test s t) (in_test s u) known)) (λ v.
          if_keeps v.outcome (give_keeps v) (test_keeps u (n + conditions_of t) v.steps (in_second (IsKnown Q) (in_test s t) (in_test s u) known))))

    pub decides_keeps : (at : Standing) (d : Label) (t : Test) → AreKnown (in_decision s at d t) → Keeps Q (decides p calls inst d t)
    decides_keeps at d t known =
        bind_keeps_given (test_keeps t 0 [] known.1) (evaluation_leads p calls inst t) (λ v leads. completed_keeps d t v leads known.0)

    pub named_keeps : (o : Object) (parts : Parts) → AreKnown (in_parts s parts) → Keeps Q (named p calls inst o parts)
    named_keeps o parts known = bind_keeps (quiet_keeps depth_now_quiet) (λ depth. place_keeps parts (place_in p inst depth o) known)
