-- Expressions with more fuel for calls.
use Rattle.std.proofs.Common.{ℕ, ◌+◌, pos, true, false, not, List, [], ◌∷◌, drop, None}
use Rattle.cov_base.specs.Path.{Step}
use Rattle.ada_meaning.specs.Tree.{Object, Expr, literal, constant, attribute, read, signed, operation, relation, complement, conversion, call, decision, Parts, whole, component, element, Actuals, no_actual, by_expression, by_variable, by_composite, Test, condition, negation, operator, conditions_of, Label}
use Rattle.ada_meaning.specs.Program.{Target, get_target, put_target, body_target, Program}
use Rattle.ada_meaning.specs.Arithmetic.{base_range, sign_of, holds, number_of_truth, is_true}
use Rattle.ada_meaning.specs.State.{Place, part_at}
use Rattle.ada_meaning.specs.Resolved.{ResolvedParameter, number_in, bounds_in, target_in, parameters_of, place_in}
use Rattle.ada_meaning.specs.Calls.{Argument, of_value, of_composite, Calls, next_parameter, word_bounds}
use Rattle.ada_meaning.specs.Expressions.{value, place, given, test, decides, named, performed}
use Rattle.ada_meaning.proofs.Quiet.{fetch_quiet, depth_now_quiet}
use Rattle.ada_meaning.proofs.Growing.{completed_grows}
use Rattle.ada_meaning.proofs.QuietParts.{check_quiet, checked_quiet, operated_quiet, argument_of_quiet, get_word_quiet, put_word_quiet, with_one_quiet, result_of_quiet}
use Rattle.ada_meaning.proofs.Improving.{Improves, steady, quiet, bind_improves, then_improves, if_improves, give_improves, tick_improves}

-- calls with more fuel
abbrev pub CallsImprove : Calls → Calls → Type 0
CallsImprove few many = (j n : ℕ) (arguments : List Argument) → Improves (few j n arguments) (many j n arguments)

module _ (p : Program) {few many : Calls} (better : CallsImprove few many) (inst : ℕ) where
  pub performed_improves : (t : Target) (arguments : List Argument) → Improves (performed few t arguments) (performed many t arguments)
  performed_improves get_target arguments = then_improves (quiet (with_one_quiet get_word_quiet arguments)) (give_improves None)
  performed_improves put_target arguments = then_improves (quiet (with_one_quiet put_word_quiet arguments)) (give_improves None)
  performed_improves (body_target j n) arguments = better j n arguments

  mutual
    pub value_improves : (e : Expr) → Improves (value p few inst e) (value p many inst e)
    value_improves (literal x) = then_improves tick_improves (give_improves x)
    value_improves (constant e) = then_improves tick_improves (give_improves (number_in p inst e))
    value_improves (attribute o parts e) = then_improves tick_improves (bind_improves (quiet depth_now_quiet) (λ depth.
        bind_improves (place_improves parts (place_in p inst depth o)) (λ q. give_improves (number_in p inst e))))
    value_improves (read o parts) = then_improves tick_improves (bind_improves (quiet depth_now_quiet) (λ depth.
        bind_improves (place_improves parts (place_in p inst depth o)) (λ q. quiet (fetch_quiet q))))
    value_improves (signed s e) =
        then_improves tick_improves (bind_improves (value_improves e) (λ x. quiet (checked_quiet base_range (sign_of s x))))
    value_improves (operation o e f) = then_improves tick_improves (bind_improves (value_improves e) (λ x.
        bind_improves (value_improves f) (λ y. quiet (operated_quiet o x y))))
    value_improves (relation r e f) = then_improves tick_improves (bind_improves (value_improves e) (λ x.
        bind_improves (value_improves f) (λ y. give_improves (number_of_truth (holds r x y)))))
    value_improves (complement e) =
        then_improves tick_improves (bind_improves (value_improves e) (λ x. give_improves (number_of_truth (not (is_true x)))))
    value_improves (conversion r e) =
        then_improves tick_improves (bind_improves (value_improves e) (λ x. quiet (checked_quiet (bounds_in p inst r) x)))
    value_improves (call c actuals) = then_improves tick_improves (bind_improves (given_improves actuals (parameters_of p (target_in p inst c))) (λ arguments.
        bind_improves (performed_improves (target_in p inst c) arguments) (λ r. quiet (result_of_quiet r))))
    value_improves (decision d t) = then_improves tick_improves (bind_improves (test_improves t 0 []) (λ v.
        bind_improves (steady (completed_grows d inst v)) (λ b. give_improves (number_of_truth b))))

    pub place_improves : (parts : Parts) (q : Place) → Improves (place p few inst parts q) (place p many inst parts q)
    place_improves whole q = give_improves q
    place_improves (component n parts) q = then_improves tick_improves (place_improves parts (part_at (pos n) q))
    place_improves (element r e parts) q = then_improves tick_improves (bind_improves (value_improves e) (λ i.
        then_improves (quiet (check_quiet (bounds_in p inst r) i)) (place_improves parts (part_at i q))))

    pub given_improves : (actuals : Actuals) (qs : List ResolvedParameter) → Improves (given p few inst actuals qs) (given p many inst actuals qs)
    given_improves no_actual qs = give_improves []
    given_improves (by_expression e actuals) qs = then_improves tick_improves (bind_improves (value_improves e) (λ x.
        then_improves (quiet (check_quiet (word_bounds (next_parameter qs).shape) x))
        (bind_improves (given_improves actuals (drop 1 qs)) (λ arguments. give_improves (of_value x ∷ arguments)))))
    given_improves (by_variable o parts r actuals) qs = then_improves tick_improves (bind_improves (quiet depth_now_quiet) (λ depth.
        bind_improves (place_improves parts (place_in p inst depth o)) (λ q.
        bind_improves (quiet (argument_of_quiet (next_parameter qs).mode (word_bounds (next_parameter qs).shape) q (bounds_in p inst r))) (λ argument.
        bind_improves (given_improves actuals (drop 1 qs)) (λ arguments. give_improves (argument ∷ arguments))))))
    given_improves (by_composite o parts actuals) qs = then_improves tick_improves (bind_improves (quiet depth_now_quiet) (λ depth.
        bind_improves (place_improves parts (place_in p inst depth o)) (λ q.
        bind_improves (given_improves actuals (drop 1 qs)) (λ arguments. give_improves (of_composite q ∷ arguments)))))

    pub test_improves : (t : Test) (n : ℕ) (steps : List Step) → Improves (test p few inst t n steps) (test p many inst t n steps)
    test_improves (condition at e) n steps = then_improves tick_improves (bind_improves (value_improves e) (λ x.
        give_improves (record { outcome = is_true x; steps = record { at_node = n; value = is_true x } ∷ steps })))
    test_improves (negation t) n steps = then_improves tick_improves (bind_improves (test_improves t n steps) (λ v.
        give_improves (record { outcome = not v.outcome; steps = v.steps })))
    test_improves (operator true t u) n steps = then_improves tick_improves (bind_improves (test_improves t n steps) (λ v.
        if_improves v.outcome (test_improves u (n + conditions_of t) v.steps) (give_improves v)))
    test_improves (operator false t u) n steps = then_improves tick_improves (bind_improves (test_improves t n steps) (λ v.
        if_improves v.outcome (give_improves v) (test_improves u (n + conditions_of t) v.steps)))

  pub decides_improves : (d : Label) (t : Test) → Improves (decides p few inst d t) (decides p many inst d t)
  decides_improves d t = bind_improves (test_improves t 0 []) (λ v. steady (completed_grows d inst v))

  pub named_improves : (o : Object) (parts : Parts) → Improves (named p few inst o parts) (named p many inst o parts)
  named_improves o parts = bind_improves (quiet depth_now_quiet) (λ depth. place_improves parts (place_in p inst depth o))
