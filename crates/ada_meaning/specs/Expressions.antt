-- The values of expressions and the places of names. Operands are evaluated left to right.
use Rattle.std.specs.Prelude.{ℕ, ◌+◌, ℤ, pos, Bool, true, false, not, ◌&&◌, List, [], ◌∷◌, drop, Option, None, if◌then◌else◌}
use Rattle.std.specs.Ordering.{int_eq}
use Rattle.cov_base.specs.declared.event.Event.TheVariants.{Done}
use Rattle.cov_base.specs.Path.{Step, vector_of}
use Rattle.ada_meaning.specs.Types.{Operator}
use Rattle.ada_meaning.specs.Tree.{Label, Object, Expr, literal, constant, attribute, read, signed, operation, relation, complement, conversion, call, decision, Parts, whole, component, element, Actuals, no_actual, by_expression, by_variable, by_composite, Test, condition, negation, operator, conditions_of}
use Rattle.ada_meaning.specs.Program.{Target, get_target, put_target, body_target, Program}
use Rattle.ada_meaning.specs.Arithmetic.{base_range, sign_of, exact, divides, holds, number_of_truth, is_true}
use Rattle.ada_meaning.specs.State.{Place, part_at, Action, give, raise, ◌>>=◌, ◌>>◌, tick, happens, fetch, depth_now}
use Rattle.ada_meaning.specs.Resolved.{constraint_error, ResolvedParameter, number_in, bounds_in, target_in, parameters_of, place_in}
use Rattle.ada_meaning.specs.Calls.{Argument, of_composite, of_value, Calls, check, checked, next_parameter, word_bounds, argument_of, get_word, put_word, with_one, result_of}

-- an operation: a divisor of 0 and a result outside the base range raise Constraint_Error (RM 4.5)
abbrev pub operated : Operator → ℤ → ℤ → Action ℤ
operated o x y = if divides o && int_eq y (pos 0) then raise constraint_error else checked base_range (exact o x y)

-- what was found of a decision: its outcome, and the conditions that were evaluated with their values, the latest first
pub record Evaluation : Type 0 where
  pub outcome : Bool
  pub steps : List Step

-- the end of a decision's evaluation: its vector is noted
abbrev pub completed : Label → ℕ → Evaluation → Action Bool
completed d inst v = happens (Done (record { 0 = d.number }) (record { 0 = inst }) (vector_of v.steps)) >> give v.outcome

-- does what a call comes to
abbrev pub performed : Calls → Target → List Argument → Action (Option ℤ)
performed calls get_target arguments = with_one get_word arguments >> give None
performed calls put_target arguments = with_one put_word arguments >> give None
performed calls (body_target j n) arguments = calls j n arguments

module _ (p : Program) (calls : Calls) (inst : ℕ) where
  abbrev mutual
    -- the value of an expression
    pub value : Expr → Action ℤ
    value (literal x) = do
      tick
      give x
    value (constant e) = do
      tick
      give (number_in p inst e)
    value (attribute o parts e) = do
      tick
      depth ← depth_now
      q ← place parts (place_in p inst depth o)
      give (number_in p inst e)
    value (read o parts) = do
      tick
      depth ← depth_now
      q ← place parts (place_in p inst depth o)
      fetch q
    value (signed s e) = do
      tick
      x ← value e
      checked base_range (sign_of s x)
    value (operation o e f) = do
      tick
      x ← value e
      y ← value f
      operated o x y
    value (relation r e f) = do
      tick
      x ← value e
      y ← value f
      give (number_of_truth (holds r x y))
    value (complement e) = do
      tick
      x ← value e
      give (number_of_truth (not (is_true x)))
    value (conversion r e) = do
      tick
      x ← value e
      checked (bounds_in p inst r) x
    value (call c actuals) = do
      tick
      arguments ← given actuals (parameters_of p (target_in p inst c))
      r ← performed calls (target_in p inst c) arguments
      result_of r
    value (decision d t) = do
      tick
      v ← test t 0 []
      b ← completed d inst v
      give (number_of_truth b)

    -- the place of a name: these parts of a place. An index is checked when it is evaluated (RM 4.1.1).
    pub place : Parts → Place → Action Place
    place whole q = give q
    place (component n parts) q = do
      tick
      place parts (part_at (pos n) q)
    place (element r e parts) q = do
      tick
      i ← value e
      check (bounds_in p inst r) i
      place parts (part_at i q)

    -- the arguments that actuals give, for these parameters; a value is checked before the next actual is evaluated (RM 6.4.1)
    pub given : Actuals → List ResolvedParameter → Action (List Argument)
    given no_actual qs = give []
    given (by_expression e actuals) qs = do
      tick
      x ← value e
      check (word_bounds (next_parameter qs).shape) x
      arguments ← given actuals (drop 1 qs)
      give (of_value x ∷ arguments)
    given (by_variable o parts r actuals) qs = do
      tick
      depth ← depth_now
      q ← place parts (place_in p inst depth o)
      argument ← argument_of (next_parameter qs).mode (word_bounds (next_parameter qs).shape) q (bounds_in p inst r)
      arguments ← given actuals (drop 1 qs)
      give (argument ∷ arguments)
    given (by_composite o parts actuals) qs = do
      tick
      depth ← depth_now
      q ← place parts (place_in p inst depth o)
      arguments ← given actuals (drop 1 qs)
      give (of_composite q ∷ arguments)

    -- what is found of a test whose first condition has the number n, after these steps. A right operand is evaluated only where the left
    -- one has the neutral value (RM 4.5.1).
    pub test : Test → ℕ → List Step → Action Evaluation
    test (condition at e) n steps = do
      tick
      x ← value e
      give (record { outcome = is_true x; steps = record { at_node = n; value = is_true x } ∷ steps })
    test (negation t) n steps = do
      tick
      v ← test t n steps
      give (record { outcome = not v.outcome; steps = v.steps })
    test (operator true t u) n steps = do
      tick
      v ← test t n steps
      if v.outcome then test u (n + conditions_of t) v.steps else give v
    test (operator false t u) n steps = do
      tick
      v ← test t n steps
      if v.outcome then give v else test u (n + conditions_of t) v.steps

  -- evaluates a decision, and gives its outcome
  abbrev pub decides : Label → Test → Action Bool
  decides d t = do
    v ← test t 0 []
    completed d inst v

  -- the place that a name denotes
  abbrev pub named : Object → Parts → Action Place
  named o parts = do
    depth ← depth_now
    place parts (place_in p inst depth o)
