-- The execution of declarations and statements.
use Rattle.std.specs.Prelude.{ℕ, zero, suc, nat_eq, ℤ, pos, negsuc, ◌+ℤ◌, Bool, true, false, List, [], ◌∷◌, Option, Some, None, if◌then◌else◌}
use Rattle.std.specs.Ordering.{int_eq}
use Rattle.cov_base.specs.declared.event.Event.TheVariants.{Start}
use Rattle.ada_meaning.specs.Tree.{Label, NewValue, scalar_value, composite_value, others_value, Choice, value_choice, range_choice, other_values, ExceptionChoice, named_exception, other_exceptions, LoopRange, over_subtype, over_bounds, Declaration, initialized, without_value, Stmt, null_statement, assignment, procedure_call, if_statement, case_statement, bare_loop, while_loop, for_loop, exit_statement, exit_when, return_statement, return_value, raise_statement, raise_again, block_statement, Stmts, no_statement, and_statement, Branches, else_part, branch, Alternatives, no_alternative, alternative, Handlers, no_handler, handler, Block, block}
use Rattle.ada_meaning.specs.Program.{Bounds, Program}
use Rattle.ada_meaning.specs.Arithmetic.{count_between, is_within}
use Rattle.ada_meaning.specs.State.{Place, part_at, Action, give, raise, done, out_of_fuel, catch, ◌>>=◌, ◌>>◌, tick, happens, set_word, depth_now}
use Rattle.ada_meaning.specs.Shape.{each_in, set_first, copy_parts}
use Rattle.ada_meaning.specs.Resolved.{constraint_error, number_in, bounds_in, shape_in, target_in, exception_in, parameters_of, local_place}
use Rattle.ada_meaning.specs.Calls.{Calls, check}
use Rattle.ada_meaning.specs.Expressions.{value, given, decides, named, performed}

-- how a statement ends, if no exception is raised: it is done, it leaves the innermost loop, or it returns from the body, with the result of
-- a function
pub data Flow : Type 0 where
  goes_on : Flow
  leaves : Flow
  returns : Option ℤ → Flow

-- what comes after a statement that is done
abbrev pub continued : Flow → Action Flow → Action Flow
continued goes_on m = m
continued leaves m = give leaves
continued (returns r) m = give (returns r)

-- what comes after the body of a loop
abbrev pub looped : Flow → Action Flow → Action Flow
looped goes_on m = m
looped leaves m = give goes_on
looped (returns r) m = give (returns r)

-- a loop with at most this many turns (RM 5.5): its body is executed as long as the test gives True
abbrev pub turns : ℕ → Action Bool → Action Flow → Action Flow
turns zero test body = out_of_fuel
turns (suc n) test body = do
  tick
  b ← test
  if b then (body >>= λ f. looped f (turns n test body)) else give goes_on

-- the turns of a for loop (RM 5.5): the parameter at q has the values from i on, in steps of one up or down
abbrev pub counted : ℕ → ℤ → ℤ → Place → Action Flow → Action Flow
counted zero step i q body = give goes_on
counted (suc n) step i q body = do
  tick
  set_word q i
  f ← body
  looped f (counted n step (i +ℤ step) q body)

-- the turns of a for loop between two bounds: rising, or for a reverse loop falling
abbrev pub counted_between : Bool → Bounds → Place → Action Flow → Action Flow
counted_between false b q body = counted (count_between b.low b.high) (pos 1) b.low q body
counted_between true b q body = counted (count_between b.low b.high) (negsuc 0) b.high q body

-- `raise;` raises what the innermost enclosing handler took (RM 11.3); it stands in a handler
abbrev pub raised_again : Option ℕ → Action Flow
raised_again None = give goes_on
raised_again (Some e) = raise e

module _ (p : Program) (calls : Calls) (fuel : ℕ) (inst : ℕ) where
  -- a statement starts
  abbrev pub starts : Label → Action (Unit {0})
  starts l = do
    tick
    happens (Start (record { 0 = l.number }) (record { 0 = inst }))

  -- sets a place to a value: the expression is evaluated, checked and assigned; (others => ..) does so for each component (RM 4.3.3, 5.2)
  abbrev pub sets : NewValue → Place → Action (Unit {0})
  sets (scalar_value r e) q = do
    tick
    x ← value p calls inst e
    check (bounds_in p inst r) x
    set_word q x
  sets (composite_value t o parts) q = do
    tick
    from ← named p calls inst o parts
    copy_parts (shape_in p inst t) from q
  sets (others_value r v) q = do
    tick
    each_in (bounds_in p inst r) (λ i. sets v (part_at i q))

  -- elaborates a declaration (RM 3.3.1)
  abbrev pub declares : Declaration → Action (Unit {0})
  declares (initialized l d v) = do
    starts l
    depth ← depth_now
    sets v (local_place inst depth d)
  declares (without_value d t) = do
    tick
    depth ← depth_now
    set_first (shape_in p inst t) (local_place inst depth d)

  -- elaborates declarations in order
  abbrev pub declares_all : List Declaration → Action (Unit {0})
  declares_all [] = done
  declares_all (d ∷ ds) = declares d >> declares_all ds

  -- whether a value is among those of a choice (RM 5.4)
  abbrev pub is_chosen : Choice → ℤ → Bool
  is_chosen (value_choice e) x = int_eq x (number_in p inst e)
  is_chosen (range_choice e f) x = is_within (record { low = number_in p inst e; high = number_in p inst f }) x
  is_chosen other_values x = true

  -- looks at the choices of an alternative, in order, up to the first that has the value: whether there is one
  abbrev pub chooses : List Choice → ℤ → Action Bool
  chooses [] x = give false
  chooses (c ∷ cs) x = tick >> (if is_chosen c x then give true else chooses cs x)

  -- whether an exception is that of a choice (RM 11.4)
  abbrev pub is_caught : ExceptionChoice → ℕ → Bool
  is_caught (named_exception x) e = nat_eq e (exception_in p inst x)
  is_caught other_exceptions e = true

  -- looks at the choices of a handler, in order, up to the first that has the exception: whether there is one
  abbrev pub catches : List ExceptionChoice → ℕ → Action Bool
  catches [] e = give false
  catches (c ∷ cs) e = tick >> (if is_caught c e then give true else catches cs e)

  -- the bounds of a for loop, low before high
  abbrev pub turns_of : LoopRange → Action Bounds
  turns_of (over_subtype r) = give (bounds_in p inst r)
  turns_of (over_bounds e f) = do
    x ← value p calls inst e
    y ← value p calls inst f
    give (record { low = x; high = y })

  abbrev mutual
    -- executes a statement; `taken` is the exception that the innermost enclosing handler of the same body took
    pub does : Stmt → Option ℕ → Action Flow
    does (null_statement l) taken = do
      starts l
      give goes_on
    does (assignment l o parts v) taken = do
      starts l
      q ← named p calls inst o parts
      sets v q
      give goes_on
    does (procedure_call l c actuals) taken = do
      starts l
      arguments ← given p calls inst actuals (parameters_of p (target_in p inst c))
      r ← performed calls (target_in p inst c) arguments
      give goes_on
    does (if_statement l bs) taken = do
      starts l
      does_branch bs taken
    does (case_statement l e choices) taken = do
      starts l
      x ← value p calls inst e
      does_alternative choices x taken
    does (bare_loop l ss) taken = do
      starts l
      turns fuel (give true) (does_all ss taken)
    does (while_loop l d t ss) taken = do
      starts l
      turns fuel (decides p calls inst d t) (does_all ss taken)
    does (for_loop l d reversed ts ss) taken = do
      starts l
      b ← turns_of ts
      depth ← depth_now
      counted_between reversed b (local_place inst depth d) (does_all ss taken)
    does (exit_statement l) taken = do
      starts l
      give leaves
    does (exit_when l d t) taken = do
      starts l
      b ← decides p calls inst d t
      if b then give leaves else give goes_on
    does (return_statement l) taken = do
      starts l
      give (returns None)
    does (return_value l r e) taken = do
      starts l
      x ← value p calls inst e
      check (bounds_in p inst r) x
      give (returns (Some x))
    does (raise_statement l x) taken = do
      starts l
      raise (exception_in p inst x)
    does (raise_again l) taken = do
      starts l
      raised_again taken
    does (block_statement b) taken = do
      tick
      does_block b taken

    -- executes statements in order
    pub does_all : Stmts → Option ℕ → Action Flow
    does_all no_statement taken = give goes_on
    does_all (and_statement s ss) taken = do
      f ← does s taken
      continued f (does_all ss taken)

    -- executes the statements of the first branch whose decision is True (RM 5.3)
    pub does_branch : Branches → Option ℕ → Action Flow
    does_branch (else_part ss) taken = does_all ss taken
    does_branch (branch d t ss bs) taken = do
      b ← decides p calls inst d t
      if b then does_all ss taken else does_branch bs taken

    -- executes the statements of the first alternative that has the value (RM 5.4)
    pub does_alternative : Alternatives → ℤ → Option ℕ → Action Flow
    does_alternative no_alternative x taken = raise constraint_error
    does_alternative (alternative cs ss rest) x taken = do
      b ← chooses cs x
      if b then does_all ss taken else does_alternative rest x taken

    -- executes the statements of the first handler that has the exception; without one it is raised further (RM 11.4)
    pub does_handler : Handlers → ℕ → Action Flow
    does_handler no_handler e = raise e
    does_handler (handler cs ss hs) e = do
      b ← catches cs e
      if b then does_all ss (Some e) else does_handler hs e

    -- the handlers serve for the statements alone: not for the declarations, and not for themselves (RM 11.4)
    pub does_block : Block → Option ℕ → Action Flow
    does_block (block ds ss hs) taken = do
      declares_all ds
      catch (does_all ss taken) (λ e. does_handler hs e)
