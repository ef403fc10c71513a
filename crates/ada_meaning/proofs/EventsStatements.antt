-- The events of statements are those of their obligations and decisions.
use Rattle.std.proofs.Common.{ℕ, ℤ, true, List, [], ◌∷◌, ◌++◌, Option, Some, None}
use Rattle.cov_base.specs.declared.event.Event.{Event}
use Rattle.cov_base.specs.declared.event.Event.TheVariants.{Start}
use Rattle.cov_base.specs.Lists.{Everywhere}
use Rattle.ada_meaning.specs.Tree.{Label, NewValue, scalar_value, composite_value, others_value, LoopRange, over_subtype, over_bounds, Declaration, initialized, without_value, Stmt, null_statement, assignment, procedure_call, if_statement, case_statement, bare_loop, while_loop, for_loop, exit_statement, exit_when, return_statement, return_value, raise_statement, raise_again, block_statement, Stmts, no_statement, and_statement, Branches, else_part, branch, Alternatives, no_alternative, alternative, Handlers, no_handler, handler, Block, block}
use Rattle.ada_meaning.specs.Program.{Program}
use Rattle.ada_meaning.specs.State.{Place, part_at}
use Rattle.ada_meaning.specs.Resolved.{constraint_error, bounds_in, shape_in, target_in, exception_in, parameters_of, local_place}
use Rattle.ada_meaning.specs.Calls.{Calls}
use Rattle.ada_meaning.specs.Statements.{goes_on, leaves, returns, starts, sets, declares_all, turns_of, does, does_all, does_branch, does_alternative, does_handler, does_block}
use Rattle.ada_meaning.specs.Collected.{Decision, after_if, after_while, after_exit, in_expr, in_parts, in_value, in_turns, in_decision, in_declarations, in_stmt, in_stmts, in_branches, in_alternatives, in_handlers, in_block, declaration_labels, labels, all_labels, branch_labels, alternative_labels, handler_labels, block_labels}
use Rattle.ada_meaning.proofs.Quiet.{depth_now_quiet, raise_quiet, set_word_quiet}
use Rattle.ada_meaning.proofs.QuietParts.{done_quiet, set_first_quiet, copy_parts_quiet, check_quiet, raised_again_quiet, chooses_quiet, catches_quiet}
use Rattle.ada_meaning.proofs.Keeping.{in_first, in_second, Keeps, bind_keeps, then_keeps, if_keeps, catch_keeps, quiet_keeps, happens_keeps, give_keeps, tick_keeps, each_in_keeps, continued_keeps, turns_keep, counted_between_keeps}
use Rattle.ada_meaning.proofs.EventsExpressions.{CallsKeep, IsKnown, performed_keeps, value_keeps, given_keeps, decides_keeps, named_keeps}

-- starts of a statement obligation are of the kind
abbrev pub IsStart : (Event → Type 0) → Label → Type 0
IsStart Q l = (inst : ℕ) → Q (Start (record { 0 = l.number }) (record { 0 = inst }))

module _ {Q : Event → Type 0} (p : Program) {calls : Calls} (keep : CallsKeep Q calls) (fuel : ℕ) (inst : ℕ) where
  abbrev K : Decision → Type 0
  K = IsKnown Q

  abbrev L : Label → Type 0
  L = IsStart Q

  starts_keeps : (l : Label) → L l → Keeps Q (starts p calls fuel inst l)
  starts_keeps l known = then_keeps tick_keeps (happens_keeps (Start (record { 0 = l.number }) (record { 0 = inst })) (known inst))

  sets_keeps : (s : ℕ) (v : NewValue) (q : Place) → Everywhere K (in_value s v) → Keeps Q (sets p calls fuel inst v q)
  sets_keeps s (scalar_value r e) q known = then_keeps tick_keeps (bind_keeps (value_keeps p keep inst s e known) (λ x.
      then_keeps (quiet_keeps (check_quiet (bounds_in p inst r) x)) (quiet_keeps (set_word_quiet q x))))
  sets_keeps s (composite_value t o parts) q known = then_keeps tick_keeps (bind_keeps (named_keeps p keep inst s o parts known) (λ from.
      quiet_keeps (copy_parts_quiet (shape_in p inst t) from q)))
  sets_keeps s (others_value r v) q known =
      then_keeps tick_keeps (each_in_keeps (bounds_in p inst r) (λ i. sets_keeps s v (part_at i q) known))

  declares_all_keeps : (ds : List Declaration) → Everywhere K (in_declarations ds) → Everywhere L (declaration_labels ds)
      → Keeps Q (declares_all p calls fuel inst ds)
  declares_all_keeps [] known started = quiet_keeps done_quiet
  declares_all_keeps (initialized l d v ∷ ds) known started = then_keeps
      (then_keeps (starts_keeps l started.0) (bind_keeps (quiet_keeps depth_now_quiet) (λ depth.
      sets_keeps l.number v (local_place inst depth d) (in_first K (in_value l.number v) (in_declarations ds) known))))
      (declares_all_keeps ds (in_second K (in_value l.number v) (in_declarations ds) known) started.1)
  declares_all_keeps (without_value d t ∷ ds) known started = then_keeps
      (then_keeps tick_keeps (bind_keeps (quiet_keeps depth_now_quiet) (λ depth.
      quiet_keeps (set_first_quiet (shape_in p inst t) (local_place inst depth d)))))
      (declares_all_keeps ds known started)

  turns_of_keeps : (s : ℕ) (ts : LoopRange) → Everywhere K (in_turns s ts) → Keeps Q (turns_of p calls fuel inst ts)
  turns_of_keeps s (over_subtype r) known = give_keeps (bounds_in p inst r)
  turns_of_keeps s (over_bounds e f) known = bind_keeps (value_keeps p keep inst s e (in_first K (in_expr s e) (in_expr s f) known)) (λ x.
      bind_keeps (value_keeps p keep inst s f (in_second K (in_expr s e) (in_expr s f) known)) (λ y. give_keeps (record { low = x; high = y })))

  mutual
    pub does_keeps : (st : Stmt) (taken : Option ℕ) → Everywhere K (in_stmt st) → Everywhere L (labels st) → Keeps Q (does p calls fuel inst st taken)
    does_keeps (null_statement l) taken known started = then_keeps (starts_keeps l started.0) (give_keeps goes_on)
    does_keeps (assignment l o parts v) taken known started = then_keeps (starts_keeps l started.0)
        (bind_keeps (named_keeps p keep inst l.number o parts (in_first K (in_parts l.number parts) (in_value l.number v) known)) (λ q.
        then_keeps (sets_keeps l.number v q (in_second K (in_parts l.number parts) (in_value l.number v) known)) (give_keeps goes_on)))
    does_keeps (procedure_call l c actuals) taken known started = then_keeps (starts_keeps l started.0)
        (bind_keeps (given_keeps p keep inst l.number actuals (parameters_of p (target_in p inst c)) known) (λ arguments.
        bind_keeps (performed_keeps p keep inst (target_in p inst c) arguments) (λ r. give_keeps goes_on)))
    does_keeps (if_statement l bs) taken known started = then_keeps (starts_keeps l started.0) (branch_keeps l.number bs taken known started.1)
    does_keeps (case_statement l e choices) taken known started = then_keeps (starts_keeps l started.0)
        (bind_keeps (value_keeps p keep inst l.number e (in_first K (in_expr l.number e) (in_alternatives choices) known)) (λ x.
        alternative_keeps choices x taken (in_second K (in_expr l.number e) (in_alternatives choices) known) started.1))
    does_keeps (bare_loop l ss) taken known started =
        then_keeps (starts_keeps l started.0) (turns_keep fuel (give_keeps true) (all_keeps ss taken known started.1))
    does_keeps (while_loop l d t ss) taken known started = then_keeps (starts_keeps l started.0) (turns_keep fuel
        (decides_keeps p keep inst l.number after_while d t (in_first K (in_decision l.number after_while d t) (in_stmts ss) known))
        (all_keeps ss taken (in_second K (in_decision l.number after_while d t) (in_stmts ss) known) started.1))
    does_keeps (for_loop l d reversed ts ss) taken known started = then_keeps (starts_keeps l started.0)
        (bind_keeps (turns_of_keeps l.number ts (in_first K (in_turns l.number ts) (in_stmts ss) known)) (λ b.
        bind_keeps (quiet_keeps depth_now_quiet) (λ depth. counted_between_keeps reversed b (local_place inst depth d)
        (all_keeps ss taken (in_second K (in_turns l.number ts) (in_stmts ss) known) started.1))))
    does_keeps (exit_statement l) taken known started = then_keeps (starts_keeps l started.0) (give_keeps leaves)
    does_keeps (exit_when l d t) taken known started = then_keeps (starts_keeps l started.0)
        (bind_keeps (decides_keeps p keep inst l.number after_exit d t known) (λ b. if_keeps b (give_keeps leaves) (give_keeps goes_on)))
    does_keeps (return_statement l) taken known started = then_keeps (starts_keeps l started.0) (give_keeps (returns None))
    does_keeps (return_value l r e) taken known started = then_keeps (starts_keeps l started.0) (bind_keeps (value_keeps p keep inst l.number e known) (λ x.
        then_keeps (quiet_keeps (check_quiet (bounds_in p inst r) x)) (give_keeps (returns (Some x)))))
    does_keeps (raise_statement l x) taken known started = then_keeps (starts_keeps l started.0) (quiet_keeps (raise_quiet (exception_in p inst x)))
    does_keeps (raise_again l) taken known started = then_keeps (starts_keeps l started.0) (quiet_keeps (raised_again_quiet taken))
    does_keeps (block_statement b) taken known started = then_keeps tick_keeps (block_keeps b taken known started)

    all_keeps : (ss : Stmts) (taken : Option ℕ) → Everywhere K (in_stmts ss) → Everywhere L (all_labels ss) → Keeps Q (does_all p calls fuel inst ss taken)
    all_keeps no_statement taken known started = give_keeps goes_on
    all_keeps (and_statement st ss) taken known started = bind_keeps
        (does_keeps st taken (in_first K (in_stmt st) (in_stmts ss) known) (in_first L (labels st) (all_labels ss) started))
        (λ f. continued_keeps f
        (all_keeps ss taken (in_second K (in_stmt st) (in_stmts ss) known) (in_second L (labels st) (all_labels ss) started)))

    branch_keeps : (s : ℕ) (bs : Branches) (taken : Option ℕ) → Everywhere K (in_branches s bs) → Everywhere L (branch_labels bs)
        → Keeps Q (does_branch p calls fuel inst bs taken)
    branch_keeps s (else_part ss) taken known started = all_keeps ss taken known started
    branch_keeps s (branch d t ss bs) taken known started =
        let before : Everywhere K (in_decision s after_if d t ++ in_stmts ss) = in_first K (in_decision s after_if d t ++ in_stmts ss) (in_branches s bs) known in
        bind_keeps (decides_keeps p keep inst s after_if d t (in_first K (in_decision s after_if d t) (in_stmts ss) before)) (λ b.
        if_keeps b
        (all_keeps ss taken (in_second K (in_decision s after_if d t) (in_stmts ss) before) (in_first L (all_labels ss) (branch_labels bs) started))
        (branch_keeps s bs taken (in_second K (in_decision s after_if d t ++ in_stmts ss) (in_branches s bs) known) (in_second L (all_labels ss) (branch_labels bs) started)))

    alternative_keeps : (choices : Alternatives) (x : ℤ) (taken : Option ℕ) → Everywhere K (in_alternatives choices)
        → Everywhere L (alternative_labels choices) → Keeps Q (does_alternative p calls fuel inst choices x taken)
    alternative_keeps no_alternative x taken known started = quiet_keeps (raise_quiet constraint_error)
    alternative_keeps (alternative cs ss rest) x taken known started = bind_keeps (quiet_keeps (chooses_quiet p calls fuel inst cs x)) (λ b.
        if_keeps b
        (all_keeps ss taken (in_first K (in_stmts ss) (in_alternatives rest) known) (in_first L (all_labels ss) (alternative_labels rest) started))
        (alternative_keeps rest x taken (in_second K (in_stmts ss) (in_alternatives rest) known) (in_second L (all_labels ss) (alternative_labels rest) started)))

    handler_keeps : (hs : Handlers) (e : ℕ) → Everywhere K (in_handlers hs) → Everywhere L (handler_labels hs)
        → Keeps Q (does_handler p calls fuel inst hs e)
    handler_keeps no_handler e known started = quiet_keeps (raise_quiet e)
    handler_keeps (handler cs ss hs) e known started = bind_keeps (quiet_keeps (catches_quiet p calls fuel inst cs e)) (λ b.
        if_keeps b
        (all_keeps ss (Some e) (in_first K (in_stmts ss) (in_handlers hs) known) (in_first L (all_labels ss) (handler_labels hs) started))
        (handler_keeps hs e (in_second K (in_stmts ss) (in_handlers hs) known) (in_second L (all_labels ss) (handler_labels hs) started)))

    pub block_keeps : (b : Block) (taken : Option ℕ) → Everywhere K (in_block b) → Everywhere L (block_labels b)
        → Keeps Q (does_block p calls fuel inst b taken)
    block_keeps (block ds ss hs) taken known started =
        let known_before : Everywhere K (in_declarations ds ++ in_stmts ss) = in_first K (in_declarations ds ++ in_stmts ss) (in_handlers hs) known in
        let started_before : Everywhere L (declaration_labels ds ++ all_labels ss) =
        in_first L (declaration_labels ds ++ all_labels ss) (handler_labels hs) started in
        then_keeps
        (declares_all_keeps ds (in_first K (in_declarations ds) (in_stmts ss) known_before) (in_first L (declaration_labels ds) (all_labels ss) started_before))
        (catch_keeps
        (all_keeps ss taken (in_second K (in_declarations ds) (in_stmts ss) known_before) (in_second L (declaration_labels ds) (all_labels ss) started_before))
        (λ e. handler_keeps hs e (in_second K (in_declarations ds ++ in_stmts ss) (in_handlers hs) known)
        (in_second L (declaration_labels ds ++ all_labels ss) (handler_labels hs) started)))
