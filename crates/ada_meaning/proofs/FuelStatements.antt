-- Statements with more fuel for calls and loops.
use Rattle.std.proofs.Common.{ℕ, suc, ℤ, true, List, [], ◌∷◌, Option, Some, None}
use Rattle.ada_meaning.specs.Tree.{Label, NewValue, scalar_value, composite_value, others_value, LoopRange, over_subtype, over_bounds, Declaration, initialized, without_value, Stmt, null_statement, assignment, procedure_call, if_statement, case_statement, bare_loop, while_loop, for_loop, exit_statement, exit_when, return_statement, return_value, raise_statement, raise_again, block_statement, Stmts, no_statement, and_statement, Branches, else_part, branch, Alternatives, no_alternative, alternative, Handlers, no_handler, handler, Block, block}
use Rattle.ada_meaning.specs.Program.{Program}
use Rattle.ada_meaning.specs.State.{Place, part_at}
use Rattle.ada_meaning.specs.Resolved.{constraint_error, bounds_in, shape_in, target_in, exception_in, parameters_of, local_place}
use Rattle.ada_meaning.specs.Calls.{Calls}
use Rattle.ada_meaning.specs.Statements.{goes_on, leaves, returns, starts, sets, declares, declares_all, turns_of, does, does_all, does_branch, does_alternative, does_handler, does_block}
use Rattle.ada_meaning.proofs.Quiet.{depth_now_quiet, set_word_quiet}
use Rattle.ada_meaning.proofs.Growing.{starts_grows}
use Rattle.ada_meaning.proofs.QuietParts.{done_quiet, set_first_quiet, copy_parts_quiet, check_quiet, raised_again_quiet, chooses_quiet, catches_quiet}
use Rattle.ada_meaning.proofs.Improving.{Improves, steady, quiet, bind_improves, then_improves, if_improves, catch_improves, give_improves, raise_improves, tick_improves, each_in_improves, continued_improves, turns_improve, counted_between_improves}
use Rattle.ada_meaning.proofs.FuelExpressions.{CallsImprove, performed_improves, value_improves, given_improves, decides_improves, named_improves}

module _ (p : Program) {few many : Calls} (better : CallsImprove few many) (fuel : ℕ) (inst : ℕ) where
  starts_improves : (l : Label) → Improves (starts p few fuel inst l) (starts p many (suc fuel) inst l)
  starts_improves l = steady (starts_grows p few fuel inst l)

  sets_improves : (v : NewValue) (q : Place) → Improves (sets p few fuel inst v q) (sets p many (suc fuel) inst v q)
  sets_improves (scalar_value r e) q = then_improves tick_improves (bind_improves (value_improves p better inst e) (λ x.
      then_improves (quiet (check_quiet (bounds_in p inst r) x)) (quiet (set_word_quiet q x))))
  sets_improves (composite_value t o parts) q = then_improves tick_improves (bind_improves (named_improves p better inst o parts) (λ from.
      quiet (copy_parts_quiet (shape_in p inst t) from q)))
  sets_improves (others_value r v) q =
      then_improves tick_improves (each_in_improves (bounds_in p inst r) (λ i. sets_improves v (part_at i q)))

  declares_improves : (d : Declaration) → Improves (declares p few fuel inst d) (declares p many (suc fuel) inst d)
  declares_improves (initialized l d v) = then_improves (starts_improves l) (bind_improves (quiet depth_now_quiet) (λ depth.
      sets_improves v (local_place inst depth d)))
  declares_improves (without_value d t) = then_improves tick_improves (bind_improves (quiet depth_now_quiet) (λ depth.
      quiet (set_first_quiet (shape_in p inst t) (local_place inst depth d))))

  declares_all_improves : (ds : List Declaration) → Improves (declares_all p few fuel inst ds) (declares_all p many (suc fuel) inst ds)
  declares_all_improves [] = quiet done_quiet
  declares_all_improves (d ∷ ds) = then_improves (declares_improves d) (declares_all_improves ds)

  turns_of_improves : (ts : LoopRange) → Improves (turns_of p few fuel inst ts) (turns_of p many (suc fuel) inst ts)
  turns_of_improves (over_subtype r) = give_improves (bounds_in p inst r)
  turns_of_improves (over_bounds e f) = bind_improves (value_improves p better inst e) (λ x.
      bind_improves (value_improves p better inst f) (λ y. give_improves (record { low = x; high = y })))

  mutual
    pub does_improves : (s : Stmt) (taken : Option ℕ) → Improves (does p few fuel inst s taken) (does p many (suc fuel) inst s taken)
    does_improves (null_statement l) taken = then_improves (starts_improves l) (give_improves goes_on)
    does_improves (assignment l o parts v) taken = then_improves (starts_improves l) (bind_improves (named_improves p better inst o parts) (λ q.
        then_improves (sets_improves v q) (give_improves goes_on)))
    does_improves (procedure_call l c actuals) taken =
        then_improves (starts_improves l) (bind_improves (given_improves p better inst actuals (parameters_of p (target_in p inst c))) (λ arguments.
        bind_improves (performed_improves p better inst (target_in p inst c) arguments) (λ r. give_improves goes_on)))
    does_improves (if_statement l bs) taken = then_improves (starts_improves l) (branch_improves bs taken)
    does_improves (case_statement l e choices) taken = then_improves (starts_improves l) (bind_improves (value_improves p better inst e) (λ x.
        alternative_improves choices x taken))
    does_improves (bare_loop l ss) taken = then_improves (starts_improves l) (turns_improve fuel (give_improves true) (all_improves ss taken))
    does_improves (while_loop l d t ss) taken =
        then_improves (starts_improves l) (turns_improve fuel (decides_improves p better inst d t) (all_improves ss taken))
    does_improves (for_loop l d reversed ts ss) taken = then_improves (starts_improves l) (bind_improves (turns_of_improves ts) (λ b.
        bind_improves (quiet depth_now_quiet) (λ depth.
        counted_between_improves reversed b (local_place inst depth d) (all_improves ss taken))))
    does_improves (exit_statement l) taken = then_improves (starts_improves l) (give_improves leaves)
    does_improves (exit_when l d t) taken = then_improves (starts_improves l) (bind_improves (decides_improves p better inst d t) (λ b.
        if_improves b (give_improves leaves) (give_improves goes_on)))
    does_improves (return_statement l) taken = then_improves (starts_improves l) (give_improves (returns None))
    does_improves (return_value l r e) taken = then_improves (starts_improves l) (bind_improves (value_improves p better inst e) (λ x.
        then_improves (quiet (check_quiet (bounds_in p inst r) x)) (give_improves (returns (Some x)))))
    does_improves (raise_statement l x) taken = then_improves (starts_improves l) (raise_improves (exception_in p inst x))
    does_improves (raise_again l) taken = then_improves (starts_improves l) (quiet (raised_again_quiet taken))
    does_improves (block_statement b) taken = then_improves tick_improves (block_improves b taken)

    all_improves : (ss : Stmts) (taken : Option ℕ) → Improves (does_all p few fuel inst ss taken) (does_all p many (suc fuel) inst ss taken)
    all_improves no_statement taken = give_improves goes_on
    all_improves (and_statement s ss) taken = bind_improves (does_improves s taken) (λ f. continued_improves f (all_improves ss taken))

    branch_improves : (bs : Branches) (taken : Option ℕ) → Improves (does_branch p few fuel inst bs taken) (does_branch p many (suc fuel) inst bs taken)
    branch_improves (else_part ss) taken = all_improves ss taken
    branch_improves (branch d t ss bs) taken = bind_improves (decides_improves p better inst d t) (λ b.
        if_improves b (all_improves ss taken) (branch_improves bs taken))

    alternative_improves : (choices : Alternatives) (x : ℤ) (taken : Option ℕ)
        → Improves (does_alternative p few fuel inst choices x taken) (does_alternative p many (suc fuel) inst choices x taken)
    alternative_improves no_alternative x taken = raise_improves constraint_error
    alternative_improves (alternative cs ss rest) x taken = bind_improves (quiet (chooses_quiet p few fuel inst cs x)) (λ b.
        if_improves b (all_improves ss taken) (alternative_improves rest x taken))

    handler_improves : (hs : Handlers) (e : ℕ) → Improves (does_handler p few fuel inst hs e) (does_handler p many (suc fuel) inst hs e)
    handler_improves no_handler e = raise_improves e
    handler_improves (handler cs ss hs) e = bind_improves (quiet (catches_quiet p few fuel inst cs e)) (λ b.
        if_improves b (all_improves ss (Some e)) (handler_improves hs e))

    pub block_improves : (b : Block) (taken : Option ℕ) → Improves (does_block p few fuel inst b taken) (does_block p many (suc fuel) inst b taken)
    block_improves (block ds ss hs) taken =
        then_improves (declares_all_improves ds) (catch_improves (all_improves ss taken) (λ e. handler_improves hs e))
