-- Copies of statements mean what the generic's text means in the instance.
use Rattle.std.proofs.Common.{◌≡◌, ℕ, ℤ, List, [], ◌∷◌, map, Option, refl}
use Rattle.ada_meaning.specs.Tree.{NewValue, scalar_value, composite_value, others_value, Choice, value_choice, range_choice, other_values, ExceptionChoice, named_exception, other_exceptions, LoopRange, over_subtype, over_bounds, Declaration, initialized, without_value, Stmt, null_statement, assignment, procedure_call, if_statement, case_statement, bare_loop, while_loop, for_loop, exit_statement, exit_when, return_statement, return_value, raise_statement, raise_again, block_statement, Stmts, no_statement, and_statement, Branches, else_part, branch, Alternatives, no_alternative, alternative, Handlers, no_handler, handler, Block, block}
use Rattle.ada_meaning.specs.Program.{Program}
use Rattle.ada_meaning.specs.State.{Place}
use Rattle.ada_meaning.specs.Calls.{Calls}
use Rattle.ada_meaning.specs.Statements.{sets, declares, declares_all, is_chosen, chooses, is_caught, catches, turns_of, does, does_all, does_branch, does_alternative, does_handler, does_block}
use Rattle.ada_meaning.specs.Copies.{value_copy, declaration_copy, choice_copy, catch_copy, loop_copy, stmt_copy, stmts_copy, branches_copy, alternatives_copy, handlers_copy, block_copy}
use Rattle.ada_meaning.proofs.CopyExpressions.{shape_same, value_same, given_same, callee_same, decides_same, named_same}

module _ (p : Program) (calls : Calls) (fuel : ℕ) (inst : ℕ) where
  sets_same : (v : NewValue) (q : Place) → sets p calls fuel inst (value_copy p inst v) q ≡ sets p calls fuel inst v q
  sets_same (scalar_value r e) q = simp (value_same p calls inst e) refl
  sets_same (composite_value t o parts) q = simp (named_same p calls inst o parts, shape_same p inst inst t) refl
  sets_same (others_value r v) q = simp (sets_same v) refl

  declares_same : (d : Declaration) → declares p calls fuel inst (declaration_copy p inst d) ≡ declares p calls fuel inst d
  declares_same (initialized l d v) = simp (sets_same v) refl
  declares_same (without_value d t) = simp (shape_same p inst inst t) refl

  declares_all_same : (ds : List Declaration) → declares_all p calls fuel inst (map (declaration_copy p inst) ds) ≡ declares_all p calls fuel inst ds
  declares_all_same [] = refl
  declares_all_same (d ∷ ds) = simp (declares_same d, declares_all_same ds) refl

  is_chosen_same : (c : Choice) (x : ℤ) → is_chosen p calls fuel inst (choice_copy p inst c) x ≡ is_chosen p calls fuel inst c x
  is_chosen_same (value_choice e) x = refl
  is_chosen_same (range_choice e f) x = refl
  is_chosen_same other_values x = refl

  chooses_same : (cs : List Choice) (x : ℤ) → chooses p calls fuel inst (map (choice_copy p inst) cs) x ≡ chooses p calls fuel inst cs x
  chooses_same [] x = refl
  chooses_same (c ∷ cs) x = simp (is_chosen_same c, chooses_same cs) refl

  is_caught_same : (c : ExceptionChoice) (e : ℕ) → is_caught p calls fuel inst (catch_copy p inst c) e ≡ is_caught p calls fuel inst c e
  is_caught_same (named_exception x) e = refl
  is_caught_same other_exceptions e = refl

  catches_same : (cs : List ExceptionChoice) (e : ℕ) → catches p calls fuel inst (map (catch_copy p inst) cs) e ≡ catches p calls fuel inst cs e
  catches_same [] e = refl
  catches_same (c ∷ cs) e = simp (is_caught_same c, catches_same cs) refl

  turns_of_same : (r : LoopRange) → turns_of p calls fuel inst (loop_copy p inst r) ≡ turns_of p calls fuel inst r
  turns_of_same (over_subtype r) = refl
  turns_of_same (over_bounds e f) = simp (value_same p calls inst e, value_same p calls inst f) refl

  mutual
    does_same : (s : Stmt) (taken : Option ℕ) → does p calls fuel inst (stmt_copy p inst s) taken ≡ does p calls fuel inst s taken
    does_same (null_statement l) taken = refl
    does_same (assignment l o parts v) taken = simp (named_same p calls inst o parts, sets_same v) refl
    does_same (procedure_call l c actuals) taken = simp (callee_same p calls inst c, given_same p calls inst actuals) refl
    does_same (if_statement l bs) taken = simp (branches_same bs) refl
    does_same (case_statement l e choices) taken = simp (value_same p calls inst e, alternatives_same choices) refl
    does_same (bare_loop l ss) taken = simp (all_same ss) refl
    does_same (while_loop l d t ss) taken = simp (decides_same p calls inst d t, all_same ss) refl
    does_same (for_loop l d reversed r ss) taken = simp (turns_of_same r, all_same ss) refl
    does_same (exit_statement l) taken = refl
    does_same (exit_when l d t) taken = simp (decides_same p calls inst d t) refl
    does_same (return_statement l) taken = refl
    does_same (return_value l r e) taken = simp (value_same p calls inst e) refl
    does_same (raise_statement l x) taken = refl
    does_same (raise_again l) taken = refl
    does_same (block_statement b) taken = simp (block_same b) refl

    all_same : (ss : Stmts) (taken : Option ℕ) → does_all p calls fuel inst (stmts_copy p inst ss) taken ≡ does_all p calls fuel inst ss taken
    all_same no_statement taken = refl
    all_same (and_statement s ss) taken = simp (does_same s, all_same ss) refl

    branches_same : (bs : Branches) (taken : Option ℕ) → does_branch p calls fuel inst (branches_copy p inst bs) taken ≡ does_branch p calls fuel inst bs taken
    branches_same (else_part ss) taken = all_same ss taken
    branches_same (branch d t ss bs) taken = simp (decides_same p calls inst d t, all_same ss, branches_same bs) refl

    alternatives_same : (choices : Alternatives) (x : ℤ) (taken : Option ℕ)
        → does_alternative p calls fuel inst (alternatives_copy p inst choices) x taken ≡ does_alternative p calls fuel inst choices x taken
    alternatives_same no_alternative x taken = refl
    alternatives_same (alternative cs ss rest) x taken = simp (chooses_same cs, all_same ss, alternatives_same rest) refl

    handlers_same : (hs : Handlers) (e : ℕ) → does_handler p calls fuel inst (handlers_copy p inst hs) e ≡ does_handler p calls fuel inst hs e
    handlers_same no_handler e = refl
    handlers_same (handler cs ss hs) e = simp (catches_same cs, all_same ss, handlers_same hs) refl

    pub block_same : (b : Block) (taken : Option ℕ) → does_block p calls fuel inst (block_copy p inst b) taken ≡ does_block p calls fuel inst b taken
    block_same (block ds ss hs) taken = simp (declares_all_same ds, all_same ss, handlers_same hs) refl
