-- Statements with others in them, of the rules' definitions.
use Rattle.std.proofs.Common.{◌≡◌, Bool, List, [], ◌∷◌, ◌++◌, map, Some, Result, Ok, Err, refl, ap, ◌∙◌}
use Rattle.cov_base.specs.declared.position.Pos.{Pos}
use Rattle.cov_base.specs.declared.failure.Failure.{Failure}
use Rattle.ada_syntax.specs.Tree.{Expr}
use Rattle.ada_syntax.specs.StatementTree as text
use Rattle.ada_syntax.specs.StatementView.{statements_of, branches_of, alternatives_of}
use Rattle.ada_syntax.specs.declared.statement.Branch.{Branch as SourceBranch}
use Rattle.ada_syntax.specs.declared.statement.Alternative.{Alternative as SourceAlternative}
use Rattle.ada_meaning.specs.Tree as tree
use Rattle.ada_tree.specs.declared.statement.Branch.{Branch}
use Rattle.ada_tree.specs.Programs.{unfolded_branches}
use Rattle.ada_tree.specs.View as view
use Rattle.ada_rules.specs.Plan.{Plan, ◌>>=◌, rule, outcome_after, answer_at}
use Rattle.ada_syntax.specs.declared.statement.Choice.{Choice}
use Rattle.ada_rules.specs.Environment.{State, Given, given, Env, in_loop, typed_rule}
use Rattle.ada_rules.specs.Expressions.{decision}
use Rattle.ada_rules.specs.Statements.{one, selector, case_of, alternatives_of as tree_alternatives, stmts_of, Chosen, Selector, Arm, stated, all_stated, branched, all_chosen, all_arms}
use Rattle.ada_rules.specs.Statements as rules
use Rattle.ada_entities.specs.declared.fault.Refusal.{Refusal}
use Rattle.ada_entities.specs.Answers.{Refuses}
use Rattle.ada_entities.specs.EntityViews.{Tables}
use Rattle.ada_phrases.specs.Answers.{before}
use Rattle.ada_phrases.proofs.Parts.{passes_on, in_part, refused_as}
use Rattle.ada_entities.specs.Trees.{shapes_in_tree}
use Rattle.statement_parts.proofs.Walks.{IsWalk, listed}
pub use Rattle.statement_parts.proofs.CaseLaws.{statements_in}
use Rattle.ada_syntax.specs.declared.declaration.DiscreteRange.{DiscreteRange}
use Rattle.ada_syntax.specs.declared.declaration.Declaration.{Declaration}
use Rattle.ada_syntax.specs.declared.name.Identifier.{Identifier}
use Rattle.ada_rules.specs.Environment.{hide, opened, with_local}
use Rattle.ada_rules.specs.Entities.{Region, key}
use Rattle.ada_rules.specs.Statements.{Turns, Frame, block_of, turned, loop_parameter, one_object_more, all_handled}
use Rattle.ada_rules.specs.Declarations.{Declared, all_declared}
use Rattle.std.proofs.Common.{◌&&◌, nat_eq, length}
use Rattle.ada_syntax.specs.StatementView.{handlers_of}
use Rattle.ada_syntax.specs.declared.statement.Handler.{Handler as SourceHandler}
use Rattle.ada_rules.specs.Environment.{in_handler}
use Rattle.ada_rules.specs.Statements.{all_caught, all_handlers, is_last}
use Rattle.statements.specs.Handling.{Caught, behind_handlers, handler_once}
use Rattle.statements.specs.Loops.{Begun, begun_plan, in_turn}
use Rattle.statements.specs.Nested.{branch_in, all_in_tree, branched_once}

-- several in front of what follows
pub joined : {B : Type 0} (p : Pos) (ys : List B) (r : Result (Given (List B)) Pos)
    → answer_at p (outcome_after r (λ zs. rule (Some (given (ys ++ zs.value) zs.next)))) ≡ before ys r
joined p ys (Ok g) = refl
joined p ys (Err q) = refl

module _ (env : Env) (p : Pos) where
  -- statements in order
  abbrev pub one_statement : State → text.Statement → Result (Given (List tree.Stmt)) Pos
  one_statement s x = (stated env s x).answer

  abbrev pub the_statements : State → List text.Statement → Result (Given (List tree.Stmt)) Pos
  the_statements s xs = (all_stated env s p (statements_of xs)).answer

  abbrev then_statements : List text.Statement → Given (List tree.Stmt) → Plan (Given (List tree.Stmt))
  then_statements xs y = all_stated env y.next p (statements_of xs) >>= (λ ys. rule (Some (given (y.value ++ ys.value) ys.next)))

  pub statements_walk : IsWalk one_statement (λ ys. ys) the_statements
  statements_walk = record {
    ends = λ s. refl;
    passes = λ s x xs y h. ap (λ r. answer_at p (outcome_after r (then_statements xs))) h ∙ joined p y.value (the_statements y.next xs);
    refuses = λ s x xs q h. ap (λ r. answer_at p (outcome_after r (then_statements xs))) h;
  }

  -- a decision, and the statements behind it
  module _ (s : State) (e : Expr) (ss : text.Statements) where
    abbrev pub chosen_by : Given (tree.Label × tree.Test) → Given (List tree.Stmt) → Given Chosen
    chosen_by t xs = given (record { label = t.value.0; test = t.value.1; statements = xs.value }) xs.next

    abbrev then_chosen : Given (tree.Label × tree.Test) → Plan (Given Chosen)
    then_chosen t = all_stated env t.next p ss >>= (λ xs. rule (Some (chosen_by t xs)))

    abbrev pub one_branch : Result (Given Chosen) Pos
    one_branch = answer_at p (branched_once env s p e ss).outcome

    pub condition_refused : (f : Failure Refusal) → Refuses (decision env s p e).answer f → Refuses one_branch f
    condition_refused f h = in_part p (decision env s p e).answer then_chosen f h

    module _ (t : Given (tree.Label × tree.Test)) (h : (decision env s p e).answer ≡ Ok t) where
      pub branch_refused : (f : Failure Refusal) → Refuses (all_stated env t.next p ss).answer f → Refuses one_branch f
      branch_refused f g =
          refused_as _ _ f (passes_on p (decision env s p e).answer then_chosen t h)
          (in_part p (all_stated env t.next p ss).answer (λ xs. rule (Some (chosen_by t xs))) f g)

      pub branch_passes : (xs : Given (List tree.Stmt)) → (all_stated env t.next p ss).answer ≡ Ok xs → one_branch ≡ Ok (chosen_by t xs)
      branch_passes xs g =
          passes_on p (decision env s p e).answer then_chosen t h
          ∙ passes_on p (all_stated env t.next p ss).answer (λ xs. rule (Some (chosen_by t xs))) xs g

  -- branches in order
  abbrev pub branch_at : State → SourceBranch → Result (Given Chosen) Pos
  branch_at s b = one_branch s b.condition (statements_of b.statements.items)

  abbrev pub the_branches : State → List SourceBranch → Result (Given (List Chosen)) Pos
  the_branches s bs = (branched env s p (branches_of bs)).answer

  -- a branch and those behind it, in other words
  abbrev then_branches : List SourceBranch → Given Chosen → Plan (Given (List Chosen))
  then_branches bs c = branched env c.next p (branches_of bs) >>= (λ cs. rule (Some (given (c.value ∷ cs.value) cs.next)))

  grouped : (bs : List SourceBranch) (t : Given (tree.Label × tree.Test)) (r : Result (Given (List tree.Stmt)) Pos)
      → answer_at p (outcome_after r (λ xs. branched env xs.next p (branches_of bs) >>=
      (λ ys. rule (Some (given (record { label = t.value.0; test = t.value.1; statements = xs.value } ∷ ys.value) ys.next)))))
      ≡ answer_at p (outcome_after (answer_at p (outcome_after r (λ xs. rule (Some (given (record { label = t.value.0; test = t.value.1; statements = xs.value }) xs.next))))) (then_branches bs))
  grouped bs t (Ok xs) = refl
  grouped bs t (Err q) = refl

  ungrouped : (bs : List SourceBranch) (ss : text.Statements) (r : Result (Given (tree.Label × tree.Test)) Pos)
      → answer_at p (outcome_after r (λ t. all_stated env t.next p ss >>= (λ xs. branched env xs.next p (branches_of bs) >>=
      (λ ys. rule (Some (given (record { label = t.value.0; test = t.value.1; statements = xs.value } ∷ ys.value) ys.next))))))
      ≡ answer_at p (outcome_after (answer_at p (outcome_after r (λ t. all_stated env t.next p ss >>=
      (λ xs. rule (Some (given (record { label = t.value.0; test = t.value.1; statements = xs.value }) xs.next)))))) (then_branches bs))
  ungrouped bs ss (Ok t) = grouped bs t (all_stated env t.next p ss).answer
  ungrouped bs ss (Err q) = refl

  pub first_branch : (s : State) (b : SourceBranch) (bs : List SourceBranch) → the_branches s (b ∷ bs) ≡ answer_at p (outcome_after (branch_at s b) (then_branches bs))
  first_branch s b bs = ungrouped bs (statements_of b.statements.items) (decision env s p b.condition).answer

  pub branches_walk : IsWalk branch_at (λ c. c ∷ []) the_branches
  branches_walk = record {
    ends = λ s. refl;
    passes = λ s b bs c h. first_branch s b bs ∙ (ap (λ r. answer_at p (outcome_after r (then_branches bs))) h ∙ listed p c.value (the_branches c.next bs));
    refuses = λ s b bs q h. first_branch s b bs ∙ ap (λ r. answer_at p (outcome_after r (then_branches bs))) h;
  }

  -- an if statement: its first branch is one of all
  module _ (l : tree.Label) (es : text.Statements) where
    abbrev pub then_else : Given (List Chosen) → Plan (Given (List tree.Stmt))
    then_else cs = all_stated env cs.next p es >>= (λ zs. rule (Some (one (tree.if_statement l (rules.branches_of cs.value zs.value)) zs.next)))

    abbrev pub conditional_plan : State → SourceBranch → List SourceBranch → Plan (Given (List tree.Stmt))
    conditional_plan s b bs = do
      t ← decision env s p b.condition
      xs ← all_stated env t.next p (statements_of b.statements.items)
      ys ← branched env xs.next p (branches_of bs)
      zs ← all_stated env ys.next p es
      rule (Some (one (tree.if_statement l (tree.branch t.value.0 t.value.1 (stmts_of xs.value) (rules.branches_of ys.value zs.value))) zs.next))

    others_behind : (t : Given (tree.Label × tree.Test)) (xs : Given (List tree.Stmt)) (r : Result (Given (List Chosen)) Pos)
        → answer_at p (outcome_after r (λ ys. all_stated env ys.next p es >>=
        (λ zs. rule (Some (one (tree.if_statement l (tree.branch t.value.0 t.value.1 (stmts_of xs.value) (rules.branches_of ys.value zs.value))) zs.next)))))
        ≡ answer_at p (outcome_after (answer_at p (outcome_after r
        (λ ys. rule (Some (given (record { label = t.value.0; test = t.value.1; statements = xs.value } ∷ ys.value) ys.next))))) then_else)
    others_behind t xs (Ok ys) = refl
    others_behind t xs (Err q) = refl

    statements_behind : (bs : List SourceBranch) (t : Given (tree.Label × tree.Test)) (r : Result (Given (List tree.Stmt)) Pos)
        → answer_at p (outcome_after r (λ xs. branched env xs.next p (branches_of bs) >>= (λ ys. all_stated env ys.next p es >>=
        (λ zs. rule (Some (one (tree.if_statement l (tree.branch t.value.0 t.value.1 (stmts_of xs.value) (rules.branches_of ys.value zs.value))) zs.next))))))
        ≡ answer_at p (outcome_after (answer_at p (outcome_after r (λ xs. branched env xs.next p (branches_of bs) >>=
        (λ ys. rule (Some (given (record { label = t.value.0; test = t.value.1; statements = xs.value } ∷ ys.value) ys.next)))))) then_else)
    statements_behind bs t (Ok xs) = others_behind t xs (branched env xs.next p (branches_of bs)).answer
    statements_behind bs t (Err q) = refl

    condition_behind : (ss : text.Statements) (bs : List SourceBranch) (r : Result (Given (tree.Label × tree.Test)) Pos)
        → answer_at p (outcome_after r (λ t. all_stated env t.next p ss >>= (λ xs. branched env xs.next p (branches_of bs) >>= (λ ys. all_stated env ys.next p es >>=
        (λ zs. rule (Some (one (tree.if_statement l (tree.branch t.value.0 t.value.1 (stmts_of xs.value) (rules.branches_of ys.value zs.value))) zs.next)))))))
        ≡ answer_at p (outcome_after (answer_at p (outcome_after r (λ t. all_stated env t.next p ss >>= (λ xs. branched env xs.next p (branches_of bs) >>=
        (λ ys. rule (Some (given (record { label = t.value.0; test = t.value.1; statements = xs.value } ∷ ys.value) ys.next))))))) then_else)
    condition_behind ss bs (Ok t) = statements_behind bs t (all_stated env t.next p ss).answer
    condition_behind ss bs (Err q) = refl

    pub conditional_is : (s : State) (b : SourceBranch) (bs : List SourceBranch)
        → answer_at p (conditional_plan s b bs).outcome ≡ answer_at p (outcome_after (the_branches s (b ∷ bs)) then_else)
    conditional_is s b bs = condition_behind (statements_of b.statements.items) bs (decision env s p b.condition).answer

  -- the alternatives of a case statement
  module _ (x : Selector) where
    abbrev pub arm_once : State → List Choice → text.Statements → Plan (Given Arm)
    arm_once s cs ss = do
      ds ← all_chosen env s x p cs
      xs ← all_stated env ds.next p ss
      rule (Some (given (record { choices = ds.value; statements = xs.value }) xs.next))

    abbrev pub arm_at : State → SourceAlternative → Result (Given Arm) Pos
    arm_at s a = answer_at p (arm_once s a.choices (statements_of a.statements.items)).outcome

    abbrev pub the_arms : State → List SourceAlternative → Result (Given (List Arm)) Pos
    the_arms s rest = (all_arms env s x p (alternatives_of rest)).answer

    abbrev then_arms : List SourceAlternative → Given Arm → Plan (Given (List Arm))
    then_arms rest a = all_arms env a.next x p (alternatives_of rest) >>= (λ ys. rule (Some (given (a.value ∷ ys.value) ys.next)))

    arm_grouped : (rest : List SourceAlternative) (ds : Given (List tree.Choice)) (r : Result (Given (List tree.Stmt)) Pos)
        → answer_at p (outcome_after r (λ xs. all_arms env xs.next x p (alternatives_of rest) >>=
        (λ ys. rule (Some (given (record { choices = ds.value; statements = xs.value } ∷ ys.value) ys.next)))))
        ≡ answer_at p (outcome_after (answer_at p (outcome_after r (λ xs. rule (Some (given (record { choices = ds.value; statements = xs.value }) xs.next))))) (then_arms rest))
    arm_grouped rest ds (Ok xs) = refl
    arm_grouped rest ds (Err q) = refl

    arm_ungrouped : (rest : List SourceAlternative) (ss : text.Statements) (r : Result (Given (List tree.Choice)) Pos)
        → answer_at p (outcome_after r (λ ds. all_stated env ds.next p ss >>= (λ xs. all_arms env xs.next x p (alternatives_of rest) >>=
        (λ ys. rule (Some (given (record { choices = ds.value; statements = xs.value } ∷ ys.value) ys.next))))))
        ≡ answer_at p (outcome_after (answer_at p (outcome_after r (λ ds. all_stated env ds.next p ss >>=
        (λ xs. rule (Some (given (record { choices = ds.value; statements = xs.value }) xs.next)))))) (then_arms rest))
    arm_ungrouped rest ss (Ok ds) = arm_grouped rest ds (all_stated env ds.next p ss).answer
    arm_ungrouped rest ss (Err q) = refl

    pub first_arm : (s : State) (a : SourceAlternative) (rest : List SourceAlternative)
        → the_arms s (a ∷ rest) ≡ answer_at p (outcome_after (arm_at s a) (then_arms rest))
    first_arm s a rest = arm_ungrouped rest (statements_of a.statements.items) (all_chosen env s x p a.choices).answer

    pub arms_walk : IsWalk arm_at (λ a. a ∷ []) the_arms
    arms_walk = record {
      ends = λ s. refl;
      passes = λ s a rest y h. first_arm s a rest ∙ (ap (λ r. answer_at p (outcome_after r (then_arms rest))) h ∙ listed p y.value (the_arms y.next rest));
      refuses = λ s a rest q h. first_arm s a rest ∙ ap (λ r. answer_at p (outcome_after r (then_arms rest))) h;
    }

    -- one of them
    module _ (s : State) (cs : List Choice) (ss : text.Statements) where
      abbrev then_arm : Given (List tree.Choice) → Plan (Given Arm)
      then_arm ds = all_stated env ds.next p ss >>= (λ xs. rule (Some (given (record { choices = ds.value; statements = xs.value }) xs.next)))

      pub choices_refused : (f : Failure Refusal) → Refuses (all_chosen env s x p cs).answer f → Refuses (answer_at p (arm_once s cs ss).outcome) f
      choices_refused f h = in_part p (all_chosen env s x p cs).answer then_arm f h

      module _ (ds : Given (List tree.Choice)) (h : (all_chosen env s x p cs).answer ≡ Ok ds) where
        abbrev as_arm : Given (List tree.Stmt) → Plan (Given Arm)
        as_arm xs = rule (Some (given (record { choices = ds.value; statements = xs.value }) xs.next))

        pub arm_refused : (f : Failure Refusal) → Refuses (all_stated env ds.next p ss).answer f → Refuses (answer_at p (arm_once s cs ss).outcome) f
        arm_refused f g =
            refused_as _ _ f (passes_on p (all_chosen env s x p cs).answer then_arm ds h) (in_part p (all_stated env ds.next p ss).answer as_arm f g)

        pub arm_passes : (xs : Given (List tree.Stmt)) → (all_stated env ds.next p ss).answer ≡ Ok xs
            → answer_at p (arm_once s cs ss).outcome ≡ Ok (given (record { choices = ds.value; statements = xs.value }) xs.next)
        arm_passes xs g = passes_on p (all_chosen env s x p cs).answer then_arm ds h ∙ passes_on p (all_stated env ds.next p ss).answer as_arm xs g

  -- loops without a parameter
  module _ (l : tree.Label) (s : State) (ss : text.Statements) where
    abbrev then_forever : Given (List tree.Stmt) → Plan (Given (List tree.Stmt))
    then_forever xs = rule (Some (one (tree.bare_loop l (stmts_of xs.value)) xs.next))

    abbrev pub forever_plan : Plan (Given (List tree.Stmt))
    forever_plan = all_stated (in_loop env) s p ss >>= then_forever

    pub forever_refused : (f : Failure Refusal) → Refuses (all_stated (in_loop env) s p ss).answer f → Refuses (answer_at p forever_plan.outcome) f
    forever_refused f h = in_part p (all_stated (in_loop env) s p ss).answer then_forever f h

    pub forever_passes : (xs : Given (List tree.Stmt)) → (all_stated (in_loop env) s p ss).answer ≡ Ok xs
        → answer_at p forever_plan.outcome ≡ Ok (one (tree.bare_loop l (stmts_of xs.value)) xs.next)
    forever_passes xs h = passes_on p (all_stated (in_loop env) s p ss).answer then_forever xs h

    module _ (e : Expr) where
      abbrev as_while : Given (tree.Label × tree.Test) → Given (List tree.Stmt) → Plan (Given (List tree.Stmt))
      as_while t xs = rule (Some (one (tree.while_loop l t.value.0 t.value.1 (stmts_of xs.value)) xs.next))

      abbrev then_while : Given (tree.Label × tree.Test) → Plan (Given (List tree.Stmt))
      then_while t = all_stated (in_loop env) t.next p ss >>= as_while t

      abbrev pub while_plan : Plan (Given (List tree.Stmt))
      while_plan = decision env s p e >>= then_while

      pub while_refused : (f : Failure Refusal) → Refuses (decision env s p e).answer f → Refuses (answer_at p while_plan.outcome) f
      while_refused f h = in_part p (decision env s p e).answer then_while f h

      module _ (t : Given (tree.Label × tree.Test)) (h : (decision env s p e).answer ≡ Ok t) where
        pub turns_refused : (f : Failure Refusal) → Refuses (all_stated (in_loop env) t.next p ss).answer f → Refuses (answer_at p while_plan.outcome) f
        turns_refused f g =
            refused_as _ _ f (passes_on p (decision env s p e).answer then_while t h) (in_part p (all_stated (in_loop env) t.next p ss).answer (as_while t) f g)

        pub while_passes : (xs : Given (List tree.Stmt)) → (all_stated (in_loop env) t.next p ss).answer ≡ Ok xs
            → answer_at p while_plan.outcome ≡ Ok (one (tree.while_loop l t.value.0 t.value.1 (stmts_of xs.value)) xs.next)
        while_passes xs g =
            passes_on p (decision env s p e).answer then_while t h ∙ passes_on p (all_stated (in_loop env) t.next p ss).answer (as_while t) xs g

  -- a for loop: what it begins with, and its statements
  module _ (l : tree.Label) (i : Identifier) (reversed : Bool) (r : DiscreteRange) (ss : text.Statements) where
    abbrev pub as_for : Given Begun → Given (List tree.Stmt) → Given (List tree.Stmt)
    as_for b xs = one (tree.for_loop l b.value.parameter reversed b.value.turns.over (stmts_of xs.value)) xs.next

    abbrev pub then_for : Given Begun → Plan (Given (List tree.Stmt))
    then_for b = all_stated (in_turn env i b.value) b.next p ss >>= (λ xs. rule (Some (as_for b xs)))

    abbrev pub for_plan : State → Plan (Given (List tree.Stmt))
    for_plan s = do
      region ← hide [] i
      t ← turned (with_local (opened env) region) s r
      xs ← all_stated (in_loop (with_local (opened env) ((key i, loop_parameter t.next.objects t.value) ∷ []))) (one_object_more p t.value.subtype t.next) p ss
      rule (Some (one (tree.for_loop l t.next.objects reversed t.value.over (stmts_of xs.value)) xs.next))

    turns_behind : (o : Result (Given Turns) Pos)
        → answer_at p (outcome_after o (λ t. all_stated (in_loop (with_local (opened env) ((key i, loop_parameter t.next.objects t.value) ∷ [])))
        (one_object_more p t.value.subtype t.next) p ss >>=
        (λ xs. rule (Some (one (tree.for_loop l t.next.objects reversed t.value.over (stmts_of xs.value)) xs.next)))))
        ≡ answer_at p (outcome_after (answer_at p (outcome_after o
        (λ t. rule (Some (given (record { parameter = t.next.objects; turns = t.value }) (one_object_more p t.value.subtype t.next)))))) then_for)
    turns_behind (Ok t) = refl
    turns_behind (Err q) = refl

    hidden_behind : (s : State) (o : Result Region Pos)
        → answer_at p (outcome_after o (λ region. turned (with_local (opened env) region) s r >>=
        (λ t. all_stated (in_loop (with_local (opened env) ((key i, loop_parameter t.next.objects t.value) ∷ [])))
        (one_object_more p t.value.subtype t.next) p ss >>=
        (λ xs. rule (Some (one (tree.for_loop l t.next.objects reversed t.value.over (stmts_of xs.value)) xs.next))))))
        ≡ answer_at p (outcome_after (answer_at p (outcome_after o (λ region. turned (with_local (opened env) region) s r >>=
        (λ t. rule (Some (given (record { parameter = t.next.objects; turns = t.value }) (one_object_more p t.value.subtype t.next))))))) then_for)
    hidden_behind s (Ok region) = turns_behind (turned (with_local (opened env) region) s r).answer
    hidden_behind s (Err q) = refl

    pub for_is : (s : State) → answer_at p (for_plan s).outcome ≡ answer_at p (outcome_after (answer_at p (begun_plan env s p i r).outcome) then_for)
    for_is s = hidden_behind s (hide [] i).answer

  -- a block
  module _ (s : State) (ds : List Declaration) (h : text.Handled) where
    abbrev as_block : Declared → Given Frame → Given (List tree.Stmt)
    as_block x f = one (tree.block_statement (block_of x.made f.value)) f.next

    abbrev then_block : Declared → Plan (Given (List tree.Stmt))
    then_block x = all_handled (with_local (opened env) x.region) x.next p h >>= (λ f. rule (Some (as_block x f)))

    abbrev pub block_plan : Plan (Given (List tree.Stmt))
    block_plan = all_declared (opened env) s p ds >>= then_block

    pub declared_refused : (f : Failure Refusal) → Refuses (all_declared (opened env) s p ds).answer f → Refuses (answer_at p block_plan.outcome) f
    declared_refused f g = in_part p (all_declared (opened env) s p ds).answer then_block f g

    module _ (x : Declared) (e : (all_declared (opened env) s p ds).answer ≡ Ok x) where
      pub frame_refused : (f : Failure Refusal) → Refuses (all_handled (with_local (opened env) x.region) x.next p h).answer f
          → Refuses (answer_at p block_plan.outcome) f
      frame_refused f g =
          refused_as _ _ f (passes_on p (all_declared (opened env) s p ds).answer then_block x e)
          (in_part p (all_handled (with_local (opened env) x.region) x.next p h).answer (λ f. rule (Some (as_block x f))) f g)

      pub block_passes : (f : Given Frame) → (all_handled (with_local (opened env) x.region) x.next p h).answer ≡ Ok f
          → answer_at p block_plan.outcome ≡ Ok (as_block x f)
      block_passes f g =
          passes_on p (all_declared (opened env) s p ds).answer then_block x e
          ∙ passes_on p (all_handled (with_local (opened env) x.region) x.next p h).answer (λ f. rule (Some (as_block x f))) f g

  -- a case statement behind its label
  module _ (l : tree.Label) (first s : State) (e : Expr) (rest : text.Alternatives) where
    abbrev pub as_case : Given Selector → Given (List Arm) → Plan (Given (List tree.Stmt))
    as_case x arms = typed_rule env.step (one (tree.null_statement l) arms.next) (case_of env first p x.value arms)

    abbrev then_case : Given Selector → Plan (Given (List tree.Stmt))
    then_case x = all_arms env x.next x.value p rest >>= as_case x

    abbrev pub case_made : Plan (Given (List tree.Stmt))
    case_made = selector env s e >>= then_case

    pub selector_refused : (f : Failure Refusal) → Refuses (selector env s e).answer f → Refuses (answer_at p case_made.outcome) f
    selector_refused f h = in_part p (selector env s e).answer then_case f h

    module _ (x : Given Selector) (h : (selector env s e).answer ≡ Ok x) where
      pub arms_refused : (f : Failure Refusal) → Refuses (all_arms env x.next x.value p rest).answer f → Refuses (answer_at p case_made.outcome) f
      arms_refused f g =
          refused_as _ _ f (passes_on p (selector env s e).answer then_case x h) (in_part p (all_arms env x.next x.value p rest).answer (as_case x) f g)

      pub arms_pass : (arms : Given (List Arm)) → (all_arms env x.next x.value p rest).answer ≡ Ok arms
          → answer_at p case_made.outcome ≡ answer_at p (as_case x arms).outcome
      arms_pass arms g =
          passes_on p (selector env s e).answer then_case x h ∙ passes_on p (all_arms env x.next x.value p rest).answer (as_case x) arms g

  -- handlers: whether `others` may stand in one depends on what is behind it
  abbrev pub the_handlers : State → List SourceHandler → Result (Given tree.Handlers) Pos
  the_handlers s hs = (all_handlers env s p (handlers_of hs)).answer

  abbrev pub allows_others : SourceHandler → List SourceHandler → Bool
  allows_others h hs = is_last (handlers_of hs) && nat_eq (length h.choices) 1

  abbrev pub handler_at : State → Bool → SourceHandler → Result (Given Caught) Pos
  handler_at s b h = answer_at p (handler_once env s b p h.choices (statements_of h.statements.items)).outcome

  abbrev then_handlers : List SourceHandler → Given Caught → Plan (Given tree.Handlers)
  then_handlers hs c =
      all_handlers env c.next p (handlers_of hs) >>= (λ ys. rule (Some (given (tree.handler c.value.choices (stmts_of c.value.statements) ys.value) ys.next)))

  handler_grouped : (hs : List SourceHandler) (ds : Given (List tree.ExceptionChoice)) (r : Result (Given (List tree.Stmt)) Pos)
      → answer_at p (outcome_after r (λ xs. all_handlers env xs.next p (handlers_of hs) >>=
      (λ ys. rule (Some (given (tree.handler ds.value (stmts_of xs.value) ys.value) ys.next)))))
      ≡ answer_at p (outcome_after (answer_at p (outcome_after r (λ xs. rule (Some (given (record { choices = ds.value; statements = xs.value }) xs.next))))) (then_handlers hs))
  handler_grouped hs ds (Ok xs) = refl
  handler_grouped hs ds (Err q) = refl

  handler_ungrouped : (hs : List SourceHandler) (ss : text.Statements) (r : Result (Given (List tree.ExceptionChoice)) Pos)
      → answer_at p (outcome_after r (λ ds. all_stated (in_handler env) ds.next p ss >>= (λ xs. all_handlers env xs.next p (handlers_of hs) >>=
      (λ ys. rule (Some (given (tree.handler ds.value (stmts_of xs.value) ys.value) ys.next))))))
      ≡ answer_at p (outcome_after (answer_at p (outcome_after r (λ ds. all_stated (in_handler env) ds.next p ss >>=
      (λ xs. rule (Some (given (record { choices = ds.value; statements = xs.value }) xs.next)))))) (then_handlers hs))
  handler_ungrouped hs ss (Ok ds) = handler_grouped hs ds (all_stated (in_handler env) ds.next p ss).answer
  handler_ungrouped hs ss (Err q) = refl

  handled_first : (c : Given Caught) (r : Result (Given tree.Handlers) Pos)
      → answer_at p (outcome_after r (λ ys. rule (Some (given (tree.handler c.value.choices (stmts_of c.value.statements) ys.value) ys.next))))
      ≡ behind_handlers (c.value ∷ []) r
  handled_first c (Ok ys) = refl
  handled_first c (Err q) = refl

  pub first_handler : (s : State) (h : SourceHandler) (hs : List SourceHandler)
      → the_handlers s (h ∷ hs) ≡ answer_at p (outcome_after (handler_at s (allows_others h hs) h) (then_handlers hs))
  first_handler s h hs = handler_ungrouped hs (statements_of h.statements.items) (all_caught env s (allows_others h hs) p h.choices).answer

  pub handler_passes : (s : State) (h : SourceHandler) (hs : List SourceHandler) (c : Given Caught) → handler_at s (allows_others h hs) h ≡ Ok c
      → the_handlers s (h ∷ hs) ≡ behind_handlers (c.value ∷ []) (the_handlers c.next hs)
  handler_passes s h hs c e =
      first_handler s h hs ∙ (ap (λ r. answer_at p (outcome_after r (then_handlers hs))) e ∙ handled_first c (the_handlers c.next hs))

  pub handler_refused : (s : State) (h : SourceHandler) (hs : List SourceHandler) (f : Failure Refusal) → Refuses (handler_at s (allows_others h hs) h) f
      → Refuses (the_handlers s (h ∷ hs)) f
  handler_refused s h hs f r = refused_as _ _ f (first_handler s h hs) (in_part p (handler_at s (allows_others h hs) h) (then_handlers hs) f r)

-- the tree of an if statement, whose composite types are unfolded
pub branches_in : (k : Tables) (bs : List Branch) (others : List tree.Stmt)
    → unfolded_branches (shapes_in_tree k.types) (view.branches_of bs (view.statements_of others))
    ≡ rules.branches_of (map (branch_in k) bs) (all_in_tree k others)
branches_in k [] others = ap tree.else_part (statements_in k (shapes_in_tree k.types) others)
branches_in k (b ∷ bs) others =
    λ z. tree.branch (view.label_of b.decision.label) b.decision.test (statements_in k (shapes_in_tree k.types) b.statements.items z) (branches_in k bs others z)
