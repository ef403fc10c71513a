-- Statements and their parts behind a name or an expression: each passes with it, or is refused with it.
use Rattle.std.proofs.Common.{◌≡◌, List, Some, option_map, Ok, ◌∙◌}
use Rattle.cov_base.specs.declared.position.Pos.{Pos}
use Rattle.cov_base.specs.declared.failure.Failure.{Failure}
use Rattle.ada_syntax.specs.Tree.{Name, name_pos, Expr, expr_pos}
use Rattle.ada_syntax.specs.declared.declaration.Initial.{Initial}
use Rattle.ada_meaning.specs.Tree as tree
use Rattle.ada_rules.specs.Plan.{Plan, ◌>>=◌, rule, answer_at}
use Rattle.ada_rules.specs.Entities.{Variable}
use Rattle.ada_rules.specs.Environment.{State, Given, given, Env, typed_rule}
use Rattle.ada_rules.specs.Denoted.{Denoted, Judged}
use Rattle.ada_rules.specs.Expressions.{itself, denoted, judged}
use Rattle.ada_rules.specs.Declarations.{NewValue, new_value}
use Rattle.ada_rules.specs.Statements.{one, any_variable, writable, target, call_of, any_selector, selector_of, Selector, selector, returned_value, exception_of, typed_stmt}
use Rattle.ada_entities.specs.declared.fault.Refusal.{Refusal}
use Rattle.ada_entities.specs.Answers.{Refuses}
use Rattle.ada_phrases.proofs.Parts.{passes_on, in_part, refused_as}
use Rattle.statement_parts.specs.Simple.{assigning, calling, raising}
use Rattle.statement_parts.specs.Returns.{giving}

abbrev Faults : Type 0
Faults = Failure Refusal

-- the target of an assignment
abbrev then_target : Env → Given Denoted → Plan (Given Variable)
then_target env d = typed_rule env.step (given any_variable d.next) (option_map (λ v. given v d.next) (writable d.value))

abbrev then_called : Env → tree.Label → Given Denoted → Plan (Given (List tree.Stmt))
then_called env l d = typed_stmt env l d.next (call_of l d.value)

abbrev then_raised : Env → tree.Label → Given Denoted → Plan (Given (List tree.Stmt))
then_raised env l d = typed_stmt env l d.next (option_map (tree.raise_statement l) (exception_of d.value))

module _ (env : Env) (s : State) (n : Name) where
  pub target_refused : (f : Faults) → Refuses (denoted env s n).answer f → Refuses (target env s n).answer f
  target_refused f h = in_part (name_pos n) (denoted env s n).answer (then_target env) f h

  pub target_passes : (d : Given Denoted) → (denoted env s n).answer ≡ Ok d
      → (target env s n).answer ≡ answer_at (name_pos n) (then_target env d).outcome
  target_passes d h = passes_on (name_pos n) (denoted env s n).answer (then_target env) d h

  module _ (l : tree.Label) (p : Pos) where
    pub call_refused : (f : Faults) → Refuses (denoted env s n).answer f → Refuses (answer_at p (calling l env s n).outcome) f
    call_refused f h = in_part p (denoted env s n).answer (then_called env l) f h

    pub call_passes : (d : Given Denoted) → (denoted env s n).answer ≡ Ok d
        → answer_at p (calling l env s n).outcome ≡ answer_at p (then_called env l d).outcome
    call_passes d h = passes_on p (denoted env s n).answer (then_called env l) d h

    pub raise_refused : (f : Faults) → Refuses (denoted env s n).answer f → Refuses (answer_at p (raising l env s n).outcome) f
    raise_refused f h = in_part p (denoted env s n).answer (then_raised env l) f h

    pub raise_passes : (d : Given Denoted) → (denoted env s n).answer ≡ Ok d
        → answer_at p (raising l env s n).outcome ≡ answer_at p (then_raised env l d).outcome
    raise_passes d h = passes_on p (denoted env s n).answer (then_raised env l) d h

-- an assignment: its target, and then its value
abbrev then_assigned : tree.Label → Given Variable → Given NewValue → Plan (Given (List tree.Stmt))
then_assigned l v x = rule (Some (one (tree.assignment l v.value.object v.value.parts x.value.value) x.next))

abbrev then_set : tree.Label → Env → Initial → Given Variable → Plan (Given (List tree.Stmt))
then_set l env i v = new_value env v.next l.place v.value.subtype i >>= then_assigned l v

module _ (env : Env) (s : State) (n : Name) (i : Initial) (l : tree.Label) (p : Pos) where
  pub variable_refused : (f : Faults) → Refuses (target env s n).answer f → Refuses (answer_at p (assigning l env s n i).outcome) f
  variable_refused f h = in_part p (target env s n).answer (then_set l env i) f h

  module _ (v : Given Variable) (h : (target env s n).answer ≡ Ok v) where
    pub value_refused : (f : Faults) → Refuses (new_value env v.next l.place v.value.subtype i).answer f → Refuses (answer_at p (assigning l env s n i).outcome) f
    value_refused f g =
        refused_as _ _ f (passes_on p (target env s n).answer (then_set l env i) v h)
        (in_part p (new_value env v.next l.place v.value.subtype i).answer (then_assigned l v) f g)

    pub both_pass : (x : Given NewValue) → (new_value env v.next l.place v.value.subtype i).answer ≡ Ok x
        → answer_at p (assigning l env s n i).outcome ≡ Ok (one (tree.assignment l v.value.object v.value.parts x.value.value) x.next)
    both_pass x g =
        passes_on p (target env s n).answer (then_set l env i) v h
        ∙ passes_on p (new_value env v.next l.place v.value.subtype i).answer (then_assigned l v) x g

-- what stands behind an expression
abbrev then_selector : Env → Given Judged → Plan (Given Selector)
then_selector env x = typed_rule env.step (given any_selector x.next) (option_map (λ y. given y x.next) (selector_of x.value))

abbrev then_given : Env → tree.Label → Given Judged → Plan (Given (List tree.Stmt))
then_given env l x = typed_stmt env l x.next (returned_value l x.value env.returning)

module _ (env : Env) (s : State) (e : Expr) where
  pub selector_refused : (f : Faults) → Refuses (judged env itself s e).answer f → Refuses (selector env s e).answer f
  selector_refused f h = in_part (expr_pos e) (judged env itself s e).answer (then_selector env) f h

  pub selector_passes : (x : Given Judged) → (judged env itself s e).answer ≡ Ok x
      → (selector env s e).answer ≡ answer_at (expr_pos e) (then_selector env x).outcome
  selector_passes x h = passes_on (expr_pos e) (judged env itself s e).answer (then_selector env) x h

  module _ (l : tree.Label) (p : Pos) where
    pub return_refused : (f : Faults) → Refuses (judged env itself s e).answer f → Refuses (answer_at p (giving l env s e).outcome) f
    return_refused f h = in_part p (judged env itself s e).answer (then_given env l) f h

    pub return_passes : (x : Given Judged) → (judged env itself s e).answer ≡ Ok x
        → answer_at p (giving l env s e).outcome ≡ answer_at p (then_given env l x).outcome
    return_passes x h = passes_on p (judged env itself s e).answer (then_given env l) x h
