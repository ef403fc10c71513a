-- One construct: it passes with its parts, or is refused with one of them.
use Rattle.std.proofs.Common.{◌≡◌, List, Option, Some, option_map, is_some, Result, Ok, sym, ap, ◌∙◌, subst}
use Rattle.cov_base.specs.declared.position.Pos.{Pos}
use Rattle.cov_base.specs.declared.failure.Failure.{Failure}
use Rattle.ada_meaning.specs.Tree as tree
use Rattle.ada_syntax.specs.Tree.{Expr, Exprs, Name, named, parenthesized, unary, relation}
use Rattle.ada_syntax.specs.TreeView.{joined, is_filled}
use Rattle.std.proofs.Common.{true}
use Rattle.ada_syntax.specs.declared.expr.LogicalOperator.{LogicalOperator}
use Rattle.ada_syntax.specs.declared.expr.Operand.{Operand}
use Rattle.ada_syntax.specs.declared.expr.RelationalOperator.{RelationalOperator}
use Rattle.ada_syntax.specs.declared.expr.UnaryOperator.{UnaryOperator}
use Rattle.ada_rules.specs.Plan.{◌>>=◌, rule, outcome_after, answer_at}
use Rattle.ada_rules.specs.Environment.{typed_rule, Step, State, Given, given, Env}
use Rattle.ada_rules.specs.Denoted as rules
use Rattle.ada_rules.specs.Denoted.{a_thing, applied_to, any_judged, binary_of, enclosed, neutral_of, related, standing_at, unary_of, value_of}
use Rattle.ada_rules.specs.Expressions.{Role, itself, operand, opens, entered, closed, is_circuit, is_circuit_under, role_under, typed_as, denoted, judged, all_judged}
use Rattle.ada_entities.specs.declared.fault.Refusal.{Refusal}
use Rattle.ada_entities.specs.Answers.{Refuses, refused_at, no_memory}
use Rattle.ada_phrases.specs.Answers.{along}
use Rattle.ada_phrases.specs.Closing.{label_if, closing}
use Rattle.ada_phrases.specs.Steps.{operand_in, joined_in, applied_in, finished}
use Rattle.ada_phrases.proofs.Parts.{in_part, refused_as}
use Rattle.ada_phrases.proofs.Walks.{closed_is, closed_behind, filled_along}

abbrev Faults : Type 0
Faults = Failure Refusal

module _ (env : Env) (s : State) (p : Pos) where
  pub name_passes : (n : Name) (d : Given rules.Denoted) → (denoted env s n).answer ≡ Ok d
      → (judged env itself s (named p n)).answer ≡ answer_at p (typed_as env d.next (option_map (standing_at p) (value_of d.value))).outcome
  name_passes n d h = ap (λ r. answer_at p (outcome_after r (λ d. typed_as env d.next (option_map (standing_at p) (value_of d.value))))) h

  pub name_refused : (n : Name) (f : Faults) → Refuses (denoted env s n).answer f → Refuses (judged env itself s (named p n)).answer f
  name_refused n f r = in_part p (denoted env s n).answer (λ d. typed_as env d.next (option_map (standing_at p) (value_of d.value))) f r

  pub relation_passes : (a : Expr) (op : RelationalOperator) (b : Expr) (x y : Given rules.Judged) → (judged env itself s a).answer ≡ Ok x
      → (judged env itself x.next b).answer ≡ Ok y
      → (judged env itself s (relation p a op b)).answer ≡ answer_at p (typed_as env y.next (related p op x.value y.value)).outcome
  relation_passes a op b x y g h =
      ap (λ r. answer_at p (outcome_after r (λ u. judged env itself u.next b >>= (λ v. typed_as env v.next (related p op u.value v.value))))) g
      ∙ ap (λ r. answer_at p (outcome_after r (λ v. typed_as env v.next (related p op x.value v.value)))) h

  pub left_refused : (a : Expr) (op : RelationalOperator) (b : Expr) (f : Faults) → Refuses (judged env itself s a).answer f
      → Refuses (judged env itself s (relation p a op b)).answer f
  left_refused a op b f r = in_part p (judged env itself s a).answer (λ u. judged env itself u.next b >>= (λ v. typed_as env v.next (related p op u.value v.value))) f r

  pub right_refused : (a : Expr) (op : RelationalOperator) (b : Expr) (x : Given rules.Judged) (f : Faults) → (judged env itself s a).answer ≡ Ok x
      → Refuses (judged env itself x.next b).answer f → Refuses (judged env itself s (relation p a op b)).answer f
  right_refused a op b x f g r =
      refused_as _ _ f (ap (λ r. answer_at p (outcome_after r (λ u. judged env itself u.next b >>= (λ v. typed_as env v.next (related p op u.value v.value))))) g)
      (in_part p (judged env itself x.next b).answer (λ v. typed_as env v.next (related p op x.value v.value)) f r)

  -- in parentheses, where the number of a decision was taken
  pub enclosed_passes : (r : Role) (e : Expr) (inner : State) (l : Option tree.Label) (x : Given rules.Judged) → inner ≡ entered (opens r (is_circuit e)) s
      → l ≡ label_if (opens r (is_circuit e)) s p → (judged env operand inner e).answer ≡ Ok x
      → (judged env r s (parenthesized p e)).answer ≡ Ok (closing l p (given (enclosed x.value) x.next))
  enclosed_passes r e inner l x i j h =
      let b = opens r (is_circuit e) in
      ap (λ t. answer_at p (outcome_after t (λ x. rule (Some (closed b s p (given (enclosed x.value) x.next)))))) (ap (λ u. (judged env operand u e).answer) (sym i) ∙ h)
      ∙ ap (λ g. Ok g) (closed_is b s p (given (enclosed x.value) x.next) ∙ ap (λ m. closing m p (given (enclosed x.value) x.next)) (sym j))

  pub enclosed_refused : (r : Role) (e : Expr) (inner : State) (f : Faults) → inner ≡ entered (opens r (is_circuit e)) s
      → Refuses (judged env operand inner e).answer f → Refuses (judged env r s (parenthesized p e)).answer f
  enclosed_refused r e inner f i h =
      let b = opens r (is_circuit e) in
      in_part p (judged env operand (entered b s) e).answer (λ x. rule (Some (closed b s p (given (enclosed x.value) x.next)))) f
      (subst (λ u. Refuses (judged env operand u e).answer f) i h)

  -- with an operator
  pub unary_is : (r : Role) (op : UnaryOperator) (e : Expr) (inner : State) (l : Option tree.Label) → inner ≡ entered (opens r (is_circuit_under op e)) s
      → l ≡ label_if (opens r (is_circuit_under op e)) s p
      → (judged env r s (unary p op e)).answer
      ≡ finished env.step l p (answer_at p (outcome_after (judged env (role_under op) inner e).answer (λ x. typed_as env x.next (unary_of p op x.value))))
  unary_is r op e inner l i j =
      let b = opens r (is_circuit_under op e) in
      closed_behind env.step b s p (judged env (role_under op) (entered b s) e).answer (λ x. unary_of p op x.value)
      ∙ (ap (λ u. finished env.step (label_if b s p) p (answer_at p (outcome_after (judged env (role_under op) u e).answer (λ x. typed_as env x.next (unary_of p op x.value))))) (sym i)
      ∙ ap (λ m. finished env.step m p (answer_at p (outcome_after (judged env (role_under op) inner e).answer (λ x. typed_as env x.next (unary_of p op x.value))))) (sym j))

  -- with a logical operator
  pub logical_is : (r : Role) (op : LogicalOperator) (a : Expr) (bs : List Expr) (inner : State) (l : Option tree.Label)
      → inner ≡ entered (opens r (is_some (neutral_of op))) s → l ≡ label_if (opens r (is_some (neutral_of op))) s p → is_filled bs ≡ true
      → (judged env r s (joined p op a bs)).answer ≡ finished env.step l p (along p (joined_in env p op) (judged env operand inner a).answer bs)
  logical_is r op a bs inner l i j h =
      let b = opens r (is_some (neutral_of op)) in
      filled_along env r s p op a bs h
      ∙ (ap (λ u. finished env.step (label_if b s p) p (along p (joined_in env p op) (judged env operand u a).answer bs)) (sym i)
      ∙ ap (λ m. finished env.step m p (along p (joined_in env p op) (judged env operand inner a).answer bs)) (sym j))

  -- turns
  pub operand_passes : (x : rules.Judged) (o : Operand) (y : Given rules.Judged) → (judged env itself s o.operand).answer ≡ Ok y
      → answer_at p (operand_in env p (given x s) o).outcome ≡ answer_at p (typed_as env y.next (binary_of p o.operator x y.value)).outcome
  operand_passes x o y h = ap (λ r. answer_at p (outcome_after r (λ y. typed_as env y.next (binary_of p o.operator x y.value)))) h

  pub operand_refused : (x : rules.Judged) (o : Operand) (f : Faults) → Refuses (judged env itself s o.operand).answer f
      → Refuses (answer_at p (operand_in env p (given x s) o).outcome) f
  operand_refused x o f r = in_part p (judged env itself s o.operand).answer (λ y. typed_as env y.next (binary_of p o.operator x y.value)) f r

  pub joined_passes : (op : LogicalOperator) (x : rules.Judged) (e : Expr) (y : Given rules.Judged) → (judged env operand s e).answer ≡ Ok y
      → answer_at p (joined_in env p op (given x s) e).outcome ≡ answer_at p (typed_as env y.next (rules.joined p op x y.value)).outcome
  joined_passes op x e y h = ap (λ r. answer_at p (outcome_after r (λ y. typed_as env y.next (rules.joined p op x y.value)))) h

  pub joined_refused : (op : LogicalOperator) (x : rules.Judged) (e : Expr) (f : Faults) → Refuses (judged env operand s e).answer f
      → Refuses (answer_at p (joined_in env p op (given x s) e).outcome) f
  joined_refused op x e f r = in_part p (judged env operand s e).answer (λ y. typed_as env y.next (rules.joined p op x y.value)) f r

  pub applied_passes : (d : rules.Denoted) (es : Exprs) (xs : Given (List rules.Judged)) → (all_judged env s p es).answer ≡ Ok xs
      → answer_at p (applied_in env p (given d s) es).outcome
      ≡ answer_at p (typed_rule env.step (given a_thing xs.next) (option_map (λ x. given x xs.next) (applied_to d xs.value))).outcome
  applied_passes d es xs h =
      ap (λ r. answer_at p (outcome_after r (λ xs. typed_rule env.step (given a_thing xs.next) (option_map (λ x. given x xs.next) (applied_to d xs.value))))) h

  pub applied_refused : (d : rules.Denoted) (es : Exprs) (f : Faults) → Refuses (all_judged env s p es).answer f
      → Refuses (answer_at p (applied_in env p (given d s) es).outcome) f
  applied_refused d es f r =
      in_part p (all_judged env s p es).answer (λ xs. typed_rule env.step (given a_thing xs.next) (option_map (λ x. given x xs.next) (applied_to d xs.value))) f r

pub finished_refused : (st : Step) (l : Option tree.Label) (p : Pos) (r : Result (Given rules.Judged) Pos) (f : Faults) → Refuses r f
    → Refuses (finished st l p r) f
finished_refused st l p r f (refused_at h) = refused_at (ap (finished st l p) h)
finished_refused st l p r f no_memory = no_memory
