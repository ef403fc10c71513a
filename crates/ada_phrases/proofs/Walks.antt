-- What grows to the right is looked at one by one: the rules' answer of a whole is that of its turns.
use Rattle.std.proofs.Common.{◌≡◌, Bool, true, false, List, [], ◌∷◌, ◌++◌, Option, Some, None, option_map, is_some, Result, Ok, Err, refl, sym, ap, ◌∙◌, append_assoc}
use Rattle.std.proofs.lemmas.Bool.{false≢true}
use Rattle.cov_base.specs.declared.position.Pos.{Pos}
use Rattle.ada_syntax.specs.Tree.{Expr, binary, logical, Exprs, also, Name, name_pos}
use Rattle.ada_syntax.specs.TreeView.{with_operands, joined, with_suffix, with_suffixes, is_filled}
use Rattle.ada_syntax.specs.declared.expr.LogicalOperator.{LogicalOperator}
use Rattle.ada_syntax.specs.declared.expr.Operand.{Operand}
use Rattle.ada_syntax.specs.declared.name.Suffix.{Suffix}
use Rattle.ada_syntax.specs.declared.name.Suffix.TheVariants as suffix
use Rattle.cov_base.specs.declared.failure.Failure.{Failure}
use Rattle.ada_rules.specs.Plan.{◌>>=◌, rule, outcome_after, answer_at}
use Rattle.ada_rules.specs.Environment.{Step, naming, typing, typed_rule, State, Given, given, Env}
use Rattle.ada_rules.specs.Denoted as rules
use Rattle.ada_rules.specs.Denoted.{any_judged, neutral_of}
use Rattle.ada_rules.specs.Expressions.{Role, itself, operand, opens, entered, closed, is_circuit, denoted, judged, all_judged}
use Rattle.ada_phrases.specs.Answers.{along, before}
use Rattle.ada_entities.specs.declared.fault.Refusal.{Refusal}
use Rattle.ada_entities.specs.Answers.{Refuses, refused_at, no_memory}
use Rattle.ada_phrases.specs.Closing.{label_if, closing}
use Rattle.ada_phrases.specs.Steps.{operand_in, joined_in, suffix_in, finished}

-- operators with two operands
pub operands_along : (env : Env) (s : State) (p : Pos) (a : Expr) (os : List Operand)
    → (judged env itself s (with_operands p a os)).answer ≡ along p (operand_in env p) (judged env itself s a).answer os
operands_along env s p a [] = refl
operands_along env s p a (o ∷ os) = operands_along env s p (binary p a o.operator o.operand) os

-- an operation is no operand of a decision
pub operands_alone : (env : Env) (r : Role) (s : State) (p : Pos) (a : Expr) (os : List Operand) → is_filled os ≡ true
    → (judged env r s (with_operands p a os)).answer ≡ (judged env itself s (with_operands p a os)).answer
operands_alone env r s p a [] h = absurd (false≢true h)
operands_alone env r s p a (o ∷ []) h = refl
operands_alone env r s p a (o ∷ (q ∷ os)) h = operands_alone env r s p (binary p a o.operator o.operand) (q ∷ os) refl

-- the parts of a name
pub suffixes_along : (env : Env) (s : State) (n : Name) (ss : List Suffix)
    → (denoted env s (with_suffixes n ss)).answer ≡ along (name_pos n) (suffix_in env (name_pos n)) (denoted env s n).answer ss
suffixes_along env s n [] = refl
suffixes_along env s n (suffix.Selected i ∷ ss) = suffixes_along env s (with_suffix n (suffix.Selected i)) ss
suffixes_along env s n (suffix.Attribute i ∷ ss) = suffixes_along env s (with_suffix n (suffix.Attribute i)) ss
suffixes_along env s n (suffix.Applied es ∷ ss) = suffixes_along env s (with_suffix n (suffix.Applied es)) ss

-- where an expression opens a decision, this is closed last
pub closed_is : (b : Bool) (s : State) (p : Pos) (g : Given rules.Judged) → closed b s p g ≡ closing (label_if b s p) p g
closed_is true s p g = refl
closed_is false s p g = refl

closing_turn : (st : Step) (b : Bool) (s n : State) (p : Pos) (o : Option rules.Judged)
    → answer_at p (typed_rule st (given any_judged n) (option_map (λ z. closed b s p (given z n)) o)).outcome
    ≡ finished st (label_if b s p) p (answer_at p (typed_rule st (given any_judged n) (option_map (λ z. given z n) o)).outcome)
closing_turn naming b s n p o = refl
closing_turn typing b s n p None = refl
closing_turn typing true s n p (Some z) = refl
closing_turn typing false s n p (Some z) = refl

pub closed_behind : (st : Step) (b : Bool) (s : State) (p : Pos) (r : Result (Given rules.Judged) Pos) (f : Given rules.Judged → Option rules.Judged)
    → answer_at p (outcome_after r (λ y. typed_rule st (given any_judged y.next) (option_map (λ z. closed b s p (given z y.next)) (f y))))
    ≡ finished st (label_if b s p) p (answer_at p (outcome_after r (λ y. typed_rule st (given any_judged y.next) (option_map (λ z. given z y.next) (f y)))))
closed_behind st b s p (Ok y) f = closing_turn st b s y.next p (f y)
closed_behind st b s p (Err q) f = refl

circuit_closed : (env : Env) (b : Bool) (s : State) (p : Pos) (op : LogicalOperator) (r : Result (Given rules.Judged) Pos) (e : Expr)
    → answer_at p (outcome_after r (λ x. judged env operand x.next e >>= (λ y. typed_rule env.step (given any_judged y.next)
    (option_map (λ z. closed b s p (given z y.next)) (rules.joined p op x.value y.value)))))
    ≡ finished env.step (label_if b s p) p (answer_at p (outcome_after r (λ x. joined_in env p op x e)))
circuit_closed env b s p op (Ok x) e = closed_behind env.step b s p (judged env operand x.next e).answer (λ y. rules.joined p op x.value y.value)
circuit_closed env b s p op (Err q) e = refl

-- operands of a logical operator
pub joined_along : (env : Env) (r : Role) (s : State) (p : Pos) (op : LogicalOperator) (a b : Expr) (bs : List Expr)
    → (judged env r s (joined p op a (b ∷ bs))).answer
    ≡ finished env.step (label_if (opens r (is_some (neutral_of op))) s p) p
    (along p (joined_in env p op) (judged env operand (entered (opens r (is_some (neutral_of op))) s) a).answer (b ∷ bs))
joined_along env r s p op a b [] =
    circuit_closed env (opens r (is_some (neutral_of op))) s p op (judged env operand (entered (opens r (is_some (neutral_of op))) s) a).answer b
joined_along env r s p op a b (c ∷ bs) = joined_along env r s p op (logical p a op b) c bs

pub filled_along : (env : Env) (r : Role) (s : State) (p : Pos) (op : LogicalOperator) (a : Expr) (bs : List Expr) → is_filled bs ≡ true
    → (judged env r s (joined p op a bs)).answer
    ≡ finished env.step (label_if (opens r (is_some (neutral_of op))) s p) p
    (along p (joined_in env p op) (judged env operand (entered (opens r (is_some (neutral_of op))) s) a).answer bs)
filled_along env r s p op a [] h = absurd (false≢true h)
filled_along env r s p op a (b ∷ bs) h = joined_along env r s p op a b bs

-- expressions, one more behind those that were looked at
behind_one : (p : Pos) (done : List rules.Judged) (v : rules.Judged) (r : Result (Given (List rules.Judged)) Pos)
    → before done (answer_at p (outcome_after r (λ xs. rule (Some (given (v ∷ xs.value) xs.next))))) ≡ before (done ++ v ∷ []) r
behind_one p done v (Ok g) = ap (λ l. Ok (given l g.next)) (sym (append_assoc done (v ∷ []) g.value))
behind_one p done v (Err q) = refl

pub one_judged : (env : Env) (s : State) (p : Pos) (done : List rules.Judged) (e : Expr) (es : Exprs) (x : Given rules.Judged)
    → (judged env itself s e).answer ≡ Ok x
    → before done (all_judged env s p (also e es)).answer ≡ before (done ++ x.value ∷ []) (all_judged env x.next p es).answer
one_judged env s p done e es x h =
    ap (λ r. before done (answer_at p (outcome_after r (λ y. all_judged env y.next p es >>= (λ ys. rule (Some (given (y.value ∷ ys.value) ys.next))))))) h
    ∙ behind_one p done x.value (all_judged env x.next p es).answer

pub one_refused : (env : Env) (s : State) (p : Pos) (done : List rules.Judged) (e : Expr) (es : Exprs) (f : Failure Refusal)
    → Refuses (judged env itself s e).answer f → Refuses (before done (all_judged env s p (also e es)).answer) f
one_refused env s p done e es f (refused_at h) =
    refused_at (ap (λ r. before done (answer_at p (outcome_after r (λ y. all_judged env y.next p es >>= (λ ys. rule (Some (given (y.value ∷ ys.value) ys.next))))))) h)
one_refused env s p done e es f no_memory = no_memory

-- where it is that an expression is a decision of its own
pub operations_circuit : (p : Pos) (a : Expr) (os : List Operand) → is_filled os ≡ true → false ≡ is_circuit (with_operands p a os)
operations_circuit p a [] h = absurd (false≢true h)
operations_circuit p a (o ∷ []) h = refl
operations_circuit p a (o ∷ (q ∷ os)) h = operations_circuit p (binary p a o.operator o.operand) (q ∷ os) refl

pub joined_circuit : (p : Pos) (op : LogicalOperator) (a : Expr) (bs : List Expr) → is_filled bs ≡ true
    → is_some (neutral_of op) ≡ is_circuit (joined p op a bs)
joined_circuit p op a [] h = absurd (false≢true h)
joined_circuit p op a (b ∷ []) h = refl
joined_circuit p op a (b ∷ (c ∷ bs)) h = joined_circuit p op (logical p a op b) (c ∷ bs) refl
