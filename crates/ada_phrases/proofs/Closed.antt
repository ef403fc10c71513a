-- A decision is no object.
use Rattle.std.proofs.Common.{◌≡◌, Bool, true, false, List, [], ◌∷◌, Option, Some, None, option_map, is_some, if◌then◌else◌, Result, Ok, Err, refl, sym, subst}
use Rattle.std.proofs.lemmas.Bool.{false≢true}
use Rattle.cov_base.specs.declared.position.Pos.{Pos}
use Rattle.ada_meaning.specs.Tree as tree
use Rattle.ada_syntax.specs.Tree.{Expr, numeral, named, parenthesized, unary, binary, relation, logical}
use Rattle.ada_syntax.specs.TreeView.{is_filled}
use Rattle.ada_syntax.specs.declared.expr.LogicalOperator.{LogicalOperator}
use Rattle.ada_syntax.specs.declared.expr.UnaryOperator.{UnaryOperator}
use Rattle.ada_syntax.specs.declared.expr.UnaryOperator.TheVariants as sign
use Rattle.ada_rules.specs.Plan.{rule, outcome_after, answer_at}
use Rattle.ada_rules.specs.Environment.{Step, naming, typing, typed_rule, State, Given, given, Env}
use Rattle.ada_rules.specs.Types.{is_boolean}
use Rattle.ada_rules.specs.Entities.{Variable}
use Rattle.ada_rules.specs.Denoted as rules
use Rattle.ada_rules.specs.Denoted.{any_judged, enclosed, complement_of, circuit_of, neutral_of, unary_of}
use Rattle.ada_rules.specs.Expressions.{Role, itself, operand, opens, entered, closed, is_circuit, is_circuit_under, typed_as, judged}
use Rattle.ada_phrases.specs.Answers.{along}
use Rattle.ada_phrases.specs.Closing.{label_if, IsClosable}
use Rattle.ada_phrases.specs.Steps.{joined_in, finished}
use Rattle.ada_phrases.proofs.Walks.{closed_behind, joined_along}

abbrev pub NoObject : Result (Given rules.Judged) Pos → Type 0
NoObject (Ok g) = g.value.variable ≡ None
NoObject (Err q) = Unit

abbrev object_in : Option rules.Judged → Option Variable
object_in None = None
object_in (Some x) = x.variable

-- what a rule on types gives is no object, if what it finds is none
typed_none : (st : Step) (n : State) (p : Pos) (o : Option rules.Judged) → object_in o ≡ None
    → NoObject (answer_at p (typed_rule st (given any_judged n) (option_map (λ x. given x n) o)).outcome)
typed_none naming n p o h = refl
typed_none typing n p None h = tt
typed_none typing n p (Some x) h = h

circuit_object : (c : Bool) (n : Option Bool) (p : Pos) (x y : rules.Judged) → object_in (if c then option_map (circuit_of p x y) n else None) ≡ None
circuit_object false n p x y = refl
circuit_object true None p x y = refl
circuit_object true (Some b) p x y = refl

joined_none : (env : Env) (p : Pos) (op : LogicalOperator) (x : Given rules.Judged) (r : Result (Given rules.Judged) Pos)
    → NoObject (answer_at p (outcome_after r (λ y. typed_as env y.next (rules.joined p op x.value y.value))))
joined_none env p op x (Ok y) = typed_none env.step y.next p _ (circuit_object _ (neutral_of op) p x.value y.value)
joined_none env p op x (Err q) = tt

turn_none : (env : Env) (p : Pos) (op : LogicalOperator) (r : Result (Given rules.Judged) Pos) (b : Expr)
    → NoObject (answer_at p (outcome_after r (λ x. joined_in env p op x b)))
turn_none env p op (Ok x) b = joined_none env p op x (judged env operand x.next b).answer
turn_none env p op (Err q) b = tt

pub along_none : (env : Env) (p : Pos) (op : LogicalOperator) (r : Result (Given rules.Judged) Pos) (bs : List Expr) → is_filled bs ≡ true
    → NoObject (along p (joined_in env p op) r bs)
along_none env p op r [] h = absurd (false≢true h)
along_none env p op r (b ∷ []) h = turn_none env p op r b
along_none env p op r (b ∷ (c ∷ bs)) h = along_none env p op (answer_at p (outcome_after r (λ x. joined_in env p op x b))) (c ∷ bs) refl

complement_object : (c : Bool) (x : rules.Judged) → object_in (if c then Some (complement_of x) else None) ≡ None
complement_object true x = refl
complement_object false x = refl

pub unary_none : (env : Env) (p : Pos) (op : UnaryOperator) (e : Expr) (r : Result (Given rules.Judged) Pos) → is_circuit_under op e ≡ true
    → NoObject (answer_at p (outcome_after r (λ x. typed_as env x.next (unary_of p op x.value))))
unary_none env p sign.Plus e r h = absurd (false≢true h)
unary_none env p sign.Minus e r h = absurd (false≢true h)
unary_none env p sign.Abs e r h = absurd (false≢true h)
unary_none env p sign.Not e (Ok x) h = typed_none env.step x.next p _ (complement_object (is_boolean x.value.kind) x.value)
unary_none env p sign.Not e (Err q) h = tt

finished_none : (st : Step) (l : Option tree.Label) (p : Pos) (r : Result (Given rules.Judged) Pos) → NoObject r → NoObject (finished st l p r)
finished_none st l p (Err q) h = tt
finished_none naming l p (Ok g) h = h
finished_none typing None p (Ok g) h = h
finished_none typing (Some l) p (Ok g) h = h

enclosed_none : (b : Bool) (s : State) (p : Pos) (r : Result (Given rules.Judged) Pos) → NoObject r
    → NoObject (answer_at p (outcome_after r (λ x. rule (Some (closed b s p (given (enclosed x.value) x.next))))))
enclosed_none true s p (Ok g) h = h
enclosed_none false s p (Ok g) h = h
enclosed_none b s p (Err q) h = tt

pub circuit_none : (env : Env) (r : Role) (s : State) (e : Expr) → is_circuit e ≡ true → NoObject (judged env r s e).answer
circuit_none env r s (numeral p n) h = absurd (false≢true h)
circuit_none env r s (named p n) h = absurd (false≢true h)
circuit_none env r s (parenthesized p e) h =
    enclosed_none (opens r (is_circuit e)) s p (judged env operand (entered (opens r (is_circuit e)) s) e).answer
    (circuit_none env operand (entered (opens r (is_circuit e)) s) e h)
circuit_none env r s (unary p sign.Plus e) h = absurd (false≢true h)
circuit_none env r s (unary p sign.Minus e) h = absurd (false≢true h)
circuit_none env r s (unary p sign.Abs e) h = absurd (false≢true h)
circuit_none env r s (unary p sign.Not e) h =
    let b = opens r (is_circuit e) in
    let answer = (judged env operand (entered b s) e).answer in
    subst NoObject (sym (closed_behind env.step b s p answer (λ x. unary_of p sign.Not x.value)))
    (finished_none env.step (label_if b s p) p _ (unary_none env p sign.Not e answer h))
circuit_none env r s (binary p a op b) h = absurd (false≢true h)
circuit_none env r s (relation p a op b) h = absurd (false≢true h)
circuit_none env r s (logical p a op b) h =
    subst NoObject (sym (joined_along env r s p op a b []))
    (finished_none env.step _ p _ (turn_none env p op (judged env operand (entered (opens r (is_some (neutral_of op))) s) a).answer b))

-- so each decision may be closed
pub closable : (b : Bool) (s : State) (p : Pos) (x : rules.Judged) → (b ≡ true → x.variable ≡ None) → IsClosable (label_if b s p) x
closable true s p x h = h refl
closable false s p x h = tt

pub opens_circuit : (r : Role) (c : Bool) → opens r c ≡ true → c ≡ true
opens_circuit itself c h = h
opens_circuit operand c h = absurd (false≢true h)
