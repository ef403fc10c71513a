use Rattle.std.proofs.Common.{◌≡◌, ◌+◌, ◌*◌, Ok, drop, map, sum_by}
use Rattle.cov_base.specs.declared.position.Pos.{Pos}
use Rattle.ada_syntax.specs.Tree.{expr_size, name_size}
use Rattle.ada_syntax.specs.TreeView.{exprs_of, with_operands}
use Rattle.ada_syntax.proofs.SizeLaws.{operand_size, suffix_size}
use Rattle.ada_rules.specs.Environment.{State, given, Env}
use Rattle.ada_rules.specs.Expressions as rules
use Rattle.ada_entities.specs.EntityViews.{Tables}
use Rattle.ada_judged.specs.JudgedView.{judged_of}
use Rattle.ada_phrases.specs.Answers.{counted, along, before}
use Rattle.ada_phrases.specs.DenotedView.{denotes}
use Rattle.ada_phrases.specs.Scopes.{StandsIn}
use Rattle.ada_phrases.specs.Steps.{operand_in, joined_in, suffix_in}
use Rattle.ada_phrases.proofs.phrases.+phrases.Given as goal

abbrev pub decreases-judged : goal.decreases-judged
decreases-judged l = 4 * expr_size l.expr.now

abbrev pub decreases-value_of_name : goal.decreases-value_of_name
decreases-value_of_name l = 4 * name_size l.name.now + 1

abbrev pub decreases-parenthesized : goal.decreases-parenthesized
decreases-parenthesized l = 4 * expr_size l.inner.now + 1

abbrev pub decreases-unary : goal.decreases-unary
decreases-unary l = 4 * expr_size l.operand.now + 1

abbrev pub decreases-operations : goal.decreases-operations
decreases-operations l = 4 * (expr_size l.first.now + sum_by operand_size l.others.now) + 2

abbrev pub decreases-operated : goal.decreases-operated
decreases-operated l = 4 * operand_size l.right.now + 1

abbrev pub decreases-relation : goal.decreases-relation
decreases-relation l = 4 * (expr_size l.left.now + expr_size l.right.now) + 2

abbrev pub decreases-logical : goal.decreases-logical
decreases-logical l = 4 * (expr_size l.first.now + sum_by expr_size l.others.now) + 3

abbrev pub decreases-chained : goal.decreases-chained
decreases-chained l = 4 * (expr_size l.first.now + sum_by expr_size l.others.now) + 2

abbrev pub decreases-joined_with : goal.decreases-joined_with
decreases-joined_with l = 4 * expr_size l.right.now + 1

abbrev pub decreases-denoted : goal.decreases-denoted
decreases-denoted l = 4 * name_size l.name.now

abbrev pub decreases-suffixed : goal.decreases-suffixed
decreases-suffixed l = 4 * suffix_size l.suffix.now + 3

abbrev pub decreases-applied : goal.decreases-applied
decreases-applied l = 4 * sum_by expr_size l.exprs.now + 2

abbrev pub decreases-all_judged : goal.decreases-all_judged
decreases-all_judged l = 4 * sum_by expr_size l.exprs.now + 1

-- what was looked at, and what is left, is the whole
abbrev pub invariant-operations-loop-other : goal.invariant-operations-loop-other
invariant-operations-loop-other l =
    (k : Tables) (env : Env) (s : State) → StandsIn l.scope k env
    → (rules.judged env rules.itself (counted l.fn.decisions s) (with_operands l.fn.pos l.fn.first l.others)).answer
    ≡ along l.fn.pos (operand_in env l.fn.pos) (Ok (given (judged_of k l.value) (counted l.decisions s))) (drop l.other-index l.others)

abbrev pub invariant-chained-loop-other : goal.invariant-chained-loop-other
invariant-chained-loop-other l =
    (k : Tables) (env : Env) (s : State) → StandsIn l.scope k env
    → along l.fn.pos (joined_in env l.fn.pos l.fn.operator) (rules.judged env rules.operand (counted l.fn.decisions s) l.fn.first).answer l.others
    ≡ along l.fn.pos (joined_in env l.fn.pos l.fn.operator) (Ok (given (judged_of k l.value) (counted l.decisions s))) (drop l.other-index l.others)

abbrev pub invariant-denoted-loop-suffix : goal.invariant-denoted-loop-suffix
invariant-denoted-loop-suffix l =
    (k : Tables) (env : Env) (s : State) → StandsIn l.scope k env
    → (rules.denoted env (counted l.fn.decisions s) l.name).answer
    ≡ along l.pos (suffix_in env l.pos) (Ok (given (denotes k l.denoted) (counted l.decisions s))) (drop l.suffix-index l.suffix-items)

abbrev pub invariant-all_judged-loop-expr : goal.invariant-all_judged-loop-expr
invariant-all_judged-loop-expr l =
    (p : Pos) (k : Tables) (env : Env) (s : State) → StandsIn l.scope k env
    → (rules.all_judged env (counted l.fn.decisions s) p (exprs_of l.exprs)).answer
    ≡ before (map (judged_of k) l.values.items) (rules.all_judged env (counted l.decisions s) p (exprs_of (drop l.expr-index l.exprs))).answer
