use Rattle.std.proofs.Common.{◌≡◌, true, false, List, Some, None, length, ap, sym, subst, rules, arith}
use Rattle.std.proofs.lemmas.Result.{err_from_is_err_and}
use Rattle.ada_syntax.specs.StatementTree.{Statement, conditional, case_of, repeat}
use Rattle.ada_syntax.specs.StatementView.{statements_of, branches_of, alternatives_of, handlers_of}
use Rattle.ada_syntax.specs.declared.statement.Branch.{Branch}
use Rattle.ada_syntax.specs.declared.statement.Alternative.{Alternative}
use Rattle.ada_syntax.specs.declared.statement.Handler.{Handler}
use Rattle.ada_syntax.specs.declared.statement.LoopScheme.TheVariants.{While, For, Forever}
use Rattle.expression_parser.specs.declared.symbol.Symbol.TheVariants as symbol
use Rattle.expression_parser.specs.declared.extent.Extent.TheVariants.{Exceptions}
use Rattle.expression_parser.specs.Reading.{Got, Stuck}
use Rattle.expression_parser.specs.Shows.{ShowsAs, More, Reads, next_is}
use Rattle.expression_parser.specs.Depth.{at_expr}
use Rattle.expression_parser.proofs.Faults.{word_handed_on}
use Rattle.expression_parser.proofs.NameCode.{after_some}
use Rattle.declaration_parser.specs.SubtypeReading.{range_by}
use Rattle.declaration_parser.specs.DeclarationReading.{declarations_by}
use Rattle.declaration_parser.proofs.Closings.{read_so, within_below, below_behind}
use Rattle.declaration_parser.proofs.Pairs.{pair_below, pair_done, pair_fault}
use Rattle.ada_parser.specs.Bodies.{at_if_rest, at_case_arms, ReadsIfRest, ReadsCaseArms, ReadsLoopBody}
use Rattle.ada_parser.specs.Beginnings.{Begins}
use Rattle.ada_parser.specs.SimpleReading.{begins_compound, at_simple}
use Rattle.ada_parser.specs.Lists.{before}
use Rattle.ada_parser.specs.Parts.{branch_parts}
use Rattle.ada_parser.specs.StatementReading as read
use Rattle.ada_parser.proofs.StatementCode.{handled_read, handled_fail, handlers_fail, statement_turns, statements_step, statements_step_fail, statements_rules}
use Rattle.ada_parser.proofs.SimpleStatementCode.{compound_is_read, simple_is_read}
use Rattle.ada_parser.proofs.ArmCode.{alternative_turns, alternatives_step, alternatives_step_fail, alternatives_end, handler_turns, handler_list_step, handler_list_step_fail, handler_list_end, alternative_read, alternative_fail, alternative_empty, handler_read, handler_fail, handler_empty, some_handlers, closed_handlers, alternatives_rules, handler_list_rules}
use Rattle.ada_parser.proofs.CompoundCode.{branch_turns, branches_step, branches_step_fail, branches_end, branch_read, branch_fail, branch_empty, if_rest_read, if_others_fail, if_else_fail, if_open, if_then, if_fail, arms_read, arms_fail, arms_open, case_then, case_fail, loop_read, loop_none, loop_empty, loop_open, while_read, while_fail, for_read, for_fail, for_no_in, for_range_fail, block_read, block_fail, block_open, block_at, declaring_read, declaring_fail, no_else, an_else, branches_rules}
use Rattle.ada_parser.proofs.FrontCode.{closed_on}
use Rattle.ada_parser.proofs.Parts.{part_fails, name_fails, closing_fails, end_fails, shown_so}
use Rattle.ada_parser.proofs.BeginningCode.{begins_if, begins_case, begins_loop, begins_while, begins_for, begins_block, begins_declaring}
use Rattle.ada_parser.specs.StatementDepth as at
use Rattle.ada_parser.proofs.+statement.Goals as goal

pub arms::alternatives-loop-after-preserved : goal.arms::alternatives-loop-after-preserved
arms::alternatives-loop-after-preserved t c =
    let x = c.args.parser.extent in
    record {
      reads = λ q f.
          c.loop-after.invariant.reads q
          (alternatives_step x c.loop-after.rest.now c.in-Some.after.now c.in_ok-alternative.next.now c.loop-after.alternatives.items c.in_ok-alternative.alternative (sym c.in-Some.ensures) c.in_ok-alternative.ensures.reads c.in_ok-alternative.ensures.shorter q
          (subst (λ (z : List Alternative). More (alternative_turns x) c.in_ok-alternative.next.now (alternatives_of z) q) c.in_ok-push-2.ensures.items f));
      shorter = omega (arith, c.loop-after.invariant.shorter, c.in_ok-alternative.ensures.shorter, ap length (after_some symbol.When c.loop-after.rest.now c.in-Some.after.now (sym c.in-Some.ensures)).here);
    }

pub arms::handler_list-loop-after-preserved : goal.arms::handler_list-loop-after-preserved
arms::handler_list-loop-after-preserved t c =
    let x = c.args.parser.extent in
    record {
      reads = λ q f.
          c.loop-after.invariant.reads q
          (handler_list_step x c.loop-after.rest.now c.in-Some.after.now c.in_ok-handler.next.now c.loop-after.handlers.items c.in_ok-handler.handler (sym c.in-Some.ensures) c.in_ok-handler.ensures.reads c.in_ok-handler.ensures.shorter q
          (subst (λ (z : List Handler). More (handler_turns x) c.in_ok-handler.next.now (handlers_of z) q) c.in_ok-push-2.ensures.items f));
      shorter = omega (arith, c.loop-after.invariant.shorter, c.in_ok-handler.ensures.shorter, ap length (after_some symbol.When c.loop-after.rest.now c.in-Some.after.now (sym c.in-Some.ensures)).here);
    }

pub compound::branches-loop-after-preserved : goal.compound::branches-loop-after-preserved
compound::branches-loop-after-preserved t c =
    let x = c.args.parser.extent in
    record {
      reads = λ q f.
          c.loop-after.invariant.reads q
          (branches_step x c.loop-after.rest.now c.in-Some.after.now c.in_ok-branch.next.now c.loop-after.branches.items c.in_ok-branch.branch (sym c.in-Some.ensures) c.in_ok-branch.ensures.reads c.in_ok-branch.ensures.shorter q
          (subst (λ (z : List Branch). More (branch_turns x) c.in_ok-branch.next.now (branches_of z) q) c.in_ok-push.ensures.items f));
      shorter = omega (arith, c.loop-after.invariant.shorter, c.in_ok-branch.ensures.shorter, ap length (after_some symbol.Elsif c.loop-after.rest.now c.in-Some.after.now (sym c.in-Some.ensures)).here);
    }

pub arms::alternatives-returns-clause-reads : goal.arms::alternatives-returns-clause-reads
arms::alternatives-returns-clause-reads t c =
    let zs = c.loop-after.alternatives.items in
    let rest = c.loop-after.rest.now in
    c.loop-after.invariant.reads (Got (alternatives_of zs) rest) (alternatives_end c.args.parser.extent rest zs (sym c.in_default.ensures))

pub arms::handler_list-returns-clause-reads : goal.arms::handler_list-returns-clause-reads
arms::handler_list-returns-clause-reads t c =
    let zs = c.loop-after.handlers.items in
    let rest = c.loop-after.rest.now in
    c.loop-after.invariant.reads (Got (handlers_of zs) rest) (handler_list_end c.args.parser.extent rest zs (sym c.in_default.ensures))

pub compound::branches-returns-clause-reads : goal.compound::branches-returns-clause-reads
compound::branches-returns-clause-reads t c =
    let zs = c.loop-after.branches.items in
    let rest = c.loop-after.rest.now in
    c.loop-after.invariant.reads (Got (branches_of zs) rest) (branches_end c.args.parser.extent rest zs (sym c.in_default.ensures))

pub compound::if_rest-returns-in_err-others-clause-reads : goal.compound::if_rest-returns-in_err-others-clause-reads
compound::if_rest-returns-in_err-others-clause-reads t c =
    let p = err_from_is_err_and c.from_residual.result c.from_residual.ensures.1 in
    rw (p.1, p.2) (λ p b. part_fails (Reads (at.at_branches c.args.parser.extent) c.args.tokens.now) (Reads (at_if_rest c.args.parser.extent p b) c.args.tokens.now) c.in_err-others.field-0.0 c.in_err-others.ensures.reads (λ rest h. if_others_fail c.args.parser.extent p b c.args.tokens.now rest h))

pub compound::if_rest-returns-in_err-others-clause-shorter : goal.compound::if_rest-returns-in_err-others-clause-shorter
compound::if_rest-returns-in_err-others-clause-shorter t c = rw ((err_from_is_err_and c.from_residual.result c.from_residual.ensures.1).1) tt

pub compound::if_rest-returns-in_err-otherwise-clause-reads : goal.compound::if_rest-returns-in_err-otherwise-clause-reads
compound::if_rest-returns-in_err-otherwise-clause-reads t c =
    let p = err_from_is_err_and c.from_residual-in_err-otherwise.result c.from_residual-in_err-otherwise.ensures.1 in
    rw (p.1, p.2) (λ p b. part_fails (Reads (at.at_else c.args.parser.extent) c.in_ok-others.rest.now) (Reads (at_if_rest c.args.parser.extent p b) c.args.tokens.now) c.in_err-otherwise.field-0.0 c.in_err-otherwise.ensures.reads (λ rest h. if_else_fail c.args.parser.extent p b c.args.tokens.now c.in_ok-others.rest.now rest (branches_of c.in_ok-others.others.items) c.in_ok-others.ensures.reads c.in_ok-others.ensures.no_longer h))

pub compound::if_rest-returns-in_err-otherwise-clause-shorter : goal.compound::if_rest-returns-in_err-otherwise-clause-shorter
compound::if_rest-returns-in_err-otherwise-clause-shorter t c = rw ((err_from_is_err_and c.from_residual-in_err-otherwise.result c.from_residual-in_err-otherwise.ensures.1).1) tt

pub compound::if_rest-returns-in_err-rest-clause-reads : goal.compound::if_rest-returns-in_err-rest-clause-reads
compound::if_rest-returns-in_err-rest-clause-reads t c =
    let p = err_from_is_err_and c.from_residual-in_err-rest.result c.from_residual-in_err-rest.ensures.1 in
    rw (p.1, p.2) (λ p b. closing_fails (Reads (at_if_rest c.args.parser.extent p b) c.args.tokens.now) symbol.If c.in_ok-otherwise.rest.now c.in_err-rest.field-0.0 c.in_err-rest.ensures (λ rest h. if_open c.args.parser.extent p b c.args.tokens.now c.in_ok-others.rest.now c.in_ok-otherwise.rest.now rest (branches_of c.in_ok-others.others.items) c.in_ok-otherwise.otherwise.items c.in_ok-others.ensures.reads c.in_ok-others.ensures.no_longer c.in_ok-otherwise.ensures.reads c.in_ok-otherwise.ensures.no_longer h))

pub compound::if_rest-returns-in_err-rest-clause-shorter : goal.compound::if_rest-returns-in_err-rest-clause-shorter
compound::if_rest-returns-in_err-rest-clause-shorter t c = rw ((err_from_is_err_and c.from_residual-in_err-rest.result c.from_residual-in_err-rest.ensures.1).1) tt

pub compound::if_rest-returns-clause-reads : goal.compound::if_rest-returns-clause-reads
compound::if_rest-returns-clause-reads t c = λ p b. if_rest_read c.args.parser.extent p b c.args.tokens.now c.in_ok-others.rest.now c.in_ok-otherwise.rest.now c.in_ok-rest.rest.now (branches_of c.in_ok-others.others.items) c.in_ok-otherwise.otherwise.items c.in_ok-others.ensures.reads c.in_ok-others.ensures.no_longer c.in_ok-otherwise.ensures.reads c.in_ok-otherwise.ensures.no_longer c.in_ok-rest.ensures

pub compound::if_rest-returns-clause-shorter : goal.compound::if_rest-returns-clause-shorter
compound::if_rest-returns-clause-shorter t c = omega (arith, c.in_ok-others.ensures.no_longer, c.in_ok-otherwise.ensures.no_longer, c.in_ok-rest.ensures.shorter)

pub compound::loop_body-returns-in_err-rest-clause-reads : goal.compound::loop_body-returns-in_err-rest-clause-reads
compound::loop_body-returns-in_err-rest-clause-reads t c =
    let p = err_from_is_err_and c.from_residual.result c.from_residual.ensures.1 in
    rw (p.1, p.2) (λ p s. word_handed_on (Reads (at.at_loop c.args.parser.extent p s) c.args.tokens.now) symbol.Loop c.args.tokens.now c.in_err-rest.field-0.0 c.in_err-rest.ensures (λ rest e. loop_none c.args.parser.extent p s c.args.tokens.now rest e))

pub compound::loop_body-returns-in_err-rest-clause-shorter : goal.compound::loop_body-returns-in_err-rest-clause-shorter
compound::loop_body-returns-in_err-rest-clause-shorter t c = rw ((err_from_is_err_and c.from_residual.result c.from_residual.ensures.1).1) tt

pub compound::loop_body-returns-in_err-statements-clause-reads : goal.compound::loop_body-returns-in_err-statements-clause-reads
compound::loop_body-returns-in_err-statements-clause-reads t c =
    let p = err_from_is_err_and c.from_residual-in_err-statements.result c.from_residual-in_err-statements.ensures.1 in
    rw (p.1, p.2) (λ p s. part_fails (Reads (at.at_statements c.args.parser.extent) c.in_ok-rest.rest.now) (Reads (at.at_loop c.args.parser.extent p s) c.args.tokens.now) c.in_err-statements.field-0.0 c.in_err-statements.ensures.reads (λ rest h. loop_empty c.args.parser.extent p s c.args.tokens.now c.in_ok-rest.rest.now rest c.in_ok-rest.ensures h))

pub compound::loop_body-returns-in_err-statements-clause-shorter : goal.compound::loop_body-returns-in_err-statements-clause-shorter
compound::loop_body-returns-in_err-statements-clause-shorter t c = rw ((err_from_is_err_and c.from_residual-in_err-statements.result c.from_residual-in_err-statements.ensures.1).1) tt

pub compound::loop_body-returns-in_err-rest-2-clause-reads : goal.compound::loop_body-returns-in_err-rest-2-clause-reads
compound::loop_body-returns-in_err-rest-2-clause-reads t c =
    let p = err_from_is_err_and c.from_residual-in_err-rest-2.result c.from_residual-in_err-rest-2.ensures.1 in
    rw (p.1, p.2) (λ p s. closing_fails (Reads (at.at_loop c.args.parser.extent p s) c.args.tokens.now) symbol.Loop c.in_ok-statements.rest.now c.in_err-rest-2.field-0.0 c.in_err-rest-2.ensures (λ rest h. loop_open c.args.parser.extent p s c.args.tokens.now c.in_ok-rest.rest.now c.in_ok-statements.rest.now rest c.in_ok-statements.statements.items c.in_ok-rest.ensures c.in_ok-statements.ensures.reads h))

pub compound::loop_body-returns-in_err-rest-2-clause-shorter : goal.compound::loop_body-returns-in_err-rest-2-clause-shorter
compound::loop_body-returns-in_err-rest-2-clause-shorter t c = rw ((err_from_is_err_and c.from_residual-in_err-rest-2.result c.from_residual-in_err-rest-2.ensures.1).1) tt

pub compound::loop_body-returns-clause-reads : goal.compound::loop_body-returns-clause-reads
compound::loop_body-returns-clause-reads t c = λ p s. loop_read c.args.parser.extent p s c.args.tokens.now c.in_ok-rest.rest.now c.in_ok-statements.rest.now c.in_ok-rest-2.rest.now c.in_ok-statements.statements.items c.in_ok-rest.ensures c.in_ok-statements.ensures.reads c.in_ok-rest-2.ensures

pub compound::loop_body-returns-clause-shorter : goal.compound::loop_body-returns-clause-shorter
compound::loop_body-returns-clause-shorter t c = omega (arith, c.in_ok-rest.ensures.shorter, c.in_ok-statements.ensures.shorter, c.in_ok-rest-2.ensures.shorter)

pub compound::case_arms-returns-in_err-alternatives-clause-reads : goal.compound::case_arms-returns-in_err-alternatives-clause-reads
compound::case_arms-returns-in_err-alternatives-clause-reads t c =
    let p = err_from_is_err_and c.from_residual.result c.from_residual.ensures.1 in
    rw (p.1, p.2) (λ p e. part_fails (Reads (at.at_alternatives c.args.parser.extent) c.args.tokens.now) (Reads (at_case_arms c.args.parser.extent p e) c.args.tokens.now) c.in_err-alternatives.field-0.0 c.in_err-alternatives.ensures.reads (λ rest h. arms_fail c.args.parser.extent p e c.args.tokens.now rest h))

pub compound::case_arms-returns-in_err-alternatives-clause-shorter : goal.compound::case_arms-returns-in_err-alternatives-clause-shorter
compound::case_arms-returns-in_err-alternatives-clause-shorter t c = rw ((err_from_is_err_and c.from_residual.result c.from_residual.ensures.1).1) tt

pub compound::case_arms-returns-in_err-rest-clause-reads : goal.compound::case_arms-returns-in_err-rest-clause-reads
compound::case_arms-returns-in_err-rest-clause-reads t c =
    let p = err_from_is_err_and c.from_residual-in_err-rest.result c.from_residual-in_err-rest.ensures.1 in
    rw (p.1, p.2) (λ p e. closing_fails (Reads (at_case_arms c.args.parser.extent p e) c.args.tokens.now) symbol.Case c.in_ok-alternatives.rest.now c.in_err-rest.field-0.0 c.in_err-rest.ensures (λ rest h. arms_open c.args.parser.extent p e c.args.tokens.now c.in_ok-alternatives.rest.now rest (alternatives_of c.in_ok-alternatives.alternatives.items) c.in_ok-alternatives.ensures.reads c.in_ok-alternatives.ensures.shorter h))

pub compound::case_arms-returns-in_err-rest-clause-shorter : goal.compound::case_arms-returns-in_err-rest-clause-shorter
compound::case_arms-returns-in_err-rest-clause-shorter t c = rw ((err_from_is_err_and c.from_residual-in_err-rest.result c.from_residual-in_err-rest.ensures.1).1) tt

pub compound::case_arms-returns-clause-reads : goal.compound::case_arms-returns-clause-reads
compound::case_arms-returns-clause-reads t c = λ p e. arms_read c.args.parser.extent p e c.args.tokens.now c.in_ok-alternatives.rest.now c.in_ok-rest.rest.now (alternatives_of c.in_ok-alternatives.alternatives.items) c.in_ok-alternatives.ensures.reads c.in_ok-alternatives.ensures.shorter c.in_ok-rest.ensures

pub compound::case_arms-returns-clause-shorter : goal.compound::case_arms-returns-clause-shorter
compound::case_arms-returns-clause-shorter t c = omega (arith, c.in_ok-alternatives.ensures.shorter, c.in_ok-rest.ensures.shorter)

pub compound::branch-returns-in_err-expr-clause-reads : goal.compound::branch-returns-in_err-expr-clause-reads
compound::branch-returns-in_err-expr-clause-reads t c =
    let x = c.args.parser.extent in
    let ts = c.args.tokens.now in
    let p = err_from_is_err_and c.from_residual.result c.from_residual.ensures.1 in
    rw (p.1, p.2) (part_fails (Reads (before symbol.Then (at_expr x)) ts) (Reads (at.at_branch x) ts) c.in_err-expr.field-0.0 c.in_err-expr.ensures.reads (λ rest h. branch_fail x ts rest h))

pub compound::branch-returns-in_err-expr-clause-shorter : goal.compound::branch-returns-in_err-expr-clause-shorter
compound::branch-returns-in_err-expr-clause-shorter t c = rw ((err_from_is_err_and c.from_residual.result c.from_residual.ensures.1).1) tt

pub compound::branch-returns-in_err-condition-clause-reads : goal.compound::branch-returns-in_err-condition-clause-reads
compound::branch-returns-in_err-condition-clause-reads t c =
    let x = c.args.parser.extent in
    let ts = c.args.tokens.now in
    let e = c.in_ok-expr in
    let p = err_from_is_err_and c.from_residual-in_err-condition.result c.from_residual-in_err-condition.ensures.1 in
    rw (p.1, p.2) (pair_fault (λ r. ShowsAs (λ v. v.items) (Reads (at.at_statements x) e.rest.now) r) e.expr (Reads (at.at_branch x) ts)
    (λ f k. part_fails (Reads (at.at_statements x) e.rest.now) (Reads (at.at_branch x) ts) f k (λ rest h. branch_empty x ts e.rest.now rest e.expr e.ensures.reads e.ensures.shorter h))
    c.statements.result c.in_err-condition.field-0.0 c.statements.ensures.reads c.in_err-condition.ensures)

pub compound::branch-returns-in_err-condition-clause-shorter : goal.compound::branch-returns-in_err-condition-clause-shorter
compound::branch-returns-in_err-condition-clause-shorter t c = rw ((err_from_is_err_and c.from_residual-in_err-condition.result c.from_residual-in_err-condition.ensures.1).1) tt

pub compound::branch-returns-clause-reads : goal.compound::branch-returns-clause-reads
compound::branch-returns-clause-reads t c =
    let x = c.args.parser.extent in
    let ts = c.args.tokens.now in
    let e = c.in_ok-expr in
    let k = c.in_ok-condition in
    pair_done (λ r. ShowsAs (λ v. v.items) (Reads (at.at_statements x) e.rest.now) r) e.expr (λ z v vs. Reads (at.at_branch x) ts (Got (z, v.items) vs))
    (λ v vs h. branch_read x ts e.rest.now vs.now e.expr v.items e.ensures.reads e.ensures.shorter h) c.statements.result k.condition k.statements k.rest c.statements.ensures.reads k.ensures

pub compound::branch-returns-clause-shorter : goal.compound::branch-returns-clause-shorter
compound::branch-returns-clause-shorter t c =
    let e = c.in_ok-expr in
    let k = c.in_ok-condition in
    pair_below (length e.rest.now) (length c.args.tokens.now) (omega (arith, e.ensures.shorter)) e.expr c.statements.result (read_so (k.condition, k.statements) k.rest) c.statements.ensures.shorter k.ensures

pub compound::if_statement-returns-in_err-start-clause-reads : goal.compound::if_statement-returns-in_err-start-clause-reads
compound::if_statement-returns-in_err-start-clause-reads t c =
    let x = c.args.parser.extent in
    let ts = c.args.tokens.now in
    let p = err_from_is_err_and c.from_residual.result c.from_residual.ensures.1 in
    rw (p.1, p.2) (part_fails (Reads (at.at_branch x) ts) (Reads (at.at_if x c.args.pos) ts) c.in_err-start.field-0.0 c.in_err-start.ensures.reads (λ rest h. if_fail x c.args.pos ts rest h))

pub compound::if_statement-returns-in_err-start-clause-shorter : goal.compound::if_statement-returns-in_err-start-clause-shorter
compound::if_statement-returns-in_err-start-clause-shorter t c = rw ((err_from_is_err_and c.from_residual.result c.from_residual.ensures.1).1) tt

pub compound::if_statement-returns-in_err-first-clause-reads : goal.compound::if_statement-returns-in_err-first-clause-reads
compound::if_statement-returns-in_err-first-clause-reads t c =
    let x = c.args.parser.extent in
    let ts = c.args.tokens.now in
    let pos = c.args.pos in
    let b = c.in_ok-start in
    let p = err_from_is_err_and c.from_residual-in_err-first.result c.from_residual-in_err-first.ensures.1 in
    rw (p.1, p.2) (pair_fault (λ r. ReadsIfRest (λ v. (branches_of v.0.items, v.1.items)) x b.rest.now r) b.start (Reads (at.at_if x pos) ts)
    (λ f k. part_fails (Reads (at_if_rest x pos (branch_parts b.start)) b.rest.now) (Reads (at.at_if x pos) ts) f (k pos (branch_parts b.start)) (λ rest h. if_then x pos ts b.rest.now b.start (Stuck rest) b.ensures.reads b.ensures.shorter h))
    c.if_rest.result c.in_err-first.field-0.0 c.if_rest.ensures.reads c.in_err-first.ensures)

pub compound::if_statement-returns-in_err-first-clause-shorter : goal.compound::if_statement-returns-in_err-first-clause-shorter
compound::if_statement-returns-in_err-first-clause-shorter t c = rw ((err_from_is_err_and c.from_residual-in_err-first.result c.from_residual-in_err-first.ensures.1).1) tt

pub compound::if_statement-returns-clause-reads : goal.compound::if_statement-returns-clause-reads
compound::if_statement-returns-clause-reads t c =
    let x = c.args.parser.extent in
    let ts = c.args.tokens.now in
    let pos = c.args.pos in
    let b = c.in_ok-start in
    let k = c.in_ok-first in
    pair_done (λ r. ReadsIfRest (λ v. (branches_of v.0.items, v.1.items)) x b.rest.now r) b.start
    (λ z v vs. Reads (at.at_if x pos) ts (Got (conditional pos z.condition (statements_of z.statements.items) (branches_of v.0.items) (statements_of v.1.items)) vs))
    (λ v vs h. if_then x pos ts b.rest.now b.start (Got (conditional pos b.start.condition (statements_of b.start.statements.items) (branches_of v.0.items) (statements_of v.1.items)) vs.now) b.ensures.reads b.ensures.shorter (h pos (branch_parts b.start)))
    c.if_rest.result k.first (k.others, k.otherwise) k.rest c.if_rest.ensures.reads k.ensures

pub compound::if_statement-returns-clause-shorter : goal.compound::if_statement-returns-clause-shorter
compound::if_statement-returns-clause-shorter t c =
    let b = c.in_ok-start in
    let k = c.in_ok-first in
    pair_below (length b.rest.now) (length c.args.tokens.now) (omega (arith, b.ensures.shorter)) b.start c.if_rest.result (read_so (k.first, (k.others, k.otherwise)) k.rest) c.if_rest.ensures.shorter k.ensures

pub compound::case_statement-returns-in_err-expr-clause-reads : goal.compound::case_statement-returns-in_err-expr-clause-reads
compound::case_statement-returns-in_err-expr-clause-reads t c =
    let x = c.args.parser.extent in
    let ts = c.args.tokens.now in
    let p = err_from_is_err_and c.from_residual.result c.from_residual.ensures.1 in
    rw (p.1, p.2) (part_fails (Reads (before symbol.Is (at_expr x)) ts) (Reads (at.at_case x c.args.pos) ts) c.in_err-expr.field-0.0 c.in_err-expr.ensures.reads (λ rest h. case_fail x c.args.pos ts rest h))

pub compound::case_statement-returns-in_err-expr-clause-shorter : goal.compound::case_statement-returns-in_err-expr-clause-shorter
compound::case_statement-returns-in_err-expr-clause-shorter t c = rw ((err_from_is_err_and c.from_residual.result c.from_residual.ensures.1).1) tt

pub compound::case_statement-returns-in_err-selector-clause-reads : goal.compound::case_statement-returns-in_err-selector-clause-reads
compound::case_statement-returns-in_err-selector-clause-reads t c =
    let x = c.args.parser.extent in
    let ts = c.args.tokens.now in
    let pos = c.args.pos in
    let e = c.in_ok-expr in
    let p = err_from_is_err_and c.from_residual-in_err-selector.result c.from_residual-in_err-selector.ensures.1 in
    rw (p.1, p.2) (pair_fault (λ r. ReadsCaseArms (λ v. alternatives_of v.items) x e.rest.now r) e.expr (Reads (at.at_case x pos) ts)
    (λ f k. part_fails (Reads (at_case_arms x pos e.expr) e.rest.now) (Reads (at.at_case x pos) ts) f (k pos e.expr) (λ rest h. case_then x pos ts e.rest.now e.expr (Stuck rest) e.ensures.reads e.ensures.shorter h))
    c.case_arms.result c.in_err-selector.field-0.0 c.case_arms.ensures.reads c.in_err-selector.ensures)

pub compound::case_statement-returns-in_err-selector-clause-shorter : goal.compound::case_statement-returns-in_err-selector-clause-shorter
compound::case_statement-returns-in_err-selector-clause-shorter t c = rw ((err_from_is_err_and c.from_residual-in_err-selector.result c.from_residual-in_err-selector.ensures.1).1) tt

pub compound::case_statement-returns-clause-reads : goal.compound::case_statement-returns-clause-reads
compound::case_statement-returns-clause-reads t c =
    let x = c.args.parser.extent in
    let ts = c.args.tokens.now in
    let pos = c.args.pos in
    let e = c.in_ok-expr in
    let k = c.in_ok-selector in
    pair_done (λ r. ReadsCaseArms (λ v. alternatives_of v.items) x e.rest.now r) e.expr (λ z v vs. Reads (at.at_case x pos) ts (Got (case_of pos z (alternatives_of v.items)) vs))
    (λ v vs h. case_then x pos ts e.rest.now e.expr (Got (case_of pos e.expr (alternatives_of v.items)) vs.now) e.ensures.reads e.ensures.shorter (h pos e.expr)) c.case_arms.result k.selector k.alternatives k.rest c.case_arms.ensures.reads k.ensures

pub compound::case_statement-returns-clause-shorter : goal.compound::case_statement-returns-clause-shorter
compound::case_statement-returns-clause-shorter t c =
    let e = c.in_ok-expr in
    let k = c.in_ok-selector in
    pair_below (length e.rest.now) (length c.args.tokens.now) (omega (arith, e.ensures.shorter)) e.expr c.case_arms.result (read_so (k.selector, k.alternatives) k.rest) c.case_arms.ensures.shorter k.ensures

pub compound::loop_rest-returns-in_err-scheme-clause-reads : goal.compound::loop_rest-returns-in_err-scheme-clause-reads
compound::loop_rest-returns-in_err-scheme-clause-reads t c =
    let x = c.args.parser.extent in
    let ts = c.args.tokens.now in
    let pos = c.args.pos in
    let s = c.args.scheme in
    let p = err_from_is_err_and c.from_residual.result c.from_residual.ensures.1 in
    rw (p.1, p.2) (pair_fault (λ r. ReadsLoopBody (λ v. v.items) x ts r) s (Reads (at.at_loop x pos s) ts) (λ f k. k pos s) c.loop_body.result c.in_err-scheme.field-0.0 c.loop_body.ensures.reads c.in_err-scheme.ensures)

pub compound::loop_rest-returns-in_err-scheme-clause-shorter : goal.compound::loop_rest-returns-in_err-scheme-clause-shorter
compound::loop_rest-returns-in_err-scheme-clause-shorter t c = rw ((err_from_is_err_and c.from_residual.result c.from_residual.ensures.1).1) tt

pub compound::loop_rest-returns-clause-reads : goal.compound::loop_rest-returns-clause-reads
compound::loop_rest-returns-clause-reads t c =
    let x = c.args.parser.extent in
    let ts = c.args.tokens.now in
    let pos = c.args.pos in
    let s = c.args.scheme in
    let k = c.in_ok-scheme in
    pair_done (λ r. ReadsLoopBody (λ v. v.items) x ts r) s (λ z v vs. Reads (at.at_loop x pos s) ts (Got (repeat pos z (statements_of v.items)) vs)) (λ v vs h. h pos s) c.loop_body.result k.scheme k.statements k.rest c.loop_body.ensures.reads k.ensures

pub compound::loop_rest-returns-clause-shorter : goal.compound::loop_rest-returns-clause-shorter
compound::loop_rest-returns-clause-shorter t c =
    let n = length c.args.tokens.now in
    let k = c.in_ok-scheme in
    pair_below n n (omega arith) c.args.scheme c.loop_body.result (read_so (k.scheme, k.statements) k.rest) c.loop_body.ensures.shorter k.ensures

pub compound::while_loop-returns-in_err-condition-clause-reads : goal.compound::while_loop-returns-in_err-condition-clause-reads
compound::while_loop-returns-in_err-condition-clause-reads t c =
    let p = err_from_is_err_and c.from_residual.result c.from_residual.ensures.1 in
    rw (p.1, p.2) (part_fails (Reads (at_expr c.args.parser.extent) c.args.tokens.now) (Reads (at.at_while c.args.parser.extent c.args.pos) c.args.tokens.now) c.in_err-condition.field-0.0 c.in_err-condition.ensures.reads (λ rest h. while_fail c.args.parser.extent c.args.pos c.args.tokens.now rest h))

pub compound::while_loop-returns-in_err-condition-clause-shorter : goal.compound::while_loop-returns-in_err-condition-clause-shorter
compound::while_loop-returns-in_err-condition-clause-shorter t c = rw ((err_from_is_err_and c.from_residual.result c.from_residual.ensures.1).1) tt

pub compound::while_loop-returns-clause-reads : goal.compound::while_loop-returns-clause-reads
compound::while_loop-returns-clause-reads t c = shown_so (λ z. z) (Reads (at.at_loop c.args.parser.extent c.args.pos (While c.in_ok-condition.condition)) c.in_ok-condition.rest.now) (Reads (at.at_while c.args.parser.extent c.args.pos) c.args.tokens.now) c.loop_rest.result c.loop_rest.ensures.reads (λ q. while_read c.args.parser.extent c.args.pos c.args.tokens.now c.in_ok-condition.rest.now c.in_ok-condition.condition q c.in_ok-condition.ensures.reads c.in_ok-condition.ensures.shorter)

pub compound::while_loop-returns-clause-shorter : goal.compound::while_loop-returns-clause-shorter
compound::while_loop-returns-clause-shorter t c = below_behind c.args.tokens.now c.in_ok-condition.rest.now c.loop_rest.result (omega (arith, c.in_ok-condition.ensures.shorter)) c.loop_rest.ensures.shorter

pub compound::for_loop-returns-in_err-parameter-clause-reads : goal.compound::for_loop-returns-in_err-parameter-clause-reads
compound::for_loop-returns-in_err-parameter-clause-reads t c =
    let p = err_from_is_err_and c.from_residual.result c.from_residual.ensures.1 in
    rw (p.1, p.2) (name_fails (Reads (at.at_for c.args.parser.extent c.args.pos) c.args.tokens.now) c.args.tokens.now (λ rest e. for_fail c.args.parser.extent c.args.pos c.args.tokens.now rest e) c.in_err-parameter.field-0.0 c.in_err-parameter.ensures)

pub compound::for_loop-returns-in_err-parameter-clause-shorter : goal.compound::for_loop-returns-in_err-parameter-clause-shorter
compound::for_loop-returns-in_err-parameter-clause-shorter t c = rw ((err_from_is_err_and c.from_residual.result c.from_residual.ensures.1).1) tt

pub compound::for_loop-returns-in_err-rest-clause-reads : goal.compound::for_loop-returns-in_err-rest-clause-reads
compound::for_loop-returns-in_err-rest-clause-reads t c =
    let p = err_from_is_err_and c.from_residual-in_err-rest.result c.from_residual-in_err-rest.ensures.1 in
    rw (p.1, p.2) (word_handed_on (Reads (at.at_for c.args.parser.extent c.args.pos) c.args.tokens.now) symbol.In c.in_ok-parameter.rest.now c.in_err-rest.field-0.0 c.in_err-rest.ensures (λ rest e. for_no_in c.args.parser.extent c.args.pos c.args.tokens.now c.in_ok-parameter.rest.now rest c.in_ok-parameter.parameter c.in_ok-parameter.ensures e))

pub compound::for_loop-returns-in_err-rest-clause-shorter : goal.compound::for_loop-returns-in_err-rest-clause-shorter
compound::for_loop-returns-in_err-rest-clause-shorter t c = rw ((err_from_is_err_and c.from_residual-in_err-rest.result c.from_residual-in_err-rest.ensures.1).1) tt

pub compound::for_loop-returns-in_err-values-clause-reads : goal.compound::for_loop-returns-in_err-values-clause-reads
compound::for_loop-returns-in_err-values-clause-reads t c =
    let p = err_from_is_err_and c.from_residual-in_err-values.result c.from_residual-in_err-values.ensures.1 in
    rw (p.1, p.2) (part_fails (Reads (range_by c.args.parser.extent) c.direction-direction.result.1.now) (Reads (at.at_for c.args.parser.extent c.args.pos) c.args.tokens.now) c.in_err-values.field-0.0 c.in_err-values.ensures.reads (λ rest h. for_range_fail c.args.parser.extent c.args.pos c.args.tokens.now c.in_ok-parameter.rest.now c.in_ok-rest.rest.now c.direction-direction.result.1.now rest c.in_ok-parameter.parameter c.direction-direction.result.0 c.in_ok-parameter.ensures c.in_ok-rest.ensures c.direction-direction.ensures.reads c.direction-direction.ensures.no_longer h))

pub compound::for_loop-returns-in_err-values-clause-shorter : goal.compound::for_loop-returns-in_err-values-clause-shorter
compound::for_loop-returns-in_err-values-clause-shorter t c = rw ((err_from_is_err_and c.from_residual-in_err-values.result c.from_residual-in_err-values.ensures.1).1) tt

pub compound::for_loop-returns-clause-reads : goal.compound::for_loop-returns-clause-reads
compound::for_loop-returns-clause-reads t c =
    shown_so (λ z. z) (Reads (at.at_loop c.args.parser.extent c.args.pos (For c.in_ok-parameter.parameter c.direction-direction.result.0 c.in_ok-values.values)) c.in_ok-values.rest.now) (Reads (at.at_for c.args.parser.extent c.args.pos) c.args.tokens.now) c.loop_rest.result c.loop_rest.ensures.reads (λ q. for_read c.args.parser.extent c.args.pos c.args.tokens.now c.in_ok-parameter.rest.now c.in_ok-rest.rest.now c.direction-direction.result.1.now c.in_ok-values.rest.now c.in_ok-parameter.parameter c.direction-direction.result.0 c.in_ok-values.values q c.in_ok-parameter.ensures c.in_ok-rest.ensures c.direction-direction.ensures.reads c.direction-direction.ensures.no_longer c.in_ok-values.ensures.reads c.in_ok-values.ensures.shorter)

pub compound::for_loop-returns-clause-shorter : goal.compound::for_loop-returns-clause-shorter
compound::for_loop-returns-clause-shorter t c = below_behind c.args.tokens.now c.in_ok-values.rest.now c.loop_rest.result (omega (arith, c.in_ok-parameter.ensures.shorter, c.in_ok-rest.ensures.shorter, c.direction-direction.ensures.no_longer, c.in_ok-values.ensures.shorter)) c.loop_rest.ensures.shorter

pub compound::block-returns-in_err-handled-clause-reads : goal.compound::block-returns-in_err-handled-clause-reads
compound::block-returns-in_err-handled-clause-reads t c =
    let p = err_from_is_err_and c.from_residual.result c.from_residual.ensures.1 in
    rw (p.1, p.2) (part_fails (Reads (at.at_handled c.args.parser.extent) c.args.tokens.now) (Reads (at.at_block c.args.parser.extent c.args.pos c.args.declarations) c.args.tokens.now) c.in_err-handled.field-0.0 c.in_err-handled.ensures.reads (λ rest h. block_fail c.args.parser.extent c.args.pos c.args.declarations c.args.tokens.now rest h))

pub compound::block-returns-in_err-handled-clause-shorter : goal.compound::block-returns-in_err-handled-clause-shorter
compound::block-returns-in_err-handled-clause-shorter t c = rw ((err_from_is_err_and c.from_residual.result c.from_residual.ensures.1).1) tt

pub compound::block-returns-in_err-rest-clause-reads : goal.compound::block-returns-in_err-rest-clause-reads
compound::block-returns-in_err-rest-clause-reads t c =
    let p = err_from_is_err_and c.from_residual-in_err-rest.result c.from_residual-in_err-rest.ensures.1 in
    rw (p.1, p.2) (end_fails (Reads (at.at_block c.args.parser.extent c.args.pos c.args.declarations) c.args.tokens.now) c.in_ok-handled.rest.now c.in_err-rest.field-0.0 c.in_err-rest.ensures (λ rest n. block_open c.args.parser.extent c.args.pos c.args.declarations c.args.tokens.now c.in_ok-handled.rest.now rest c.in_ok-handled.handled c.in_ok-handled.ensures.reads c.in_ok-handled.ensures.shorter n))

pub compound::block-returns-in_err-rest-clause-shorter : goal.compound::block-returns-in_err-rest-clause-shorter
compound::block-returns-in_err-rest-clause-shorter t c = rw ((err_from_is_err_and c.from_residual-in_err-rest.result c.from_residual-in_err-rest.ensures.1).1) tt

pub compound::block-returns-clause-reads : goal.compound::block-returns-clause-reads
compound::block-returns-clause-reads t c = block_read c.args.parser.extent c.args.pos c.args.declarations c.args.tokens.now c.in_ok-handled.rest.now c.in_ok-rest.rest.now c.in_ok-handled.handled c.in_ok-handled.ensures.reads c.in_ok-handled.ensures.shorter c.in_ok-rest.ensures

pub compound::block-returns-clause-shorter : goal.compound::block-returns-clause-shorter
compound::block-returns-clause-shorter t c = omega (arith, c.in_ok-handled.ensures.shorter, c.in_ok-rest.ensures.shorter)

pub compound::declaring_block-returns-in_err-declarations-clause-reads : goal.compound::declaring_block-returns-in_err-declarations-clause-reads
compound::declaring_block-returns-in_err-declarations-clause-reads t c =
    let p = err_from_is_err_and c.from_residual.result c.from_residual.ensures.1 in
    rw (p.1, p.2) (part_fails (Reads (before symbol.Begin (declarations_by c.args.parser.extent)) c.args.tokens.now) (Reads (at.at_declaring c.args.parser.extent c.args.pos) c.args.tokens.now) c.in_err-declarations.field-0.0 c.in_err-declarations.ensures.reads (λ rest h. declaring_fail c.args.parser.extent c.args.pos c.args.tokens.now rest h))

pub compound::declaring_block-returns-in_err-declarations-clause-shorter : goal.compound::declaring_block-returns-in_err-declarations-clause-shorter
compound::declaring_block-returns-in_err-declarations-clause-shorter t c = rw ((err_from_is_err_and c.from_residual.result c.from_residual.ensures.1).1) tt

pub compound::declaring_block-returns-clause-reads : goal.compound::declaring_block-returns-clause-reads
compound::declaring_block-returns-clause-reads t c =
    shown_so (λ z. z) (Reads (at.at_block c.args.parser.extent c.args.pos (Some c.from.result)) c.in_ok-declarations.rest.now) (Reads (at.at_declaring c.args.parser.extent c.args.pos) c.args.tokens.now) c.block.result c.block.ensures.reads (λ q f. declaring_read c.args.parser.extent c.args.pos c.args.tokens.now c.in_ok-declarations.rest.now c.in_ok-declarations.declarations.items q c.in_ok-declarations.ensures.reads c.in_ok-declarations.ensures.shorter (block_at c.args.parser.extent c.args.pos c.from.result c.in_ok-declarations.declarations.items c.in_ok-declarations.rest.now q c.from.ensures f))

pub compound::declaring_block-returns-clause-shorter : goal.compound::declaring_block-returns-clause-shorter
compound::declaring_block-returns-clause-shorter t c = below_behind c.args.tokens.now c.in_ok-declarations.rest.now c.block.result (omega (arith, c.in_ok-declarations.ensures.shorter)) c.block.ensures.shorter

pub compound::else_part-returns-in_default-clause-reads : goal.compound::else_part-returns-in_default-clause-reads
compound::else_part-returns-in_default-clause-reads t c = rw c.new.ensures.items (no_else c.args.parser.extent c.args.tokens.now (sym c.in_default.ensures))

pub compound::else_part-returns-in_default-clause-no_longer : goal.compound::else_part-returns-in_default-clause-no_longer
compound::else_part-returns-in_default-clause-no_longer t c = omega arith

pub compound::else_part-returns-clause-reads : goal.compound::else_part-returns-clause-reads
compound::else_part-returns-clause-reads t c = shown_so (λ v. v.items) (Reads (at.at_statements c.args.parser.extent) c.in-Some.after.now) (Reads (at.at_else c.args.parser.extent) c.args.tokens.now) c.statements.result c.statements.ensures.reads (λ q. an_else c.args.parser.extent c.args.tokens.now c.in-Some.after.now q (sym c.in-Some.ensures))

pub compound::else_part-returns-clause-no_longer : goal.compound::else_part-returns-clause-no_longer
compound::else_part-returns-clause-no_longer t c = within_below c.args.tokens.now c.statements.result (below_behind c.args.tokens.now c.in-Some.after.now c.statements.result (omega (arith, ap length (after_some symbol.Else c.args.tokens.now c.in-Some.after.now (sym c.in-Some.ensures)).here)) c.statements.ensures.shorter)

pub statements::handled-returns-in_err-statements-clause-reads : goal.statements::handled-returns-in_err-statements-clause-reads
statements::handled-returns-in_err-statements-clause-reads t c =
    let p = err_from_is_err_and c.from_residual.result c.from_residual.ensures.1 in
    rw (p.1, p.2) (part_fails (Reads (at.at_statements c.args.parser.extent) c.args.tokens.now) (Reads (at.at_handled c.args.parser.extent) c.args.tokens.now) c.in_err-statements.field-0.0 c.in_err-statements.ensures.reads (λ rest h. handled_fail c.args.parser.extent c.args.tokens.now rest h))

pub statements::handled-returns-in_err-statements-clause-shorter : goal.statements::handled-returns-in_err-statements-clause-shorter
statements::handled-returns-in_err-statements-clause-shorter t c = rw ((err_from_is_err_and c.from_residual.result c.from_residual.ensures.1).1) tt

pub statements::handled-returns-in_err-handlers-clause-reads : goal.statements::handled-returns-in_err-handlers-clause-reads
statements::handled-returns-in_err-handlers-clause-reads t c =
    let p = err_from_is_err_and c.from_residual-in_err-handlers.result c.from_residual-in_err-handlers.ensures.1 in
    rw (p.1, p.2) (part_fails (Reads (at.at_handlers c.args.parser.extent) c.in_ok-statements.rest.now) (Reads (at.at_handled c.args.parser.extent) c.args.tokens.now) c.in_err-handlers.field-0.0 c.in_err-handlers.ensures.reads (λ rest h. handlers_fail c.args.parser.extent c.args.tokens.now c.in_ok-statements.rest.now rest c.in_ok-statements.statements.items c.in_ok-statements.ensures.reads c.in_ok-statements.ensures.shorter h))

pub statements::handled-returns-in_err-handlers-clause-shorter : goal.statements::handled-returns-in_err-handlers-clause-shorter
statements::handled-returns-in_err-handlers-clause-shorter t c = rw ((err_from_is_err_and c.from_residual-in_err-handlers.result c.from_residual-in_err-handlers.ensures.1).1) tt

pub statements::handled-returns-clause-reads : goal.statements::handled-returns-clause-reads
statements::handled-returns-clause-reads t c = handled_read c.args.parser.extent c.args.tokens.now c.in_ok-statements.rest.now c.in_ok-handlers.rest.now c.in_ok-statements.statements.items (handlers_of c.in_ok-handlers.handlers.items) c.in_ok-statements.ensures.reads c.in_ok-statements.ensures.shorter c.in_ok-handlers.ensures.reads c.in_ok-handlers.ensures.no_longer

pub statements::handled-returns-clause-shorter : goal.statements::handled-returns-clause-shorter
statements::handled-returns-clause-shorter t c = omega (arith, c.in_ok-statements.ensures.shorter, c.in_ok-handlers.ensures.no_longer)

pub arms::alternative-returns-in_err-choices-clause-reads : goal.arms::alternative-returns-in_err-choices-clause-reads
arms::alternative-returns-in_err-choices-clause-reads t c =
    let p = err_from_is_err_and c.from_residual.result c.from_residual.ensures.1 in
    rw (p.1, p.2) (part_fails (Reads (before symbol.Arrow (read.choices_by c.args.parser.extent)) c.args.tokens.now) (Reads (at.at_alternative c.args.parser.extent) c.args.tokens.now) c.in_err-choices.field-0.0 c.in_err-choices.ensures.reads (λ rest h. alternative_fail c.args.parser.extent c.args.tokens.now rest h))

pub arms::alternative-returns-in_err-choices-clause-shorter : goal.arms::alternative-returns-in_err-choices-clause-shorter
arms::alternative-returns-in_err-choices-clause-shorter t c = rw ((err_from_is_err_and c.from_residual.result c.from_residual.ensures.1).1) tt

pub arms::alternative-returns-in_err-statements-clause-reads : goal.arms::alternative-returns-in_err-statements-clause-reads
arms::alternative-returns-in_err-statements-clause-reads t c =
    let p = err_from_is_err_and c.from_residual-in_err-statements.result c.from_residual-in_err-statements.ensures.1 in
    rw (p.1, p.2) (part_fails (Reads (at.at_statements c.args.parser.extent) c.in_ok-choices.rest.now) (Reads (at.at_alternative c.args.parser.extent) c.args.tokens.now) c.in_err-statements.field-0.0 c.in_err-statements.ensures.reads (λ rest h. alternative_empty c.args.parser.extent c.args.tokens.now c.in_ok-choices.rest.now rest c.in_ok-choices.choices.items c.in_ok-choices.ensures.reads c.in_ok-choices.ensures.shorter h))

pub arms::alternative-returns-in_err-statements-clause-shorter : goal.arms::alternative-returns-in_err-statements-clause-shorter
arms::alternative-returns-in_err-statements-clause-shorter t c = rw ((err_from_is_err_and c.from_residual-in_err-statements.result c.from_residual-in_err-statements.ensures.1).1) tt

pub arms::alternative-returns-clause-reads : goal.arms::alternative-returns-clause-reads
arms::alternative-returns-clause-reads t c = rw c.from-choices.ensures (alternative_read c.args.parser.extent c.args.tokens.now c.in_ok-choices.rest.now c.in_ok-statements.rest.now c.in_ok-choices.choices.items c.in_ok-statements.statements.items c.in_ok-choices.ensures.reads c.in_ok-choices.ensures.shorter c.in_ok-statements.ensures.reads)

pub arms::alternative-returns-clause-shorter : goal.arms::alternative-returns-clause-shorter
arms::alternative-returns-clause-shorter t c = omega (arith, c.in_ok-choices.ensures.shorter, c.in_ok-statements.ensures.shorter)

pub arms::handler-returns-in_err-choices-clause-reads : goal.arms::handler-returns-in_err-choices-clause-reads
arms::handler-returns-in_err-choices-clause-reads t c =
    let p = err_from_is_err_and c.from_residual.result c.from_residual.ensures.1 in
    rw (p.1, p.2) (part_fails (Reads (before symbol.Arrow (read.exceptions_by c.args.parser.extent)) c.args.tokens.now) (Reads (at.at_handler c.args.parser.extent) c.args.tokens.now) c.in_err-choices.field-0.0 c.in_err-choices.ensures.reads (λ rest h. handler_fail c.args.parser.extent c.args.tokens.now rest h))

pub arms::handler-returns-in_err-choices-clause-shorter : goal.arms::handler-returns-in_err-choices-clause-shorter
arms::handler-returns-in_err-choices-clause-shorter t c = rw ((err_from_is_err_and c.from_residual.result c.from_residual.ensures.1).1) tt

pub arms::handler-returns-in_err-statements-clause-reads : goal.arms::handler-returns-in_err-statements-clause-reads
arms::handler-returns-in_err-statements-clause-reads t c =
    let p = err_from_is_err_and c.from_residual-in_err-statements.result c.from_residual-in_err-statements.ensures.1 in
    rw (p.1, p.2) (part_fails (Reads (at.at_statements c.args.parser.extent) c.in_ok-choices.rest.now) (Reads (at.at_handler c.args.parser.extent) c.args.tokens.now) c.in_err-statements.field-0.0 c.in_err-statements.ensures.reads (λ rest h. handler_empty c.args.parser.extent c.args.tokens.now c.in_ok-choices.rest.now rest c.in_ok-choices.choices.items c.in_ok-choices.ensures.reads c.in_ok-choices.ensures.shorter h))

pub arms::handler-returns-in_err-statements-clause-shorter : goal.arms::handler-returns-in_err-statements-clause-shorter
arms::handler-returns-in_err-statements-clause-shorter t c = rw ((err_from_is_err_and c.from_residual-in_err-statements.result c.from_residual-in_err-statements.ensures.1).1) tt

pub arms::handler-returns-clause-reads : goal.arms::handler-returns-clause-reads
arms::handler-returns-clause-reads t c = rw c.from-choices.ensures (handler_read c.args.parser.extent c.args.tokens.now c.in_ok-choices.rest.now c.in_ok-statements.rest.now c.in_ok-choices.choices.items c.in_ok-statements.statements.items c.in_ok-choices.ensures.reads c.in_ok-choices.ensures.shorter c.in_ok-statements.ensures.reads)

pub arms::handler-returns-clause-shorter : goal.arms::handler-returns-clause-shorter
arms::handler-returns-clause-shorter t c = omega (arith, c.in_ok-choices.ensures.shorter, c.in_ok-statements.ensures.shorter)

pub arms::alternatives-loop-after-init : goal.arms::alternatives-loop-after-init
arms::alternatives-loop-after-init t c = grind (arith, alternatives_rules)

pub arms::alternatives-returns-in_err-alternative-clause-reads : goal.arms::alternatives-returns-in_err-alternative-clause-reads
arms::alternatives-returns-in_err-alternative-clause-reads t c =
    let x = c.args.parser.extent in
    let ts = c.args.tokens.now in
    let us = c.in-Some.after.now in
    let p = err_from_is_err_and c.from_residual-in_err-alternative.result c.from_residual-in_err-alternative.ensures.1 in
    rw (p.1, p.2) (part_fails (Reads (at.at_alternative x) us) (Reads (at.at_alternatives x) ts) c.in_err-alternative.field-0.0 c.in_err-alternative.ensures.reads
    (λ rest h. c.loop-after.invariant.reads (Stuck rest) (alternatives_step_fail x c.loop-after.rest.now us rest c.loop-after.alternatives.items (sym c.in-Some.ensures) h)))

pub arms::alternatives-returns-in_err-first-clause-reads : goal.arms::alternatives-returns-in_err-first-clause-reads
arms::alternatives-returns-in_err-first-clause-reads t c = grind (arith, alternatives_rules)

pub arms::handler_list-loop-after-init : goal.arms::handler_list-loop-after-init
arms::handler_list-loop-after-init t c = grind (arith, handler_list_rules)

pub arms::handler_list-returns-in_err-first-clause-reads : goal.arms::handler_list-returns-in_err-first-clause-reads
arms::handler_list-returns-in_err-first-clause-reads t c = grind (arith, handler_list_rules)

pub arms::handler_list-returns-in_err-handler-clause-reads : goal.arms::handler_list-returns-in_err-handler-clause-reads
arms::handler_list-returns-in_err-handler-clause-reads t c =
    let x = c.args.parser.extent in
    let ts = c.args.tokens.now in
    let us = c.in-Some.after.now in
    let p = err_from_is_err_and c.from_residual-in_err-handler.result c.from_residual-in_err-handler.ensures.1 in
    rw (p.1, p.2) (part_fails (Reads (at.at_handler x) us) (Reads (at.at_handler_list x) ts) c.in_err-handler.field-0.0 c.in_err-handler.ensures.reads
    (λ rest h. c.loop-after.invariant.reads (Stuck rest) (handler_list_step_fail x c.loop-after.rest.now us rest c.loop-after.handlers.items (sym c.in-Some.ensures) h)))

pub arms::handlers-returns-clause-reads : goal.arms::handlers-returns-clause-reads
arms::handlers-returns-clause-reads t c =
    let x = c.args.parser.extent in
    let ts = c.args.tokens.now in
    let us = c.in-Some.after.now in
    shown_so (λ v. handlers_of v.items) (Reads (at.at_handler_list x) us) (Reads (at.at_handlers x) ts) c.handler_list.result c.handler_list.ensures.reads (λ q. some_handlers x ts us q (sym c.in-Some.ensures) c.in_ok-needs.ensures)

pub compound::branches-loop-after-init : goal.compound::branches-loop-after-init
compound::branches-loop-after-init t c = grind (arith, branches_rules)

pub compound::branches-returns-in_err-branch-clause-reads : goal.compound::branches-returns-in_err-branch-clause-reads
compound::branches-returns-in_err-branch-clause-reads t c =
    let x = c.args.parser.extent in
    let ts = c.args.tokens.now in
    let us = c.in-Some.after.now in
    let p = err_from_is_err_and c.from_residual.result c.from_residual.ensures.1 in
    rw (p.1, p.2) (part_fails (Reads (at.at_branch x) us) (Reads (at.at_branches x) ts) c.in_err-branch.field-0.0 c.in_err-branch.ensures.reads
    (λ rest h. c.loop-after.invariant.reads (Stuck rest) (branches_step_fail x c.loop-after.rest.now us rest c.loop-after.branches.items (sym c.in-Some.ensures) h)))

pub statements::statement-returns-then-begins_compound-clause-reads : goal.statements::statement-returns-then-begins_compound-clause-reads
statements::statement-returns-then-begins_compound-clause-reads t c =
    let x = c.args.parser.extent in
    let ts = c.args.tokens.now in
    let b : next_is begins_compound ts ≡ true = search rules in
    shown_so (λ z. z) (Reads (at.at_compound x) ts) (Reads (at.at_statement x) ts) c.compound.result c.compound.ensures.reads (λ q. compound_is_read x ts q b)

pub statements::statement-returns-then-begins_compound-clause-shorter : goal.statements::statement-returns-then-begins_compound-clause-shorter
statements::statement-returns-then-begins_compound-clause-shorter t c = c.compound.ensures.shorter

pub statements::statement-returns-clause-reads : goal.statements::statement-returns-clause-reads
statements::statement-returns-clause-reads t c =
    let x = c.args.parser.extent in
    let ts = c.args.tokens.now in
    let b : next_is begins_compound ts ≡ false = search rules in
    shown_so (λ z. z) (Reads (at_simple x) ts) (Reads (at.at_statement x) ts) c.simple.result c.simple.ensures.reads (λ q. simple_is_read x ts q b)

pub statements::statement-returns-clause-shorter : goal.statements::statement-returns-clause-shorter
statements::statement-returns-clause-shorter t c = c.simple.ensures.shorter

pub statements::statements-rest-init : goal.statements::statements-rest-init
statements::statements-rest-init t c = grind (arith, statements_rules)

pub statements::statements-rest-preserved : goal.statements::statements-rest-preserved
statements::statements-rest-preserved t c =
    let x = c.args.parser.extent in
    let b : next_is read.begins_statement c.rest.rest.now ≡ true = search rules in
    record {
      reads = λ q f.
          c.rest.invariant.reads q
          (statements_step x c.rest.rest.now c.in_ok-statement.next.now c.rest.statements.items c.in_ok-statement.statement b c.in_ok-statement.ensures.reads c.in_ok-statement.ensures.shorter q
          (subst (λ (z : List Statement). More (statement_turns x) c.in_ok-statement.next.now z q) c.in_ok-push-2.ensures.items f));
      shorter = omega (arith, c.rest.invariant.shorter, c.in_ok-statement.ensures.shorter);
    }

pub statements::statements-returns-clause-reads : goal.statements::statements-returns-clause-reads
statements::statements-returns-clause-reads t c = grind (arith, statements_rules)

pub statements::statements-returns-in_err-first-clause-reads : goal.statements::statements-returns-in_err-first-clause-reads
statements::statements-returns-in_err-first-clause-reads t c = grind (arith, statements_rules)

pub statements::statements-returns-in_err-statement-clause-reads : goal.statements::statements-returns-in_err-statement-clause-reads
statements::statements-returns-in_err-statement-clause-reads t c =
    let x = c.args.parser.extent in
    let ts = c.args.tokens.now in
    let b : next_is read.begins_statement c.rest.rest.now ≡ true = search rules in
    let p = err_from_is_err_and c.from_residual-in_err-statement.result c.from_residual-in_err-statement.ensures.1 in
    rw (p.1, p.2) (part_fails (Reads (at.at_statement x) c.rest.rest.now) (Reads (at.at_statements x) ts) c.in_err-statement.field-0.0 c.in_err-statement.ensures.reads
    (λ rest h. c.rest.invariant.reads (Stuck rest) (statements_step_fail x c.rest.rest.now rest c.rest.statements.items b h)))

pub compound::compound-returns-in-If-clause-reads : goal.compound::compound-returns-in-If-clause-reads
compound::compound-returns-in-If-clause-reads t c =
    let x = c.args.parser.extent in
    let ts = c.args.tokens.now in
    let pos = c.in_ok-word.pos in
    let rest = c.in_ok-word.rest.now in
    let begins : Begins x ts symbol.If pos rest = subst (λ s. Begins x ts s pos rest) c.in-If.is c.in_ok-word.ensures in
    shown_so (λ z. z) (Reads (at.at_if x pos) rest) (Reads (at.at_compound x) ts) c.if_statement.result c.if_statement.ensures.reads (λ q. begins_if x ts rest pos q begins)

pub compound::compound-returns-in-Case-clause-reads : goal.compound::compound-returns-in-Case-clause-reads
compound::compound-returns-in-Case-clause-reads t c =
    let x = c.args.parser.extent in
    let ts = c.args.tokens.now in
    let pos = c.in_ok-word.pos in
    let rest = c.in_ok-word.rest.now in
    let begins : Begins x ts symbol.Case pos rest = subst (λ s. Begins x ts s pos rest) c.in-Case.is c.in_ok-word.ensures in
    shown_so (λ z. z) (Reads (at.at_case x pos) rest) (Reads (at.at_compound x) ts) c.case_statement.result c.case_statement.ensures.reads (λ q. begins_case x ts rest pos q begins)

pub compound::compound-returns-in-Loop-clause-reads : goal.compound::compound-returns-in-Loop-clause-reads
compound::compound-returns-in-Loop-clause-reads t c =
    let x = c.args.parser.extent in
    let ts = c.args.tokens.now in
    let pos = c.in_ok-word.pos in
    let rest = c.in_ok-word.rest.now in
    let begins : Begins x ts symbol.Loop pos rest = subst (λ s. Begins x ts s pos rest) c.in-Loop.is c.in_ok-word.ensures in
    shown_so (λ z. z) (Reads (at.at_loop x pos Forever) ts) (Reads (at.at_compound x) ts) c.loop_rest.result c.loop_rest.ensures.reads (λ q. begins_loop x ts rest pos q begins)

pub compound::compound-returns-in-While-clause-reads : goal.compound::compound-returns-in-While-clause-reads
compound::compound-returns-in-While-clause-reads t c =
    let x = c.args.parser.extent in
    let ts = c.args.tokens.now in
    let pos = c.in_ok-word.pos in
    let rest = c.in_ok-word.rest.now in
    let begins : Begins x ts symbol.While pos rest = subst (λ s. Begins x ts s pos rest) c.in-While.is c.in_ok-word.ensures in
    shown_so (λ z. z) (Reads (at.at_while x pos) rest) (Reads (at.at_compound x) ts) c.while_loop.result c.while_loop.ensures.reads (λ q. begins_while x ts rest pos q begins)

pub compound::compound-returns-in-For-clause-reads : goal.compound::compound-returns-in-For-clause-reads
compound::compound-returns-in-For-clause-reads t c =
    let x = c.args.parser.extent in
    let ts = c.args.tokens.now in
    let pos = c.in_ok-word.pos in
    let rest = c.in_ok-word.rest.now in
    let begins : Begins x ts symbol.For pos rest = subst (λ s. Begins x ts s pos rest) c.in-For.is c.in_ok-word.ensures in
    shown_so (λ z. z) (Reads (at.at_for x pos) rest) (Reads (at.at_compound x) ts) c.for_loop.result c.for_loop.ensures.reads (λ q. begins_for x ts rest pos q begins)

pub compound::compound-returns-in-Begin-clause-reads : goal.compound::compound-returns-in-Begin-clause-reads
compound::compound-returns-in-Begin-clause-reads t c =
    let x = c.args.parser.extent in
    let ts = c.args.tokens.now in
    let pos = c.in_ok-word.pos in
    let rest = c.in_ok-word.rest.now in
    let begins : Begins x ts symbol.Begin pos rest = subst (λ s. Begins x ts s pos rest) c.in-Begin.is c.in_ok-word.ensures in
    shown_so (λ z. z) (Reads (at.at_block x pos None) rest) (Reads (at.at_compound x) ts) c.block.result c.block.ensures.reads (λ q. begins_block x ts rest pos q begins)

pub compound::compound-returns-in-Declare-clause-reads : goal.compound::compound-returns-in-Declare-clause-reads
compound::compound-returns-in-Declare-clause-reads t c =
    let x = c.args.parser.extent in
    let ts = c.args.tokens.now in
    let pos = c.in_ok-word.pos in
    let rest = c.in_ok-word.rest.now in
    let begins : Begins x ts symbol.Declare pos rest = subst (λ s. Begins x ts s pos rest) c.in-Declare.is c.in_ok-word.ensures in
    shown_so (λ z. z) (Reads (at.at_declaring x pos) rest) (Reads (at.at_compound x) ts) c.declaring_block.result c.declaring_block.ensures.reads (λ q. begins_declaring x ts rest pos q begins)

pub arms::alternatives-loop-after-smaller : goal.arms::alternatives-loop-after-smaller
arms::alternatives-loop-after-smaller t c = omega (arith, c.in_ok-alternative.ensures.shorter, ap length (after_some symbol.When c.loop-after.rest.now c.in-Some.after.now (sym c.in-Some.ensures)).here)

pub arms::handler_list-loop-after-smaller : goal.arms::handler_list-loop-after-smaller
arms::handler_list-loop-after-smaller t c = omega (arith, c.in_ok-handler.ensures.shorter, ap length (after_some symbol.When c.loop-after.rest.now c.in-Some.after.now (sym c.in-Some.ensures)).here)

pub compound::branches-loop-after-smaller : goal.compound::branches-loop-after-smaller
compound::branches-loop-after-smaller t c = omega (arith, c.in_ok-branch.ensures.shorter, ap length (after_some symbol.Elsif c.loop-after.rest.now c.in-Some.after.now (sym c.in-Some.ensures)).here)

pub statements::statements-rest-smaller : goal.statements::statements-rest-smaller
statements::statements-rest-smaller t c = omega (arith, c.in_ok-statement.ensures.shorter)

pub arms::handlers-returns-in_err-needs-clause-reads : goal.arms::handlers-returns-in_err-needs-clause-reads
arms::handlers-returns-in_err-needs-clause-reads t c =
    let x = c.args.parser.extent in
    let ts = c.args.tokens.now in
    let p = err_from_is_err_and c.from_residual.result c.from_residual.ensures.1 in
    rw (p.1, p.2) (closed_on (Reads (at.at_handlers x) ts) x Exceptions ts c.in_err-needs.field-0.0 c.in_err-needs.ensures (λ o. closed_handlers x ts c.in-Some.after.now (sym c.in-Some.ensures) o))

pub arms::handlers-returns-clause-no_longer : goal.arms::handlers-returns-clause-no_longer
arms::handlers-returns-clause-no_longer t c =
    let ts = c.args.tokens.now in
    let us = c.in-Some.after.now in
    let l = ap length (after_some symbol.Exception ts us (sym c.in-Some.ensures)).here in
    within_below ts c.handler_list.result (below_behind ts us c.handler_list.result (omega (arith, l)) c.handler_list.ensures.shorter)

pub compound::compound-returns-in-If-clause-shorter : goal.compound::compound-returns-in-If-clause-shorter
compound::compound-returns-in-If-clause-shorter t c = below_behind c.args.tokens.now c.in_ok-word.rest.now c.if_statement.result (omega (arith, ap length c.in_ok-word.ensures.front)) c.if_statement.ensures.shorter

pub compound::compound-returns-in-Case-clause-shorter : goal.compound::compound-returns-in-Case-clause-shorter
compound::compound-returns-in-Case-clause-shorter t c = below_behind c.args.tokens.now c.in_ok-word.rest.now c.case_statement.result (omega (arith, ap length c.in_ok-word.ensures.front)) c.case_statement.ensures.shorter

pub compound::compound-returns-in-While-clause-shorter : goal.compound::compound-returns-in-While-clause-shorter
compound::compound-returns-in-While-clause-shorter t c = below_behind c.args.tokens.now c.in_ok-word.rest.now c.while_loop.result (omega (arith, ap length c.in_ok-word.ensures.front)) c.while_loop.ensures.shorter

pub compound::compound-returns-in-For-clause-shorter : goal.compound::compound-returns-in-For-clause-shorter
compound::compound-returns-in-For-clause-shorter t c = below_behind c.args.tokens.now c.in_ok-word.rest.now c.for_loop.result (omega (arith, ap length c.in_ok-word.ensures.front)) c.for_loop.ensures.shorter

pub compound::compound-returns-in-Begin-clause-shorter : goal.compound::compound-returns-in-Begin-clause-shorter
compound::compound-returns-in-Begin-clause-shorter t c = below_behind c.args.tokens.now c.in_ok-word.rest.now c.block.result (omega (arith, ap length c.in_ok-word.ensures.front)) c.block.ensures.shorter

pub compound::compound-returns-in-Declare-clause-shorter : goal.compound::compound-returns-in-Declare-clause-shorter
compound::compound-returns-in-Declare-clause-shorter t c = below_behind c.args.tokens.now c.in_ok-word.rest.now c.declaring_block.result (omega (arith, ap length c.in_ok-word.ensures.front)) c.declaring_block.ensures.shorter

pub compound::compound-returns-in-Loop-clause-shorter : goal.compound::compound-returns-in-Loop-clause-shorter
compound::compound-returns-in-Loop-clause-shorter t c = c.loop_rest.ensures.shorter

pub arms::alternatives-alternative-requires-in-Some : goal.arms::alternatives-alternative-requires-in-Some
arms::alternatives-alternative-requires-in-Some t c = (omega (arith, c.decreases, c.loop-after.invariant.shorter, ap length (after_some symbol.When c.loop-after.rest.now c.in-Some.after.now (sym c.in-Some.ensures)).here), tt)

pub arms::handler_list-handler-requires-in-Some : goal.arms::handler_list-handler-requires-in-Some
arms::handler_list-handler-requires-in-Some t c = (omega (arith, c.decreases, c.loop-after.invariant.shorter, ap length (after_some symbol.When c.loop-after.rest.now c.in-Some.after.now (sym c.in-Some.ensures)).here), tt)

pub compound::for_loop-loop_rest-requires : goal.compound::for_loop-loop_rest-requires
compound::for_loop-loop_rest-requires t c = (omega (arith, c.decreases, c.in_ok-parameter.ensures.shorter, c.in_ok-rest.ensures.shorter, c.direction-direction.ensures.no_longer, c.in_ok-values.ensures.shorter), tt)
