use Rattle.std.proofs.Common.{List, [], ◌∷◌, ◌++◌, length, ap, sym, subst, ◌∙◌, arith}
use Rattle.ada_syntax.specs.Tree.{Expr, Name, simple, named, parenthesized, unary, relation, expr_pos}
use Rattle.ada_syntax.specs.TreeView.{with_operands, joined, with_suffixes}
use Rattle.ada_syntax.specs.declared.expr.Operand.{Operand}
use Rattle.ada_syntax.specs.declared.expr.UnaryOperator.TheVariants as unary_operator
use Rattle.ada_syntax.proofs.Places.{with_suffixes-push}
use Rattle.std.proofs.lemmas.Result.{err_from_is_err_and}
use Rattle.expression_parser.specs.declared.extent.Extent.TheVariants.{Objects}
use Rattle.expression_parser.specs.Building.{operated, chained}
use Rattle.expression_parser.specs.Symbols.{sign_of, multiplying, adding}
use Rattle.expression_parser.specs.Reading.{Got, Stuck}
use Rattle.expression_parser.specs.Shows.{More, Reads}
use Rattle.expression_parser.specs.Depth as at
use Rattle.expression_parser.specs.declared.symbol.Symbol.TheVariants as symbol
use Rattle.expression_parser.proofs.Wholes.{built, made, enclosed, built_below, made_below, enclosed_below, applied_next}
use Rattle.expression_parser.proofs.NameCode.{after_some, exprs_step, exprs_step_fail, exprs_end, exprs_rules, name_rules, suffix_rules}
use Rattle.expression_parser.proofs.ExpressionCode.{primary_name_closed, primary_inner_closed, factor_abs_closed, factor_not_closed, signed_closed, primary_name, primary_name_fail, primary_inner, primary_open, primary_inner_fail, factor_abs, factor_abs_fail, factor_not, factor_not_fail, signed_sign, signed_fail, term_begin, term_fail, product_push, product_end, product_fail, product_closed, simple_begin, simple_fail, sum_push, sum_end, sum_fail, sum_closed, relation_two, relation_second_fail, chain_begin, chain_fail, chain_push, chain_step_fail, chain_half, chain_end, expr_chain, expr_rules, factor_rules, primary_rules, signed_rules, relation_rules}
use Rattle.expression_parser.proofs.Faults.{handed_on, shown_as, operator_shown_as, joint_shown_as}
use Rattle.expression_parser.proofs.parser.Parser.+expression.Goals as goal

-- names, parentheses and operators before an operand
pub primary-returns-else-not-opens-clause-reads : goal.primary-returns-else-not-opens-clause-reads
primary-returns-else-not-opens-clause-reads t c =
    let x = c.args.self.extent in
    let ts = c.args.tokens.now in
    let u = c.in-Some.token.now in
    let us = c.in-Some.rest.now in
    let is = sym c.symbol_in.ensures ∙ c.in-Identifier.is in
    made (λ n. named u.pos n) (Reads (at.at_name x) ts) (Reads (at.at_primary x) ts) c.name.result c.named.result c.name.ensures.reads c.named.ensures
    (λ n rest r. rw c.in-Some.ensures.cases.0 (primary_name x u us rest n is (sym c.opens.ensures ∙ c.if-not-opens.false) (rw c.in-Some.ensures.cases.0 at r)))
    (λ rest r. rw c.in-Some.ensures.cases.0 (primary_name_fail x u us rest is (sym c.opens.ensures ∙ c.if-not-opens.false) (rw c.in-Some.ensures.cases.0 at r)))

pub primary-returns-else-not-opens-clause-shorter : goal.primary-returns-else-not-opens-clause-shorter
primary-returns-else-not-opens-clause-shorter t c =
    let n = length c.args.tokens.now in
    made_below (λ n. named c.in-Some.token.now.pos n) n n (omega arith) c.name.result c.named.result c.name.ensures.shorter c.named.ensures

pub primary-returns-else-not-opens-2-clause-reads : goal.primary-returns-else-not-opens-2-clause-reads
primary-returns-else-not-opens-2-clause-reads t c =
    let x = c.args.self.extent in
    let ts = c.args.tokens.now in
    let u = c.in-Some.token.now in
    let us = c.in-Some.rest.now in
    let is = sym c.symbol_in.ensures ∙ c.in-LeftParenthesis.is in
    enclosed (λ e. parenthesized u.pos e) (Reads (at.at_expr x) us) (Reads (at.at_primary x) ts) c.expr.result c.parenthesized.result c.expr.ensures.reads c.parenthesized.ensures
    (λ e vs rest r k. rw c.in-Some.ensures.cases.0 (primary_inner x u us vs rest e is (sym c.opens-in-LeftParenthesis.ensures ∙ c.if-not-opens-2.false) r k))
    (λ e vs rest r k. rw c.in-Some.ensures.cases.0 (primary_open x u us vs rest e is (sym c.opens-in-LeftParenthesis.ensures ∙ c.if-not-opens-2.false) r k))
    (λ rest r. rw c.in-Some.ensures.cases.0 (primary_inner_fail x u us rest is (sym c.opens-in-LeftParenthesis.ensures ∙ c.if-not-opens-2.false) r))

pub primary-returns-else-not-opens-2-clause-shorter : goal.primary-returns-else-not-opens-2-clause-shorter
primary-returns-else-not-opens-2-clause-shorter t c =
    enclosed_below (λ e. parenthesized c.in-Some.token.now.pos e) (length c.in-Some.rest.now) (length c.args.tokens.now) (omega (arith, ap length c.in-Some.ensures.cases.0))
    c.expr.result c.parenthesized.result c.expr.ensures.shorter c.parenthesized.ensures

pub factor-returns-else-not-opens-clause-reads : goal.factor-returns-else-not-opens-clause-reads
factor-returns-else-not-opens-clause-reads t c =
    let x = c.args.self.extent in
    let ts = c.args.tokens.now in
    let u = c.in-Some.token.now in
    let us = c.in-Some.rest.now in
    let is = sym c.symbol_in.ensures ∙ c.in-Abs.is in
    made (λ e. unary u.pos unary_operator.Abs e) (Reads (at.at_primary x) us) (Reads (at.at_factor x) ts) c.primary-operand.result c.unary.result c.primary-operand.ensures.reads c.unary.ensures
    (λ e rest r. rw c.in-Some.ensures.cases.0 (factor_abs x u us rest e is (sym c.opens.ensures ∙ c.if-not-opens.false) r))
    (λ rest r. rw c.in-Some.ensures.cases.0 (factor_abs_fail x u us rest is (sym c.opens.ensures ∙ c.if-not-opens.false) r))

pub factor-returns-else-not-opens-clause-shorter : goal.factor-returns-else-not-opens-clause-shorter
factor-returns-else-not-opens-clause-shorter t c =
    made_below (λ e. unary c.in-Some.token.now.pos unary_operator.Abs e) (length c.in-Some.rest.now) (length c.args.tokens.now) (omega (arith, ap length c.in-Some.ensures.cases.0))
    c.primary-operand.result c.unary.result c.primary-operand.ensures.shorter c.unary.ensures

pub factor-returns-else-not-opens-2-clause-reads : goal.factor-returns-else-not-opens-2-clause-reads
factor-returns-else-not-opens-2-clause-reads t c =
    let x = c.args.self.extent in
    let ts = c.args.tokens.now in
    let u = c.in-Some.token.now in
    let us = c.in-Some.rest.now in
    let is = sym c.symbol_in.ensures ∙ c.in-Not.is in
    made (λ e. unary u.pos unary_operator.Not e) (Reads (at.at_primary x) us) (Reads (at.at_factor x) ts) c.primary-operand-in-Not.result c.unary-in-Not.result c.primary-operand-in-Not.ensures.reads c.unary-in-Not.ensures
    (λ e rest r. rw c.in-Some.ensures.cases.0 (factor_not x u us rest e is (sym c.opens-in-Not.ensures ∙ c.if-not-opens-2.false) r))
    (λ rest r. rw c.in-Some.ensures.cases.0 (factor_not_fail x u us rest is (sym c.opens-in-Not.ensures ∙ c.if-not-opens-2.false) r))

pub factor-returns-else-not-opens-2-clause-shorter : goal.factor-returns-else-not-opens-2-clause-shorter
factor-returns-else-not-opens-2-clause-shorter t c =
    made_below (λ e. unary c.in-Some.token.now.pos unary_operator.Not e) (length c.in-Some.rest.now) (length c.args.tokens.now) (omega (arith, ap length c.in-Some.ensures.cases.0))
    c.primary-operand-in-Not.result c.unary-in-Not.result c.primary-operand-in-Not.ensures.shorter c.unary-in-Not.ensures

pub signed-returns-clause-reads : goal.signed-returns-clause-reads
signed-returns-clause-reads t c =
    let x = c.args.self.extent in
    let ts = c.args.tokens.now in
    let u = c.in-Some.token.now in
    let us = c.in-Some.rest.now in
    let op = c.in-Some-sign_in.operator in
    let is = ap (λ s. sign_of s) (sym c.symbol_in.ensures) ∙ sym c.in-Some-sign_in.ensures in
    made (λ e. unary u.pos op e) (Reads (at.at_term x) us) (Reads (at.at_signed x) ts) c.term-2.result c.unary.result c.term-2.ensures.reads c.unary.ensures
    (λ e rest r. rw c.in-Some.ensures.cases.0 (signed_sign x u us rest op e is (sym c.opens.ensures ∙ c.if-not-opens.false) r))
    (λ rest r. rw c.in-Some.ensures.cases.0 (signed_fail x u us rest op is (sym c.opens.ensures ∙ c.if-not-opens.false) r))

pub signed-returns-clause-shorter : goal.signed-returns-clause-shorter
signed-returns-clause-shorter t c =
    made_below (λ e. unary c.in-Some.token.now.pos c.in-Some-sign_in.operator e) (length c.in-Some.rest.now) (length c.args.tokens.now) (omega (arith, ap length c.in-Some.ensures.cases.0))
    c.term-2.result c.unary.result c.term-2.ensures.shorter c.unary.ensures

-- what is closed
pub primary-returns-then-not-opens-clause-reads : goal.primary-returns-then-not-opens-clause-reads
primary-returns-then-not-opens-clause-reads t c =
    rw c.in-Some.ensures.cases.0 (primary_name_closed c.args.self.extent c.in-Some.token.now c.in-Some.rest.now (sym c.symbol_in.ensures ∙ c.in-Identifier.is) (sym c.opens.ensures ∙ c.if-not-opens.true))

pub primary-returns-then-not-opens-2-clause-reads : goal.primary-returns-then-not-opens-2-clause-reads
primary-returns-then-not-opens-2-clause-reads t c =
    rw c.in-Some.ensures.cases.0 (primary_inner_closed c.args.self.extent c.in-Some.token.now c.in-Some.rest.now (sym c.symbol_in.ensures ∙ c.in-LeftParenthesis.is) (sym c.opens-in-LeftParenthesis.ensures ∙ c.if-not-opens-2.true))

pub factor-returns-then-not-opens-clause-reads : goal.factor-returns-then-not-opens-clause-reads
factor-returns-then-not-opens-clause-reads t c =
    rw c.in-Some.ensures.cases.0 (factor_abs_closed c.args.self.extent c.in-Some.token.now c.in-Some.rest.now (sym c.symbol_in.ensures ∙ c.in-Abs.is) (sym c.opens.ensures ∙ c.if-not-opens.true))

pub factor-returns-then-not-opens-2-clause-reads : goal.factor-returns-then-not-opens-2-clause-reads
factor-returns-then-not-opens-2-clause-reads t c =
    rw c.in-Some.ensures.cases.0 (factor_not_closed c.args.self.extent c.in-Some.token.now c.in-Some.rest.now (sym c.symbol_in.ensures ∙ c.in-Not.is) (sym c.opens-in-Not.ensures ∙ c.if-not-opens-2.true))

pub signed-returns-then-not-opens-clause-reads : goal.signed-returns-then-not-opens-clause-reads
signed-returns-then-not-opens-clause-reads t c =
    rw c.in-Some.ensures.cases.0 (signed_closed c.args.self.extent c.in-Some.token.now c.in-Some.rest.now c.in-Some-sign_in.operator (ap (λ s. sign_of s) (sym c.symbol_in.ensures) ∙ sym c.in-Some-sign_in.ensures) (sym c.opens.ensures ∙ c.if-not-opens.true))

-- operands of one level
pub term-returns-clause-reads : goal.term-returns-clause-reads
term-returns-clause-reads t c =
    let x = c.args.self.extent in
    let ts = c.args.tokens.now in
    let a = c.in_ok-first.first in
    let us = c.in_ok-first.rest.now in
    built (operated a) (More (at.product_turns x) us a) (Reads (at.at_term x) ts) c.factors.result c.product.result (c.factors.ensures.reads a) c.product.ensures
    (λ q f. term_begin x ts us a c.in_ok-first.ensures.reads c.in_ok-first.ensures.shorter q f)

pub term-returns-clause-shorter : goal.term-returns-clause-shorter
term-returns-clause-shorter t c =
    built_below (operated c.in_ok-first.first) (length c.in_ok-first.rest.now) (length c.args.tokens.now) c.in_ok-first.ensures.shorter
    c.factors.result c.product.result c.factors.ensures.shorter c.product.ensures

pub term-returns-in_err-first-clause-reads : goal.term-returns-in_err-first-clause-reads
term-returns-in_err-first-clause-reads t c =
    let p = err_from_is_err_and c.from_residual.result c.from_residual.ensures.1 in
    rw (p.1, p.2) (handed_on (Reads (at.at_term c.args.self.extent) c.args.tokens.now) (Reads (at.at_factor c.args.self.extent) c.args.tokens.now) c.in_err-first.field-0.0 c.in_err-first.ensures.reads (λ rest r. term_fail c.args.self.extent c.args.tokens.now rest r))

pub factors-loop-others-init : goal.factors-loop-others-init
factors-loop-others-init t c = record {
  reads = λ a q f. subst (λ (os : List Operand). More (at.product_turns c.args.self.extent) c.args.tokens.now (with_operands (expr_pos a) a os) q) c.new-others.ensures.items f;
  shorter = omega arith;
}

pub factors-loop-others-preserved : goal.factors-loop-others-preserved
factors-loop-others-preserved t c =
    let h = rw c.in-Some.is at c.in_ok-operator.ensures in
    let os = c.loop-others.others.items in
    let next = c.in_ok-operand.next.now in
    record {
      reads = λ a q f.
          c.loop-others.invariant.reads a q
          (product_push c.args.self.extent c.loop-others.rest.now c.in-Some.after.now next a os (record { operator = c.in-Some.operator; operand = c.in_ok-operand.operand }) h c.in_ok-operand.ensures.reads c.in_ok-operand.ensures.shorter q
          (subst (λ (z : List Operand). More (at.product_turns c.args.self.extent) next (with_operands (expr_pos a) a z) q) c.in_ok-push.ensures.items f));
      shorter = omega (arith, c.loop-others.invariant.shorter, c.in_ok-operand.ensures.shorter, ap length h.here);
    }

pub factors-returns-clause-reads : goal.factors-returns-clause-reads
factors-returns-clause-reads t c = λ a. c.loop-others.invariant.reads a _ (product_end c.args.self.extent c.loop-others.rest.now _ (rw c.in_default.is at c.in_ok-operator.ensures))

pub factors-returns-in_err-operand-clause-reads : goal.factors-returns-in_err-operand-clause-reads
factors-returns-in_err-operand-clause-reads t c =
    let h = rw c.in-Some.is at c.in_ok-operator.ensures in
    let p = err_from_is_err_and c.from_residual-in_err-operand.result c.from_residual-in_err-operand.ensures.1 in
    rw (p.1, p.2) (λ a. shown_as (operated a) (More (at.product_turns c.args.self.extent) c.args.tokens.now a) (Reads (at.at_factor c.args.self.extent) c.in-Some.after.now) c.in_err-operand.field-0.0 c.in_err-operand.ensures.reads (λ rest r. c.loop-others.invariant.reads a (Stuck rest) (product_fail c.args.self.extent c.loop-others.rest.now c.in-Some.after.now rest c.in-Some.operator _ h r)))

pub factors-returns-in_err-operator-clause-reads : goal.factors-returns-in_err-operator-clause-reads
factors-returns-in_err-operator-clause-reads t c =
    let p = err_from_is_err_and c.from_residual.result c.from_residual.ensures.1 in
    rw (p.1, p.2) (λ a. operator_shown_as (operated a) (More (at.product_turns c.args.self.extent) c.args.tokens.now a) multiplying c.args.self.extent Objects c.loop-others.rest.now c.in_err-operator.field-0.0 c.in_err-operator.ensures (λ rest k. c.loop-others.invariant.reads a (Stuck rest) (product_closed c.args.self.extent c.loop-others.rest.now rest _ k)))

-- operands of one level
pub simple-returns-clause-reads : goal.simple-returns-clause-reads
simple-returns-clause-reads t c =
    let x = c.args.self.extent in
    let ts = c.args.tokens.now in
    let a = c.in_ok-first.first in
    let us = c.in_ok-first.rest.now in
    built (operated a) (More (at.sum_turns x) us a) (Reads (at.at_simple x) ts) c.terms.result c.sum.result (c.terms.ensures.reads a) c.sum.ensures
    (λ q f. simple_begin x ts us a c.in_ok-first.ensures.reads c.in_ok-first.ensures.shorter q f)

pub simple-returns-clause-shorter : goal.simple-returns-clause-shorter
simple-returns-clause-shorter t c =
    built_below (operated c.in_ok-first.first) (length c.in_ok-first.rest.now) (length c.args.tokens.now) c.in_ok-first.ensures.shorter
    c.terms.result c.sum.result c.terms.ensures.shorter c.sum.ensures

pub simple-returns-in_err-first-clause-reads : goal.simple-returns-in_err-first-clause-reads
simple-returns-in_err-first-clause-reads t c =
    let p = err_from_is_err_and c.from_residual.result c.from_residual.ensures.1 in
    rw (p.1, p.2) (handed_on (Reads (at.at_simple c.args.self.extent) c.args.tokens.now) (Reads (at.at_signed c.args.self.extent) c.args.tokens.now) c.in_err-first.field-0.0 c.in_err-first.ensures.reads (λ rest r. simple_fail c.args.self.extent c.args.tokens.now rest r))

pub terms-loop-others-init : goal.terms-loop-others-init
terms-loop-others-init t c = record {
  reads = λ a q f. subst (λ (os : List Operand). More (at.sum_turns c.args.self.extent) c.args.tokens.now (with_operands (expr_pos a) a os) q) c.new-others.ensures.items f;
  shorter = omega arith;
}

pub terms-loop-others-preserved : goal.terms-loop-others-preserved
terms-loop-others-preserved t c =
    let h = rw c.in-Some.is at c.in_ok-operator.ensures in
    let os = c.loop-others.others.items in
    let next = c.in_ok-operand.next.now in
    record {
      reads = λ a q f.
          c.loop-others.invariant.reads a q
          (sum_push c.args.self.extent c.loop-others.rest.now c.in-Some.after.now next a os (record { operator = c.in-Some.operator; operand = c.in_ok-operand.operand }) h c.in_ok-operand.ensures.reads c.in_ok-operand.ensures.shorter q
          (subst (λ (z : List Operand). More (at.sum_turns c.args.self.extent) next (with_operands (expr_pos a) a z) q) c.in_ok-push.ensures.items f));
      shorter = omega (arith, c.loop-others.invariant.shorter, c.in_ok-operand.ensures.shorter, ap length h.here);
    }

pub terms-returns-clause-reads : goal.terms-returns-clause-reads
terms-returns-clause-reads t c = λ a. c.loop-others.invariant.reads a _ (sum_end c.args.self.extent c.loop-others.rest.now _ (rw c.in_default.is at c.in_ok-operator.ensures))

pub terms-returns-in_err-operand-clause-reads : goal.terms-returns-in_err-operand-clause-reads
terms-returns-in_err-operand-clause-reads t c =
    let h = rw c.in-Some.is at c.in_ok-operator.ensures in
    let p = err_from_is_err_and c.from_residual-in_err-operand.result c.from_residual-in_err-operand.ensures.1 in
    rw (p.1, p.2) (λ a. shown_as (operated a) (More (at.sum_turns c.args.self.extent) c.args.tokens.now a) (Reads (at.at_term c.args.self.extent) c.in-Some.after.now) c.in_err-operand.field-0.0 c.in_err-operand.ensures.reads (λ rest r. c.loop-others.invariant.reads a (Stuck rest) (sum_fail c.args.self.extent c.loop-others.rest.now c.in-Some.after.now rest c.in-Some.operator _ h r)))

pub terms-returns-in_err-operator-clause-reads : goal.terms-returns-in_err-operator-clause-reads
terms-returns-in_err-operator-clause-reads t c =
    let p = err_from_is_err_and c.from_residual.result c.from_residual.ensures.1 in
    rw (p.1, p.2) (λ a. operator_shown_as (operated a) (More (at.sum_turns c.args.self.extent) c.args.tokens.now a) adding c.args.self.extent Objects c.loop-others.rest.now c.in_err-operator.field-0.0 c.in_err-operator.ensures (λ rest k. c.loop-others.invariant.reads a (Stuck rest) (sum_closed c.args.self.extent c.loop-others.rest.now rest _ k)))

-- relations, and chains of them
pub relation-returns-clause-reads : goal.relation-returns-clause-reads
relation-returns-clause-reads t c =
    let x = c.args.self.extent in
    let ts = c.args.tokens.now in
    let a = c.in_ok-left.left in
    let us = c.in_ok-left.rest.now in
    let op = c.in-Some.operator in
    let vs = c.in-Some.after.now in
    let h = rw c.in-Some.is at c.in_ok-operator.ensures in
    made (λ e. relation (expr_pos a) a op e) (Reads (at.at_simple x) vs) (Reads (at.at_relation x) ts) c.simple-2.result c.relation.result c.simple-2.ensures.reads c.relation.ensures
    (λ b rest r. relation_two x ts us vs rest a b op c.in_ok-left.ensures.reads c.in_ok-left.ensures.shorter h r)
    (λ rest r. relation_second_fail x ts us vs rest a op c.in_ok-left.ensures.reads c.in_ok-left.ensures.shorter h r)

pub relation-returns-clause-shorter : goal.relation-returns-clause-shorter
relation-returns-clause-shorter t c =
    let a = c.in_ok-left.left in
    let h = rw c.in-Some.is at c.in_ok-operator.ensures in
    made_below (λ e. relation (expr_pos a) a c.in-Some.operator e) (length c.in-Some.after.now) (length c.args.tokens.now) (omega (arith, c.in_ok-left.ensures.shorter, ap length h.here))
    c.simple-2.result c.relation.result c.simple-2.ensures.shorter c.relation.ensures

pub relations-loop-others-init : goal.relations-loop-others-init
relations-loop-others-init t c = record {
  reads = λ a q f. chain_begin c.args.self.extent c.args.operator c.args.tokens.now c.in_ok-second.rest.now a c.in_ok-second.second c.in_ok-second.ensures.reads c.in_ok-second.ensures.shorter q
      (subst (λ (z : List Expr). More (at.chain_turns c.args.self.extent c.args.operator) c.in_ok-second.rest.now (joined (expr_pos a) c.args.operator a z) q) (c.in_ok-push.ensures.items ∙ ap (λ xs. xs ++ c.in_ok-second.second ∷ []) c.new-others.ensures.items) f);
  shorter = c.in_ok-second.ensures.shorter;
}

pub relations-loop-others-preserved : goal.relations-loop-others-preserved
relations-loop-others-preserved t c =
    let x = c.args.self.extent in
    let op = c.args.operator in
    let h = rw c.in-Some.is at c.in_ok-after.ensures in
    let next = c.in_ok-relation.next.now in
    record {
      reads = λ a q f. c.loop-others.invariant.reads a q
          (chain_push x op c.loop-others.rest.now c.in-Some.after.now next a c.in_ok-relation.relation c.loop-others.others.items h c.in_ok-relation.ensures.reads c.in_ok-relation.ensures.shorter q
          (subst (λ (z : List Expr). More (at.chain_turns x op) next (joined (expr_pos a) op a z) q) c.in_ok-push-2.ensures.items f));
      shorter = omega (arith, c.loop-others.invariant.shorter, c.in_ok-relation.ensures.shorter, h.shorter);
    }

pub relations-returns-clause-reads : goal.relations-returns-clause-reads
relations-returns-clause-reads t c = λ a. c.loop-others.invariant.reads a _ (chain_end c.args.self.extent c.args.operator c.loop-others.rest.now _ (rw c.in_default.is at c.in_ok-after.ensures))

pub relations-returns-in_err-second-clause-reads : goal.relations-returns-in_err-second-clause-reads
relations-returns-in_err-second-clause-reads t c =
    let x = c.args.self.extent in
    let op = c.args.operator in
    let ts = c.args.tokens.now in
    let p = err_from_is_err_and c.from_residual.result c.from_residual.ensures.1 in
    rw (p.1, p.2) (λ a. shown_as (chained op a) (Reads (at.at_chain x op a) ts) (Reads (at.at_relation x) ts) c.in_err-second.field-0.0 c.in_err-second.ensures.reads (λ rest r. chain_fail x op ts rest a r))

pub relations-returns-in_err-relation-clause-reads : goal.relations-returns-in_err-relation-clause-reads
relations-returns-in_err-relation-clause-reads t c =
    let x = c.args.self.extent in
    let op = c.args.operator in
    let h = rw c.in-Some.is at c.in_ok-after.ensures in
    let p = err_from_is_err_and c.from_residual-in_err-relation.result c.from_residual-in_err-relation.ensures.1 in
    rw (p.1, p.2) (λ a. shown_as (chained op a) (Reads (at.at_chain x op a) c.args.tokens.now) (Reads (at.at_relation x) c.in-Some.after.now) c.in_err-relation.field-0.0 c.in_err-relation.ensures.reads (λ rest r. c.loop-others.invariant.reads a (Stuck rest) (chain_step_fail x op c.loop-others.rest.now c.in-Some.after.now rest _ h r)))

pub relations-returns-in_err-after-clause-reads : goal.relations-returns-in_err-after-clause-reads
relations-returns-in_err-after-clause-reads t c =
    let x = c.args.self.extent in
    let op = c.args.operator in
    let p = err_from_is_err_and c.from_residual-in_err-after.result c.from_residual-in_err-after.ensures.1 in
    rw (p.1, p.2) (λ a. joint_shown_as (chained op a) (Reads (at.at_chain x op a) c.args.tokens.now) x op c.loop-others.rest.now c.in_err-after.field-0.0 c.in_err-after.ensures (λ rest k. c.loop-others.invariant.reads a (Stuck rest) (chain_half x op c.loop-others.rest.now rest _ k)))

pub expr-returns-in-Some-clause-reads : goal.expr-returns-in-Some-clause-reads
expr-returns-in-Some-clause-reads t c =
    let x = c.args.self.extent in
    let ts = c.args.tokens.now in
    let a = c.in_ok-first.first in
    let us = c.in_ok-first.rest.now in
    let op = c.in-Some.operator in
    let vs = c.in-Some.after.now in
    let h = rw c.in-Some.is at c.in_ok-logical.ensures in
    built (chained op a) (Reads (at.at_chain x op a) vs) (Reads (at.at_expr x) ts) c.relations-others.result c.chain.result (c.relations-others.ensures.reads a) c.chain.ensures
    (λ q r. expr_chain x ts us vs a op q c.in_ok-first.ensures.reads c.in_ok-first.ensures.shorter h r)

pub expr-returns-in-Some-clause-shorter : goal.expr-returns-in-Some-clause-shorter
expr-returns-in-Some-clause-shorter t c =
    let a = c.in_ok-first.first in
    let h = rw c.in-Some.is at c.in_ok-logical.ensures in
    made_below (chained c.in-Some.operator a) (length c.in-Some.after.now) (length c.args.tokens.now) (omega (arith, c.in_ok-first.ensures.shorter, h.shorter))
    c.relations-others.result c.chain.result c.relations-others.ensures.shorter c.chain.ensures

-- parts of a name
pub suffix-returns-in-Dot : goal.suffix-returns-in-Dot
suffix-returns-in-Dot t c = rw c.in-Some.ensures.cases.0 (c.selected.ensures c.in-Some.token.now (sym c.symbol_in.ensures ∙ c.in-Dot.is))

pub suffix-returns-in-Tick : goal.suffix-returns-in-Tick
suffix-returns-in-Tick t c = c.attribute.ensures c.in-Some.token.now (sym c.symbol_in.ensures ∙ c.in-Tick.is) c.in-Some.ensures.cases.0

pub suffix-returns-in-LeftParenthesis : goal.suffix-returns-in-LeftParenthesis
suffix-returns-in-LeftParenthesis t c =
    rw c.in-Some.ensures.cases.0 (applied_next c.args.self.extent c.in-Some.token.now c.in-Some.rest.now c.exprs.result c.applied.result (sym c.symbol_in.ensures ∙ c.in-LeftParenthesis.is)
    c.exprs.ensures.reads c.exprs.ensures.shorter c.applied.ensures)

pub exprs-loop-after-preserved : goal.exprs-loop-after-preserved
exprs-loop-after-preserved t c = record {
  reads = λ q f.
      c.loop-after.invariant.reads q
      (exprs_step c.args.self.extent c.loop-after.rest.now c.in-Some.after.now c.in_ok-expr.next.now c.loop-after.exprs.items c.in_ok-expr.expr (sym c.in-Some.ensures) c.in_ok-expr.ensures.reads c.in_ok-expr.ensures.shorter q
      (subst (λ (z : List Expr). More (at.comma_turns c.args.self.extent) c.in_ok-expr.next.now z q) c.in_ok-push-2.ensures.items f));
  shorter = omega (arith, c.loop-after.invariant.shorter, c.in_ok-expr.ensures.shorter, ap length (after_some symbol.Comma c.loop-after.rest.now c.in-Some.after.now (sym c.in-Some.ensures)).here);
}

pub name-loop-suffixes-preserved : goal.name-loop-suffixes-preserved
name-loop-suffixes-preserved t c =
    let h = rw c.in-Some.is at c.in_ok-suffix.ensures in
    let p = simple c.in_ok-prefix.prefix in
    record {
      reads = λ q f.
          c.loop-suffixes.invariant.reads q
          (h.0 (with_suffixes p c.loop-suffixes.suffixes.items) q
          (subst (λ (z : Name). More (at.suffix_turns c.args.self.extent) c.in-Some.next.now z q) (ap (λ ss. with_suffixes p ss) c.in_ok-push.ensures.items ∙ with_suffixes-push p c.loop-suffixes.suffixes.items c.in-Some.suffix) f));
      shorter = omega (arith, c.loop-suffixes.invariant.shorter, h.1);
    }

pub expr-returns-in-None-clause-reads : goal.expr-returns-in-None-clause-reads
expr-returns-in-None-clause-reads t c = grind (arith, expr_rules)

pub expr-returns-in_err-logical-clause-reads : goal.expr-returns-in_err-logical-clause-reads
expr-returns-in_err-logical-clause-reads t c = grind (arith, expr_rules)

pub exprs-loop-after-init : goal.exprs-loop-after-init
exprs-loop-after-init t c = grind (arith, exprs_rules)

pub exprs-returns-clause-reads : goal.exprs-returns-clause-reads
exprs-returns-clause-reads t c =
    let es = c.loop-after.exprs.items in
    let rest = c.loop-after.rest.now in
    c.loop-after.invariant.reads (Got es rest) (exprs_end c.args.self.extent rest es (sym c.in_default.ensures))

pub exprs-returns-in_err-expr-clause-reads : goal.exprs-returns-in_err-expr-clause-reads
exprs-returns-in_err-expr-clause-reads t c =
    let x = c.args.self.extent in
    let us = c.in-Some.after.now in
    let p = err_from_is_err_and c.from_residual-in_err-expr.result c.from_residual-in_err-expr.ensures.1 in
    rw (p.1, p.2) (handed_on (Reads (at.at_exprs x) c.args.tokens.now) (Reads (at.at_expr x) us) c.in_err-expr.field-0.0 c.in_err-expr.ensures.reads
    (λ rest r. c.loop-after.invariant.reads (Stuck rest) (exprs_step_fail x c.loop-after.rest.now us rest c.loop-after.exprs.items (sym c.in-Some.ensures) r)))

pub factor-returns-in_default-symbol_in : goal.factor-returns-in_default-symbol_in
factor-returns-in_default-symbol_in t c = grind (arith, factor_rules)

pub name-loop-suffixes-init : goal.name-loop-suffixes-init
name-loop-suffixes-init t c = grind (arith, name_rules)

pub signed-returns-in_default-sign_in-clause-reads : goal.signed-returns-in_default-sign_in-clause-reads
signed-returns-in_default-sign_in-clause-reads t c = grind (arith, signed_rules)

pub suffix-returns-in_default-symbol_in : goal.suffix-returns-in_default-symbol_in
suffix-returns-in_default-symbol_in t c = grind (arith, suffix_rules)

pub expr-returns-in-None-clause-shorter : goal.expr-returns-in-None-clause-shorter
expr-returns-in-None-clause-shorter t c = grind (arith, expr_rules)

pub exprs-expr-requires-in-Some : goal.exprs-expr-requires-in-Some
exprs-expr-requires-in-Some t c = grind (arith, exprs_rules)

pub exprs-loop-after-smaller : goal.exprs-loop-after-smaller
exprs-loop-after-smaller t c = omega (arith, c.in_ok-expr.ensures.shorter, ap length (after_some symbol.Comma c.loop-after.rest.now c.in-Some.after.now (sym c.in-Some.ensures)).here)

pub exprs-returns-clause-shorter : goal.exprs-returns-clause-shorter
exprs-returns-clause-shorter t c = grind (arith, exprs_rules)

pub factor-returns-in_default-clause-reads : goal.factor-returns-in_default-clause-reads
factor-returns-in_default-clause-reads t c = grind (arith, factor_rules)

pub name-loop-suffixes-smaller : goal.name-loop-suffixes-smaller
name-loop-suffixes-smaller t c = grind (arith, name_rules)

pub name-returns-clause-reads : goal.name-returns-clause-reads
name-returns-clause-reads t c = grind (arith, name_rules)

pub name-returns-clause-shorter : goal.name-returns-clause-shorter
name-returns-clause-shorter t c = grind (arith, name_rules)

pub primary-returns-in-Numeral-clause-reads : goal.primary-returns-in-Numeral-clause-reads
primary-returns-in-Numeral-clause-reads t c = grind (arith, primary_rules)

pub primary-returns-in_default-clause-reads : goal.primary-returns-in_default-clause-reads
primary-returns-in_default-clause-reads t c = grind (arith, primary_rules)

pub primary-returns-in_default-symbol_in : goal.primary-returns-in_default-symbol_in
primary-returns-in_default-symbol_in t c = grind (arith, primary_rules)

pub relation-returns-in_default-clause-reads : goal.relation-returns-in_default-clause-reads
relation-returns-in_default-clause-reads t c = grind (arith, relation_rules)

pub relation-returns-in_default-clause-shorter : goal.relation-returns-in_default-clause-shorter
relation-returns-in_default-clause-shorter t c = grind (arith, relation_rules)

pub relation-simple-requires-2 : goal.relation-simple-requires-2
relation-simple-requires-2 t c = grind (arith, relation_rules)

pub signed-returns-in_default-clause-reads : goal.signed-returns-in_default-clause-reads
signed-returns-in_default-clause-reads t c = grind (arith, signed_rules)

pub suffix-returns-in_default : goal.suffix-returns-in_default
suffix-returns-in_default t c = grind (arith, suffix_rules)

pub terms-loop-others-smaller : goal.terms-loop-others-smaller
terms-loop-others-smaller t c =
    let h = rw c.in-Some.is at c.in_ok-operator.ensures in
    omega (arith, c.in_ok-operand.ensures.shorter, ap length h.here)

pub factors-loop-others-smaller : goal.factors-loop-others-smaller
factors-loop-others-smaller t c =
    let h = rw c.in-Some.is at c.in_ok-operator.ensures in
    omega (arith, c.in_ok-operand.ensures.shorter, ap length h.here)

pub relations-loop-others-smaller : goal.relations-loop-others-smaller
relations-loop-others-smaller t c =
    let h = rw c.in-Some.is at c.in_ok-after.ensures in
    omega (arith, c.in_ok-relation.ensures.shorter, h.shorter)

pub relations-returns-clause-shorter : goal.relations-returns-clause-shorter
relations-returns-clause-shorter t c = c.loop-others.invariant.shorter
