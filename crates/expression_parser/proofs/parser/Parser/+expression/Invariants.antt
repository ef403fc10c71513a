use Rattle.std.proofs.Common.{◌<◌, ◌≤◌, ◌+◌, ◌*◌, length, List}
use Rattle.ada_syntax.specs.Tree.{Expr, Name, simple, expr_pos}
use Rattle.ada_syntax.specs.TreeView.{with_operands, with_suffixes, joined}
use Rattle.expression_parser.specs.Reading.{Reading}
use Rattle.expression_parser.specs.Shows.{Reads, More}
use Rattle.expression_parser.specs.Depth as at
use Rattle.expression_parser.proofs.parser.Parser.+expression.Given as goal

-- the tokens, and then the level
abbrev pub decreases-suffix : goal.decreases-suffix
decreases-suffix l = 16 * length l.tokens.now

abbrev pub decreases-name : goal.decreases-name
decreases-name l = 16 * length l.tokens.now + 1

abbrev pub decreases-primary : goal.decreases-primary
decreases-primary l = 16 * length l.tokens.now + 2

abbrev pub decreases-factor : goal.decreases-factor
decreases-factor l = 16 * length l.tokens.now + 3

abbrev pub decreases-term : goal.decreases-term
decreases-term l = 16 * length l.tokens.now + 4

abbrev pub decreases-factors : goal.decreases-factors
decreases-factors l = 16 * length l.tokens.now + 4

abbrev pub decreases-signed : goal.decreases-signed
decreases-signed l = 16 * length l.tokens.now + 5

abbrev pub decreases-simple : goal.decreases-simple
decreases-simple l = 16 * length l.tokens.now + 6

abbrev pub decreases-terms : goal.decreases-terms
decreases-terms l = 16 * length l.tokens.now + 6

abbrev pub decreases-relation : goal.decreases-relation
decreases-relation l = 16 * length l.tokens.now + 7

abbrev pub decreases-relations : goal.decreases-relations
decreases-relations l = 16 * length l.tokens.now + 8

abbrev pub decreases-expr : goal.decreases-expr
decreases-expr l = 16 * length l.tokens.now + 9

abbrev pub decreases-exprs : goal.decreases-exprs
decreases-exprs l = 16 * length l.tokens.now + 10

-- what is read from here is what is read from the beginning
abbrev pub invariant-name-loop-suffixes : goal.invariant-name-loop-suffixes
invariant-name-loop-suffixes l = record {
  reads : (q : Reading Name) → More (at.suffix_turns l.self.extent) l.rest (with_suffixes (simple l.prefix) l.suffixes.items) q → Reads (at.at_name l.self.extent) l.tokens q;
  shorter : length l.rest < length l.tokens;
}

abbrev pub decreases-name-loop-suffixes : goal.decreases-name-loop-suffixes
decreases-name-loop-suffixes l = length l.rest

abbrev pub invariant-exprs-loop-after : goal.invariant-exprs-loop-after
invariant-exprs-loop-after l = record {
  reads : (q : Reading (List Expr)) → More (at.comma_turns l.self.extent) l.rest l.exprs.items q → Reads (at.at_exprs l.self.extent) l.tokens q;
  shorter : length l.rest < length l.tokens;
}

abbrev pub decreases-exprs-loop-after : goal.decreases-exprs-loop-after
decreases-exprs-loop-after l = length l.rest

abbrev pub invariant-factors-loop-others : goal.invariant-factors-loop-others
invariant-factors-loop-others l = record {
  reads : (a : Expr) (q : Reading Expr) → More (at.product_turns l.self.extent) l.rest (with_operands (expr_pos a) a l.others.items) q → More (at.product_turns l.self.extent) l.tokens a q;
  shorter : length l.rest ≤ length l.tokens;
}

abbrev pub decreases-factors-loop-others : goal.decreases-factors-loop-others
decreases-factors-loop-others l = length l.rest

abbrev pub invariant-terms-loop-others : goal.invariant-terms-loop-others
invariant-terms-loop-others l = record {
  reads : (a : Expr) (q : Reading Expr) → More (at.sum_turns l.self.extent) l.rest (with_operands (expr_pos a) a l.others.items) q → More (at.sum_turns l.self.extent) l.tokens a q;
  shorter : length l.rest ≤ length l.tokens;
}

abbrev pub decreases-terms-loop-others : goal.decreases-terms-loop-others
decreases-terms-loop-others l = length l.rest

abbrev pub invariant-relations-loop-others : goal.invariant-relations-loop-others
invariant-relations-loop-others l = record {
  reads : (a : Expr) (q : Reading Expr) → More (at.chain_turns l.self.extent l.operator) l.rest (joined (expr_pos a) l.operator a l.others.items) q → Reads (at.at_chain l.self.extent l.operator a) l.tokens q;
  shorter : length l.rest < length l.tokens;
}

abbrev pub decreases-relations-loop-others : goal.decreases-relations-loop-others
decreases-relations-loop-others l = length l.rest
