use Rattle.std.proofs.Common.{◌<◌, ◌≤◌, ◌+◌, ◌*◌, length, List}
use Rattle.ada_syntax.specs.StatementTree.{Statement, Branches, Alternatives, Handlers}
use Rattle.ada_syntax.specs.StatementView.{branches_of, alternatives_of, handlers_of}
use Rattle.expression_parser.specs.Reading.{Reading}
use Rattle.expression_parser.specs.Shows.{Reads, More}
use Rattle.ada_parser.specs.StatementDepth as at
use Rattle.ada_parser.proofs.ArmCode.{alternative_turns, handler_turns}
use Rattle.ada_parser.proofs.CompoundCode.{branch_turns}
use Rattle.ada_parser.proofs.StatementCode.{statement_turns}
use Rattle.ada_parser.proofs.+statement.Given as goal

-- the tokens, and then the level
abbrev pub decreases-compound::loop_body : goal.decreases-compound::loop_body
decreases-compound::loop_body l = 32 * length l.tokens.now + 0

abbrev pub decreases-compound::loop_rest : goal.decreases-compound::loop_rest
decreases-compound::loop_rest l = 32 * length l.tokens.now + 1

abbrev pub decreases-compound::branch : goal.decreases-compound::branch
decreases-compound::branch l = 32 * length l.tokens.now + 1

abbrev pub decreases-arms::alternative : goal.decreases-arms::alternative
decreases-arms::alternative l = 32 * length l.tokens.now + 2

abbrev pub decreases-arms::handler : goal.decreases-arms::handler
decreases-arms::handler l = 32 * length l.tokens.now + 3

abbrev pub decreases-compound::compound : goal.decreases-compound::compound
decreases-compound::compound l = 32 * length l.tokens.now + 4

abbrev pub decreases-statements::statement : goal.decreases-statements::statement
decreases-statements::statement l = 32 * length l.tokens.now + 5

abbrev pub decreases-statements::statements : goal.decreases-statements::statements
decreases-statements::statements l = 32 * length l.tokens.now + 6

abbrev pub decreases-statements::handled : goal.decreases-statements::handled
decreases-statements::handled l = 32 * length l.tokens.now + 8

abbrev pub decreases-compound::block : goal.decreases-compound::block
decreases-compound::block l = 32 * length l.tokens.now + 9

abbrev pub decreases-compound::else_part : goal.decreases-compound::else_part
decreases-compound::else_part l = 32 * length l.tokens.now + 10

abbrev pub decreases-compound::branches : goal.decreases-compound::branches
decreases-compound::branches l = 32 * length l.tokens.now + 11

abbrev pub decreases-compound::if_rest : goal.decreases-compound::if_rest
decreases-compound::if_rest l = 32 * length l.tokens.now + 12

abbrev pub decreases-compound::if_statement : goal.decreases-compound::if_statement
decreases-compound::if_statement l = 32 * length l.tokens.now + 12

abbrev pub decreases-arms::alternatives : goal.decreases-arms::alternatives
decreases-arms::alternatives l = 32 * length l.tokens.now + 13

abbrev pub decreases-compound::case_arms : goal.decreases-compound::case_arms
decreases-compound::case_arms l = 32 * length l.tokens.now + 14

abbrev pub decreases-compound::case_statement : goal.decreases-compound::case_statement
decreases-compound::case_statement l = 32 * length l.tokens.now + 14

abbrev pub decreases-compound::while_loop : goal.decreases-compound::while_loop
decreases-compound::while_loop l = 32 * length l.tokens.now + 15

abbrev pub decreases-compound::for_loop : goal.decreases-compound::for_loop
decreases-compound::for_loop l = 32 * length l.tokens.now + 16

abbrev pub decreases-arms::handler_list : goal.decreases-arms::handler_list
decreases-arms::handler_list l = 32 * length l.tokens.now + 17

abbrev pub decreases-arms::handlers : goal.decreases-arms::handlers
decreases-arms::handlers l = 32 * length l.tokens.now + 18

abbrev pub decreases-compound::declaring_block : goal.decreases-compound::declaring_block
decreases-compound::declaring_block l = 32 * length l.tokens.now + 19

-- what is read from here is what is read from the beginning
abbrev pub invariant-arms::alternatives-loop-after : goal.invariant-arms::alternatives-loop-after
invariant-arms::alternatives-loop-after l = record {
  reads : (q : Reading Alternatives) → More (alternative_turns l.parser.extent) l.rest (alternatives_of l.alternatives.items) q → Reads (at.at_alternatives l.parser.extent) l.tokens q;
  shorter : length l.rest < length l.tokens;
}

abbrev pub decreases-arms::alternatives-loop-after : goal.decreases-arms::alternatives-loop-after
decreases-arms::alternatives-loop-after l = length l.rest

abbrev pub invariant-arms::handler_list-loop-after : goal.invariant-arms::handler_list-loop-after
invariant-arms::handler_list-loop-after l = record {
  reads : (q : Reading Handlers) → More (handler_turns l.parser.extent) l.rest (handlers_of l.handlers.items) q → Reads (at.at_handler_list l.parser.extent) l.tokens q;
  shorter : length l.rest < length l.tokens;
}

abbrev pub decreases-arms::handler_list-loop-after : goal.decreases-arms::handler_list-loop-after
decreases-arms::handler_list-loop-after l = length l.rest

abbrev pub invariant-compound::branches-loop-after : goal.invariant-compound::branches-loop-after
invariant-compound::branches-loop-after l = record {
  reads : (q : Reading Branches) → More (branch_turns l.parser.extent) l.rest (branches_of l.branches.items) q → Reads (at.at_branches l.parser.extent) l.tokens q;
  shorter : length l.rest ≤ length l.tokens;
}

abbrev pub decreases-compound::branches-loop-after : goal.decreases-compound::branches-loop-after
decreases-compound::branches-loop-after l = length l.rest

abbrev pub invariant-statements::statements-rest : goal.invariant-statements::statements-rest
invariant-statements::statements-rest l = record {
  reads : (q : Reading (List Statement)) → More (statement_turns l.parser.extent) l.rest l.statements.items q → Reads (at.at_statements l.parser.extent) l.tokens q;
  shorter : length l.rest < length l.tokens;
}

abbrev pub decreases-statements::statements-rest : goal.decreases-statements::statements-rest
decreases-statements::statements-rest l = length l.rest
