-- The readers of statements at a depth.
use Rattle.std.specs.Prelude.{ℕ, suc, List, Option}
use Rattle.cov_base.specs.declared.position.Pos.{Pos}
use Rattle.ada_syntax.specs.Tree.{Expr, Name}
use Rattle.ada_syntax.specs.StatementTree.{Statement, Branches, Alternatives, Handlers, no_handlers, Handled}
use Rattle.ada_syntax.specs.declared.declaration.Declaration.{Declaration}
use Rattle.ada_syntax.specs.declared.statement.LoopScheme.{LoopScheme}
use Rattle.ada_syntax.specs.declared.statement.Choice.{Choice}
use Rattle.ada_syntax.specs.declared.statement.ExceptionChoice.{ExceptionChoice}
use Rattle.expression_parser.specs.declared.extent.Extent.{Extent}
use Rattle.expression_parser.specs.Reading.{Reader}
use Rattle.ada_parser.specs.Trees.{with_handler}
use Rattle.ada_parser.specs.StatementReading as read

abbrev pub at_null : Pos → ℕ → Reader Statement
at_null p m = read.null_by p

abbrev pub at_exemption : Extent → Pos → ℕ → Reader Statement
at_exemption x p m = read.exemption_by x m p

abbrev pub at_name_rest : Extent → Pos → Name → ℕ → Reader Statement
at_name_rest x p n m = read.name_rest x m p n

abbrev pub at_named : Extent → Pos → ℕ → Reader Statement
at_named x p m = read.named_by x m p

abbrev pub at_exit : Extent → Pos → ℕ → Reader Statement
at_exit x p m = read.exit_by x m p

abbrev pub at_return : Extent → Pos → ℕ → Reader Statement
at_return x p m = read.return_by x m p

abbrev pub at_raise : Extent → Pos → ℕ → Reader Statement
at_raise x p m = read.raise_by x m p

abbrev pub at_statements : Extent → ℕ → Reader (List Statement)
at_statements x m = read.statements x (suc m)

abbrev pub at_statement : Extent → ℕ → Reader Statement
at_statement x m = read.statement_by x (read.statements x m) m

abbrev pub at_compound : Extent → ℕ → Reader Statement
at_compound x m = read.compound_by x (read.statements x m) m

abbrev pub at_branch : Extent → ℕ → Reader (Expr × List Statement)
at_branch x m = read.branch_by x (read.statements x m) m

abbrev pub at_branches : Extent → ℕ → Reader Branches
at_branches x m = read.branches_by x (read.statements x m) m

abbrev pub at_else : Extent → ℕ → Reader (List Statement)
at_else x m = read.else_by x (read.statements x m) m

abbrev pub at_if : Extent → Pos → ℕ → Reader Statement
at_if x p m = read.if_by x (read.statements x m) m p

abbrev pub at_alternative : Extent → ℕ → Reader (List Choice × List Statement)
at_alternative x m = read.arm_by x (read.statements x m) m (read.choices_by x m)

abbrev pub at_handler : Extent → ℕ → Reader (List ExceptionChoice × List Statement)
at_handler x m = read.arm_by x (read.statements x m) m (read.exceptions_by x m)

-- behind EXCEPTION
abbrev pub at_handler_list : Extent → ℕ → Reader Handlers
at_handler_list x m = read.arms_by x (read.statements x m) m (read.exceptions_by x m) with_handler no_handlers

abbrev pub at_alternatives : Extent → ℕ → Reader Alternatives
at_alternatives x m = read.alternatives_by x (read.statements x m) m

abbrev pub at_case : Extent → Pos → ℕ → Reader Statement
at_case x p m = read.case_by x (read.statements x m) m p

abbrev pub at_loop : Extent → Pos → LoopScheme → ℕ → Reader Statement
at_loop x p s m = read.loop_by x (read.statements x m) m p s

abbrev pub at_while : Extent → Pos → ℕ → Reader Statement
at_while x p m = read.while_by x (read.statements x m) m p

abbrev pub at_for : Extent → Pos → ℕ → Reader Statement
at_for x p m = read.for_by x (read.statements x m) m p

abbrev pub at_handlers : Extent → ℕ → Reader Handlers
at_handlers x m = read.handlers_by x (read.statements x m) m

-- statements behind BEGIN may stand as deep as the tokens from there on allow
abbrev pub at_handled : Extent → ℕ → Reader Handled
at_handled x m = read.handled_by x (read.statements x (suc m)) (suc m)

abbrev pub at_block : Extent → Pos → Option (List Declaration) → ℕ → Reader Statement
at_block x p ds m = read.block_by x (read.statements x (suc m)) (suc m) p ds

abbrev pub at_declaring : Extent → Pos → ℕ → Reader Statement
at_declaring x p m = read.declaring_by x (read.statements x m) m p
