-- Which statements have no statements in them, and how those are read.
use Rattle.std.specs.Prelude.{ℕ, Bool, true, false, Option, Some, None, Result}
use Rattle.std.specs.Borrow.{Bor}
use Rattle.cov_base.specs.declared.position.Pos.{Pos}
use Rattle.ada_lexer.specs.declared.token.Token.{Token}
use Rattle.ada_syntax.specs.Tree.{Name}
use Rattle.ada_syntax.specs.StatementTree.{Statement, assignment, call}
use Rattle.ada_syntax.specs.declared.declaration.Initial.{Initial}
use Rattle.expression_parser.specs.declared.symbol.Symbol.{Symbol}
use Rattle.expression_parser.specs.declared.symbol.Symbol.TheVariants as symbol
use Rattle.expression_parser.specs.declared.extent.Extent.{Extent}
use Rattle.expression_parser.specs.declared.extent.Extent.TheVariants.{Decisions, Exceptions}
use Rattle.expression_parser.specs.Extents.{opens}
use Rattle.expression_parser.specs.declared.fault.Fault.{Fault}
use Rattle.expression_parser.specs.Reading.{Tokens, Reader, Turn, Refuse, Take, Look, on_token, provided}
use Rattle.expression_parser.specs.Shows.{ShowsAs, Reads}
use Rattle.ada_parser.specs.StatementReading as read
use Rattle.ada_parser.specs.StatementDepth as at

-- the symbols that begin a statement with statements in it
abbrev pub begins_compound : Symbol → Bool
begins_compound symbol.If = true
begins_compound symbol.Case = true
begins_compound symbol.Loop = true
begins_compound symbol.While = true
begins_compound symbol.For = true
begins_compound symbol.Begin = true
begins_compound symbol.Declare = true
begins_compound _ = false

-- the other statements
abbrev pub simple_turn : Extent → ℕ → Symbol → Token → Turn Statement
simple_turn x m symbol.Null t = Take (read.null_by t.pos)
simple_turn x m symbol.Identifier t = Look (read.named_by x m t.pos)
simple_turn x m symbol.Pragma t = Look (read.exemption_by x m t.pos)
simple_turn x m symbol.Exit t = provided (opens x Decisions) (Take (read.exit_by x m t.pos))
simple_turn x m symbol.Return t = Take (read.return_by x m t.pos)
simple_turn x m symbol.Raise t = provided (opens x Exceptions) (Take (read.raise_by x m t.pos))
simple_turn x m _ t = Refuse

abbrev pub at_simple : Extent → ℕ → Reader Statement
at_simple x m = on_token Refuse (simple_turn x m)

-- the statement that begins with a name: what is assigned to it, or else a call
abbrev pub named_statement : Pos → Name → Option Initial → Statement
named_statement p n (Some i) = assignment p n i
named_statement p n None = call p n

-- what is answered behind a name, whatever name it is and wherever it stands
abbrev pub ReadsNameRest : Extent → Tokens → Result (Option Initial × Bor Tokens) Fault → Type 0
ReadsNameRest x ts r = (p : Pos) (n : Name) → ShowsAs (named_statement p n) (Reads (at.at_name_rest x p n) ts) r
