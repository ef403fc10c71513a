-- How statements with statements in them begin.
use Rattle.std.specs.Prelude.{◌≡◌, ◌∷◌, true, Option, Some, None, Result, Ok, Err}
use Rattle.std.specs.Borrow.{Bor}
use Rattle.cov_base.specs.declared.position.Pos.{Pos}
use Rattle.ada_lexer.specs.declared.token.Token.{Token}
use Rattle.expression_parser.specs.declared.symbol.Symbol.{Symbol}
use Rattle.expression_parser.specs.declared.symbol.Symbol.TheVariants as symbol
use Rattle.expression_parser.specs.declared.extent.Extent.{Extent}
use Rattle.expression_parser.specs.declared.extent.Extent.TheVariants.{Decisions, Types}
use Rattle.expression_parser.specs.declared.fault.Fault.{Fault}
use Rattle.expression_parser.specs.declared.fault.Fault.TheVariants.{Syntax, Memory}
use Rattle.expression_parser.specs.Symbols.{symbol_of}
use Rattle.expression_parser.specs.Extents.{opens}
use Rattle.expression_parser.specs.Reading.{Tokens, Stuck}
use Rattle.expression_parser.specs.Shows.{Reads}
use Rattle.ada_parser.specs.StatementDepth as at

-- the extent with which such a statement comes that begins with this word
abbrev pub extent_of : Symbol → Option Extent
extent_of symbol.If = Some Decisions
extent_of symbol.Case = Some Types
extent_of symbol.Loop = Some Decisions
extent_of symbol.While = Some Decisions
extent_of symbol.For = Some Types
extent_of symbol.Begin = Some Decisions
extent_of symbol.Declare = Some Decisions
extent_of _ = None

-- the tokens begin with the word of such a statement, at this place, and it is open
pub record Begins (x : Extent) (ts : Tokens) (word : Symbol) (p : Pos) (rest : Tokens) : Type 0 where
  pub first : Token
  pub front : ts ≡ first ∷ rest
  pub is : symbol_of first.lexeme ≡ word
  pub place : first.pos ≡ p
  pub needed : Extent
  pub needs : extent_of word ≡ Some needed
  pub is_open : opens x needed ≡ true

-- what is answered of the front of tokens: they begin so, or no such statement is read
abbrev pub ShowsBeginning : Extent → Tokens → Result ((Symbol × Pos) × Bor Tokens) Fault → Type 0
ShowsBeginning x ts (Ok r) = Begins x ts r.0.0 r.0.1 r.1.now
ShowsBeginning x ts (Err (Syntax rest)) = Reads (at.at_compound x) ts (Stuck rest.now)
ShowsBeginning x ts (Err Memory) = ⊥
