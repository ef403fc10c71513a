-- What the grammar sees of a token: its lexeme without a numeral's value.
use Rattle.std.specs.Prelude.{◌≡◌, ℕ, Bool, Option, Some, None}
use Rattle.ada_syntax.specs.declared.name.Identifier.{Identifier}
use Rattle.ada_syntax.specs.declared.expr.UnaryOperator.{UnaryOperator}
use Rattle.ada_syntax.specs.declared.expr.UnaryOperator.TheVariants as unary
use Rattle.ada_syntax.specs.declared.expr.BinaryOperator.{BinaryOperator}
use Rattle.ada_syntax.specs.declared.expr.BinaryOperator.TheVariants as binary
use Rattle.ada_syntax.specs.declared.expr.RelationalOperator.{RelationalOperator}
use Rattle.ada_syntax.specs.declared.expr.RelationalOperator.TheVariants as relational
use Rattle.ada_syntax.specs.declared.expr.LogicalOperator.{LogicalOperator}
use Rattle.ada_syntax.specs.declared.expr.LogicalOperator.TheVariants as logical
use denote.Enum.Bare.{sameb}
use Rattle.ada_lexer.specs.declared.token.Lexeme.{Lexeme}
use Rattle.ada_lexer.specs.declared.token.Lexeme.TheVariants as lexeme
use Rattle.ada_lexer.specs.declared.token.Token.{Token}
use Rattle.expression_parser.specs.declared.symbol.Symbol.{Symbol}
use Rattle.expression_parser.specs.declared.symbol.Symbol.TheVariants as symbol
use Rattle.expression_parser.specs.contracts.symbol.Symbol.{the_type}

-- the symbol of a lexeme; the reserved words that stand in no production have none of their own
abbrev pub symbol_of : Lexeme → Symbol
symbol_of lexeme.Identifier = symbol.Identifier
symbol_of (lexeme.Numeral value) = symbol.Numeral
symbol_of lexeme.Text = symbol.Text
symbol_of lexeme.Abs = symbol.Abs
symbol_of lexeme.And = symbol.And
symbol_of lexeme.Array = symbol.Array
symbol_of lexeme.Begin = symbol.Begin
symbol_of lexeme.Body = symbol.Body
symbol_of lexeme.Case = symbol.Case
symbol_of lexeme.Constant = symbol.Constant
symbol_of lexeme.Declare = symbol.Declare
symbol_of lexeme.Else = symbol.Else
symbol_of lexeme.Elsif = symbol.Elsif
symbol_of lexeme.End = symbol.End
symbol_of lexeme.Exception = symbol.Exception
symbol_of lexeme.Exit = symbol.Exit
symbol_of lexeme.For = symbol.For
symbol_of lexeme.Function = symbol.Function
symbol_of lexeme.Generic = symbol.Generic
symbol_of lexeme.If = symbol.If
symbol_of lexeme.In = symbol.In
symbol_of lexeme.Is = symbol.Is
symbol_of lexeme.Loop = symbol.Loop
symbol_of lexeme.Mod = symbol.Mod
symbol_of lexeme.New = symbol.New
symbol_of lexeme.Not = symbol.Not
symbol_of lexeme.Null = symbol.Null
symbol_of lexeme.Of = symbol.Of
symbol_of lexeme.Or = symbol.Or
symbol_of lexeme.Others = symbol.Others
symbol_of lexeme.Out = symbol.Out
symbol_of lexeme.Package = symbol.Package
symbol_of lexeme.Pragma = symbol.Pragma
symbol_of lexeme.Procedure = symbol.Procedure
symbol_of lexeme.Raise = symbol.Raise
symbol_of lexeme.Range = symbol.Range
symbol_of lexeme.Record = symbol.Record
symbol_of lexeme.Rem = symbol.Rem
symbol_of lexeme.Return = symbol.Return
symbol_of lexeme.Reverse = symbol.Reverse
symbol_of lexeme.Subtype = symbol.Subtype
symbol_of lexeme.Then = symbol.Then
symbol_of lexeme.Type = symbol.Type
symbol_of lexeme.When = symbol.When
symbol_of lexeme.While = symbol.While
symbol_of lexeme.With = symbol.With
symbol_of lexeme.Xor = symbol.Xor
symbol_of lexeme.LeftParenthesis = symbol.LeftParenthesis
symbol_of lexeme.RightParenthesis = symbol.RightParenthesis
symbol_of lexeme.Comma = symbol.Comma
symbol_of lexeme.Semicolon = symbol.Semicolon
symbol_of lexeme.Colon = symbol.Colon
symbol_of lexeme.Dot = symbol.Dot
symbol_of lexeme.Tick = symbol.Tick
symbol_of lexeme.Plus = symbol.Plus
symbol_of lexeme.Minus = symbol.Minus
symbol_of lexeme.Star = symbol.Star
symbol_of lexeme.Slash = symbol.Slash
symbol_of lexeme.Equal = symbol.Equal
symbol_of lexeme.Less = symbol.Less
symbol_of lexeme.Greater = symbol.Greater
symbol_of lexeme.Bar = symbol.Bar
symbol_of lexeme.Arrow = symbol.Arrow
symbol_of lexeme.Becomes = symbol.Becomes
symbol_of lexeme.DoubleDot = symbol.DoubleDot
symbol_of lexeme.NotEqual = symbol.NotEqual
symbol_of lexeme.LessOrEqual = symbol.LessOrEqual
symbol_of lexeme.GreaterOrEqual = symbol.GreaterOrEqual
symbol_of lexeme.Box = symbol.Box
symbol_of _ = symbol.Other

-- the token is the word or delimiter
abbrev pub Is : Symbol → Token → Type 0
Is s t = symbol_of t.lexeme ≡ s

-- whether two symbols are one
abbrev pub same : Symbol → Symbol → Bool
same a b = sameb the_type a b

-- the identifier that a token is
abbrev pub identifier_of : Token → Identifier
identifier_of t = record { pos = t.pos; text = t.text }

-- the value of a numeral
abbrev pub value_of : Lexeme → ℕ
value_of (lexeme.Numeral value) = value
value_of _ = 0

-- + and - before a term
abbrev pub sign_of : Symbol → Option UnaryOperator
sign_of symbol.Plus = Some unary.Plus
sign_of symbol.Minus = Some unary.Minus
sign_of _ = None

abbrev pub multiplying : Symbol → Option BinaryOperator
multiplying symbol.Star = Some binary.Multiply
multiplying symbol.Slash = Some binary.Divide
multiplying symbol.Mod = Some binary.Mod
multiplying symbol.Rem = Some binary.Rem
multiplying _ = None

abbrev pub adding : Symbol → Option BinaryOperator
adding symbol.Plus = Some binary.Add
adding symbol.Minus = Some binary.Subtract
adding _ = None

abbrev pub relational_of : Symbol → Option RelationalOperator
relational_of symbol.Equal = Some relational.Equal
relational_of symbol.NotEqual = Some relational.NotEqual
relational_of symbol.Less = Some relational.Less
relational_of symbol.LessOrEqual = Some relational.LessOrEqual
relational_of symbol.Greater = Some relational.Greater
relational_of symbol.GreaterOrEqual = Some relational.GreaterOrEqual
relational_of _ = None

-- the first word of an operator that joins relations
abbrev pub first_word : LogicalOperator → Symbol
first_word logical.And = symbol.And
first_word logical.AndThen = symbol.And
first_word logical.Or = symbol.Or
first_word logical.OrElse = symbol.Or
first_word logical.Xor = symbol.Xor

-- its second word, where it has two
abbrev pub second_word_of : LogicalOperator → Option Symbol
second_word_of logical.And = None
second_word_of logical.AndThen = Some symbol.Then
second_word_of logical.Or = None
second_word_of logical.OrElse = Some symbol.Else
second_word_of logical.Xor = None
