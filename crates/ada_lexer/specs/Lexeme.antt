-- What a token is (Ada RM 2012, 2.2 to 2.9), and how each word and delimiter is spelled.
use Rattle.std.specs.Prelude.{ℕ, List, [], ◌∷◌, Bool, true, false, if◌then◌else◌, Option, Some, None, codes}
use Rattle.ada_lexer.specs.declared.token.Lexeme.{Lexeme}
use Rattle.ada_lexer.specs.declared.token.Lexeme.TheVariants as lexeme
use Rattle.ada_lexer.specs.declared.token.TokenKind.{TokenKind}
use Rattle.ada_lexer.specs.declared.token.TokenKind.TheVariants as kind

-- whether a lexeme is a delimiter
abbrev pub is_delimiter : Lexeme → Bool
is_delimiter lexeme.LeftParenthesis = true
is_delimiter lexeme.RightParenthesis = true
is_delimiter lexeme.Comma = true
is_delimiter lexeme.Semicolon = true
is_delimiter lexeme.Colon = true
is_delimiter lexeme.Dot = true
is_delimiter lexeme.Tick = true
is_delimiter lexeme.Plus = true
is_delimiter lexeme.Minus = true
is_delimiter lexeme.Star = true
is_delimiter lexeme.Slash = true
is_delimiter lexeme.Equal = true
is_delimiter lexeme.Less = true
is_delimiter lexeme.Greater = true
is_delimiter lexeme.Bar = true
is_delimiter lexeme.Arrow = true
is_delimiter lexeme.Becomes = true
is_delimiter lexeme.DoubleDot = true
is_delimiter lexeme.NotEqual = true
is_delimiter lexeme.LessOrEqual = true
is_delimiter lexeme.GreaterOrEqual = true
is_delimiter lexeme.Box = true
is_delimiter _ = false

-- a lexeme's kind
abbrev pub kind_of : Lexeme → TokenKind
kind_of lexeme.Identifier = kind.Word
kind_of (lexeme.Numeral value) = kind.Numeral
kind_of lexeme.Text = kind.Text
kind_of other = if is_delimiter other then kind.Delimiter else kind.Reserved

-- the reserved words, in lower case (2.9)
abbrev pub reserved_words : List (List ℕ × Lexeme)
reserved_words =
    (codes "abort", lexeme.Abort) ∷
    (codes "abs", lexeme.Abs) ∷
    (codes "abstract", lexeme.Abstract) ∷
    (codes "accept", lexeme.Accept) ∷
    (codes "access", lexeme.Access) ∷
    (codes "aliased", lexeme.Aliased) ∷
    (codes "all", lexeme.All) ∷
    (codes "and", lexeme.And) ∷
    (codes "array", lexeme.Array) ∷
    (codes "at", lexeme.At) ∷
    (codes "begin", lexeme.Begin) ∷
    (codes "body", lexeme.Body) ∷
    (codes "case", lexeme.Case) ∷
    (codes "constant", lexeme.Constant) ∷
    (codes "declare", lexeme.Declare) ∷
    (codes "delay", lexeme.Delay) ∷
    (codes "delta", lexeme.Delta) ∷
    (codes "digits", lexeme.Digits) ∷
    (codes "do", lexeme.Do) ∷
    (codes "else", lexeme.Else) ∷
    (codes "elsif", lexeme.Elsif) ∷
    (codes "end", lexeme.End) ∷
    (codes "entry", lexeme.Entry) ∷
    (codes "exception", lexeme.Exception) ∷
    (codes "exit", lexeme.Exit) ∷
    (codes "for", lexeme.For) ∷
    (codes "function", lexeme.Function) ∷
    (codes "generic", lexeme.Generic) ∷
    (codes "goto", lexeme.Goto) ∷
    (codes "if", lexeme.If) ∷
    (codes "in", lexeme.In) ∷
    (codes "interface", lexeme.Interface) ∷
    (codes "is", lexeme.Is) ∷
    (codes "limited", lexeme.Limited) ∷
    (codes "loop", lexeme.Loop) ∷
    (codes "mod", lexeme.Mod) ∷
    (codes "new", lexeme.New) ∷
    (codes "not", lexeme.Not) ∷
    (codes "null", lexeme.Null) ∷
    (codes "of", lexeme.Of) ∷
    (codes "or", lexeme.Or) ∷
    (codes "others", lexeme.Others) ∷
    (codes "out", lexeme.Out) ∷
    (codes "overriding", lexeme.Overriding) ∷
    (codes "package", lexeme.Package) ∷
    (codes "pragma", lexeme.Pragma) ∷
    (codes "private", lexeme.Private) ∷
    (codes "procedure", lexeme.Procedure) ∷
    (codes "protected", lexeme.Protected) ∷
    (codes "raise", lexeme.Raise) ∷
    (codes "range", lexeme.Range) ∷
    (codes "record", lexeme.Record) ∷
    (codes "rem", lexeme.Rem) ∷
    (codes "renames", lexeme.Renames) ∷
    (codes "requeue", lexeme.Requeue) ∷
    (codes "return", lexeme.Return) ∷
    (codes "reverse", lexeme.Reverse) ∷
    (codes "select", lexeme.Select) ∷
    (codes "separate", lexeme.Separate) ∷
    (codes "some", lexeme.Some) ∷
    (codes "subtype", lexeme.Subtype) ∷
    (codes "synchronized", lexeme.Synchronized) ∷
    (codes "tagged", lexeme.Tagged) ∷
    (codes "task", lexeme.Task) ∷
    (codes "terminate", lexeme.Terminate) ∷
    (codes "then", lexeme.Then) ∷
    (codes "type", lexeme.Type) ∷
    (codes "until", lexeme.Until) ∷
    (codes "use", lexeme.Use) ∷
    (codes "when", lexeme.When) ∷
    (codes "while", lexeme.While) ∷
    (codes "with", lexeme.With) ∷
    (codes "xor", lexeme.Xor) ∷ []

-- the delimiters (2.2), each before those that it begins with; `**`, `<<` and `>>` are none of this language
abbrev pub delimiters : List (List ℕ × Option Lexeme)
delimiters =
    (codes "=>", Some lexeme.Arrow) ∷
    (codes ":=", Some lexeme.Becomes) ∷
    (codes "..", Some lexeme.DoubleDot) ∷
    (codes "/=", Some lexeme.NotEqual) ∷
    (codes "<=", Some lexeme.LessOrEqual) ∷
    (codes ">=", Some lexeme.GreaterOrEqual) ∷
    (codes "<>", Some lexeme.Box) ∷
    (codes "**", None) ∷
    (codes "<<", None) ∷
    (codes ">>", None) ∷
    (codes "(", Some lexeme.LeftParenthesis) ∷
    (codes ")", Some lexeme.RightParenthesis) ∷
    (codes ",", Some lexeme.Comma) ∷
    (codes ";", Some lexeme.Semicolon) ∷
    (codes ":", Some lexeme.Colon) ∷
    (codes ".", Some lexeme.Dot) ∷
    (codes "'", Some lexeme.Tick) ∷
    (codes "+", Some lexeme.Plus) ∷
    (codes "-", Some lexeme.Minus) ∷
    (codes "*", Some lexeme.Star) ∷
    (codes "/", Some lexeme.Slash) ∷
    (codes "=", Some lexeme.Equal) ∷
    (codes "<", Some lexeme.Less) ∷
    (codes ">", Some lexeme.Greater) ∷
    (codes "|", Some lexeme.Bar) ∷ []
