-- The identifiers of which a pragma is made. Their case counts nothing (Ada RM 2012, 2.3).
use Rattle.std.specs.Prelude.{ℕ, List, Bool, IsTrue, codes}
use Rattle.std.specs.Str.{str_eq_ignore_ascii_case}
use Rattle.ada_lexer.specs.declared.token.Token.{Token}
use Rattle.expression_parser.specs.declared.symbol.Symbol.TheVariants as symbol
use Rattle.expression_parser.specs.Symbols.{Is}

abbrev pub annotate : List ℕ
annotate = codes "Annotate"

abbrev pub xcov : List ℕ
xcov = codes "Xcov"

abbrev pub exempt_on : List ℕ
exempt_on = codes "Exempt_On"

abbrev pub exempt_off : List ℕ
exempt_off = codes "Exempt_Off"

-- whether a token is spelled so
abbrev pub is_spelled : List ℕ → Token → Bool
is_spelled spelling t = str_eq_ignore_ascii_case spelling t.text

-- the token is this identifier
abbrev pub IsWord : List ℕ → Token → Type 0
IsWord spelling t = Is symbol.Identifier t × IsTrue (is_spelled spelling t)
