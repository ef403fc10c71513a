-- Single tokens at the front of a token list; the second list is what follows.
use Rattle.std.specs.Prelude.{◌∷◌}
use Rattle.ada_lexer.specs.declared.token.Token.{Token}
use Rattle.ada_syntax.specs.declared.name.Identifier.{Identifier}
use Rattle.expression_parser.specs.declared.symbol.Symbol.{Symbol}
use Rattle.expression_parser.specs.declared.symbol.Symbol.TheVariants as symbol
use Rattle.expression_parser.specs.Symbols.{Is, identifier_of}
use Rattle.expression_parser.specs.Reading.{Tokens}

-- a word or a delimiter
pub data Word (s : Symbol) : Tokens → Tokens → Type 0 where
  word : {t : Token} {rest : Tokens} → Is s t → Word s (t ∷ rest) rest

-- an identifier
pub data Named : Identifier → Tokens → Tokens → Type 0 where
  name : {t : Token} {rest : Tokens} → Is symbol.Identifier t → Named (identifier_of t) (t ∷ rest) rest

-- END, a word, and a semicolon
pub data Closes (s : Symbol) : Tokens → Tokens → Type 0 where
  closes : {ts us vs rest : Tokens} → Word symbol.End ts us → Word s us vs → Word symbol.Semicolon vs rest → Closes s ts rest
