-- Lists of identifiers: the list stands at the front of the first token list, and the second one is what follows it.
use Rattle.std.specs.Prelude.{ℕ, suc, List, [], ◌∷◌, ◌++◌}
use Rattle.ada_lexer.specs.declared.token.Token.{Token}
use Rattle.ada_syntax.specs.declared.name.Identifier.{Identifier}
use Rattle.expression_parser.specs.declared.symbol.Symbol.{Symbol}
use Rattle.expression_parser.specs.declared.symbol.Symbol.TheVariants as symbol
use Rattle.expression_parser.specs.Symbols.{Is, identifier_of}
use Rattle.expression_parser.specs.Reading.{Tokens, Reader, Turn, Leave, Take, got, ◌>>=◌, expect, repeat}

-- id {, id}
pub data AreIdentifiers : List Identifier → Tokens → Tokens → Type 0 where
  one_identifier : {t : Token} {rest : Tokens} → Is symbol.Identifier t → AreIdentifiers (identifier_of t ∷ []) (t ∷ rest) rest
  more_identifiers : {t u : Token} {is : List Identifier} {ts rest : Tokens} → AreIdentifiers is ts (t ∷ u ∷ rest) → Is symbol.Comma t → Is symbol.Identifier u → AreIdentifiers (is ++ identifier_of u ∷ []) ts rest

-- how they are read, with one token in view
abbrev pub identifiers_turn : Symbol → Token → List Identifier → Turn (List Identifier)
identifiers_turn symbol.Comma t is = Take (expect symbol.Identifier >>= λ u. got (is ++ identifier_of u ∷ []))
identifiers_turn _ t is = Leave is

abbrev pub identifiers_turns : ℕ → Symbol → Token → List Identifier → Turn (List Identifier)
identifiers_turns m = identifiers_turn

abbrev pub identifiers_by : ℕ → Reader (List Identifier)
identifiers_by m = expect symbol.Identifier >>= λ t. repeat identifiers_turn (suc m) (identifier_of t ∷ [])
