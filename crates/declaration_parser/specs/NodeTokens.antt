-- The tokens that are nodes.
use Rattle.std.specs.Prelude.{ℕ, ◌+◌, [], ◌∷◌}
use Rattle.expression_parser.specs.declared.symbol.Symbol.{Symbol}
use Rattle.expression_parser.specs.declared.symbol.Symbol.TheVariants as symbol
use Rattle.expression_parser.specs.Symbols.{symbol_of}
use Rattle.expression_parser.specs.Reading.{Tokens}

-- all but ( ) , ; : . ' and =>
abbrev pub symbol_nodes : Symbol → ℕ
symbol_nodes symbol.LeftParenthesis = 0
symbol_nodes symbol.RightParenthesis = 0
symbol_nodes symbol.Comma = 0
symbol_nodes symbol.Semicolon = 0
symbol_nodes symbol.Colon = 0
symbol_nodes symbol.Dot = 0
symbol_nodes symbol.Tick = 0
symbol_nodes symbol.Arrow = 0
symbol_nodes _ = 1

-- how many of these tokens are nodes
abbrev pub node_tokens : Tokens → ℕ
node_tokens [] = 0
node_tokens (t ∷ ts) = symbol_nodes (symbol_of t.lexeme) + node_tokens ts
