-- Units of files have few nodes: each is a token, and a file has at most one token more than it has bytes.
use Rattle.std.proofs.Common.{◌≡◌, ℕ, ◌*◌, ◌≤◌, List, [], ◌∷◌, length, sum_by, arith}
use Rattle.std.proofs.lemmas.List.Sums.{sum_by-cons, sum_by-append}
use Rattle.ada_lexer.specs.Tokens.{AreTokensOf}
use Rattle.ada_parser.proofs.UnitNodes.{units_nodes_of}
use Rattle.ada_parser.specs.Grammar.{IsFile}
use Rattle.ada_syntax.specs.Nodes.{capped, unit_nodes}
use Rattle.ada_syntax.specs.declared.unit.Unit.{Unit as LibraryUnit}
use Rattle.declaration_parser.specs.NodeTokens.{symbol_nodes, node_tokens}
use Rattle.expression_parser.specs.Reading.{Tokens}
use Rattle.expression_parser.specs.Symbols.{symbol_of}
use Rattle.expression_parser.specs.declared.extent.Extent.{Extent}
use Rattle.expression_parser.specs.declared.symbol.Symbol.{Symbol}
use Rattle.expression_parser.specs.declared.symbol.Symbol.TheVariants as symbol
use Rattle.legal_counts.specs.TextParts.{AreCounted}
use Rattle.parsed_texts.specs.Parsed.{AreOfFiles, no_file, and_file, most_bytes, most_nodes_of_file}
use Rattle.parsed_texts.proofs.Few.{few_tokens}
use Rattle.parsed_texts.proofs.Files.{everywhere_joined}

one_at_most : (s : Symbol) → symbol_nodes s ≤ 1
one_at_most symbol.LeftParenthesis = omega arith
one_at_most symbol.RightParenthesis = omega arith
one_at_most symbol.Comma = omega arith
one_at_most symbol.Semicolon = omega arith
one_at_most symbol.Colon = omega arith
one_at_most symbol.Dot = omega arith
one_at_most symbol.Tick = omega arith
one_at_most symbol.Arrow = omega arith
one_at_most _ = omega arith

no_more_than_tokens : (ts : Tokens) → node_tokens ts ≤ length ts
no_more_than_tokens [] = omega arith
no_more_than_tokens (t ∷ ts) = omega (arith, one_at_most (symbol_of t.lexeme), no_more_than_tokens ts)

few_of_file : (x : Extent) (n : ℕ) (source : List ℕ) (ts : Tokens) (us : List LibraryUnit) → length source ≤ most_bytes → AreTokensOf n source ts → IsFile x us ts
    → sum_by unit_nodes us ≤ most_nodes_of_file
few_of_file x n source ts us small lexed parsed =
    omega (arith, small, few_tokens n source ts lexed, no_more_than_tokens ts, units_nodes_of x parsed)

each_counted : (us : List LibraryUnit) → sum_by unit_nodes us ≤ most_nodes_of_file → AreCounted us
each_counted [] few = tt
each_counted (u ∷ us) few =
    let all = sum_by-cons unit_nodes u us in
    (omega (arith, few, all), each_counted us (omega (arith, few, all)))

pub counted_units : (x : Extent) (n : ℕ) (us : List LibraryUnit) → AreOfFiles x n us → AreCounted us
counted_units x n us no_file = tt
counted_units x n us (and_file {n = k} {units = vs} {more = ws} {source = source} {tokens = tokens} before small lexed parsed) =
    everywhere_joined (λ (u : LibraryUnit). capped (unit_nodes u) ≡ unit_nodes u) vs ws (counted_units x k vs before)
    (each_counted ws (few_of_file x k source tokens ws small lexed parsed))

pub few_nodes : (x : Extent) (n : ℕ) (us : List LibraryUnit) → AreOfFiles x n us → sum_by unit_nodes us ≤ n * most_nodes_of_file
few_nodes x n us no_file = omega arith
few_nodes x n us (and_file {n = k} {units = vs} {more = ws} {source = source} {tokens = tokens} before small lexed parsed) =
    omega (arith, few_nodes x k vs before, few_of_file x k source tokens ws small lexed parsed, sum_by-append unit_nodes vs ws)
