-- Units that are parsed from source files, none of which is too large.
use Rattle.std.specs.Prelude.{ℕ, ◌+◌, ◌≤◌, List, [], ◌∷◌, ◌++◌, length}
use Rattle.ada_lexer.specs.Tokens.{AreTokensOf}
use Rattle.ada_parser.specs.Grammar.{IsFile}
use Rattle.ada_syntax.specs.declared.unit.Unit.{Unit as LibraryUnit}
use Rattle.cov_base.specs.declared.obligations.SourceFile.{SourceFile}
use Rattle.expression_parser.specs.declared.extent.Extent.{Extent}
use Rattle.expression_parser.specs.Reading.{Tokens}

-- the most bytes of a source file
abbrev pub most_bytes : ℕ
most_bytes = 1048576

-- the most nodes that the units of one file have: it has one token more than bytes at most, and each node is one
abbrev pub most_nodes_of_file : ℕ
most_nodes_of_file = 1048577

-- the units of this many files, which are numbered from 0 as they come
pub data AreOfFiles (x : Extent) : ℕ → List LibraryUnit → Type 0 where
  no_file : AreOfFiles x 0 []
  and_file : {n : ℕ} {units more : List LibraryUnit} {source : List ℕ} {tokens : Tokens}
      → AreOfFiles x n units → length source ≤ most_bytes → AreTokensOf n source tokens → IsFile x more tokens
      → AreOfFiles x (n + 1) (units ++ more)

-- the tokens of each of these files, none of which is too large; the first of these has number n
pub data AreTokensOfFiles : (n : ℕ) → List SourceFile → List Tokens → Type 0 where
  no_file_behind : {n : ℕ} → AreTokensOfFiles n [] []
  tokens_then : {n : ℕ} {file : SourceFile} {files : List SourceFile} {tokens : Tokens} {more : List Tokens}
      → length file.bytes ≤ most_bytes → AreTokensOf n file.bytes tokens → AreTokensOfFiles (n + 1) files more
      → AreTokensOfFiles n (file ∷ files) (tokens ∷ more)
