-- The depth so far is none too great, and the rest decides.
use Rattle.std.proofs.Common.{◌≡◌, ◌≤◌, drop}
use Rattle.ada_lexer.specs.Nesting.{nested_from, nested_of}
use Rattle.ada_lexer.proofs.nesting.nested.Given as goal

abbrev pub invariant-loop-token : goal.invariant-loop-token
invariant-loop-token l = record {
  parentheses : l.depth.parentheses ≤ 64;
  constructs : l.depth.constructs ≤ 64;
  rest : nested_from l.depth (drop l.token-index l.tokens) ≡ nested_of l.tokens;
}
