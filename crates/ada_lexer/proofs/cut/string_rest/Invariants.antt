-- What was read so far, and how the literal ends in what is left.
use Rattle.std.proofs.Common.{◌≡◌, ◌+◌, ◌≤◌, length, option_map}
use Rattle.ada_lexer.specs.Cut.{string_rest}
use Rattle.ada_lexer.proofs.cut.string_rest.Given as goal

abbrev pub invariant-loop-byte : goal.invariant-loop-byte
invariant-loop-byte l = record {
  read : l.length + length l.rest ≤ length l.text;
  rest : option_map (λ n. l.length + n) (string_rest l.rest) ≡ string_rest l.text;
}

abbrev pub decreases-loop-byte : goal.decreases-loop-byte
decreases-loop-byte l = length l.rest
