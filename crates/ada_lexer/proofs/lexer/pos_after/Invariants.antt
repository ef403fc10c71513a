-- The place so far, and room for a line or a column for each byte that is left.
use Rattle.std.proofs.Common.{◌≡◌, ◌+◌, ◌-◌, ◌^◌, ◌<◌, drop, length}
use Rattle.ada_lexer.specs.Tokens.{place_after}
use Rattle.ada_lexer.proofs.lexer.pos_after.Given as goal

abbrev pub invariant-loop-byte : goal.invariant-loop-byte
invariant-loop-byte l = record {
  line : l.pos.line + (length l.bytes - l.byte-index) < 2 ^ 32;
  column : l.pos.col + (length l.bytes - l.byte-index) < 2 ^ 32;
  place : place_after l.pos (drop l.byte-index l.bytes) ≡ place_after l.fn.pos l.bytes;
}
