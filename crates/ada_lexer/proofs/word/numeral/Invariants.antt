-- The bytes so far are digits and underscores, whose number is small enough, and the rest decides.
use Rattle.std.proofs.Common.{◌≡◌, ◌≤◌, drop}
use Rattle.std.specs.List.{list_all}
use Rattle.ada_lexer.specs.Word.{is_numeral_byte, value_from}
use Rattle.ada_lexer.proofs.word.numeral.Given as goal

abbrev pub invariant-loop-byte : goal.invariant-loop-byte
invariant-loop-byte l = record {
  small : l.value ≤ 2147483647;
  numeral : list_all is_numeral_byte (drop l.byte-index l.word) ≡ list_all is_numeral_byte l.word;
  rest : value_from l.value (drop l.byte-index l.word) ≡ value_from 0 l.word;
}
