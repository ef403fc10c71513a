use Rattle.std.proofs.Common.{◌≡◌, ◌+◌, ◌≤◌, length}
use Rattle.std.specs.Str.Lines.{lines}
use Rattle.rv32_emulator.specs.InputFile.{numbers_of, numbers_from}
use Rattle.rv32_emulator.proofs.Numbers.{after_read}
use Rattle.rv32_emulator.proofs.input_file.parse_input.Given as goal

abbrev pub invariant-loop-text : goal.invariant-loop-text
invariant-loop-text l = record {
  counted : l.line + length l.rest ≤ 1 + length l.fn.bytes;
  whole : after_read l.numbers.items (numbers_from l.line (lines l.rest)) ≡ numbers_of l.fn.bytes;
}

abbrev pub decreases-loop-text : goal.decreases-loop-text
decreases-loop-text l = length l.rest
