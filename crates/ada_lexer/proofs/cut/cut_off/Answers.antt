use Rattle.std.proofs.Common.{rules, arith}
use Rattle.std.proofs.lemmas.Grind.{common_steps}
use Rattle.ada_lexer.proofs.cut.cut_off.Goals as goal

pub returns-then-is_separator : goal.returns-then-is_separator
returns-then-is_separator c = search rules

pub returns-then-starts_with : goal.returns-then-starts_with
returns-then-starts_with c = search rules

pub returns-then-first-eq34 : goal.returns-then-first-eq34
returns-then-first-eq34 c = search rules

pub returns-else-is_word_byte : goal.returns-else-is_word_byte
returns-else-is_word_byte c = search rules

pub returns-then-is_word_byte : goal.returns-then-is_word_byte
returns-then-is_word_byte c = grind (arith, common_steps) steps 2000000

pub slice_bounds-word-end : goal.slice_bounds-word-end
slice_bounds-word-end c = grind (arith, common_steps) steps 2000000
