use Rattle.std.proofs.Common.{◌+◌, drop, arith}
use Rattle.std.proofs.lemmas.Grind.{common_steps}
use Rattle.ada_lexer.proofs.Numerals.{numeral_of-great}
use Rattle.ada_lexer.proofs.word.numeral.Goals as goal
use Rattle.ada_lexer.proofs.word.numeral.Goals.{in-95, in-48-to-57}

pub returns-then-value-gt-MAX_NUMERAL : goal.returns-then-value-gt-MAX_NUMERAL
returns-then-value-gt-MAX_NUMERAL c =
    let word = c.args.word.now in
    elim c.match-byte.branch [ in-95 w ↦ absurd (omega arith) | in-48-to-57 w ↦ numeral_of-great word c.match-byte.value (drop (c.loop-byte.byte-index + 1) word) (omega arith) (grind (arith, common_steps)) ]

pub loop-byte-preserved : goal.loop-byte-preserved
loop-byte-preserved c = grind (arith, common_steps) steps 2000000
