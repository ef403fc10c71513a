use Rattle.std.proofs.Common.{length}
use Rattle.ada_lexer.proofs.Cutting.{IsAt}
use Rattle.ada_lexer.proofs.lexer.lex.Given as goal

abbrev pub invariant-loop-rest : goal.invariant-loop-rest
invariant-loop-rest l = IsAt l.file l.source l.tokens.items l.pos l.from l.rest

abbrev pub decreases-loop-rest : goal.decreases-loop-rest
decreases-loop-rest l = length l.rest
