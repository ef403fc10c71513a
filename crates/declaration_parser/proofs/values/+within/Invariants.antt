use Rattle.std.proofs.Common.{length}
use Rattle.declaration_parser.proofs.values.+within.Given as goal

-- a value in parentheses has fewer tokens
abbrev pub decreases-within : goal.decreases-within
decreases-within l = length l.tokens.now
