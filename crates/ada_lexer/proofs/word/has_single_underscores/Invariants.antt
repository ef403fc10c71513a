-- The bytes so far are well formed, and the rest decides.
use Rattle.std.proofs.Common.{◌≡◌, false, drop}
use Rattle.ada_lexer.specs.Word.{has_single_underscores}
use Rattle.ada_lexer.proofs.word.has_single_underscores.Given as goal

abbrev pub invariant-loop-byte : goal.invariant-loop-byte
invariant-loop-byte l = has_single_underscores l.behind (drop l.byte-index l.word) ≡ has_single_underscores false l.word
